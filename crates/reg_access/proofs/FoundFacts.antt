-- What was found is what the rows tell.
use Rattle.reg_access.proofs.Words.{◌≡◌, ℕ, pos, [], ◌∷◌, Bool, true, false, not, ◌||◌, cond, is_some, Option, Some, None, refl, sym, ap}
use Rattle.reg_access.proofs.Words.{◌∙◌, is_null, Trees, Int, Null, canon, Action, crate_of, Read, Index, Download, ListOwners, Publish}
use Rattle.reg_access.proofs.Words.{Yank, Unyank, AddOwners, RemoveOwners, lists, decision_of, sql_bool, number_columns, shown_of, TokenRow}
use Rattle.reg_access.proofs.Words.{columns_with_account, tokens_with_accounts, CrateRow, CrateFacts, AreFound, facts_found, number_or_null}
use Rattle.reg_access.proofs.Words.{rows_of, crates_seen_by, is_mark_set, is_shown, is_there, last_rows, named_rows, names_version}
use Rattle.reg_access.proofs.Words.{publishes, scopes_over, text_in, value_at, versions_with_text, facts_in, is_always_reserved, is_seen}
use Rattle.reg_access.proofs.Words.{join_rows, needs_scope}
use Rattle.reg_model.specs.Registry.{Text}
use Rattle.reg_model.specs.Rules.{access}
use Rattle.reg_model.specs.declared.rule.Rule.TheVariants as rule
use Rattle.reg_policy.specs.declared.action.Decision.{Decision}
use Rattle.reg_access.specs.Found.{is_owned, is_visible, scopes_asked, spelling_in}
use Rattle.reg_access.specs.JoinRows.{against_rows}
use Rattle.reg_access.specs.Verdict.{IsVerdict, endpoints_in}
use Rattle.reg_access.proofs.Answered.{none_there}
use Rattle.reg_access.proofs.JoinLaw.{Agree, same_verdict, unknown_first}
use Rattle.reg_access.proofs.VersionLaw.{no_version_of_null}

pub set_is : (b : Bool) → is_mark_set (sql_bool b) ≡ b
set_is true = refl
set_is false = refl

shown_there : (o : Option ℕ) → is_there (shown_of number_columns o) ≡ is_some o
shown_there None = refl
shown_there (Some n) = refl

shown_is : (w : Option ℕ) → not (is_null (number_or_null w)) ≡ is_some w
shown_is None = refl
shown_is (Some n) = refl

spelled_is : (o : Option CrateRow) → text_in (value_at (rows_of o) 1) ≡ spelling_in o
spelled_is None = refl
spelled_is (Some r) = refl

owned_is : (o : Option CrateRow) → is_shown (rows_of o) 2 ≡ is_owned o
owned_is None = refl
owned_is (Some r) = shown_is r.owner

visible_is : (o : Option CrateRow) → is_seen (rows_of o) ≡ is_visible o
visible_is None = refl
visible_is (Some r) = λ i. not (shown_is r.restricted i) || (shown_is r.owner i || shown_is r.reader i)

-- there is no version of a crate that is not there
none_of_null : (text : Text) (db : Trees) → versions_with_text Null text db ≡ []
none_of_null text db = none_there (versions_with_text Null text db) (no_version_of_null text db)

pub no_version : (o : Option CrateRow) (text : Text) (db : Trees) → o ≡ None → versions_with_text (value_at (rows_of o) 0) text db ≡ []
no_version None text db h = none_of_null text db
no_version (Some r) text db h = absurd cc

-- where the action names no crate, nothing is found
none_named : (a : Action) → crate_of a ≡ None → (db : Trees) → named_rows a [] db ≡ []
none_named Read h db = refl
none_named (Index path) h db = refl
none_named (Download n v) h db = none_of_null v db
none_named (ListOwners n) h db = refl
none_named (Publish n v) h db = refl
none_named (Yank n v) h db = none_of_null v db
none_named (Unyank n v) h db = none_of_null v db
none_named (AddOwners n logins) h db = refl
none_named (RemoveOwners n logins) h db = refl

none_against : (a : Action) → crate_of a ≡ None → (db : Trees) → is_there (against_rows a [] db) ≡ false
none_against Read h db = refl
none_against (Index path) h db = refl
none_against (Download n v) h db = refl
none_against (ListOwners n) h db = refl
none_against (Publish n v) h db = absurd cc
none_against (Yank n v) h db = refl
none_against (Unyank n v) h db = refl
none_against (AddOwners n logins) h db = refl
none_against (RemoveOwners n logins) h db = refl

none_asked : (b : Bool) → is_there (cond b [] []) ≡ false
none_asked true = refl
none_asked false = refl

pub none_found : (a : Action) (token account : ℕ) (db : Trees) → crate_of a ≡ None → AreFound a token account db (record { covered = false; row = None; version = None; against = false })
none_found a token account db h = record {
  covered = ap (λ o. is_there (cond (needs_scope a) (lists (λ n. scopes_over (Int (pos token)) (canon n) db) o) [])) h ∙ none_asked (needs_scope a);
  row = ap (lists (λ n. crates_seen_by (canon n) (Int (pos account)) db)) h;
  version = none_named a h db;
  against = none_against a h db;
}

-- a crate that is named, and what each text tells of it
pub named_found : (a : Action) (n : Text) (token account : ℕ) (db : Trees) (it : CrateFacts) → crate_of a ≡ Some n → is_there (scopes_asked a token db) ≡ it.covered → crates_seen_by (canon n) (Int (pos account)) db ≡ rows_of it.row → named_rows a (rows_of it.row) db ≡ shown_of number_columns it.version
    → is_there (against_rows a (rows_of it.row) db) ≡ it.against → AreFound a token account db it
named_found a n token account db it named covered row version against = record { covered = covered; row = ap (lists (λ n. crates_seen_by (canon n) (Int (pos account)) db)) named ∙ row; version = version; against = against }

module _ (db : Trees) (digest : Text) (a : Action) where
  pub unknown_verdict : tokens_with_accounts digest db ≡ [] → IsVerdict digest a db (decision_of (Some rule.A2))
  unknown_verdict h = ap decision_of (sym (unknown_first (facts_in (join_rows db digest a) a) a (ap is_there h)))

  module _ (t : TokenRow) (it : CrateFacts) (known : tokens_with_accounts digest db ≡ columns_with_account t ∷ []) (found : AreFound a t.id t.account db it) where
    crate_rows : (join_rows db digest a).of_crate ≡ rows_of it.row
    crate_rows = ap (λ rs. lists (λ n. crates_seen_by (canon n) (value_at rs 1) db) (crate_of a)) known ∙ found.row

    last_is : last_rows a (join_rows db digest a).of_crate db ≡ last_rows a (rows_of it.row) db
    last_is = ap (λ rs. last_rows a rs db) crate_rows

    version_is : names_version a ≡ true → is_there (join_rows db digest a).last ≡ is_some it.version
    version_is names =
        let named : last_rows a (rows_of it.row) db ≡ shown_of number_columns it.version = rw names at found.version in
        ap is_there (last_is ∙ named) ∙ shown_there it.version

    against_is : publishes a ≡ true → is_there (join_rows db digest a).last ≡ it.against
    against_is new =
        let against : is_there (last_rows a (rows_of it.row) db) ≡ it.against = rw new at found.against in
        ap is_there last_is ∙ against

    endpoints_are : endpoints_in (tokens_with_accounts digest db) ≡ t.endpoints
    endpoints_are =
        ap endpoints_in known
        ∙ (λ i. record { publish_new = set_is t.endpoints.publish_new i; publish_update = set_is t.endpoints.publish_update i; yank = set_is t.endpoints.yank i; change_owners = set_is t.endpoints.change_owners i })

    -- what the rows tell is what was found, as far as it is asked
    facts_agree : Agree a (facts_in (join_rows db digest a) a) (facts_found a t it)
    facts_agree = record {
      known = ap is_there known;
      live = ap (λ rs. is_mark_set (value_at rs 2)) known ∙ set_is t.live;
      enabled = ap (λ rs. is_mark_set (value_at rs 8)) known ∙ set_is t.enabled;
      endpoints = endpoints_are;
      covered = λ needs. ap (λ rs. is_there (cond (needs_scope a) (lists (λ n. scopes_over (value_at rs 0) (canon n) db) (crate_of a)) [])) known ∙ found.covered;
      spelled = ap (λ rs. text_in (value_at rs 1)) crate_rows ∙ spelled_is it.row;
      seen = ap is_seen crate_rows ∙ visible_is it.row;
      owner = ap (λ rs. is_shown rs 2) crate_rows ∙ owned_is it.row;
      version = version_is;
      release = λ new there. against_is new;
      reserved = λ new missing. ap (λ b. is_always_reserved a || b) (against_is new);
    }

    pub found_verdict : (d : Decision) → d ≡ decision_of (access (facts_found a t it) a) → IsVerdict digest a db d
    found_verdict d e = e ∙ ap decision_of (sym (same_verdict (facts_in (join_rows db digest a) a) (facts_found a t it) a facts_agree))
