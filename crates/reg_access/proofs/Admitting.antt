-- What is handed on of a request that is let pass: the token and its account, the crate and the version that the action names.
use Rattle.reg_access.proofs.Words.{◌≡◌, ◌⊎◌, inl, inr, ℕ, pos, List, [], ◌∷◌, Bool, true, false, cond, Option, Some, None, is_some, refl}
use Rattle.reg_access.proofs.Words.{sym, ap, subst, ◌∙◌, and_parts, filter, find, option_map, decimal, string_bytes, Trees, Value, Int}
use Rattle.reg_access.proofs.Words.{canon, Action, crate_of, Read, Index, Download, ListOwners, Publish, Yank, Unyank, AddOwners}
use Rattle.reg_access.proofs.Words.{RemoveOwners, first, Access, lists, Registry, holds, true_not_false, decision_of, StandsSoundBy, IdAssignment}
use Rattle.reg_access.proofs.Words.{StoredCrate, spelled_at, TokenRow, columns_with_account, tokens_with_accounts, IsIdOf, version_named}
use Rattle.reg_access.proofs.Words.{CrateFacts, CrateRow, AreFound, facts_found, rows_of, crates_seen_by, is_there, names_version, text_in}
use Rattle.reg_access.proofs.Words.{value_at, TellsCrate}
use Rattle.reg_model.specs.Registry.{Text}
use Rattle.reg_model.specs.Rules.{access, breaks, is_access_rule, order}
use Rattle.reg_model.specs.declared.rule.Rule.{Rule}
use Rattle.reg_model.proofs.Cleared.{Clear}
use Rattle.reg_model.proofs.IndexPaths.{not_false}
use Rattle.reg_policy.specs.declared.action.Decision.TheVariants as decision
use Rattle.reg_tables_represent.specs.Stands.{spelling_at}
use Rattle.reg_access.specs.Admitted.{IsAdmission, IsAdmitted, IsPrincipalIn, IsPrincipalOf, IsFoundOf, OfPrincipal, ShowsPrincipal, TellsPrincipal, decision_in, needs_crate, shown_crate}
use Rattle.reg_access.specs.declared.admission.Admission.{Admission}
use Rattle.reg_access.specs.declared.admission.Admission.TheVariants.{Allowed, Denied}
use Rattle.reg_access.specs.declared.admission.Principal.{Principal}
use Rattle.reg_access.specs.declared.admission.FoundCrate.{FoundCrate}
use Rattle.reg_access.proofs.CrateLaw.{IsFound, IsMissing, found_or_missing, id_shown, no_rows, tells_crate}
use Rattle.reg_access.proofs.FoundFacts.{found_verdict}
use Rattle.reg_access.proofs.GrantLaw.{first_canon}
use Rattle.reg_access.proofs.Askers.{asker_is, viewer_is}
use Rattle.reg_access.proofs.VersionIds.{id_named}

-- where no rule is broken, the crate that an action needs is seen
clear : (p : Rule → Bool) (rs : List Rule) → find p rs ≡ None → Clear p rs
clear p [] e = tt
clear p (r ∷ rs) e = elim (p r) as (λ b. cond b (Some r) (find p rs) ≡ None → (b ≡ false) × Clear p rs) [ true ↦ λ f. cc | false ↦ λ f. (refl, clear p rs f) ] e

passed : (f : Access) (a : Action) → access f a ≡ None → Clear (breaks f a) (filter is_access_rule (order f.first a))
unfolding access
passed f a e = clear (breaks f a) (filter is_access_rule (order f.first a)) e

is_seen : (f : Access) (a : Action) → needs_crate a ≡ true → access f a ≡ None → f.is_visible ≡ true
is_seen f Read h e = absurd cc
is_seen f (Index path) h e = (and_parts _ _ (not_false _ (passed f (Index path) e).1.1.1.0)).0
is_seen f (Download n v) h e = not_false _ (passed f (Download n v) e).1.1.1.0
is_seen f (ListOwners n) h e = not_false _ (passed f (ListOwners n) e).1.1.1.0
is_seen f (Publish n v) h e = absurd cc
is_seen f (Yank n v) h e = not_false _ (passed f (Yank n v) e).1.1.1.1.0
is_seen f (Unyank n v) h e = not_false _ (passed f (Unyank n v) e).1.1.1.1.0
is_seen f (AddOwners n logins) h e = not_false _ (passed f (AddOwners n logins) e).1.1.1.1.0
is_seen f (RemoveOwners n logins) h e = not_false _ (passed f (RemoveOwners n logins) e).1.1.1.1.0

-- and the version that it names is there
has_version : (f : Access) (a : Action) → names_version a ≡ true → access f a ≡ None → f.has_version ≡ true
has_version f Read h e = absurd cc
has_version f (Index path) h e = absurd cc
has_version f (Download n v) h e = not_false _ (passed f (Download n v) e).1.1.1.1.0
has_version f (ListOwners n) h e = absurd cc
has_version f (Publish n v) h e = absurd cc
has_version f (Yank n v) h e = not_false _ (passed f (Yank n v) e).1.1.1.1.1.1.1.0
has_version f (Unyank n v) h e = not_false _ (passed f (Unyank n v) e).1.1.1.1.1.1.1.0
has_version f (AddOwners n logins) h e = absurd cc
has_version f (RemoveOwners n logins) h e = absurd cc

pub none_of : (o : Option Rule) → decision.Allowed ≡ decision_of o → o ≡ None
none_of None e = refl
none_of (Some r) e = absurd cc e

held : (p : CrateRow → Bool) (row : Option CrateRow) → holds p row ≡ true → is_some (option_map shown_crate row) ≡ true
held p None e = absurd cc
held p (Some r) e = refl

pub has_its_crate : (a : Action) (t : TokenRow) (it : CrateFacts) (found : Option FoundCrate) → access (facts_found a t it) a ≡ None → found ≡ option_map shown_crate it.row → needs_crate a ≡ true → is_some found ≡ true
has_its_crate a t it found passes is needs = ap is_some is ∙ held _ it.row (is_seen (facts_found a t it) a needs passes)

pub has_its_version : (a : Action) (t : TokenRow) (it : CrateFacts) → access (facts_found a t it) a ≡ None → names_version a ≡ true → is_some it.version ≡ true
has_its_version a t it passes names = has_version (facts_found a t it) a names passes

-- what is made of what was found is what the rows show
pub admission_made : (digest : Text) (a : Action) (db : Trees) (t : TokenRow) (it : CrateFacts) (m : Admission) → tokens_with_accounts digest db ≡ columns_with_account t ∷ [] → AreFound a t.id t.account db it → IsAdmitted a t it m → IsAdmission digest a db m
admission_made digest a db t it m known are made = record { decided = found_verdict db digest a t it known are (decision_in m) made.decided; shown = by m made.handed }
  where
    by : (m : Admission) → OfPrincipal m (IsPrincipalIn t it) → OfPrincipal m (ShowsPrincipal digest a db)
    by (Denied r) handed = tt
    by (Allowed c) handed = record { token = t; it = it; known = known; are = are; handed = handed }

same_number : {a b : ℕ} → ◌≡◌ {A = Value} (Int (pos a)) (Int (pos b)) → a ≡ b
same_number e = cc

-- who asks, by the token and the login that are handed on
named_by : (c : Principal) (t : TokenRow) → t.id ≡ c.token → t.login ≡ c.login → ◌≡◌ {A = List Text} (decimal t.id ∷ string_bytes t.login ∷ []) (decimal c.token ∷ string_bytes c.login ∷ [])
named_by c t id login = λ i. decimal (id i) ∷ string_bytes (login i) ∷ []

-- and where these stand for a registry
module _ (ids : IdAssignment) (s : Registry) (db : Trees) (h : StandsSoundBy ids s db) where
  module _ (n : Text) (account : ℕ) where
    told : TellsCrate s n account (crates_seen_by (canon n) (Int (pos account)) db)
    told = tells_crate ids s db h.sound h.stands n account

    module _ (r : CrateRow) (e : crates_seen_by (canon n) (Int (pos account)) db ≡ rows_of (Some r)) where
      spelled : first s n ≡ Some r.name
      spelled = sym told.spelled ∙ ap (λ rs. text_in (value_at rs 1)) e

      placed : spelling_at ids r.id ≡ Some r.name
      placed = either (found_or_missing ids s db h.stands n)
        where
          either : IsMissing ids s db h.stands n ⊎ ((x : StoredCrate) × IsFound ids s db h.stands n x) → spelling_at ids r.id ≡ Some r.name
          either (inl none) = absurd (true_not_false true refl (sym (ap is_there e) ∙ ap is_there (no_rows ids s db h.stands n (Int (pos account)) none)))
          either (inr (x, it)) =
              ap (spelling_at ids) (same_number (sym (ap (λ rs. value_at rs 0) e) ∙ id_shown ids s db h.stands n (Int (pos account)) x it))
              ∙ spelled_at ids s.publications s.yanked db h.stands.crates x.0 x.1 it.stored ∙ sym it.spelled ∙ spelled

    crate_is : (row : Option CrateRow) → crates_seen_by (canon n) (Int (pos account)) db ≡ rows_of row → IsFoundOf ids s (Some n) (option_map shown_crate row)
    crate_is None e = sym told.spelled ∙ ap (λ rs. text_in (value_at rs 1)) e
    crate_is (Some r) e = record { first = spelled r e; placed = placed r e; alike = ap Some (sym (first_canon s n r.name (spelled r e))) }

  found_is : (o : Option Text) (account : ℕ) (row : Option CrateRow) → lists (λ n. crates_seen_by (canon n) (Int (pos account)) db) o ≡ rows_of row → IsFoundOf ids s o (option_map shown_crate row)
  found_is None account None e = refl
  found_is None account (Some r) e = absurd cc
  found_is (Some n) account row e = crate_is n account row e

  principal_is : (digest : Text) (a : Action) (c : Principal) → ShowsPrincipal digest a db c → IsPrincipalOf ids s digest a c
  principal_is digest a c shows = record {
    who = asker_is ids s db h digest shows.token shows.known ∙ named_by c shows.token (sym shows.handed.token) (sym shows.handed.login);
    account = viewer_is ids s db h digest shows.token shows.known ∙ ap Some (sym shows.handed.account);
    found = subst (IsFoundOf ids s (crate_of a)) (sym shows.handed.found) (found_is (crate_of a) shows.token.account shows.it.row shows.are.row);
    version =
        subst (IsIdOf ids (version_named s a)) (sym shows.handed.version)
        (id_named ids s db h.stands a (Int (pos shows.token.account)) (rows_of shows.it.row) shows.it.version shows.are.row shows.are.version);
  }

pub principal_told : (digest : Text) (a : Action) (db : Trees) (m : Admission) → IsAdmission digest a db m → TellsPrincipal digest a db m
principal_told digest a db (Denied r) shows = tt
principal_told digest a db (Allowed c) shows = λ ids s h. principal_is ids s db h digest a c shows.shown
