-- Where the rows stand for a registry, the verdict of the rows is the policy's.
use Rattle.reg_access.proofs.Words.{◌≡◌, ◌&&◌, ◌||◌, ℕ, pos, List, Bool, true, false, not, cond, is_some, Option, Some, None, refl, sym, ap}
use Rattle.reg_access.proofs.Words.{subst, ◌∙◌, option_map, list_any, bytes_eq, and_parts, Row, Value, Int, Trees, canon, is_name, name_of}
use Rattle.reg_access.proofs.Words.{covers, Action, crate_of, Read, Index, Download, ListOwners, Publish, Yank, Unyank, AddOwners}
use Rattle.reg_access.proofs.Words.{RemoveOwners, collides, first, is_among, is_reserved_always, owners, same_release, versions, Access}
use Rattle.reg_access.proofs.Words.{lists, holds, token_of, Sound, is_some_find, tokens_with_accounts, IdAssignment, StandsBy, crates_seen_by}
use Rattle.reg_access.proofs.Words.{is_shown, is_there, last_rows, names_version, publishes, scopes_over, text_in, value_at}
use Rattle.reg_access.proofs.Words.{versions_with_text, TellsCrate, TellsToken, facts_in, is_always_reserved, is_seen, join_rows}
use Rattle.reg_access.proofs.Words.{needs_scope}
use Rattle.reg_names.specs.Names.{is_path_of, last_part, name_at}
use Rattle.reg_model.specs.declared.rule.Rule.TheVariants as rule
use Rattle.reg_model.specs.Actions.{version_of}
use Rattle.reg_model.specs.Crates.{is_reserved, sees, visible}
use Rattle.reg_model.specs.Facts.{access_facts, spelling}
use Rattle.reg_model.specs.Registry as model
use Rattle.reg_model.specs.Rules.{access}
use Rattle.reg_access.specs.Verdict.{is_fit, verdict_in}
use Rattle.reg_access.proofs.CrateLaw.{tells_crate}
use Rattle.reg_access.proofs.ReservedLaw.{tells_reserved}
use Rattle.reg_access.proofs.ScopeLaw.{covers_alike}
use Rattle.reg_access.proofs.TokenLaw.{tells_token}
use Rattle.reg_access.proofs.VersionLaw.{no_version_of_null, tells_release, tells_version}
use Rattle.reg_access.proofs.Somes.{same_some}

-- what the rules on access read, for one action
pub record Agree (a : Action) (f g : Access) : Type 0 where
  pub known : f.is_known ≡ g.is_known
  pub live : f.is_live ≡ g.is_live
  pub enabled : f.is_enabled ≡ g.is_enabled
  pub endpoints : f.endpoints ≡ g.endpoints
  pub covered : needs_scope a ≡ true → f.is_covered ≡ g.is_covered
  pub spelled : f.first ≡ g.first
  pub seen : f.is_visible ≡ g.is_visible
  pub owner : f.is_owner ≡ g.is_owner
  pub version : names_version a ≡ true → f.has_version ≡ g.has_version
  pub release : publishes a ≡ true → is_some g.first ≡ true → f.has_release ≡ g.has_release
  pub reserved : publishes a ≡ true → is_some g.first ≡ false → f.is_reserved ≡ g.is_reserved

-- a publication of a crate that is there, and of a new name
abbrev of_known : Access → Access → Access
of_known f g = record f {
  is_known = g.is_known;
  is_live = g.is_live;
  is_enabled = g.is_enabled;
  endpoints = g.endpoints;
  is_covered = g.is_covered;
  first = g.first;
  is_owner = g.is_owner;
  has_release = g.has_release;
}

to_known : (f g : Access) (n v : List ℕ) → is_some g.first ≡ true → Agree (Publish n v) f g → f ≡ of_known f g
to_known f g n v h e = λ i. record f {
  is_known = e.known i;
  is_live = e.live i;
  is_enabled = e.enabled i;
  endpoints = e.endpoints i;
  is_covered = e.covered refl i;
  first = e.spelled i;
  is_owner = e.owner i;
  has_release = e.release refl h i;
}

from_known : (f g : Access) (n v : List ℕ) → is_some g.first ≡ true → access (of_known f g) (Publish n v) ≡ access g (Publish n v)
unfolding access
from_known f g n v h = rw h refl

abbrev of_new : Access → Access → Access
of_new f g = record f {
  is_known = g.is_known;
  is_live = g.is_live;
  is_enabled = g.is_enabled;
  endpoints = g.endpoints;
  is_covered = g.is_covered;
  first = g.first;
  is_reserved = g.is_reserved;
}

to_new : (f g : Access) (n v : List ℕ) → is_some g.first ≡ false → Agree (Publish n v) f g → f ≡ of_new f g
to_new f g n v h e = λ i. record f {
  is_known = e.known i;
  is_live = e.live i;
  is_enabled = e.enabled i;
  endpoints = e.endpoints i;
  is_covered = e.covered refl i;
  first = e.spelled i;
  is_reserved = e.reserved refl h i;
}

from_new : (f g : Access) (n v : List ℕ) → is_some g.first ≡ false → access (of_new f g) (Publish n v) ≡ access g (Publish n v)
unfolding access
from_new f g n v h = rw h refl

publish_alike : (f g : Access) (n v : List ℕ) → Agree (Publish n v) f g → access f (Publish n v) ≡ access g (Publish n v)
publish_alike f g n v e = split (is_some g.first) refl
  where
    split : (b : Bool) → is_some g.first ≡ b → access f (Publish n v) ≡ access g (Publish n v)
    split true h = ap (λ k. access k (Publish n v)) (to_known f g n v h e) ∙ from_known f g n v h
    split false h = ap (λ k. access k (Publish n v)) (to_new f g n v h e) ∙ from_new f g n v h

-- where the facts agree on all that the rules on access read for the action, the first that is broken is the same
pub same_verdict : (f g : Access) (a : Action) → Agree a f g → access f a ≡ access g a
unfolding access
same_verdict f g Read e = λ i. access (record f { is_known = e.known i; is_live = e.live i; is_enabled = e.enabled i }) Read
same_verdict f g (Index path) e = λ i. access (record f { is_known = e.known i; is_live = e.live i; is_enabled = e.enabled i; first = e.spelled i; is_visible = e.seen i }) (Index path)
same_verdict f g (Download n v) e =
    λ i. access (record f { is_known = e.known i; is_live = e.live i; is_enabled = e.enabled i; is_visible = e.seen i; has_version = e.version refl i }) (Download n v)
same_verdict f g (ListOwners n) e = λ i. access (record f { is_known = e.known i; is_live = e.live i; is_enabled = e.enabled i; is_visible = e.seen i }) (ListOwners n)
same_verdict f g (Publish n v) e = publish_alike f g n v e
same_verdict f g (Yank n v) e =
    λ i. access (record f { is_known = e.known i; is_live = e.live i; is_enabled = e.enabled i; endpoints = e.endpoints i; is_covered = e.covered refl i; is_visible = e.seen i; is_owner = e.owner i; has_version = e.version refl i }) (Yank n v)
same_verdict f g (Unyank n v) e =
    λ i. access (record f { is_known = e.known i; is_live = e.live i; is_enabled = e.enabled i; endpoints = e.endpoints i; is_covered = e.covered refl i; is_visible = e.seen i; is_owner = e.owner i; has_version = e.version refl i }) (Unyank n v)
same_verdict f g (AddOwners n logins) e =
    λ i. access (record f { is_known = e.known i; is_live = e.live i; is_enabled = e.enabled i; endpoints = e.endpoints i; is_covered = e.covered refl i; is_visible = e.seen i; is_owner = e.owner i }) (AddOwners n logins)
same_verdict f g (RemoveOwners n logins) e =
    λ i. access (record f { is_known = e.known i; is_live = e.live i; is_enabled = e.enabled i; endpoints = e.endpoints i; is_covered = e.covered refl i; is_visible = e.seen i; is_owner = e.owner i }) (RemoveOwners n logins)

-- a token that is not known is the first thing
pub unknown_first : (f : Access) (a : Action) → f.is_known ≡ false → access f a ≡ Some rule.A2
unfolding access
unknown_first f Read h = rw h refl
unknown_first f (Index path) h = rw h refl
unknown_first f (Download n v) h = rw h refl
unknown_first f (ListOwners n) h = rw h refl
unknown_first f (Publish n v) h = split (is_some f.first) refl
  where
    split : (b : Bool) → is_some f.first ≡ b → access f (Publish n v) ≡ Some rule.A2
    split true k = rw (k, h) refl
    split false k = rw (k, h) refl
unknown_first f (Yank n v) h = rw h refl
unknown_first f (Unyank n v) h = rw h refl
unknown_first f (AddOwners n logins) h = rw h refl
unknown_first f (RemoveOwners n logins) h = rw h refl

-- what an action names is a name
named : (t n : List ℕ) → name_of t ≡ Some n → is_name n ≡ true
named t n = split (is_name t) refl
  where
    split : (b : Bool) → is_name t ≡ b → cond b (Some t) None ≡ Some n → is_name n ≡ true
    split true e h = subst (λ k. is_name k ≡ true) (same_some h) e
    split false e h = absurd cc

named_at : (path n : List ℕ) → name_at path ≡ Some n → is_name n ≡ true
named_at path n = split (is_path_of (last_part path) path) refl
  where
    split : (b : Bool) → is_path_of (last_part path) path ≡ b → cond b (Some (last_part path)) None ≡ Some n → is_name n ≡ true
    split true e h = subst (λ k. is_name k ≡ true) (same_some h) (and_parts _ _ (and_parts _ _ e).0).0
    split false e h = absurd cc

names_crate : (a : Action) → is_fit a ≡ true → (n : List ℕ) → crate_of a ≡ Some n → is_name n ≡ true
names_crate Read p n h = absurd cc
names_crate (Index path) p n h = named_at path n h
names_crate (Download t v) p n h = named t n h
names_crate (ListOwners t) p n h = named t n h
names_crate (Publish t v) p n h = subst (λ k. is_name k ≡ true) (same_some h) p
names_crate (Yank t v) p n h = named t n h
names_crate (Unyank t v) p n h = named t n h
names_crate (AddOwners t logins) p n h = named t n h
names_crate (RemoveOwners t logins) p n h = named t n h

module _ (ids : IdAssignment) (s : model.Registry) (db : Trees) (sound : Sound s) (stands : StandsBy ids s db) (digest : List ℕ) (t : model.Token) (known : token_of s digest ≡ Some t) where
  tells : TellsToken s digest (tokens_with_accounts digest db)
  tells = tells_token digest ids s db sound stands

  abbrev id : Value
  id = value_at (tokens_with_accounts digest db) 0

  abbrev account : Value
  account = value_at (tokens_with_accounts digest db) 1

  at_account : account ≡ Int (pos t.account)
  at_account = (tells.ids t known).3

  abbrev crate_rows : Option (List ℕ) → List Row
  crate_rows o = lists (λ n. crates_seen_by (canon n) account db) o

  told : (n : List ℕ) → TellsCrate s n t.account (crates_seen_by (canon n) account db)
  told n = subst (λ v. TellsCrate s n t.account (crates_seen_by (canon n) v db)) (sym at_account) (tells_crate ids s db sound stands n t.account)

  covered : (o : Option (List ℕ)) → ((n : List ℕ) → o ≡ Some n → is_name n ≡ true) → is_there (lists (λ n. scopes_over id (canon n) db) o) ≡ holds (λ n. list_any (λ p. covers p n) t.patterns) o
  covered None name = refl
  covered (Some n) name =
      let it = tells.ids t known in
      ap (λ v. is_there (scopes_over v (canon n) db)) it.2 ∙ covers_alike ids s db stands it.0 t it.1 sound n (name n refl)

  spelled : (o : Option (List ℕ)) → text_in (value_at (crate_rows o) 1) ≡ spelling s o
  spelled None = refl
  spelled (Some n) = (told n).spelled

  owned : (o : Option (List ℕ)) → is_shown (crate_rows o) 2 ≡ is_among (lists (owners s) o) t.account
  owned None = refl
  owned (Some n) = (told n).owned

  seen : (o : Option (List ℕ)) → is_seen (crate_rows o) ≡ holds (visible s digest) o
  seen None = refl
  seen (Some n) =
      let it = told n in
      (λ i. it.there i && (not (it.restricted i) || (it.owned i || it.read i))) ∙ ap (λ k. sees s (option_map (λ u. u.account) k) n) (sym known)

  versioned : (v : List ℕ) (o : Option (List ℕ)) → is_there (versions_with_text (value_at (crate_rows o) 0) v db) ≡ list_any (λ p. bytes_eq p.version v) (lists (versions s) o)
  versioned v None = no_version_of_null v db
  versioned v (Some n) = tells_version ids s db stands n account v

  has_last : (a : Action) → names_version a ≡ true → is_there (last_rows a (crate_rows (crate_of a)) db) ≡ list_any (λ p. bytes_eq p.version (version_of a)) (lists (versions s) (crate_of a))
  has_last Read h = absurd cc
  has_last (Index path) h = absurd cc
  has_last (Download n v) h = versioned v (name_of n)
  has_last (ListOwners n) h = absurd cc
  has_last (Publish n v) h = absurd cc
  has_last (Yank n v) h = versioned v (name_of n)
  has_last (Unyank n v) h = versioned v (name_of n)
  has_last (AddOwners n logins) h = absurd cc
  has_last (RemoveOwners n logins) h = absurd cc

  there_where : (n : List ℕ) (b : Bool) → is_some (first s n) ≡ b → is_there (crates_seen_by (canon n) account db) ≡ b
  there_where n b h = (told n).there ∙ sym (is_some_find (λ p. p.name) (λ p. collides p.name n) s.publications) ∙ h

  released : (a : Action) → publishes a ≡ true → is_some (spelling s (crate_of a)) ≡ true → is_there (last_rows a (crate_rows (crate_of a)) db) ≡ list_any (λ p. same_release p.version (version_of a)) (lists (versions s) (crate_of a))
  released Read h k = absurd cc
  released (Index path) h k = absurd cc
  released (Download n v) h k = absurd cc
  released (ListOwners n) h k = absurd cc
  released (Publish n v) h k = rw (there_where n true k) (tells_release ids s db stands n account v)
  released (Yank n v) h k = absurd cc
  released (Unyank n v) h k = absurd cc
  released (AddOwners n logins) h k = absurd cc
  released (RemoveOwners n logins) h k = absurd cc

  held_back : (a : Action) → publishes a ≡ true → is_some (spelling s (crate_of a)) ≡ false → (is_always_reserved a || is_there (last_rows a (crate_rows (crate_of a)) db)) ≡ holds (is_reserved s) (crate_of a)
  held_back Read h k = absurd cc
  held_back (Index path) h k = absurd cc
  held_back (Download n v) h k = absurd cc
  held_back (ListOwners n) h k = absurd cc
  held_back (Publish n v) h k = rw (there_where n false k) (ap (λ b. is_reserved_always (canon n) || b) (tells_reserved ids s db stands (canon n)))
  held_back (Yank n v) h k = absurd cc
  held_back (Unyank n v) h k = absurd cc
  held_back (AddOwners n logins) h k = absurd cc
  held_back (RemoveOwners n logins) h k = absurd cc

module _ (ids : IdAssignment) (s : model.Registry) (db : Trees) (sound : Sound s) (stands : StandsBy ids s db) (digest : List ℕ) (a : Action) (p : is_fit a ≡ true) where
  agree : (t : model.Token) → token_of s digest ≡ Some t → Agree a (facts_in (join_rows db digest a) a) (access_facts s digest a)
  unfolding access_facts
  agree t h =
      let told = tells_token digest ids s db sound stands in
      record {
        known = told.known;
        live = told.live;
        enabled = told.enabled;
        endpoints = told.endpoints;
        covered = λ needs. rw needs (covered ids s db sound stands digest t h (crate_of a) (names_crate a p) ∙ ap (holds (λ t. holds (λ n. list_any (λ p. covers p n) t.patterns) (crate_of a))) (sym h));
        spelled = spelled ids s db sound stands digest t h (crate_of a);
        seen = seen ids s db sound stands digest t h (crate_of a);
        owner = owned ids s db sound stands digest t h (crate_of a) ∙ ap (holds (λ t. is_among (lists (owners s) (crate_of a)) t.account)) (sym h);
        version = has_last ids s db sound stands digest t h a;
        release = released ids s db sound stands digest t h a;
        reserved = held_back ids s db sound stands digest t h a;
      }

  pub joins_decide : verdict_in (join_rows db digest a) a ≡ access (access_facts s digest a) a
  unfolding access_facts
  joins_decide = split (token_of s digest) refl
    where
      split : (o : Option model.Token) → token_of s digest ≡ o → verdict_in (join_rows db digest a) a ≡ access (access_facts s digest a) a
      split None h =
          let told = tells_token digest ids s db sound stands in
          unknown_first (facts_in (join_rows db digest a) a) a (told.known ∙ ap is_some h) ∙ sym (unknown_first (access_facts s digest a) a (ap is_some h))
      split (Some t) h = same_verdict (facts_in (join_rows db digest a) a) (access_facts s digest a) a (agree t h)
