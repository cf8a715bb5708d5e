-- The facts that rows of a registry state are its facts.
use Rattle.std.proofs.Common.{◌≡◌, ℕ, List, [], Bool, false, Option, Some, None, length, refl, sym, ◌∙◌, ap}
use Rattle.std.specs.Prelude.{◌==◌, ◌&&◌, ◌||◌, not, is_some, map}
use Rattle.std.specs.List.{list_any, list_all}
use Rattle.std.specs.Option.{option_map}
use Rattle.std.specs.Str.{bytes_eq}
use Rattle.std.proofs.lemmas.List.{length-map}
use Rattle.reg_body.specs.declared.limits.Limits.{Limits}
use Rattle.reg_names.specs.Patterns.{covers}
use Rattle.reg_model.specs.Registry as model
use Rattle.reg_model.specs.Registry.{Text, Account, Token, Publication, holds, is_known, token_of}
use Rattle.reg_model.specs.Crates.{collides, is_among, is_restricted, owners, readers, same_release, versions, viewer, visible}
use Rattle.reg_model.specs.Facts as model_facts
use Rattle.reg_model.specs.Facts.{access_facts, counts, has_login, is_named, lists, spelling}
use Rattle.reg_model.specs.Refusals.{judged}
use Rattle.reg_model.specs.Rules.{verdict}
use Rattle.reg_model.proofs.Lists.{is_some_find, list_any_map}
use Rattle.std.specs.Borrow.{Bor}
use Rattle.reg_model.specs.Actions as actions
use Rattle.reg_model.specs.Actions.{crate_of, logins_of, version_of}
use Rattle.reg_policy.specs.declared.action.Rows.{Rows}
use Rattle.reg_policy.specs.Rows.{IsRowsOf, id_and_login, patterns_held, row_of, row_view}
use Rattle.reg_policy.specs.Views.{access_of, counts_of, endpoints_of, is_admitted}
use Rattle.reg_policy.proofs.Lists.{list_all_map, list_all_same}

is_some_mapped : {X Y : Type 0} (f : X → Y) (o : Option X) → is_some (option_map f o) ≡ is_some o
is_some_mapped f None = refl
is_some_mapped f (Some x) = refl

holds_mapped : {X Y : Type 0} (p : Y → Bool) (f : X → Y) (o : Option X) → holds p (option_map f o) ≡ holds (λ x. p (f x)) o
holds_mapped p f None = refl
holds_mapped p f (Some x) = refl

endpoints_mapped : (o : Option Token) → endpoints_of (option_map row_of o) ≡ model_facts.endpoints_of o
endpoints_mapped None = refl
endpoints_mapped (Some t) = refl

no_cover : (c : Option Text) → holds (λ n. list_any (λ p. covers p n) []) c ≡ false
no_cover None = refl
no_cover (Some n) = refl

covered : (c : Option Text) (o : Option Token) → holds (λ n. list_any (λ p. covers p n) (patterns_held o)) c ≡ holds (λ t. holds (λ n. list_any (λ p. covers p n) t.patterns) c) o
covered c None = no_cover c
covered c (Some t) = refl

holds_same : {X : Type 0} (p q : X → Bool) → ((x : X) → p x ≡ q x) → (o : Option X) → holds p o ≡ holds q o
holds_same p q same None = refl
holds_same p q same (Some x) = same x

-- a test that looks at the mapped alone, over two lists that are mapped to one
any_through : {X Y Z : Type 0} (p : Z → Bool) (f : X → Z) (g : Y → Z) (xs : List X) (ys : List Y) → map f xs ≡ map g ys → list_any (λ x. p (f x)) xs ≡ list_any (λ y. p (g y)) ys
any_through p f g xs ys e = sym (list_any_map p f xs) ∙ ap (list_any p) e ∙ list_any_map p g ys

all_through : {X Y Z : Type 0} (p : Z → Bool) (f : X → Z) (g : Y → Z) (xs : List X) (ys : List Y) → map f xs ≡ map g ys → list_all (λ x. p (f x)) xs ≡ list_all (λ y. p (g y)) ys
all_through p f g xs ys e = sym (list_all_map p f xs) ∙ ap (list_all p) e ∙ list_all_map p g ys

-- the crate is seen as the registry says, where it is there and restricted as that says
seen : (s : model.Registry) (digest : Text) (c : Option Text) (first : Option (Bor Text)) (restricted admitted : Bool) → option_map (λ n. n.now) first ≡ spelling s c → restricted ≡ holds (is_restricted s) c → admitted ≡ holds (λ id. is_among (lists (owners s) c) id || is_among (lists (readers s) c) id) (viewer s digest) → (is_some first && (not restricted || admitted)) ≡ holds (visible s digest) c
seen s digest None first restricted admitted e f g = ap (λ b. b && (not restricted || admitted)) (sym (is_some_mapped (λ n. n.now) first) ∙ ap is_some e)
seen s digest (Some n) first restricted admitted e f g =
    let there = sym (is_some_mapped (λ n. n.now) first) ∙ ap is_some e ∙ is_some_find (λ p. p.name) (λ p. collides p.name n) s.publications in
    λ i. there i && (not (f i) || g i)

module _ (limits : Limits) (s : model.Registry) (digest : Text) (a : actions.Action) (r : Rows) (h : IsRowsOf limits s digest a r) where
  abbrev os : List (ℕ × Account)
  os = lists (owners s) (crate_of a)

  abbrev ps : List Publication
  ps = lists (versions s) (crate_of a)

  owner : (k : ℕ) → list_any (λ o. o.id == k) r.owners.now ≡ list_any (λ o. o.0 == k) os
  owner k = any_through (λ z. z.0 == k) row_view id_and_login r.owners.now os h.owners

  owner_login : (l : Text) → list_any (λ o. bytes_eq o.login.now l) r.owners.now ≡ has_login os l
  owner_login l = any_through (λ z. bytes_eq z.1 l) row_view id_and_login r.owners.now os h.owners

  reader : (k : ℕ) → list_any (λ id. id == k) r.readers.now ≡ is_among (lists (readers s) (crate_of a)) k
  reader k = ap (list_any (λ id. id == k)) h.readers ∙ list_any_map (λ id. id == k) (λ o. o.0) (lists (readers s) (crate_of a))

  -- a token is admitted by its account, as an owner or a reader of the crate
  admits : is_admitted r ≡ holds (λ id. is_among os id || is_among (lists (readers s) (crate_of a)) id) (viewer s digest)
  admits =
      ap (holds (λ t. list_any (λ o. o.id == t.account) r.owners.now || list_any (λ id. id == t.account) r.readers.now)) h.token
      ∙ holds_mapped _ row_of (token_of s digest)
      ∙ holds_same _ _ (λ t i. owner t.account i || reader t.account i) (token_of s digest)
      ∙ sym (holds_mapped _ (λ t. t.account) (token_of s digest))

  pub access_of_rows : access_of r a ≡ access_facts s digest a
  unfolding access_facts
  access_of_rows =
      let is_known' = ap is_some h.token ∙ is_some_mapped row_of (token_of s digest) in
      let is_live' = ap (holds (λ t. t.live)) h.token ∙ holds_mapped (λ t. t.live) row_of (token_of s digest) in
      let endpoints' = ap endpoints_of h.token ∙ endpoints_mapped (token_of s digest) in
      let is_covered' = ap (λ ps. holds (λ n. list_any (λ p. covers p n) ps) (crate_of a)) h.patterns ∙ covered (crate_of a) (token_of s digest) in
      let is_visible' = seen s digest (crate_of a) r.first r.restricted (is_admitted r) h.first h.restricted admits in
      let is_owner' =
      ap (holds (λ t. list_any (λ o. o.id == t.account) r.owners.now)) h.token
      ∙ holds_mapped (λ t. list_any (λ o. o.id == t.account) r.owners.now) row_of (token_of s digest)
      ∙ holds_same (λ t. list_any (λ o. o.id == t.account) r.owners.now) (λ t. is_among os t.account) (λ t. owner t.account) (token_of s digest) in
      let has_version' = any_through (λ v. bytes_eq v (version_of a)) (λ v. v.now) (λ p. p.version) r.versions.now ps h.versions in
      let has_release' = any_through (λ v. same_release v (version_of a)) (λ v. v.now) (λ p. p.version) r.versions.now ps h.versions in
      λ i. record {
        is_known = is_known' i;
        is_live = is_live' i;
        is_enabled = h.enabled i;
        endpoints = endpoints' i;
        is_covered = is_covered' i;
        first = h.first i;
        is_visible = is_visible' i;
        is_owner = is_owner' i;
        is_reserved = h.reserved i;
        has_version = has_version' i;
        has_release = has_release' i;
      }

  pub counts_of_rows : counts_of r a ≡ counts s a
  unfolding counts
  counts_of_rows =
      let versions' = sym (length-map r.versions.now (λ v. v.now)) ∙ ap length h.versions ∙ length-map ps (λ p. p.version) in
      let are_known' = ap (list_all (λ b. b)) h.known ∙ list_all_map (λ b. b) (is_known s) (logins_of a) in
      let are_owners' = list_all_same (λ l. list_any (λ o. bytes_eq o.login.now l) r.owners.now) (has_login os) owner_login (logins_of a) in
      let are_all_owners' = all_through (λ z. is_named (logins_of a) z.1) row_view id_and_login r.owners.now os h.owners in
      λ i. record {
        versions = versions' i;
        crates = h.crates i;
        are_known = are_known' i;
        are_owners = are_owners' i;
        are_all_owners = are_all_owners' i;
      }

  pub judged_by_rows : verdict r.limits.now (access_of r a) (counts_of r a) a ≡ judged limits s digest a
  judged_by_rows = λ i. verdict (h.bounds i) (access_of_rows i) (counts_of_rows i) a
