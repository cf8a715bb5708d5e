-- What two registries that have one sight for a token say of it, and of each crate.
use Rattle.reg_model.proofs.Words.{◌≡◌, ℕ, List, [], ◌∷◌, Bool, true, false, cond, Option, Some, None, refl, sym, ◌∙◌, ap, ◌&&◌, is_some}
use Rattle.reg_model.proofs.Words.{unwrap_or, slice_get, list_any, list_all, find, filter, option_map, bytes_eq, covers, file_text, Text}
use Rattle.reg_model.proofs.Words.{Token, Publication, Registry, holds, is_enabled, token_of, collides, file, first, is_among, is_yanked}
use Rattle.reg_model.proofs.Words.{owners, versions, visible, endpoints_of, has_login, is_named, hit, HaveOneSight}
use Rattle.std.specs.Prelude.{◌==◌, map}
use Rattle.std.specs.Option.{option_and_then}
use Rattle.reg_versions.specs.Precedence.{top_place}
use Rattle.reg_names.specs.declared.endpoint.Endpoints.{Endpoints}
use Rattle.reg_model.specs.Effects.{owner_entry}
use Rattle.reg_model.specs.Facts.{no_endpoints}
use Rattle.reg_versions.specs.Versions.{parts_of}
use Rattle.reg_model.specs.Search.{top}
use Rattle.reg_model.specs.Sight.{CrateSight, TokenSight}
use Rattle.reg_model.proofs.Lists.{list_any_map}

-- what holds of a part of what there is
holds_map : {X Y : Type 0} (p : Y → Bool) (f : X → Y) (o : Option X) → holds p (option_map f o) ≡ holds (λ x. p (f x)) o
holds_map p f None = refl
holds_map p f (Some x) = refl

some_map : {X Y : Type 0} (f : X → Y) (o : Option X) → is_some (option_map f o) ≡ is_some o
some_map f None = refl
some_map f (Some x) = refl

map_twice : {X Y Z : Type 0} (g : Y → Z) (f : X → Y) (o : Option X) → option_map g (option_map f o) ≡ option_map (λ x. g (f x)) o
map_twice g f None = refl
map_twice g f (Some x) = refl

all_map : {X Y : Type 0} (p : Y → Bool) (f : X → Y) (xs : List X) → list_all p (map f xs) ≡ list_all (λ x. p (f x)) xs
all_map p f [] = refl
all_map p f (x ∷ xs) = ap (λ b. p (f x) && b) (all_map p f xs)

abbrev endpoints_seen : Option TokenSight → Endpoints
endpoints_seen None = no_endpoints
endpoints_seen (Some v) = v.endpoints

abbrev token_view : Registry → Token → TokenSight
token_view s t = record {
  live = t.live;
  account = t.account;
  enabled = is_enabled s t.account;
  endpoints = t.endpoints;
  patterns = t.patterns;
}

seen_endpoints : (s : Registry) (o : Option Token) → endpoints_seen (option_map (token_view s) o) ≡ endpoints_of o
seen_endpoints s None = refl
seen_endpoints s (Some t) = refl

module _ (s t : Registry) (digest : Text) (one : HaveOneSight s t digest) where
  -- of the token
  holds_alike : (p : TokenSight → Bool) → holds (λ u. p (token_view s u)) (token_of s digest) ≡ holds (λ u. p (token_view t u)) (token_of t digest)
  holds_alike p = sym (holds_map p (token_view s) (token_of s digest)) ∙ ap (holds p) one.token ∙ holds_map p (token_view t) (token_of t digest)

  pub known_alike : is_some (token_of s digest) ≡ is_some (token_of t digest)
  known_alike = sym (some_map (token_view s) (token_of s digest)) ∙ ap is_some one.token ∙ some_map (token_view t) (token_of t digest)

  pub live_alike : holds (λ u. u.live) (token_of s digest) ≡ holds (λ u. u.live) (token_of t digest)
  live_alike = holds_alike (λ v. v.live)

  pub enabled_alike : holds (λ u. is_enabled s u.account) (token_of s digest) ≡ holds (λ u. is_enabled t u.account) (token_of t digest)
  enabled_alike = holds_alike (λ v. v.enabled)

  pub endpoints_alike : endpoints_of (token_of s digest) ≡ endpoints_of (token_of t digest)
  endpoints_alike = sym (seen_endpoints s (token_of s digest)) ∙ ap endpoints_seen one.token ∙ seen_endpoints t (token_of t digest)

  pub covered_alike : (o : Option Text) → holds (λ u. holds (λ n. list_any (λ p. covers p n) u.patterns) o) (token_of s digest) ≡ holds (λ u. holds (λ n. list_any (λ p. covers p n) u.patterns) o) (token_of t digest)
  covered_alike o = holds_alike (λ v. holds (λ n. list_any (λ p. covers p n) v.patterns) o)

  pub account_alike : (p : ℕ → Bool) → holds (λ u. p u.account) (token_of s digest) ≡ holds (λ u. p u.account) (token_of t digest)
  account_alike p = holds_alike (λ v. p v.account)

  -- of a crate
  shown : (b : Bool) (v : CrateSight) → is_some (cond b (Some v) None) ≡ b
  shown true v = refl
  shown false v = refl

  abbrev view_of : Registry → Text → CrateSight
  view_of r n = record {
    publications = versions r n;
    marks = map (λ p. is_yanked r n p.version) (versions r n);
    owners = map owner_entry (owners r n);
  }

  pub visible_alike : (n : Text) → visible s digest n ≡ visible t digest n
  visible_alike n = sym (shown (visible s digest n) (view_of s n)) ∙ ap is_some (one.crates n) ∙ shown (visible t digest n) (view_of t n)

  the_view : (b c : Bool) (v w : CrateSight) → b ≡ true → cond b (Some v) None ≡ cond c (Some w) None → v ≡ w
  the_view true true v w e h = cc h
  the_view true false v w e h = cc h
  the_view false c v w e h = cc e

  view_alike : (n : Text) → visible s digest n ≡ true → view_of s n ≡ view_of t n
  view_alike n seen = the_view (visible s digest n) (visible t digest n) (view_of s n) (view_of t n) seen (one.crates n)

  pub versions_alike : (n : Text) → visible s digest n ≡ true → versions s n ≡ versions t n
  versions_alike n seen = ap (λ v. v.publications) (view_alike n seen)

  pub owners_alike : (n : Text) → visible s digest n ≡ true → map owner_entry (owners s n) ≡ map owner_entry (owners t n)
  owners_alike n seen = ap (λ v. v.owners) (view_alike n seen)

  marks_alike : (n : Text) → visible s digest n ≡ true → map (λ p. is_yanked s n p.version) (versions s n) ≡ map (λ p. is_yanked t n p.version) (versions t n)
  marks_alike n seen = ap (λ v. v.marks) (view_alike n seen)

  -- the spelling is that of the first version
  abbrev name_first : List Publication → Option Text
  name_first [] = None
  name_first (p ∷ ps) = Some p.name

  first_of : (p : Publication → Bool) (ps : List Publication) → name_first (filter p ps) ≡ option_map (λ q. q.name) (find p ps)
  first_of p [] = refl
  first_of p (q ∷ ps) = elim (p q) as (λ b. name_first (cond b (q ∷ filter p ps) (filter p ps)) ≡ option_map (λ q. q.name) (cond b (Some q) (find p ps))) [ true ↦ refl | false ↦ first_of p ps ]

  pub first_alike : (n : Text) → visible s digest n ≡ true → first s n ≡ first t n
  first_alike n seen = sym (first_of (λ p. collides p.name n) s.publications) ∙ ap name_first (versions_alike n seen) ∙ first_of (λ p. collides p.name n) t.publications

  pub owner_alike : (n : Text) (id : ℕ) → visible s digest n ≡ true → is_among (owners s n) id ≡ is_among (owners t n) id
  owner_alike n id seen = sym (list_any_map (λ e. e.id == id) owner_entry (owners s n)) ∙ ap (list_any (λ e. e.id == id)) (owners_alike n seen) ∙ list_any_map (λ e. e.id == id) owner_entry (owners t n)

  pub login_alike : (n login : Text) → visible s digest n ≡ true → has_login (owners s n) login ≡ has_login (owners t n) login
  login_alike n login seen = sym (list_any_map (λ e. bytes_eq e.login login) owner_entry (owners s n)) ∙ ap (list_any (λ e. bytes_eq e.login login)) (owners_alike n seen) ∙ list_any_map (λ e. bytes_eq e.login login) owner_entry (owners t n)

  pub all_owners_alike : (n : Text) (logins : List Text) → visible s digest n ≡ true → list_all (λ o. is_named logins o.1.login) (owners s n) ≡ list_all (λ o. is_named logins o.1.login) (owners t n)
  all_owners_alike n logins seen = sym (all_map (λ e. is_named logins e.login) owner_entry (owners s n)) ∙ ap (list_all (λ e. is_named logins e.login)) (owners_alike n seen) ∙ all_map (λ e. is_named logins e.login) owner_entry (owners t n)

  -- each publication with its mark
  paired : {X Y : Type 0} (h : X → Bool → Y) (f g : X → Bool) (xs : List X) → map f xs ≡ map g xs → map (λ x. h x (f x)) xs ≡ map (λ x. h x (g x)) xs
  paired h f g [] e = refl
  paired h f g (x ∷ xs) e = λ i. h x (head_of (e i)) ∷ paired h f g xs (ap tail_of e) i
    where
      head_of : List Bool → Bool
      head_of [] = false
      head_of (b ∷ bs) = b

      tail_of : List Bool → List Bool
      tail_of [] = []
      tail_of (b ∷ bs) = bs

  with_marks : {Y : Type 0} (h : Publication → Bool → Y) (n : Text) → visible s digest n ≡ true → map (λ p. h p (is_yanked s n p.version)) (versions s n) ≡ map (λ p. h p (is_yanked t n p.version)) (versions t n)
  with_marks h n seen =
      let marks = marks_alike n seen ∙ ap (map (λ p. is_yanked t n p.version)) (sym (versions_alike n seen)) in
      paired h (λ p. is_yanked s n p.version) (λ p. is_yanked t n p.version) (versions s n) marks ∙ ap (map (λ p. h p (is_yanked t n p.version))) (versions_alike n seen)

  pub file_alike : (n : Text) → visible s digest n ≡ true → file s n ≡ file t n
  file_alike n seen = ap file_text (with_marks (λ p b. (p.stem, b)) n seen)

  pub top_alike : (n : Text) → visible s digest n ≡ true → top s n ≡ top t n
  unfolding top
  top_alike n seen = λ i. option_and_then (slice_get (versions_alike n seen i)) (top_place (with_marks (λ p b. (parts_of p.version, b)) n seen i))

  pub hit_alike : (c : Text) → visible s digest c ≡ true → hit s c ≡ hit t c
  hit_alike c seen = λ i. record {
    name = unwrap_or (first_alike c seen i) [];
    version = unwrap_or (option_map (λ p. p.version) (top_alike c seen i)) [];
    description = unwrap_or (option_map (λ p. p.description) (top_alike c seen i)) None;
  }
