-- What the rules say of a request that they let pass.
use Rattle.reg_reference.proofs.Words.{◌≡◌, List, [], ◌∷◌, Bool, true, false, cond, Option, Some, None, refl, ◌||◌, ◌&&◌, is_some, not}
use Rattle.reg_reference.proofs.Words.{find, bytes_eq, is_name, Limits, Rule, Text, Registry, holds, versions, lists, spelling, judged}
use Rattle.std.specs.List.{list_any}
use Rattle.reg_names.specs.Names.{name_at, name_of, path_of}
use Rattle.reg_model.specs.Crates.{version, visible}
use Rattle.reg_model.specs.Actions.{Action}
use Rattle.reg_model.specs.Actions.Action.{Index, Download, ListOwners, Yank, Unyank, AddOwners, RemoveOwners}
use Rattle.reg_model.specs.Facts.{Access, Counts, access_facts, counts}
use Rattle.reg_model.specs.Rules.{verdict, broken, order}

-- no rule of the list is broken
abbrev Clear : (Rule → Bool) → List Rule → Type 0
Clear p [] = Unit {0}
Clear p (r ∷ rs) = (p r ≡ false) × Clear p rs

clear : (p : Rule → Bool) (rs : List Rule) → find p rs ≡ None → Clear p rs
clear p [] e = tt
clear p (r ∷ rs) e = elim (p r) as (λ b. cond b (Some r) (find p rs) ≡ None → (b ≡ false) × Clear p rs) [ true ↦ λ f. cc | false ↦ λ f. (refl, clear p rs f) ] e

passed : (limits : Limits) (f : Access) (c : Counts) (a : Action) → verdict limits f c a ≡ None → Clear (broken limits f c a) (order f.first a)
unfolding verdict
passed limits f c a e = clear (broken limits f c a) (order f.first a) e

-- where a crate is seen, one is named
named : (p : Text → Bool) (o : Option Text) → not (holds p o) ≡ false → is_some o ≡ true
named p None e = cc
named p (Some n) e = refl

named_by_path : (p : Text → Bool) (b : Bool) (o : Option Text) → not (holds p o && b) ≡ false → is_some o ≡ true
named_by_path p b None e = cc
named_by_path p b (Some n) e = refl

found : {X : Type 0} (p : X → Bool) (xs : List X) → not (list_any p xs) ≡ false → is_some (find p xs) ≡ true
found p [] e = cc
found p (x ∷ xs) e = elim (p x) as (λ b. not (b || list_any p xs) ≡ false → is_some (cond b (Some x) (find p xs)) ≡ true) [ true ↦ λ f. refl | false ↦ λ f. found p xs f ] e

there : (s : Registry) (n v : Text) (b : Bool) → not (list_any (λ p. bytes_eq p.version v) (lists (versions s) (cond b (Some n) None))) ≡ false → is_some (version s n v) ≡ true
there s n v true e = found (λ p. bytes_eq p.version v) (versions s n) e
there s n v false e = cc

module _ (limits : Limits) (s : Registry) (d : Text) where
  clear_of : (a : Action) → judged limits s d a ≡ None → Clear (broken limits (access_facts s d a) (counts s a) a) (order (access_facts s d a).first a)
  clear_of a e = passed limits (access_facts s d a) (counts s a) a e

  pub index_named : (path : Text) → judged limits s d (Index path) ≡ None → is_some (name_at path) ≡ true
  unfolding access_facts
  index_named path e = named_by_path (visible s d) (holds (λ n. bytes_eq (path_of n) path) (spelling s (name_at path))) (name_at path) (clear_of (Index path) e).1.1.1.0

  pub download_named : (n v : Text) → judged limits s d (Download n v) ≡ None → is_some (name_of n) ≡ true
  unfolding access_facts
  download_named n v e = named (visible s d) (name_of n) (clear_of (Download n v) e).1.1.1.0

  pub download_there : (n v : Text) → judged limits s d (Download n v) ≡ None → is_some (version s n v) ≡ true
  unfolding access_facts
  download_there n v e = there s n v (is_name n) (clear_of (Download n v) e).1.1.1.1.0

  pub list_named : (n : Text) → judged limits s d (ListOwners n) ≡ None → is_some (name_of n) ≡ true
  unfolding access_facts
  list_named n e = named (visible s d) (name_of n) (clear_of (ListOwners n) e).1.1.1.0

  pub yank_named : (n v : Text) → judged limits s d (Yank n v) ≡ None → is_some (name_of n) ≡ true
  unfolding access_facts
  yank_named n v e = named (visible s d) (name_of n) (clear_of (Yank n v) e).1.1.1.1.0

  pub unyank_named : (n v : Text) → judged limits s d (Unyank n v) ≡ None → is_some (name_of n) ≡ true
  unfolding access_facts
  unyank_named n v e = named (visible s d) (name_of n) (clear_of (Unyank n v) e).1.1.1.1.0

  pub add_named : (n : Text) (logins : List Text) → judged limits s d (AddOwners n logins) ≡ None → is_some (name_of n) ≡ true
  unfolding access_facts
  add_named n logins e = named (visible s d) (name_of n) (clear_of (AddOwners n logins) e).1.1.1.1.0

  pub remove_named : (n : Text) (logins : List Text) → judged limits s d (RemoveOwners n logins) ≡ None → is_some (name_of n) ≡ true
  unfolding access_facts
  remove_named n logins e = named (visible s d) (name_of n) (clear_of (RemoveOwners n logins) e).1.1.1.1.0
