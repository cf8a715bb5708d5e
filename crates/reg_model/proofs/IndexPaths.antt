-- Which index paths are those of crates that are there.
use Rattle.reg_model.proofs.Words.{◌≡◌, List, [], ◌∷◌, ◌++◌, Bool, true, false, cond, Option, Some, None, refl, sym, ◌∙◌, ap, not, ◌&&◌}
use Rattle.reg_model.proofs.Words.{find, AllByRecursion, option_map, bytes_eq, and_parts, and_from, bytes_eq-Decides, canon, is_name}
use Rattle.reg_model.proofs.Words.{name_at, Text, Publication, Registry, holds, collides, first, viewer, visible, spelling, breaks}
use Rattle.reg_model.proofs.Words.{IsGenuine, Sound}
use Rattle.reg_names.specs.Names.{folder_of, lower, path_of}
use Rattle.reg_names.proofs.LastPart.{at_path}
use Rattle.reg_names.proofs.NameFacts.{canon-lower, is_name-lower, lower-lower}
use Rattle.reg_model.specs.declared.rule.Rule.TheVariants as rule
use Rattle.reg_model.specs.Facts.{access_facts}
use Rattle.reg_model.specs.Actions.Action.{Index}
use Rattle.reg_model.proofs.Seen.{sees_alike}

abbrev IsPathOfCrate : Registry → Text → Text → Type 0
IsPathOfCrate s digest path = (n : Text) × (f : Text) × (first s n ≡ Some f) × (path_of f ≡ path) × (visible s digest n ≡ true)

pub the_some : {X : Type 0} {x y : X} → Some x ≡ Some y → x ≡ y
the_some e = cc

pub not_false : (b : Bool) → not b ≡ false → b ≡ true
not_false true e = refl
not_false false e = cc

-- the spelling of a crate is a name, and collides with each text that finds it
pub spelled : (ps : List Publication) (n f : Text) → AllByRecursion IsGenuine ps → option_map (λ p. p.name) (find (λ p. collides p.name n) ps) ≡ Some f → (is_name f ≡ true) × (canon f ≡ canon n)
spelled [] n f genuine e = cc
spelled (p ∷ ps) n f genuine e =
    elim (collides p.name n) as (λ b. collides p.name n ≡ b → option_map (λ p. p.name) (cond b (Some p) (find (λ p. collides p.name n) ps)) ≡ Some f → (is_name f ≡ true) × (canon f ≡ canon n)) [
      | true ↦ λ t g. let same = the_some g in (ap is_name (sym same) ∙ genuine.0.name, ap canon (sym same) ∙ (bytes_eq-Decides (canon p.name) (canon n)).0 t)
      | false ↦ λ t g. spelled ps n f genuine.1 g
    ] refl e

pub there : (s : Registry) (digest path : Text) → breaks (access_facts s digest (Index path)) (Index path) rule.A8 ≡ false → IsPathOfCrate s digest path
unfolding access_facts
there s digest path e = by_name (name_at path) (not_false _ e)
  where
    by_first : (m : Text) (o : Option Text) → first s m ≡ o → visible s digest m ≡ true → holds (λ n. bytes_eq (path_of n) path) o ≡ true → IsPathOfCrate s digest path
    by_first m None h seen t = cc
    by_first m (Some f) h seen t = (m, f, h, (bytes_eq-Decides (path_of f) path).0 t, seen)

    by_name : (o : Option Text) → (holds (visible s digest) o && holds (λ n. bytes_eq (path_of n) path) (spelling s o)) ≡ true → IsPathOfCrate s digest path
    by_name None t = cc
    by_name (Some m) t = let h = and_parts (visible s digest m) _ t in by_first m (first s m) refl h.0 h.1

pub unbroken : (s : Registry) (digest path : Text) → Sound s → IsPathOfCrate s digest path → breaks (access_facts s digest (Index path)) (Index path) rule.A8 ≡ false
unfolding access_facts
unbroken s digest path sound (n, f, found, at, seen) =
    let h = spelled s.publications n f sound.publications found in
    let low : path_of (lower f) ≡ path = ap (λ t. folder_of t ++ t) (lower-lower f) ∙ at in
    let named : name_at path ≡ Some (lower f) = at_path (lower f) path (is_name-lower f h.0) (lower-lower f) low in
    let alike : canon (lower f) ≡ canon n = canon-lower f ∙ h.1 in
    let same : first s (lower f) ≡ Some f = ap (λ c. option_map (λ p. p.name) (find (λ p. bytes_eq (canon p.name) c) s.publications)) alike ∙ found in
    let shown : holds (λ n. bytes_eq (path_of n) path) (first s (lower f)) ≡ true = ap (λ o. holds (λ n. bytes_eq (path_of n) path) o) same ∙ (bytes_eq-Decides (path_of f) path).1 at in
    ap (λ o. not (holds (visible s digest) o && holds (λ n. bytes_eq (path_of n) path) (spelling s o))) named
    ∙ ap not (and_from (visible s digest (lower f)) _ (sees_alike s (viewer s digest) (lower f) n alike ∙ seen) shown)
