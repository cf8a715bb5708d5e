-- What is known where nothing refuses: each test of the list fails.
use Rattle.reg_model.proofs.Words.{◌≡◌, List, [], ◌∷◌, Bool, true, false, cond, Option, Some, None, refl, find, option_map, Rule}
use Rattle.reg_model.proofs.Words.{AdminRefusal, Limits, Text, Registry, Asked, Command, action_of, fault_of, broken, order, or_else}
use Rattle.reg_model.proofs.Words.{grounds}
use Rattle.reg_model.specs.Facts.{access_facts, counts}
use Rattle.reg_model.specs.Rules.{verdict}
use Rattle.reg_model.specs.Refusals.{denied, refused}

-- no rule of the list is broken
abbrev pub Clear : (Rule → Bool) → List Rule → Type 0
Clear p [] = Unit {0}
Clear p (r ∷ rs) = (p r ≡ false) × Clear p rs

clear : (p : Rule → Bool) (rs : List Rule) → find p rs ≡ None → Clear p rs
clear p [] e = tt
clear p (r ∷ rs) e = elim (p r) as (λ b. cond b (Some r) (find p rs) ≡ None → (b ≡ false) × Clear p rs) [ true ↦ λ f. cc | false ↦ λ f. (refl, clear p rs f) ] e

-- no ground of the list holds
abbrev pub Free : List (AdminRefusal × Bool) → Type 0
Free [] = Unit {0}
Free (g ∷ gs) = (g.1 ≡ false) × Free gs

pub free : (gs : List (AdminRefusal × Bool)) → option_map (λ g. g.0) (find (λ g. g.1) gs) ≡ None → Free gs
free [] e = tt
free (g ∷ gs) e = elim (g.1) as (λ b. option_map (λ g. g.0) (cond b (Some g) (find (λ g. g.1) gs)) ≡ None → (b ≡ false) × Free gs) [ true ↦ λ f. cc | false ↦ λ f. (refl, free gs f) ] e

none_first : (v w : Option Rule) → or_else v w ≡ None → v ≡ None
none_first None w e = refl
none_first (Some r) w e = cc

pub not_denied : (limits : Limits) (s : Registry) (d : Text) (asked : Asked) → denied limits s (Some d) asked ≡ None → Clear (broken limits (access_facts s d (action_of asked)) (counts s (action_of asked)) (action_of asked)) (order (access_facts s d (action_of asked)).first (action_of asked))
unfolding denied verdict
not_denied limits s d asked e = clear (broken limits (access_facts s d (action_of asked)) (counts s (action_of asked)) (action_of asked)) (order (access_facts s d (action_of asked)).first (action_of asked)) (none_first _ (fault_of asked) e)

pub not_refused : (limits : Limits) (s : Registry) (c : Command) → refused limits s c ≡ None → Free (grounds limits s c)
unfolding refused
not_refused limits s c e = free (grounds limits s c) e
