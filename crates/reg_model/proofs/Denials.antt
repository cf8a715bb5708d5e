-- A request is answered with a rule exactly where it is denied that rule, and the rules on access come first.
use Rattle.reg_model.proofs.Words.{◌≡◌, ◌≢◌, ℕ, List, [], ◌∷◌, ◌++◌, Bool, true, false, cond, Option, Some, None, inl, inr, refl, sym, ◌∙◌}
use Rattle.reg_model.proofs.Words.{ap, is_some, not, find, filter, Rule, Limits, Text, Registry, Action, Counts, breaks, broken, order}
use Rattle.reg_model.proofs.Words.{Asked, Answer, Malformed, Read, Index, Download, ListOwners, Publish, Yank, Unyank, AddOwners, RemoveOwners}
use Rattle.reg_model.proofs.Words.{Config, Search, Ask, Denied, judged, or_else, served, caller, Step, Outcome, unless_denied}
use Rattle.std.specs.Prelude.{◌↔◌}
use Rattle.reg_model.specs.declared.rule.Rule.TheVariants as rule
use Rattle.reg_model.specs.Actions.Action.{Read as to_read, Index as to_index, Download as to_download, ListOwners as to_list, Publish as to_publish, Yank as to_yank, Unyank as to_unyank, AddOwners as to_add, RemoveOwners as to_remove}
use Rattle.reg_model.specs.Facts.{Access}
use Rattle.reg_model.specs.Rules.{access, is_access_rule, verdict}
use Rattle.reg_model.specs.Refusals.{denied}

-- a refusal that is served is that of a faulty request
served_named : (s : Registry) (who : Option ℕ) (asked : Asked) (r : Rule) → Denied r ≡ served s who asked → (q : Rule) × (asked ≡ Malformed q)
served_named s who (Malformed q) r e = (q, refl)
served_named s who (Read Config) r e = cc
served_named s who (Read (Search q m)) r e = cc
served_named s who (Index p) r e = cc
served_named s who (Download n v) r e = cc
served_named s who (ListOwners n) r e = cc
served_named s who (Publish p) r e = cc
served_named s who (Yank n v) r e = cc
served_named s who (Unyank n v) r e = cc
served_named s who (AddOwners n l) r e = cc
served_named s who (RemoveOwners n l) r e = cc

or_some : (v : Option Rule) (r : Rule) → or_else v (Some r) ≢ None
or_some None r e = cc
or_some (Some q) r e = cc

-- a faulty request is denied
never_allowed : (limits : Limits) (s : Registry) (digest : Option Text) (q : Rule) → denied limits s digest (Malformed q) ≢ None
unfolding denied
never_allowed limits s None q e = cc
never_allowed limits s (Some d) q e = or_some (judged limits s d to_read) q e

the_rule : {q r : Rule} → Denied q ≡ Denied r → q ≡ r
the_rule e = cc

the_some : {q r : Rule} → Some q ≡ Some r → q ≡ r
the_some e = cc

names : (limits : Limits) (s : Registry) (digest : Option Text) (asked : Asked) (o : Outcome) (a : Answer) (r : Rule) (v : Option Rule) → denied limits s digest asked ≡ v → o.0 ≡ served s (caller s digest) asked → a ≡ (unless_denied s v o).0 → (a ≡ Denied r) ↔ (v ≡ Some r)
names limits s digest asked o a r (Some q) is served_so h = (λ e. ap Some (the_rule (sym h ∙ e)), λ e. h ∙ ap Denied (the_some e))
names limits s digest asked o a r None is served_so h =
    (λ e. let f = served_named s (caller s digest) asked r (sym e ∙ h ∙ served_so) in absurd (never_allowed limits s digest f.0 (ap (denied limits s digest) (sym f.1) ∙ is)), λ e. cc)

pub denials_name : (limits : Limits) (s t : Registry) (digest : Option Text) (asked : Asked) (a : Answer) (r : Rule) → Step limits s (Ask digest asked) a t → a ≢ Denied rule.S1 → (a ≡ Denied r) ↔ (denied limits s digest asked ≡ Some r)
denials_name limits s t digest asked a r (inl h) some_room = names limits s digest asked _ a r (denied limits s digest asked) refl refl h.0
denials_name limits s t digest asked a r (inr h) some_room = absurd (some_room h.0)

find_both : (p : Rule → Bool) (xs ys : List Rule) → find p (xs ++ ys) ≡ or_else (find p xs) (find p ys)
find_both p [] ys = refl
find_both p (x ∷ xs) ys = elim (p x) as (λ b. cond b (Some x) (find p (xs ++ ys)) ≡ or_else (cond b (Some x) (find p xs)) (find p ys)) [ true ↦ refl | false ↦ find_both p xs ys ]

pub access_first : (limits : Limits) (f : Access) (c : Counts) (a : Action) → verdict limits f c a ≡ or_else (access f a) (find (broken limits f c a) (filter (λ r. not (is_access_rule r)) (order f.first a)))
unfolding verdict access
access_first limits f c to_read = find_both (broken limits f c to_read) (rule.A2 ∷ rule.A3 ∷ rule.A4 ∷ []) []
access_first limits f c (to_index p) = find_both (broken limits f c (to_index p)) (rule.A2 ∷ rule.A3 ∷ rule.A4 ∷ rule.A8 ∷ []) []
access_first limits f c (to_download n v) = find_both (broken limits f c (to_download n v)) (rule.A2 ∷ rule.A3 ∷ rule.A4 ∷ rule.A8 ∷ rule.A10 ∷ []) []
access_first limits f c (to_list n) = find_both (broken limits f c (to_list n)) (rule.A2 ∷ rule.A3 ∷ rule.A4 ∷ rule.A8 ∷ []) []
access_first limits f c (to_publish n v) = by (is_some f.first)
  where
    for_known : List Rule
    for_known = rule.A2 ∷ rule.A3 ∷ rule.A4 ∷ rule.A6 ∷ rule.A7 ∷ rule.N3 ∷ rule.A9 ∷ rule.V2 ∷ rule.L1 ∷ []

    for_new : List Rule
    for_new = rule.A2 ∷ rule.A3 ∷ rule.A4 ∷ rule.A6 ∷ rule.A7 ∷ rule.N2 ∷ rule.L2 ∷ []

    by : (b : Bool) → find (broken limits f c (to_publish n v)) (cond b for_known for_new) ≡ or_else (find (breaks f (to_publish n v)) (filter is_access_rule (cond b for_known for_new))) (find (broken limits f c (to_publish n v)) (filter (λ r. not (is_access_rule r)) (cond b for_known for_new)))
    by true = find_both (broken limits f c (to_publish n v)) (rule.A2 ∷ rule.A3 ∷ rule.A4 ∷ rule.A6 ∷ rule.A7 ∷ rule.N3 ∷ rule.A9 ∷ rule.V2 ∷ []) (rule.L1 ∷ [])
    by false = find_both (broken limits f c (to_publish n v)) (rule.A2 ∷ rule.A3 ∷ rule.A4 ∷ rule.A6 ∷ rule.A7 ∷ rule.N2 ∷ []) (rule.L2 ∷ [])
access_first limits f c (to_yank n v) = find_both (broken limits f c (to_yank n v)) (rule.A2 ∷ rule.A3 ∷ rule.A4 ∷ rule.A6 ∷ rule.A8 ∷ rule.A7 ∷ rule.A9 ∷ rule.A10 ∷ []) []
access_first limits f c (to_unyank n v) = find_both (broken limits f c (to_unyank n v)) (rule.A2 ∷ rule.A3 ∷ rule.A4 ∷ rule.A6 ∷ rule.A8 ∷ rule.A7 ∷ rule.A9 ∷ rule.A10 ∷ []) []
access_first limits f c (to_add n l) = find_both (broken limits f c (to_add n l)) (rule.A2 ∷ rule.A3 ∷ rule.A4 ∷ rule.A6 ∷ rule.A8 ∷ rule.A7 ∷ rule.A9 ∷ []) (rule.O2 ∷ [])
access_first limits f c (to_remove n l) = find_both (broken limits f c (to_remove n l)) (rule.A2 ∷ rule.A3 ∷ rule.A4 ∷ rule.A6 ∷ rule.A8 ∷ rule.A7 ∷ rule.A9 ∷ []) (rule.O3 ∷ rule.O4 ∷ [])
