-- A question, and then what follows; and what a line tells that was made.
use Rattle.std.proofs.Common.{◌≡◌, arith, Bool, true, false, cond, List, [], refl, Ok, Err, Result, Option, Some, None, subst, sym, ap, ◌∙◌}
use Rattle.std.specs.Prelude.{◌&&◌, IfOk, String, string_bytes}
use Rattle.std.specs.declared.alloc.AllocError.{AllocError}
use Rattle.std.specs.declared.alloc.Global.{Global}
use Rattle.std.specs.Option.{option_map}
use Rattle.sqlite.specs.State.{HasCleanDisk}
use Rattle.sqlite.specs.Tree.{Trees}
use Rattle.sqlite_trees.specs.declared.store.Store.{Ghosts}
use Rattle.reg_body.specs.declared.limits.Limits.{Limits}
use Rattle.reg_model.specs.Events.{Event}
use Rattle.reg_model.specs.Registry.{Text}
use Rattle.reg_model.specs.Trail.{IsPassed, line}
use Rattle.reg_tables_represent.specs.Calls.{Tells}
use Rattle.reg_tables.specs.declared.work.Work.{Work}
use Rattle.reg_tables.specs.Works.{rows_seen, seen}
use Rattle.reg_tables.specs.Calling.{Queries}
use Rattle.reg_access.proofs.Questions.{asks_after}
use Rattle.reg_service_steps.specs.Telling.{IsToldLine, TellsIf, line_if}

module _ {S : Type 0} (g : Ghosts S) where
  -- it is asked, and then all that follows is asked
  pub asks_then : {T U E F : Type 0} {P : Trees → T → Type 0} {R Q : Trees → U → Type 0} (x : T) (r : Result U F) (a b c : Work S) → Queries {E = E} g a b (Ok x) P → Queries g b c r R → ((y : U) → P (rows_seen g a) x → R (rows_seen g a) y → Q (rows_seen g a) y) → Queries g a c r Q
  asks_then {R} {Q} x (Ok y) a b c one two made =
      let after = asks_after g x (Ok y) a b c one two in
      record {
        told = λ clean. let early : HasCleanDisk (seen g b) = omega (arith, clean, two.leaves.survives.clean) in
            made y (one.told early) (after.told clean);
        same = after.same;
        leaves = after.leaves;
      }
  asks_then x (Err e) a b c one two made =
      let after = asks_after g x (Err e) a b c one two in
      record { told = λ clean. tt; same = after.same; leaves = after.leaves }

pub line_is : (w : Text) (made : Result (String Global) AllocError) (found : Option (String Global)) → IfOk made (λ line. string_bytes line ≡ w) → IsToldLine made found → Some w ≡ option_map string_bytes found
line_is w made found h (line, e, f) =
    let k : IfOk {E = AllocError} (Ok line) (λ l. string_bytes l ≡ w) = subst (λ m. IfOk m (λ l. string_bytes l ≡ w)) e h in
    ap (λ x. Some x) (sym k) ∙ ap (option_map string_bytes) (sym f)

-- what is empty is empty
pub nothing : (b : Bool) (t : Text) → t ≡ [] → cond b [] t ≡ []
nothing true t e = refl
nothing false t e = e

no_line : (o : Option (String Global)) → option_map string_bytes o ≡ None → o ≡ None
no_line None e = refl
no_line (Some x) e = absurd cc

-- the line of what an event changes is told, if one is wanted
pub told_if : (traced changed wanted : Bool) (limits : Limits) (e : Event) (db : Trees) (words : List Text) (found : Option (String Global)) → wanted ≡ (traced && changed) → option_map string_bytes found ≡ line_if wanted words
    → Tells (λ ids s. IsPassed limits s e → line limits s e ≡ line_if changed words) db → TellsIf traced limits e db found
told_if true changed wanted limits e db words found is told has = λ ids s h ok. has ids s h ok ∙ sym (told ∙ ap (λ b. line_if b words) is)
told_if false changed wanted limits e db words found is told has = no_line found (told ∙ ap (λ b. line_if b words) is)

-- and none where it changes nothing
pub none_told : (traced : Bool) (limits : Limits) (e : Event) (db : Trees) (found : Option (String Global)) → found ≡ None → Tells (λ ids s. IsPassed limits s e → line limits s e ≡ None) db → TellsIf traced limits e db found
none_told true limits e db found none has = λ ids s h ok. has ids s h ok ∙ sym (ap (option_map string_bytes) none)
none_told false limits e db found none has = none
