-- What a statement of a transaction leaves within it, and what more of them do.
use Rattle.reg_tables_represent.proofs.Words.{IsInside, Refuses, Touches, Within, refused_keeps}
use Rattle.reg_tables_represent.proofs.Common.{◌∙◌, ap, HasCleanDisk, IsUnchanged, List, refl, Row, State, ℕ}
use Rattle.reg_tables_schema.specs.Changes.{Becomes}
use Rattle.reg_tables_schema.specs.Steps.{Fails}

pub become_within : (old new : State) (tree : ℕ) (rows : List Row) → HasCleanDisk old → IsInside old → Becomes tree rows old new → Within old new
become_within old new tree rows clean at b = record {
  was_open = at.is_open;
  committed = b.committed;
  inside = b.inside;
  back = λ e o _ _. ap (λ d. d.schema) b.committed ∙ o clean at.is_open;
}

pub touch_within : (old new : State) (tree : ℕ) → HasCleanDisk old → IsInside old → Touches tree old new → Within old new
touch_within old new tree clean at t = record {
  was_open = at.is_open;
  committed = t.committed;
  inside = t.inside;
  back = λ e o _ _. ap (λ d. d.schema) t.committed ∙ o clean at.is_open;
}

pub unchanged_within : (old new : State) → HasCleanDisk old → IsInside old → IsUnchanged old new → Within old new
unchanged_within old new clean at same = record {
  was_open = at.is_open;
  committed = same.0.committed_is;
  inside = record { schema_is = ap (λ d. d.schema) same.0.now_is ∙ at.schema_is; is_open = same.0.is_open; inside = same.0.mode ∙ at.inside };
  back = λ e o _ _. ap (λ d. d.schema) same.0.committed_is ∙ o clean at.is_open;
}

pub within_then : (a b c : State) → Within a b → Within b c → Within a c
within_then a b c first next = record { was_open = first.was_open; committed = next.committed ∙ first.committed; inside = next.inside; back = λ e o. next.back e (first.back e o) }

pub within_fails : (old new : State) → Within old new → Fails old new
within_fails old new w = record { kept = record { was_open = λ _. w.was_open; committed = λ _. w.committed }; back = w.back }

pub fails_after : (a b c : State) → Within a b → Fails b c → Fails a c
fails_after a b c first next = record {
  kept = record { was_open = λ _. first.was_open; committed = λ still. next.kept.committed still ∙ first.committed };
  back = λ e o. next.back e (first.back e o);
}

pub refused_fails : (old new : State) → HasCleanDisk old → Refuses old new → Fails old new
refused_fails old new clean h =
    let k = refused_keeps old new h in
    record { kept = k; back = λ e gone _ up. ap (λ d. d.schema) (k.committed up) ∙ gone clean (k.was_open up) }

pub itself_within : (old : State) → HasCleanDisk old → IsInside old → Within old old
itself_within old clean at = record { was_open = at.is_open; committed = refl; inside = at; back = λ e o. o }
