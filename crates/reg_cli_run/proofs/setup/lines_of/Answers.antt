use Rattle.std.proofs.Common.{lit<, ◌∙◌, ◌==◌, List, ℕ, [], ◌∷◌, map, length, Bor, Ok, ap, sym}
use Rattle.std.specs.declared.alloc.AllocError.{AllocError}
use Rattle.std.proofs.lemmas.Bool.{both_ways, eqb-true}
use Rattle.std.proofs.lemmas.Iterator.Consumers.{map_from_collect}
use Rattle.std.proofs.lemmas.Iterator.Splits.{YieldsList-from_str_split}
use Rattle.std.proofs.lemmas.List.{map-append}
use Rattle.reg_cli_run.proofs.LineFacts.{cut, kept, no_bytes}
use Rattle.reg_cli_run.proofs.setup.lines_of.Goals as goal

pub returns-then-is_empty : goal.returns-then-is_empty
returns-then-is_empty c =
    let now = λ (l : Bor (List ℕ)). l.now in
    let pieces = map_from_collect {E = AllocError} (Ok c.in_ok-lines.lines) c.in_ok-lines.ensures.ran
    (YieldsList-from_str_split 10 c.args.text.now (lit< tt) c.split.ensures.text c.split.ensures.has_more c.split.ensures.pattern) in
    cut _ (map now c.pop.new.self.items) c.in-Some.last.now
    (sym pieces ∙ ap (map now) c.in-Some.ensures.items ∙ map-append now c.pop.new.self.items (c.in-Some.last ∷ []))
    (no_bytes c.in-Some.last.now (eqb-true (length c.in-Some.last.now) 0 (sym c.is_empty.ensures ∙ c.if-is_empty.true)))

pub returns : goal.returns
returns c =
    let now = λ (l : Bor (List ℕ)). l.now in
    let pieces = map_from_collect {E = AllocError} (Ok c.in_ok-lines.lines) c.in_ok-lines.ensures.ran
    (YieldsList-from_str_split 10 c.args.text.now (lit< tt) c.split.ensures.text c.split.ensures.has_more c.split.ensures.pattern) in
    ap (map now) c.in_ok-push.ensures.items ∙ map-append now c.pop.new.self.items (c.in-Some.last ∷ [])
    ∙ kept _ (map now c.pop.new.self.items) c.in-Some.last.now
    (sym pieces ∙ ap (map now) c.in-Some.ensures.items ∙ map-append now c.pop.new.self.items (c.in-Some.last ∷ []))
    (λ e. both_ways c.is_empty.result c.if-is_empty.false (c.is_empty.ensures ∙ ap (λ (t : List ℕ). length t == 0) e))
