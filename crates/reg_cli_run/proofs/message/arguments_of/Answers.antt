use Rattle.std.proofs.Common.{lit<, ◌∙◌, ◌==◌, List, ℕ, [], ◌∷◌, map, length, Bor, Ok, ap, sym}
use Rattle.std.specs.declared.alloc.AllocError.{AllocError}
use Rattle.std.specs.List.{slice_split}
use Rattle.std.proofs.lemmas.Bool.{both_ways, eqb-true}
use Rattle.std.proofs.lemmas.Iterator.Consumers.{map_from_collect}
use Rattle.std.proofs.lemmas.Iterator.Splits.{YieldsList-from_str_split}
use Rattle.std.proofs.lemmas.List.{map-append}
use Rattle.reg_cli_run.proofs.LineFacts.{arguments_are, no_arguments, no_bytes, no_text}
use Rattle.reg_cli_run.proofs.message.arguments_of.Goals as goal

pub returns-in_default-clause-fails : goal.returns-in_default-clause-fails
returns-in_default-clause-fails c = no_text c.args.bytes.now c.in_default.ensures.cases.0

pub returns-then-is_empty-clause-arguments : goal.returns-then-is_empty-clause-arguments
returns-then-is_empty-clause-arguments c =
    let now = λ (l : Bor (List ℕ)). l.now in
    let pieces = map_from_collect {E = AllocError} (Ok c.in_ok-words.words) c.in_ok-words.ensures.ran
    (YieldsList-from_str_split 0 c.in-Ok.text.now (lit< tt) c.split.ensures.text c.split.ensures.has_more c.split.ensures.pattern) in
    arguments_are c.args.bytes.now (map now c.pop.new.self.items) c.in-Some.last.now c.in-Ok.ensures.cases.1
    (ap (slice_split (λ b. b == 0)) (sym c.in-Ok.ensures.cases.0) ∙ sym pieces ∙ ap (map now) c.in-Some.ensures.items ∙ map-append now c.pop.new.self.items (c.in-Some.last ∷ []))
    (no_bytes c.in-Some.last.now (eqb-true (length c.in-Some.last.now) 0 (sym c.is_empty.ensures ∙ c.if-is_empty.true)))

pub returns-clause-fails : goal.returns-clause-fails
returns-clause-fails c =
    let now = λ (l : Bor (List ℕ)). l.now in
    let pieces = map_from_collect {E = AllocError} (Ok c.in_ok-words.words) c.in_ok-words.ensures.ran
    (YieldsList-from_str_split 0 c.in-Ok.text.now (lit< tt) c.split.ensures.text c.split.ensures.has_more c.split.ensures.pattern) in
    no_arguments c.args.bytes.now (map now c.pop.new.self.items) c.in-Some.last.now c.in-Ok.ensures.cases.1
    (ap (slice_split (λ b. b == 0)) (sym c.in-Ok.ensures.cases.0) ∙ sym pieces ∙ ap (map now) c.in-Some.ensures.items ∙ map-append now c.pop.new.self.items (c.in-Some.last ∷ []))
    (λ e. both_ways c.is_empty.result c.if-is_empty.false (c.is_empty.ensures ∙ ap (λ (t : List ℕ). length t == 0) e))
