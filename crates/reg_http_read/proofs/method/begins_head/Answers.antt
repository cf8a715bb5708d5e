use Rattle.std.proofs.Common.{◌≡◌, ◌<◌, ◌++◌, ◌∙◌, ap, sym, arith, length, take}
use Rattle.std.specs.Str.{bytes_eq}
use Rattle.std.proofs.lemmas.Bool.Decides.{nat_tests}
use Rattle.reg_http_read.proofs.FirstBytes.{head_start, skip_none, skip_some}
use Rattle.reg_http_read.proofs.method.begins_head.Goals as goal

pub returns-then-is_empty : goal.returns-then-is_empty
returns-then-is_empty c =
    let none : length c.skip_newlines-line.result.now ≡ 0 = grind (arith, nat_tests, c.if-is_empty.ensures) in
    let same = skip_none c.args.bytes.now c.args.later.now (ap (λ l. length l) (sym c.skip_newlines-line.ensures) ∙ none) in
    c.starts_with.ensures.value ∙ ap (λ s. bytes_eq head_start (take 5 s)) (c.skip_newlines.ensures ∙ sym same)

pub returns-else-is_empty : goal.returns-else-is_empty
returns-else-is_empty c =
    let some : 0 < length c.skip_newlines-line.result.now = grind (arith, nat_tests, c.if-is_empty.ensures) in
    let same = skip_some c.args.bytes.now c.args.later.now (omega (arith, some, ap (λ l. length l) c.skip_newlines-line.ensures)) in
    c.begins_with.ensures
    ∙ ap (λ s. bytes_eq head_start (take 5 s)) (ap (λ l. l ++ c.args.later.now) c.skip_newlines-line.ensures ∙ sym same)
