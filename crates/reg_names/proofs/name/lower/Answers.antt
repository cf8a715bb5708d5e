-- A name in lower case is a name.
use Rattle.reg_names.proofs.Words.{◌≡◌, ap, arith, ◌∙◌, true, to_ascii_lowercase, map, common_steps, take_all, is_name, lower}
use Rattle.reg_names.proofs.NameFacts.{is_name-lower}
use Rattle.reg_names.proofs.name.lower.Goals as goal

pub invariant_of-result : goal.invariant_of-result
invariant_of-result c =
    let bytes = c.as_bytes-b-items.result.now in
    let whole : c.loop-b.text.bytes ≡ lower bytes = c.loop-b.invariant ∙ ap (map to_ascii_lowercase) (take_all c.loop-b.b-index bytes c.loop-b-test.false) in
    let name : is_name bytes ≡ true = ap is_name c.as_bytes-b-items.ensures.value ∙ c.as_str.ensures.name in
    ap is_name whole ∙ is_name-lower bytes name

pub loop-b-preserved : goal.loop-b-preserved
loop-b-preserved c = grind (arith, common_steps)
