-- A canonical text is that of the name.
use Rattle.reg_names.proofs.Words.{◌≡◌, ap, ◌∙◌, map, sym, take_all, canon, canon_byte, is_name}
use Rattle.reg_names.proofs.canonical.canon.Goals as goal

pub invariant_of-result : goal.invariant_of-result
invariant_of-result c =
    let bytes = c.as_bytes-b-items.result.now in
    let whole : c.loop-b.text.bytes ≡ canon bytes = c.loop-b.invariant ∙ ap (map canon_byte) (take_all c.loop-b.b-index bytes c.loop-b-test.false) in
    (bytes, ap is_name c.as_bytes-b-items.ensures.value ∙ c.as_str.ensures.name, sym whole)
