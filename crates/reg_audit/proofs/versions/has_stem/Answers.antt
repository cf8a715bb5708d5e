use Rattle.reg_audit.proofs.Words.{◌∙◌, ap, length, sym, string_bytes}
use Rattle.reg_audit.proofs.Stems.{with_length}
use Rattle.reg_audit.proofs.versions.has_stem.Goals as goal

pub returns-in-Ok : goal.returns-in-Ok
returns-in-Ok c =
    let v = c.args.version.now in
    let whole = c.in-Ok.ensures.1 in
    let view = c.as_slice.ensures.value in
    with_length c.check_stem.result v.stem.items (string_bytes c.args.it.now.name) (string_bytes v.vers) v.digest.items c.deref.result.now c.deref-in-Ok.result.now c.deref-in-Ok-2.result.now c.in-Ok.digest c.deref.ensures.value c.deref-in-Ok.ensures c.deref-in-Ok-2.ensures (whole.same ∙ view) (ap length (sym view) ∙ whole.long) c.check_stem.ensures
