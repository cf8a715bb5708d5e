use Rattle.reg_audit.proofs.Words.{◌∙◌, ap, sym, option_map, bytes_eq-Decides, is_version, release_key_of}
use Rattle.reg_audit.proofs.Genuine.{genuine}
use Rattle.reg_audit.proofs.versions.is_genuine.Goals as goal

pub returns-in-Some : goal.returns-in-Some
returns-in-Some c =
    let v = c.args.version.now in
    let is_one = ap is_version (sym c.deref-3.ensures) ∙ sym c.in_ok-is_version.ensures ∙ c.if-not-branch.false in
    let same = (bytes_eq-Decides c.release_key.result.now c.deref-2.result.now).0 (sym c.same_text.ensures ∙ c.if-not-same_text.false) in
    let release = ap release_key_of (sym c.deref.ensures) ∙ sym c.release_key.ensures ∙ same ∙ c.deref-2.ensures in
    let has = sym c.crate_of.ensures ∙ ap (option_map (λ it. it.now)) c.in-Some.is in
    genuine c.args.rows.now v c.in-Some.it.now c.has_stem.result is_one release has c.has_stem.ensures
