use Rattle.reg_line.proofs.Words.{◌≡◌, ◌++◌, codes, sym, ap, ◌∙◌, rules, manifest_view}
use Rattle.reg_line.specs.StemCheck.{fits}
use Rattle.reg_line.proofs.StemFacts.{IsStemOf-from_fits}
use Rattle.reg_line.proofs.stem_check.read_stem.Goals as goal

pub returns-clause-stem_of : goal.returns-clause-stem_of
returns-clause-stem_of c sure =
    let m = c.in_ok-manifest.manifest in
    let is : c.as_slice-2.result.now ≡ c.args.stem.now ++ codes "false}" = search rules in
    let fit = ap (λ w. fits (manifest_view m) w c.args.name.now c.args.vers.now c.args.digest.now) (sym is) ∙ sym c.in_ok-fits.ensures.answer ∙ sure in
    IsStemOf-from_fits m c.args.stem.now c.args.name.now c.args.vers.now c.args.digest.now (c.in_ok-fits.ensures.ordered sure) fit
