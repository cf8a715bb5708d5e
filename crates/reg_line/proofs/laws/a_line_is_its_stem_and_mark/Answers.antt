use Rattle.reg_manifest.specs.Manifests.{manifest_view}
use Rattle.reg_line.proofs.Stems.{line-line_of}
use Rattle.reg_line.proofs.laws.a_line_is_its_stem_and_mark.Goals as goal

pub returns : goal.returns
returns c = λ h. line-line_of (manifest_view c.args.manifest.now) c.args.digest.now c.args.stem.now c.args.yanked h
