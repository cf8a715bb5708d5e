use Rattle.std.proofs.Common.{refl}
use Rattle.std.proofs.lemmas.Result.{IfOk-weaker}
use Rattle.reg_manifest.specs.Manifests.{manifest_view}
use Rattle.reg_cli_line.specs.Faults.{memory}
use Rattle.reg_cli_line.specs.declared.fault.LineFault.TheVariants as fault
use Rattle.reg_cli_line.proofs.BodyFacts.{fails_by, passed_on}
use Rattle.reg_cli_line.proofs.line.answer.Goals as goal

pub returns-in_err-manifest-clause-broken : goal.returns-in_err-manifest-clause-broken
returns-in_err-manifest-clause-broken c =
    let j = c.in_ok-json.json.now in
    let a = c.in_ok-json.archive.now in
    let frame = (c.in_ok-json.ensures.parts j a).0 (refl, refl) in
    let e = c.in_err-manifest.field-0.0 in
    passed_on c.args.limits.now c.args.input.now c.from_residual-in_err-manifest.result (fault.Manifest e) c.from_residual-in_err-manifest.ensures.1
    (j, a, frame, c.in_err-manifest.ensures.meaning)

pub returns-clause-answer : goal.returns-clause-answer
returns-clause-answer c =
    let j = c.in_ok-json.json.now in
    let a = c.in_ok-json.archive.now in
    let frame = (c.in_ok-json.ensures.parts j a).0 (refl, refl) in
    let m = manifest_view c.in_ok-manifest.manifest in
    IfOk-weaker c.lines.result _ _ (λ text h. (j, a, m, frame, c.in_ok-manifest.ensures.meaning, h)) c.lines.ensures.printed

pub returns-clause-broken : goal.returns-clause-broken
returns-clause-broken c =
    let j = c.in_ok-json.json.now in
    let a = c.in_ok-json.archive.now in
    let frame = (c.in_ok-json.ensures.parts j a).0 (refl, refl) in
    fails_by c.args.limits.now c.args.input.now c.lines.result memory c.lines.ensures.memory (j, a, frame, tt)
