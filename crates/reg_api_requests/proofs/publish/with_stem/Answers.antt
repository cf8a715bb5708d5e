use Rattle.std.proofs.Common.{◌∙◌, ap, sym, subst}
use Rattle.sha2.specs.Sha256.{sha256}
use Rattle.reg_manifest.specs.Manifests.{manifest_view}
use Rattle.reg_model.specs.Steps.{IsGenuine}
use Rattle.reg_api_requests.specs.Publish.{stem_of}
use Rattle.reg_api_requests.proofs.Releases.{genuine, stem_same, stem_of-IsStem}
use Rattle.reg_api_requests.proofs.publish.with_stem.Goals as goal

made : goal.returns-clause-made
made c =
    let m = manifest_view c.args.manifest in
    let stem = stem_same m c.digest_of-digest.result c.in_ok-stem.stem.items c.in_ok-stem.ensures.stem ∙ ap (stem_of m) c.digest_of-digest.ensures in
    λ i. record {
      name = m.name;
      version = m.vers;
      description = m.description;
      stem = stem i;
      digest = c.digest_of-digest.ensures i;
      archive = c.args.archive.now;
    }

pub returns-clause-made : goal.returns-clause-made
returns-clause-made c = made c

pub returns-clause-genuine : goal.returns-clause-genuine
returns-clause-genuine c =
    let m = c.args.manifest in
    let archive = c.args.archive.now in
    subst IsGenuine (sym (made c)) (genuine m archive c.in_ok-stem.ensures.ordered c.requires (stem_of-IsStem (manifest_view m) (sha256 archive)))
