-- What reading a publish body gives is what the body asks for.
use Rattle.std.proofs.Common.{◌≡◌, ◌↔◌, ℕ, ◌-◌, Bor, List, length, take, codes, false, true, Result, Ok, Err, IsErrOf, IsOkAnd, MatchResult, refl, sym, ap, ◌∙◌, subst, arith, length-append, string_cmp}
use Rattle.std.proofs.lemmas.Bool.{and_parts}
use Rattle.std.proofs.lemmas.List.{take_at}
use Rattle.std.specs.BTreeMap.{IsOrdered}
use Rattle.sha2.specs.Sha256.{sha256}
use Rattle.reg_body.specs.declared.limits.Limits.{Limits}
use Rattle.reg_body.specs.declared.frame.BodyFault.{BodyFault}
use Rattle.reg_body.specs.declared.frame.BodyFault.TheVariants.{Short, Trailing, TooLong}
use Rattle.reg_body.specs.Frames.{Frame, IsCut, IsTooLong, IsTrailed, IsWithin}
use Rattle.reg_manifest.specs.declared.manifest.Manifest.{Manifest}
use Rattle.reg_manifest.specs.Manifests.{Metadata, manifest_view}
use Rattle.reg_manifest.specs.Metadata.{keeps_rules}
use Rattle.reg_line.specs.Line.{IsStem, line_json}
use Rattle.reg_line.proofs.Stems.{stem_text, stem_text-IsStem}
use Rattle.reg_model.specs.Steps.{IsGenuine}
use Rattle.reg_api_requests.specs.Bodies.{body_parts}
use Rattle.reg_api_requests.specs.Publish.{publication_of, stem_of}
use Rattle.reg_api_requests.proofs.Bodies.{cut_short, long_too_long, trailed_trailing, within_parts}

-- one outcome of the split of a body
pub split_parts : (limits : Limits) (b : List ℕ) (r : Result (Bor (List ℕ) × Bor (List ℕ)) BodyFault)
    → ((j a : List ℕ) → IsOkAnd r (λ p. (p.0.now ≡ j) × (p.1.now ≡ a)) ↔ (Frame b j a × IsWithin limits j a))
    → (IsErrOf r Short ↔ IsCut b) → (IsErrOf r Trailing ↔ IsTrailed b) → (IsErrOf r TooLong ↔ IsTooLong limits b)
    → MatchResult r (λ p. body_parts limits b ≡ Ok (p.0.now, p.1.now)) (λ fault. body_parts limits b ≡ Err fault)
split_parts limits b (Ok p) parts short trailing long =
    let h = (parts p.0.now p.1.now).0 (refl, refl) in
    within_parts limits b p.0.now p.1.now h.0 h.1
split_parts limits b (Err Short) parts short trailing long = cut_short limits b (short.0 refl)
split_parts limits b (Err Trailing) parts short trailing long = trailed_trailing limits b (trailing.0 refl)
split_parts limits b (Err TooLong) parts short trailing long = long_too_long limits b (long.0 refl)

-- a line has one stem
pub stem_same : (m : Metadata) (k s : List ℕ) → IsStem m k s → s ≡ stem_of m k
unfolding stem_of
stem_same m k s h =
    let n = length (line_json m k false) - 6 in
    let end : length s ≡ n = omega (arith, length-append s (codes "false}"), ap length h.0) in
    sym (ap (take n) (sym h.0) ∙ take_at s (codes "false}") n end)

pub stem_of-IsStem : (m : Metadata) (k : List ℕ) → IsStem m k (stem_of m k)
stem_of-IsStem m k = subst (IsStem m k) (stem_same m k (stem_text m k) (stem_text-IsStem m k)) (stem_text-IsStem m k)

-- a manifest that keeps the rules, with its stem, is a genuine publication
pub genuine : (m : Manifest) (archive : List ℕ) → IsOrdered string_cmp m.features → keeps_rules (manifest_view m) ≡ true → IsStem (manifest_view m) (sha256 archive) (stem_of (manifest_view m) (sha256 archive))
    → IsGenuine (publication_of archive (manifest_view m))
unfolding keeps_rules
genuine m archive ordered rules stem =
    let name = and_parts _ _ rules in
    let version = and_parts _ _ name.1 in
    record {
      name = name.0;
      version = version.0;
      digest = refl;
      stem = (m, ordered, rules, refl, refl, stem);
    }
