-- An index file has room for a line of each version.
use Rattle.reg_model.proofs.Words.{◌≡◌, ◌≤◌, ◌+◌, ℕ, suc, Bool, true, false, cond, List, [], ◌∷◌, map, refl, sym, ap, ◌∙◌, arith}
use Rattle.reg_model.proofs.Words.{AllByRecursion, filter, length-append, length-map, bytes_eq-Decides, file_text, canon, canon_byte}
use Rattle.reg_model.proofs.Words.{collides, is_yanked, Publication, Text, IsGenuine}
use Rattle.std.proofs.Common.{◌*◌, length}
use Rattle.std.proofs.Math.Nat.{suc-mul}
use Rattle.sha2.proofs.Facts256.{length-sha256}
use Rattle.reg_line.specs.File.{line_of}
use Rattle.reg_line.specs.Shortest.{shortest_line}
use Rattle.reg_line.proofs.Shortest.{line_long}
use Rattle.reg_model.specs.Laws.{FilesHaveRoom}

-- one line more
longer : (line n file own rest : ℕ) → line ≤ own → n * line ≤ rest → file ≡ own + rest → suc n * line ≤ file
longer line n file own rest p q e = omega (arith, p, q, e, suc-mul n line)

module _ (name : Text) (marks : Text → Bool) where
  abbrev lined : List Publication → List (Text × Bool)
  lined ps = map {B = Text × Bool} (λ p. (p.stem, marks p.version)) ps

  abbrev Fits : List Publication → Type 0
  Fits ps = length ps * shortest_line name ≤ length (file_text (lined ps))

  same_length : (p : Publication) → collides p.name name ≡ true → length p.name ≡ length name
  same_length p e = sym (length-map p.name canon_byte) ∙ ap (λ (t : Text). length t) ((bytes_eq-Decides (canon p.name) (canon name)).0 e) ∙ length-map name canon_byte

  its_line : (p : Publication) → IsGenuine p → collides p.name name ≡ true → shortest_line name ≤ length (line_of (p.stem, marks p.version))
  its_line p is e =
      let digest : length p.digest ≡ 32 = ap (λ (t : Text). length t) (sym is.digest) ∙ length-sha256 p.archive in
      let long = line_long p.stem p.name p.version p.digest (marks p.version) digest is.stem in
      omega (arith, long, same_length p e)

  one_more : (p : Publication) (ps : List Publication) → IsGenuine p → collides p.name name ≡ true → Fits ps → Fits (p ∷ ps)
  one_more p ps is e h =
      longer (shortest_line name) (length ps) _ (length (line_of (p.stem, marks p.version))) (length (file_text (lined ps))) (its_line p is e) h (length-append (line_of (p.stem, marks p.version)) (file_text (lined ps)))

  either : (p : Publication) (ps : List Publication) → IsGenuine p → Fits ps → (b : Bool) → collides p.name name ≡ b → Fits (cond b (p ∷ ps) ps)
  either p ps is h true e = one_more p ps is e h
  either p ps is h false e = h

  all_fit : (ps : List Publication) → AllByRecursion IsGenuine ps → Fits (filter (λ p. collides p.name name) ps)
  all_fit [] all = omega arith
  all_fit (p ∷ ps) all = either p (filter (λ p. collides p.name name) ps) all.0 (all_fit ps all.1) (collides p.name name) refl

pub files_have_room : FilesHaveRoom
files_have_room s name sound = all_fit name (is_yanked s name) s.publications sound.publications
