-- Bytes that are written in several calls.
use Rattle.std.proofs.Common.{◌≡◌, ℕ, List, ◌++◌, take, drop, Option, sym, ap, ◌∙◌, append_assoc, take-append-drop}
use Rattle.std.specs.Io.KnownBytes.{Appends}
use Rattle.std.proofs.KnownBytes.{Appends-trans}

-- one more write: the front grows by what the writer took of the rest
pub took_more : (a b c : Option (List ℕ)) (bytes front rest : List ℕ) (n : ℕ)
    → bytes ≡ front ++ rest → Appends a b front → Appends b c (take n rest)
    → (f : List ℕ) × (bytes ≡ f ++ drop n rest) × Appends a c f
took_more a b c bytes front rest n whole before now = (
  front ++ take n rest,
  whole ∙ ap (λ r. front ++ r) (sym (take-append-drop n rest))
      ∙ sym (append_assoc front (take n rest) (drop n rest)),
  Appends-trans a b c front (take n rest) before now,
)
