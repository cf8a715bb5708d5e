-- Known bytes over several calls.
use Rattle.std.proofs.Common.{◌≡◌, ℕ, List, ◌++◌, take, drop, sym, ap, ◌∙◌, append_assoc, append-nil, take-append-drop, Option, None, Some, IfSome}
use Rattle.std.specs.Io.KnownBytes.{Appends, Consumes, IsAtEnd}
use Rattle.std.proofs.KnownBytes.{Appends-trans}

-- a read that gave nothing
pub read_none : (a b c : Option (List ℕ)) (xs ys : List ℕ) (n : ℕ) → n ≡ 0 → Consumes a b xs → Consumes b c (take n ys) → Consumes a c xs
read_none None b c xs ys n e h k = tt
read_none (Some x) None c xs ys n e h k = absurd h
read_none (Some x) (Some y) None xs ys n e h k = k
read_none (Some x) (Some y) (Some z) xs ys n e h k = let same : y ≡ z = rw e at k in rw (← same) h

-- a reader that is at its end gave all that it had
pub read_whole : (a b : Option (List ℕ)) (xs : List ℕ) → Consumes a b xs → IsAtEnd b → IfSome a (λ ys. xs ≡ ys)
read_whole None b xs h k = tt
read_whole (Some x) None xs h k = absurd h
read_whole (Some x) (Some y) xs h k = sym (append-nil xs) ∙ sym (rw k at h)

-- one more write: the front grows by what the writer took of the rest
pub front_grown : (a b c : Option (List ℕ)) (bytes front rest : List ℕ) (n : ℕ)
    → bytes ≡ front ++ rest → Appends a b front → Appends b c (take n rest)
    → (more : List ℕ) × (bytes ≡ more ++ drop n rest) × Appends a c more
front_grown a b c bytes front rest n whole before now = (
  front ++ take n rest,
  whole ∙ ap (λ r. front ++ r) (sym (take-append-drop n rest)) ∙ sym (append_assoc front (take n rest) (drop n rest)),
  Appends-trans a b c front (take n rest) before now,
)
