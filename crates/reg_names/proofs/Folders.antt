-- The folders of longer names, by what the code takes of them.
use Rattle.std.proofs.Common.{◌≡◌, ◌<◌, ℕ, List, [], ◌∷◌, ◌++◌, length, take, drop, codes, refl, arith}
use Rattle.reg_names.specs.Names.{folder_of}

pub three : (m : List ℕ) → length m ≡ 3 → folder_of m ≡ (codes "3/" ++ take 1 m) ++ codes "/"
three [] h = absurd (omega arith)
three (a ∷ []) h = absurd (omega arith)
three (a ∷ b ∷ []) h = absurd (omega arith)
three (a ∷ b ∷ c ∷ []) h = refl
three (a ∷ b ∷ c ∷ d ∷ rest) h = absurd (omega arith)

pub longer : (m : List ℕ) → 3 < length m → folder_of m ≡ ((take 2 m ++ codes "/") ++ take 2 (drop 2 m)) ++ codes "/"
longer [] h = absurd (omega arith)
longer (a ∷ []) h = absurd (omega arith)
longer (a ∷ b ∷ []) h = absurd (omega arith)
longer (a ∷ b ∷ c ∷ []) h = absurd (omega arith)
longer (a ∷ b ∷ c ∷ d ∷ rest) h = refl
