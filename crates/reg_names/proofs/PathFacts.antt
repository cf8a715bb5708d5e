-- Where the folder of an index path ends.
use Rattle.std.proofs.Common.{◌≡◌, ◌⊎◌, ◌<◌, ℕ, List, [], ◌∷◌, ◌++◌, length, inl, inr, refl, arith}
use Rattle.reg_names.specs.Names.{folder_of}

-- how long a path is, and how long its folder is
pub path_lengths : (m : List ℕ) → 0 < length m →
    ((length (folder_of m ++ m) ≡ 3) × (length (folder_of m) ≡ 2))
    ⊎ (((length (folder_of m ++ m) ≡ 4) × (length (folder_of m) ≡ 2))
    ⊎ (((length (folder_of m ++ m) ≡ 7) × (length (folder_of m) ≡ 4))
    ⊎ ((9 < length (folder_of m ++ m)) × (length (folder_of m) ≡ 6))))
path_lengths [] h = absurd (omega arith)
path_lengths (a ∷ []) h = inl (refl, refl)
path_lengths (a ∷ b ∷ []) h = inr (inl (refl, refl))
path_lengths (a ∷ b ∷ c ∷ []) h = inr (inr (inl (refl, refl)))
path_lengths (a ∷ b ∷ c ∷ d ∷ rest) h = inr (inr (inr (omega arith, refl)))
