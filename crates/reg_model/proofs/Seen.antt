-- What is seen of a crate depends on its canonical text alone.
use Rattle.reg_model.proofs.Words.{◌≡◌, ℕ, Bool, Option, ap, not, ◌&&◌, ◌||◌, enumerate_from, filter, canon, Text, Registry, holds}
use Rattle.reg_model.proofs.Words.{has_crate, is_among, sees}
use Rattle.std.specs.FinSet as finset

abbrev seen_at : Registry → Option ℕ → Text → Bool
seen_at s who c =
    has_crate s c && (not (finset.contains s.restricted c) || holds (λ id.
    is_among (filter (λ o. finset.contains s.owners (c, o.0)) (enumerate_from 1 s.accounts)) id
    || is_among (filter (λ o. finset.contains s.readers (c, o.0)) (enumerate_from 1 s.accounts)) id) who)

pub sees_alike : (s : Registry) (who : Option ℕ) (n m : Text) → canon n ≡ canon m → sees s who n ≡ sees s who m
sees_alike s who n m e = ap (seen_at s who) e
