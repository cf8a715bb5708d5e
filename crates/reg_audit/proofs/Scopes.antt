-- The check of a scope against its pattern.
use Rattle.reg_audit.proofs.Words.{◌≡◌, ℕ, List, Bool, true, false, Some, None, ap, ◌∙◌, ◌&&◌, if◌then◌else◌, bytes_eq, pattern_of}
use Rattle.reg_names.specs.Patterns.{is_pattern}
use Rattle.reg_names.specs.Ranges.{Range, range_of}

pub in_range_of : (low high text p : List ℕ) (r : Range) → pattern_of text ≡ Some p → r ≡ range_of p
    → (bytes_eq low r.low && bytes_eq high r.high) ≡ (is_pattern text && (bytes_eq low (range_of text).low && bytes_eq high (range_of text).high))
in_range_of low high text p r found is = go (is_pattern text) found
  where
    go : (b : Bool) → (if b then Some text else None) ≡ Some p → (bytes_eq low r.low && bytes_eq high r.high) ≡ (b && (bytes_eq low (range_of text).low && bytes_eq high (range_of text).high))
    go true same =
        let same_text : p ≡ text = cc in
        ap (λ (q : Range). bytes_eq low q.low && bytes_eq high q.high) (is ∙ ap range_of same_text)
    go false same = absurd cc
