-- The words of a list, comma by comma.
use Rattle.std.proofs.Common.{◌≡◌, ℕ, ◌<◌, ◌≤◌, ◌==◌, ◌||◌, Bool, List, length, take, drop, ap, ◌∙◌, arith}
use Rattle.std.specs.List.{list_any, position_or_len}
use Rattle.std.proofs.lemmas.List.{drop-drop}
use Rattle.std.proofs.lemmas.List.Splits.{slice_split_first, slice_split_none}
use Rattle.std.proofs.lemmas.List.Sums.{fails_before_first}
use Rattle.std.proofs.Math.Bool.{or-false}
use Rattle.httparse.specs.Grammar.{trim_ows}
use Rattle.reg_http_read.specs.Fields.{same_word, lists_word}

abbrev pub is_comma : ℕ → Bool
is_comma b = b == 44

pub lists_more : (word rest : List ℕ) (at : ℕ) → at ≡ position_or_len is_comma rest → at < length rest
    → lists_word word rest ≡ (same_word (trim_ows (take at rest)) word || lists_word word (drop 1 (drop at rest)))
lists_more word rest at is inside =
    let here : position_or_len is_comma rest < length rest = omega arith in
    let cut = ap (list_any (λ part. same_word (trim_ows part) word)) (slice_split_first is_comma rest 0 here) in
    rw (drop-drop, is) cut

pub lists_last : (word rest : List ℕ) (at : ℕ) → at ≡ position_or_len is_comma rest → length rest ≤ at
    → lists_word word rest ≡ same_word (trim_ows rest) word
lists_last word rest at is past =
    ap (list_any (λ part. same_word (trim_ows part) word))
    (slice_split_none is_comma rest (λ i d l. fails_before_first is_comma rest i d (omega arith)))
    ∙ or-false (same_word (trim_ows rest) word)
