-- Texts that rise and are the canonical texts of the crates are their list.
use Rattle.reg_model.proofs.Words.{◌≡◌, true, List, [], ◌∷◌, map, Option, Some, None, refl, sym, ap, ◌∙◌, is_some, AllByRecursion, list_any}
use Rattle.reg_model.proofs.Words.{eq_by_cmp, nat_list_cmp_total, bytes_eq, Registry, Text, text_cmp, canons, has_crate}
use Rattle.std.proofs.Common.{Less}
use Rattle.std.specs.FinMap as finmap
use Rattle.std.specs.FinMap.Entries as entries
use Rattle.std.specs.List.Sorted.{IsStrictlySortedBy}
use Rattle.reg_model.proofs.Canons.{Keyed, by_canon, key_there, text_agrees}
use Rattle.reg_model.proofs.Keys.{text_apart}
use Rattle.reg_model.proofs.Lists.{any_same}

abbrev as_key : Text → Keyed
as_key t = (t, tt {0})

keys_back : (ts : List Text) → map (λ e. e.0) (map as_key ts) ≡ ts
keys_back [] = refl
keys_back (t ∷ ts) = ap (λ us. t ∷ us) (keys_back ts)

below : (t : Text) (ts : List Text) → AllByRecursion (λ u. text_cmp t u ≡ Less) ts → entries.below_all text_cmp t (map as_key ts) ≡ true
below t [] h = refl
below t (u ∷ ts) h = rw h.0 (below t ts h.1)

rises : (ts : List Text) → IsStrictlySortedBy text_cmp ts → entries.is_sorted text_cmp (map as_key ts) ≡ true
unfolding IsStrictlySortedBy
rises [] h = refl
rises (t ∷ ts) h = rw (below t ts h.0) (rises ts h.1)

one_unit : (a b : Option (Unit {0})) → is_some a ≡ is_some b → a ≡ b
one_unit None None e = refl
one_unit (Some x) (Some y) e = refl
one_unit None (Some y) e = absurd cc
one_unit (Some x) None e = absurd cc

-- texts that rise, and are there as those of the crates are, are those of the crates
pub all_canons : (s : Registry) (ts : List Text) → IsStrictlySortedBy text_cmp ts → ((q : Text) → list_any (eq_by_cmp text_cmp q) ts ≡ list_any (eq_by_cmp text_cmp q) (canons s)) → ts ≡ canons s
all_canons s ts up same =
    let all = finmap.entries (by_canon s) in
    let is : map as_key ts ≡ all =
    entries.same_entries text_cmp nat_list_cmp_total text_apart (map as_key ts) all (rw (rises ts up) tt) (finmap.entries_sorted (by_canon s))
    (λ q. one_unit (entries.find text_cmp q (map as_key ts)) (entries.find text_cmp q all)
    (entries.is_some-find text_cmp q (map as_key ts) ∙ ap (list_any (eq_by_cmp text_cmp q)) (keys_back ts) ∙ same q ∙ sym (entries.is_some-find text_cmp q all))) in
    sym (keys_back ts) ∙ ap (map (λ e. e.0)) is

-- the same by the crates that are there
pub canons_listed : (s : Registry) (ts : List Text) → IsStrictlySortedBy text_cmp ts → ((t : Text) → list_any (λ u. bytes_eq u t) ts ≡ has_crate s t) → ts ≡ canons s
canons_listed s ts up there =
    all_canons s ts up (λ q. any_same (eq_by_cmp text_cmp q) (λ u. bytes_eq u q) (λ u. sym (text_agrees q u)) ts ∙ there q ∙ sym (key_there s q))
