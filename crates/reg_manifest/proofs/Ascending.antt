-- Members whose keys ascend, and entries put in behind those that are below them.
use Rattle.std.proofs.Common.{◌≡◌, ℕ, ◌&&◌, Bool, true, List, [], ◌∷◌, map, String, Vec, Global, string_bytes, string_cmp, nat_cmp, Ordering, Less, Equal, Greater, refl, ap, ◌∙◌}
use Rattle.std.proofs.lemmas.Bool.{and_from}
use Rattle.std.proofs.lemmas.Cmp.{nat_list_cmp_total}
use Rattle.std.specs.BTreeMap.{insert_entry}
use Rattle.std.specs.Cmp.Lexicographic.{slice_cmp}
use Rattle.std.specs.List.{AllByRecursion}
use Rattle.std.specs.List.Sorted.{IsStrictlySortedBy}
use Rattle.std.specs.Map.{keys_of}
use Rattle.std.specs.Ordering.{is_lt, match_ordering, ordering_reverse}
use Rattle.serde_json.specs.Data.{Members, no_members, member}
use Rattle.serde_json.specs.View.{members_view}
use Rattle.serde_json.specs.declared.value.Value.{Value}
use Rattle.reg_manifest.specs.Fields.{Features}
use Rattle.reg_manifest.specs.Manifests.{feature_view}

-- k is below every key
abbrev pub all_above : List ℕ → Members → Bool
all_above k no_members = true
all_above k (member l e ms) = is_lt (slice_cmp nat_cmp k l) && all_above k ms

-- each key is below those after it
abbrev pub ascending : Members → Bool
ascending no_members = true
ascending (member k d ms) = all_above k ms && ascending ms

is_less : (o : Ordering) → is_lt o ≡ true → o ≡ Less
is_less Less h = refl
is_less Equal h = absurd (cc)
is_less Greater h = absurd (cc)

reversed : (k l : List ℕ) → is_lt (slice_cmp nat_cmp k l) ≡ true → slice_cmp nat_cmp l k ≡ Greater
reversed k l h = nat_list_cmp_total.antisymm l k ∙ ap ordering_reverse (is_less _ h)

-- what is above the first goes behind it
pub insert_above : (g f : List ℕ × List (List ℕ)) (found : Features) → is_lt (slice_cmp nat_cmp g.0 f.0) ≡ true
    → insert_entry (slice_cmp nat_cmp) (g ∷ found) f.0 f.1 ≡ g ∷ insert_entry (slice_cmp nat_cmp) found f.0 f.1
insert_above g f found h = rw (reversed g.0 f.0 h) refl

abbrev Held : Type 0
Held = String Global × Vec (String Global) Global

view-match_ordering : (o : Ordering) (a b c : List Held) → map feature_view (match_ordering o a b c) ≡ match_ordering o (map feature_view a) (map feature_view b) (map feature_view c)
view-match_ordering Less a b c = refl
view-match_ordering Equal a b c = refl
view-match_ordering Greater a b c = refl

-- putting in, as contracts see it
pub view-insert_entry : (es : List Held) (k : String Global) (v : Vec (String Global) Global)
    → map feature_view (insert_entry string_cmp es k v) ≡ insert_entry (slice_cmp nat_cmp) (map feature_view es) (string_bytes k) (map string_bytes v.items)
view-insert_entry [] k v = refl
view-insert_entry (e ∷ es) k v = view-match_ordering (string_cmp k e.0) _ _ _ ∙ rw (view-insert_entry es k v) refl

abbrev Entry : Type 0
Entry = String Global × Value

less_lt : (o : Ordering) → o ≡ Less → is_lt o ≡ true
less_lt o h = rw h refl

above_members : (e : Entry) (es : List Entry) → AllByRecursion (λ y. string_cmp e.0 y ≡ Less) (keys_of es) → all_above (string_bytes e.0) (members_view es) ≡ true
above_members e [] h = refl
above_members e (f ∷ es) h = and_from _ _ (less_lt _ h.0) (above_members e es h.1)

-- the members of an object ascend
pub ascending_members : (es : List Entry) → IsStrictlySortedBy string_cmp (keys_of es) → ascending (members_view es) ≡ true
unfolding IsStrictlySortedBy
ascending_members [] h = refl
ascending_members (e ∷ es) h = and_from _ _ (above_members e es h.0) (ascending_members es h.1)
