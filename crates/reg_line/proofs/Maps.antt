-- Features in a map, as members of an object, and put in one after another.
use Rattle.reg_line.proofs.Words.{◌≡◌, ℕ, Bool, true, false, not, cond, List, [], ◌∷◌, map, filter, String, Global, string_bytes}
use Rattle.reg_line.proofs.Words.{string_cmp, nat_cmp, Ordering, Less, refl, ap, ◌∙◌, and_parts, and_from, insert_entry, slice_cmp, is_lt}
use Rattle.reg_line.proofs.Words.{Data, Members, no_members, member, put, Features, feature_view, is_newer, newer, older, feature_members}
use Rattle.std.proofs.Common.{Vec}
use Rattle.std.specs.List.{AllByRecursion}
use Rattle.std.specs.List.Sorted.{IsStrictlySortedBy}
use Rattle.std.specs.Map.{keys_of}
use Rattle.reg_line.specs.Features.{texts}
use Rattle.reg_line.proofs.Back.{all_above, ascending, put_above, reversed, is_less}

abbrev pub Feature : Type 0
Feature = List ℕ × List (List ℕ)

abbrev pub Held : Type 0
Held = String Global × Vec (String Global) Global

-- ---- a map's entries

pub less_lt : (o : Ordering) → o ≡ Less → is_lt o ≡ true
less_lt o h = rw h refl

above_view : (e : Held) (es : List Held) → AllByRecursion (λ y. string_cmp e.0 y ≡ Less) (keys_of es) → all_above (string_bytes e.0) (feature_members (map feature_view es)) ≡ true
above_view e [] h = refl
above_view e (f ∷ es) h = and_from _ _ (less_lt _ h.0) (above_view e es h.1)

-- the entries of a map ascend
pub ascending_view : (es : List Held) → IsStrictlySortedBy string_cmp (keys_of es) → ascending (feature_members (map feature_view es)) ≡ true
unfolding IsStrictlySortedBy
ascending_view [] h = refl
ascending_view (e ∷ es) h = and_from _ _ (above_view e es h.0) (ascending_view es h.1)

-- ---- some of those that ascend

above_cond : (k : List ℕ) (b : Bool) (f : Feature) (fs gs : Features) → all_above k (feature_members (f ∷ fs)) ≡ true → all_above k (feature_members gs) ≡ true
    → all_above k (feature_members (cond b (f ∷ gs) gs)) ≡ true
above_cond k true f fs gs h r = and_from _ _ (and_parts _ _ h).0 r
above_cond k false f fs gs h r = r

pub above_filter : (p : Feature → Bool) (k : List ℕ) (fs : Features) → all_above k (feature_members fs) ≡ true → all_above k (feature_members (filter p fs)) ≡ true
above_filter p k [] h = refl
above_filter p k (f ∷ fs) h = above_cond k (p f) f fs (filter p fs) h (above_filter p k fs (and_parts _ _ h).1)

ascending_cond : (b : Bool) (f : Feature) (gs : Features) → all_above f.0 (feature_members gs) ≡ true → ascending (feature_members gs) ≡ true → ascending (feature_members (cond b (f ∷ gs) gs)) ≡ true
ascending_cond true f gs h r = and_from _ _ h r
ascending_cond false f gs h r = r

pub ascending_filter : (p : Feature → Bool) (fs : Features) → ascending (feature_members fs) ≡ true → ascending (feature_members (filter p fs)) ≡ true
ascending_filter p [] h = refl
ascending_filter p (f ∷ fs) h =
    let a = and_parts (all_above f.0 (feature_members fs)) _ h in
    ascending_cond (p f) f (filter p fs) (above_filter p f.0 fs a.0) (ascending_filter p fs a.1)

-- ---- put in one after another

abbrev pub put_all : Features → Members → Members
put_all [] found = found
put_all (f ∷ fs) found = put_all fs (put f.0 (texts f.1) found)

put_all_above : (k : List ℕ) (d : Data) (fs : Features) (found : Members) → all_above k (feature_members fs) ≡ true → put_all fs (member k d found) ≡ member k d (put_all fs found)
put_all_above k d [] found h = refl
put_all_above k d (f ∷ fs) found h =
    let a = and_parts (is_lt (slice_cmp nat_cmp k f.0)) _ h in
    ap (put_all fs) (put_above k f.0 d (texts f.1) found a.0) ∙ put_all_above k d fs (put f.0 (texts f.1) found) a.1

pub put_all_ascending : (fs : Features) → ascending (feature_members fs) ≡ true → put_all fs no_members ≡ feature_members fs
put_all_ascending [] h = refl
put_all_ascending (f ∷ fs) h =
    let a = and_parts (all_above f.0 (feature_members fs)) _ h in
    put_all_above f.0 (texts f.1) fs no_members a.0 ∙ ap (member f.0 (texts f.1)) (put_all_ascending fs a.1)

-- ---- the same for features

abbrev pub insert_all : Features → Features → Features
insert_all [] found = found
insert_all (f ∷ fs) found = insert_all fs (insert_entry (slice_cmp nat_cmp) found f.0 f.1)

pub insert_above : (g f : Feature) (found : Features) → is_lt (slice_cmp nat_cmp g.0 f.0) ≡ true → insert_entry (slice_cmp nat_cmp) (g ∷ found) f.0 f.1 ≡ g ∷ insert_entry (slice_cmp nat_cmp) found f.0 f.1
insert_above g f found h = rw (reversed g.0 f.0 h) refl

insert_all_above : (g : Feature) (fs found : Features) → all_above g.0 (feature_members fs) ≡ true → insert_all fs (g ∷ found) ≡ g ∷ insert_all fs found
insert_all_above g [] found h = refl
insert_all_above g (f ∷ fs) found h =
    let a = and_parts (is_lt (slice_cmp nat_cmp g.0 f.0)) _ h in
    ap (insert_all fs) (insert_above g f found a.0) ∙ insert_all_above g fs (insert_entry (slice_cmp nat_cmp) found f.0 f.1) a.1

-- a key that is below all goes first
insert_below : (f : Feature) (found : Features) → all_above f.0 (feature_members found) ≡ true → insert_entry (slice_cmp nat_cmp) found f.0 f.1 ≡ f ∷ found
insert_below f [] h = refl
insert_below f (g ∷ found) h = rw (is_less (slice_cmp nat_cmp f.0 g.0) (and_parts (is_lt (slice_cmp nat_cmp f.0 g.0)) _ h).0) refl

merge_step : (b : Bool) (f : Feature) (fs news olds : Features) → all_above f.0 (feature_members news) ≡ true → all_above f.0 (feature_members olds) ≡ true
    → insert_all news olds ≡ fs → insert_all (cond b (f ∷ news) news) (cond (not b) (f ∷ olds) olds) ≡ f ∷ fs
merge_step true f fs news olds above low e = ap (insert_all news) (insert_below f olds low) ∙ insert_all_above f news olds above ∙ ap (λ (gs : Features). f ∷ gs) e
merge_step false f fs news olds above low e = insert_all_above f news olds above ∙ ap (λ (gs : Features). f ∷ gs) e

-- the newer ones put among the older give all of them
pub merge : (fs : Features) → ascending (feature_members fs) ≡ true → insert_all (newer fs) (older fs) ≡ fs
merge [] h = refl
merge (f ∷ fs) h =
    let a = and_parts (all_above f.0 (feature_members fs)) _ h in
    merge_step (is_newer f) f fs (newer fs) (older fs) (above_filter is_newer f.0 fs a.0) (above_filter (λ g. not (is_newer g)) f.0 fs a.0) (merge fs a.1)
