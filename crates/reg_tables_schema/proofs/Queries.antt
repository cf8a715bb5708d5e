-- What SELECT with WHERE answers, of one table or of two that are joined, and what SQL's = tells.
use Rattle.reg_tables_schema.proofs.Words.{◌≡◌, ℕ, ℤ, pos, negsuc, List, [], ◌∷◌, ◌++◌, map, Bool, true, false, ◌&&◌, cond, None, Some}
use Rattle.reg_tables_schema.proofs.Words.{refl, sym, ap, subst, ◌∙◌, flat_map, filter, IsPermutation, is_eq, Value, Null, Int, Text, Row}
use Rattle.reg_tables_schema.proofs.Words.{Term, lit, eval_all, is_true, Trees, Query, Join, IsSureAnswer, IsAnswer, matches, output}
use Rattle.reg_tables_schema.proofs.Words.{Output, Compare, Eq, Binary}
use Rattle.std.proofs.lemmas.List.Sorted.{IsPermutation-map}
use Rattle.sqlite.specs.declared.types.Value.TheVariants.{Real, Blob}
use Rattle.sqlite.specs.Order.{value_cmp}
use Rattle.sqlite.specs.Ops.{binary, from_truth}

-- SELECT with WHERE
abbrev pub plain : Join → List Term → List Term → Query
plain from filter project =
    record { from = from; filter = filter; group = None; project = project; distinct = false; collations = []; order = []; limit = lit (Int (negsuc 0)); offset = lit (Int (pos 0)) }

pub maps_twice : {A B C : Type 0} (f : A → B) (g : B → C) (xs : List A) → map g (map f xs) ≡ map (λ x. g (f x)) xs
maps_twice f g [] = refl
maps_twice f g (x ∷ xs) = ap (λ ys. g (f x) ∷ ys) (maps_twice f g xs)

-- the rows are those of the matches, in some order
pub answers : (db : Trees) (params : Row) (from : Join) (filter project : List Term) (rows : List Row) → IsSureAnswer (plain from filter project) db params rows
    → IsPermutation (map (eval_all project) (matches db filter from (params ∷ []))) rows
answers db params from filter project rows h =
    let q = plain from filter project in
    let a : IsAnswer q db params rows = h Null in
    let kept : a.kept ≡ map (output q) (matches db filter from (params ∷ [])) = a.distinct ∙ ap (map (output q)) a.grouped in
    let same = IsPermutation-map (λ (o : Output). o.1) a.kept a.ordered a.same in
    let shown : rows ≡ map (λ (o : Output). o.1) a.ordered = a.shown in
    let first : map (λ (o : Output). o.1) a.kept ≡ map (eval_all project) (matches db filter from (params ∷ [])) =
    ap (map (λ (o : Output). o.1)) kept ∙ maps_twice (output q) (λ (o : Output). o.1) (matches db filter from (params ∷ [])) in
    subst (λ ys. IsPermutation (map (eval_all project) (matches db filter from (params ∷ []))) ys) (sym shown) (subst (λ xs. IsPermutation xs (map (λ (o : Output). o.1) a.ordered)) first same)

show_one : {A B C : Type 0} (b : Bool) (f : A → B) (g : B → C) (x : A) (more : List B) (rest : List A) → map g more ≡ map (λ y. g (f y)) rest
    → map g (cond b (f x ∷ []) [] ++ more) ≡ map (λ y. g (f y)) (cond b (x ∷ rest) rest)
show_one true f g x more rest h = ap (λ ys. g (f x) ∷ ys) h
show_one false f g x more rest h = h

-- what is shown of the rows that pass
pub shows_filtered : {A B C : Type 0} (p : A → Bool) (f : A → B) (g : B → C) (xs : List A) → map g (flat_map (λ x. cond (p x) (f x ∷ []) []) xs) ≡ map (λ x. g (f x)) (filter p xs)
shows_filtered p f g [] = refl
shows_filtered p f g (x ∷ xs) = show_one (p x) f g x (flat_map (λ y. cond (p y) (f y ∷ []) []) xs) (filter p xs) (shows_filtered p f g xs)

pub same_filter : {A : Type 0} (p q : A → Bool) → ((x : A) → p x ≡ q x) → (xs : List A) → filter p xs ≡ filter q xs
same_filter p q h [] = refl
same_filter p q h (x ∷ xs) = rw (h x, same_filter p q h xs)

truth_is : (b : Bool) → is_true (from_truth (Some b)) ≡ b
truth_is true = refl
truth_is false = refl

-- SQL's = with a text
pub equals_text : (v : Value) (t : List ℕ) → is_true (binary (Compare Eq Binary) v (Text t)) ≡ is_eq (value_cmp v (Text t))
unfolding binary value_cmp
equals_text Null t = refl
equals_text (Int n) t = truth_is _
equals_text (Real x) t = truth_is _
equals_text (Text s) t = truth_is _
equals_text (Blob b) t = truth_is _

pub equals_int : (v : Value) (n : ℤ) → is_true (binary (Compare Eq Binary) v (Int n)) ≡ is_eq (value_cmp v (Int n))
unfolding binary value_cmp
equals_int Null n = refl
equals_int (Int m) n = truth_is _
equals_int (Real x) n = truth_is _
equals_int (Text s) n = truth_is _
equals_int (Blob b) n = truth_is _

pub equals_blob : (v : Value) (t : List ℕ) → is_true (binary (Compare Eq Binary) v (Blob t)) ≡ is_eq (value_cmp v (Blob t))
unfolding binary value_cmp
equals_blob Null t = refl
equals_blob (Int n) t = truth_is _
equals_blob (Real x) t = truth_is _
equals_blob (Text s) t = truth_is _
equals_blob (Blob b) t = truth_is _

pub and_true : (b : Bool) → (b && true) ≡ b
and_true true = refl
and_true false = refl

and_false : (b : Bool) → (b && false) ≡ false
and_false true = refl
and_false false = refl

map_two : {B C : Type 0} (g : B → C) (a b : List B) → map g (a ++ b) ≡ map g a ++ map g b
map_two g [] b = refl
map_two g (y ∷ a) b = ap (λ ys. g y ∷ ys) (map_two g a b)

map_join : {A B C : Type 0} (g : B → C) (h : A → List B) (xs : List A) → map g (flat_map h xs) ≡ flat_map (λ x. map g (h x)) xs
map_join g h [] = refl
map_join g h (x ∷ xs) = map_two g (h x) (flat_map h xs) ∙ ap (λ ys. map g (h x) ++ ys) (map_join g h xs)

none_pass : {A B : Type 0} (p : A → Bool) (f : A → B) (xs : List A) → flat_map (λ x. cond (p x && false) (f x ∷ []) []) xs ≡ []
none_pass p f [] = refl
none_pass p f (x ∷ xs) = rw (and_false (p x)) (none_pass p f xs)

inner_rows : {A B C : Type 0} (b : Bool) (p : A → Bool) (f : A → B) (g : B → C) (xs : List A)
    → map g (flat_map (λ x. cond (p x && (b && true)) (f x ∷ []) []) xs) ≡ cond b (map (λ x. g (f x)) (filter p xs)) []
inner_rows true p f g xs = shows_filtered (λ x. p x && true) f g xs ∙ ap (map (λ x. g (f x))) (same_filter (λ x. p x && true) p (λ x. and_true (p x)) xs)
inner_rows false p f g xs = ap (map g) (none_pass p f xs)

outer_one : {A C : Type 0} (b : Bool) (K : A → List C) (x : A) (more : List C) (rest : List A) → more ≡ flat_map K rest → cond b (K x) [] ++ more ≡ flat_map K (cond b (x ∷ rest) rest)
outer_one true K x more rest h = ap (λ ys. K x ++ ys) h
outer_one false K x more rest h = h

outer_rows : {A C : Type 0} (b : A → Bool) (K : A → List C) (xs : List A) → flat_map (λ x. cond (b x) (K x) []) xs ≡ flat_map K (filter b xs)
outer_rows b K [] = refl
outer_rows b K (x ∷ xs) = outer_one (b x) K x (flat_map (λ y. cond (b y) (K y) []) xs) (filter b xs) (outer_rows b K xs)

same_join : {A B : Type 0} (f g : A → List B) → ((x : A) → f x ≡ g x) → (xs : List A) → flat_map f xs ≡ flat_map g xs
same_join f g h [] = refl
same_join f g h (x ∷ xs) = rw (h x, same_join f g h xs)

-- a join on a test of both rows, where another test is on the first row alone
pub joined : {A D B C : Type 0} (p : A → D → Bool) (b : A → Bool) (f : A → D → B) (g : B → C) (xs : List A) (ys : List D)
    → map g (flat_map (λ x. flat_map (λ y. cond (p x y && (b x && true)) (f x y ∷ []) []) ys) xs) ≡ flat_map (λ x. map (λ y. g (f x y)) (filter (p x) ys)) (filter b xs)
joined p b f g xs ys =
    map_join g (λ x. flat_map (λ y. cond (p x y && (b x && true)) (f x y ∷ []) []) ys) xs
    ∙ same_join _ _ (λ x. inner_rows (b x) (p x) (f x) g ys) xs
    ∙ outer_rows b (λ x. map (λ y. g (f x y)) (filter (p x) ys)) xs
