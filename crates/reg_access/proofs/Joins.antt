-- A join whose test is asked at its end, as its rows where each part of the test is asked as soon as it can be.
use Rattle.std.proofs.Common.{◌≡◌, List, [], ◌∷◌, ◌++◌, map, Bool, true, false, ◌&&◌, cond, refl, ap, ◌∙◌}
use Rattle.std.specs.List.{flat_map, filter}
use Rattle.reg_tables_schema.proofs.Queries.{shows_filtered, same_filter}

none_pass : {D : Type 0} (ys : List D) → ◌≡◌ {A = List D} (filter (λ y. false) ys) []
none_pass [] = refl
none_pass (y ∷ ys) = none_pass ys

-- a test of which one part is the same for all
gated : {D C : Type 0} (b : Bool) (p t : D → Bool) → ((y : D) → t y ≡ (b && p y)) → (h : D → C) (ys : List D) → map h (filter t ys) ≡ cond b (map h (filter p ys)) []
gated true p t same h ys = ap (map h) (same_filter t p same ys)
gated false p t same h ys = ap (map h) (same_filter t (λ y. false) same ys ∙ none_pass ys)

two_maps : {B C : Type 0} (g : B → C) (a b : List B) → map g (a ++ b) ≡ map g a ++ map g b
two_maps g [] b = refl
two_maps g (y ∷ a) b = ap (λ ys. g y ∷ ys) (two_maps g a b)

map_join : {A B C : Type 0} (g : B → C) (h : A → List B) (xs : List A) → map g (flat_map h xs) ≡ flat_map (λ x. map g (h x)) xs
map_join g h [] = refl
map_join g h (x ∷ xs) = two_maps g (h x) (flat_map h xs) ∙ ap (λ ys. map g (h x) ++ ys) (map_join g h xs)

pub same_join : {A B : Type 0} (f g : A → List B) → ((x : A) → f x ≡ g x) → (xs : List A) → flat_map f xs ≡ flat_map g xs
same_join f g h [] = refl
same_join f g h (x ∷ xs) = rw (h x, same_join f g h xs)

outer_one : {A C : Type 0} (b : Bool) (K : A → List C) (x : A) (more : List C) (rest : List A) → more ≡ flat_map K rest → cond b (K x) [] ++ more ≡ flat_map K (cond b (x ∷ rest) rest)
outer_one true K x more rest h = ap (λ ys. K x ++ ys) h
outer_one false K x more rest h = h

outer_rows : {A C : Type 0} (b : A → Bool) (K : A → List C) (xs : List A) → flat_map (λ x. cond (b x) (K x) []) xs ≡ flat_map K (filter b xs)
outer_rows b K [] = refl
outer_rows b K (x ∷ xs) = outer_one (b x) K x (flat_map (λ y. cond (b y) (K y) []) xs) (filter b xs) (outer_rows b K xs)

-- a join of rows with some of others, where the whole test is one of the first row and one of both
pub joined_where : {A D B C : Type 0} (f : A → D → B) (g : B → C) (ys : A → List D) (b : A → Bool) (p t : A → D → Bool) → ((x : A) (y : D) → t x y ≡ (b x && p x y)) → (xs : List A)
    → map g (flat_map (λ x. flat_map (λ y. cond (t x y) (f x y ∷ []) []) (ys x)) xs) ≡ flat_map (λ x. map (λ y. g (f x y)) (filter (p x) (ys x))) (filter b xs)
joined_where f g ys b p t same xs =
    map_join g (λ x. flat_map (λ y. cond (t x y) (f x y ∷ []) []) (ys x)) xs
    ∙ same_join _ _ (λ x. shows_filtered (t x) (f x) g (ys x) ∙ gated (b x) (p x) (t x) (same x) (λ y. g (f x y)) (ys x)) xs
    ∙ outer_rows b (λ x. map (λ y. g (f x y)) (filter (p x) (ys x))) xs

-- A test of the first row alone, at the end of LEFT JOINs: at the last of them, and at one before.
gated_last : {D B C : Type 0} (b : Bool) (f : D → B) (g : B → C) (ys : List D) → map g (flat_map (λ y. cond (b && true) (f y ∷ []) []) ys) ≡ cond b (map (λ y. g (f y)) ys) []
gated_last true f g [] = refl
gated_last true f g (y ∷ ys) = ap (λ zs. g (f y) ∷ zs) (gated_last true f g ys)
gated_last false f g [] = refl
gated_last false f g (y ∷ ys) = gated_last false f g ys

gated_join : {D B : Type 0} (b : Bool) (K : D → List B) (ys : List D) → flat_map (λ y. cond b (K y) []) ys ≡ cond b (flat_map K ys) []
gated_join true K ys = refl
gated_join false K [] = refl
gated_join false K (y ∷ ys) = gated_join false K ys

gated_before : {D B C : Type 0} (b : Bool) (g : B → C) (h : D → List B) (K : D → List C) → ((y : D) → map g (h y) ≡ cond b (K y) []) → (ys : List D) → map g (flat_map h ys) ≡ cond b (flat_map K ys) []
gated_before b g h K each ys = map_join g h ys ∙ same_join (λ y. map g (h y)) (λ y. cond b (K y) []) each ys ∙ gated_join b K ys

-- three LEFT JOINs
pub joined_thrice : {A D E F B C : Type 0} (f : A → D → E → F → B) (g : B → C) (ys : A → List D) (zs : A → D → List E) (ws : A → D → E → List F) (b : A → Bool) (xs : List A)
    → map g (flat_map (λ x. flat_map (λ y. flat_map (λ z. flat_map (λ w. cond (b x && true) (f x y z w ∷ []) []) (ws x y z)) (zs x y)) (ys x)) xs)
    ≡ flat_map (λ x. flat_map (λ y. flat_map (λ z. map (λ w. g (f x y z w)) (ws x y z)) (zs x y)) (ys x)) (filter b xs)
joined_thrice f g ys zs ws b xs =
    map_join g (λ x. flat_map (λ y. flat_map (λ z. flat_map (λ w. cond (b x && true) (f x y z w ∷ []) []) (ws x y z)) (zs x y)) (ys x)) xs
    ∙ same_join _ _ (λ x. gated_before (b x) g (λ y. flat_map (λ z. flat_map (λ w. cond (b x && true) (f x y z w ∷ []) []) (ws x y z)) (zs x y)) (λ y. flat_map (λ z. map (λ w. g (f x y z w)) (ws x y z)) (zs x y)) (λ y.
    gated_before (b x) g (λ z. flat_map (λ w. cond (b x && true) (f x y z w ∷ []) []) (ws x y z)) (λ z. map (λ w. g (f x y z w)) (ws x y z)) (λ z. gated_last (b x) (f x y z) g (ws x y z)) (zs x y)) (ys x)) xs
    ∙ outer_rows b (λ x. flat_map (λ y. flat_map (λ z. map (λ w. g (f x y z w)) (ws x y z)) (zs x y)) (ys x)) xs
