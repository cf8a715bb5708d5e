-- What comes once and in order is known by what is in it.
use Rattle.std.proofs.Common.{◌≡◌, ◌≢◌, ◌⊎◌, inl, inr, Bool, false, List, [], ◌∷◌, ◌++◌, map, refl, sym, ap, ap₂, subst, ◌∙◌, true≢false, Ordering, Less, Equal, Greater, is_lt, is_gt, is_eq, IsPermutation, IsSorted}
use Rattle.std.specs.Cmp.{IsTotalOrder}
use Rattle.std.specs.List.{AllByRecursion, IsDistinct, flat_map}
use Rattle.std.specs.Ordering.{ordering_reverse}
use Rattle.std.proofs.lemmas.Cmp.{tied_back, tied_itself}
use Rattle.std.proofs.lemmas.List.Sorted.{IsPermutation-sym}
use Rattle.std.proofs.lemmas.Map.Keys.{IsDistinct-IsPermutation}
use Rattle.sqlite_exec.proofs.PartitionLemmas.{ascending_from_sorted}
use Rattle.sqlite_keyed.proofs.ListLemmas.{all_map, all_weaker}
use Rattle.sqlite_sql.specs.Group.{IsDistinctOf, members}
use Rattle.sqlite_trees.specs.Tree.{IsAscending}
use Rattle.reg_model.proofs.Members.{IsIn, each_in, in_map, in_more, in_permuted, map_in}

in_behind : {Y : Type 0} (xs ys : List Y) (y : Y) → IsIn y ys → IsIn y (xs ++ ys)
in_behind [] ys y i = i
in_behind (x ∷ xs) ys y i = inr (in_behind xs ys y i)

in_either : {Y : Type 0} (xs ys : List Y) (y : Y) → IsIn y (xs ++ ys) → IsIn y xs ⊎ IsIn y ys
in_either [] ys y i = inr i
in_either (x ∷ xs) ys y (inl e) = inl (inl e)
in_either (x ∷ xs) ys y (inr i) = by (in_either xs ys y i)
  where
    by : IsIn y xs ⊎ IsIn y ys → IsIn y (x ∷ xs) ⊎ IsIn y ys
    by (inl j) = inl (inr j)
    by (inr j) = inr j

module _ {X Y : Type 0} (f : X → List Y) where
  pub flat_in : (xs : List X) (x : X) (y : Y) → IsIn x xs → IsIn y (f x) → IsIn y (flat_map f xs)
  flat_in [] x y i j = absurd i
  flat_in (z ∷ zs) x y (inl e) j = in_more (f z) (flat_map f zs) y (subst (λ w. IsIn y (f w)) (sym e) j)
  flat_in (z ∷ zs) x y (inr i) j = in_behind (f z) (flat_map f zs) y (flat_in zs x y i j)

  pub in_flat : (xs : List X) (y : Y) → IsIn y (flat_map f xs) → (x : X) × IsIn x xs × IsIn y (f x)
  in_flat [] y i = absurd i
  in_flat (x ∷ xs) y i = by (in_either (f x) (flat_map f xs) y i) (in_flat xs y)
    where
      by : IsIn y (f x) ⊎ IsIn y (flat_map f xs) → (IsIn y (flat_map f xs) → (z : X) × IsIn z xs × IsIn y (f z)) → (z : X) × IsIn z (x ∷ xs) × IsIn y (f z)
      by (inl j) rest = (x, inl refl, j)
      by (inr j) rest = let r = rest j in (r.0, inr r.1, r.2)

not_equal : (o : Ordering) → o ≢ Equal → is_eq o ≡ false
not_equal Less h = refl
not_equal Equal h = absurd (h refl)
not_equal Greater h = refl

turned : (o : Ordering) → is_eq (ordering_reverse o) ≡ is_eq o
turned Less = refl
turned Equal = refl
turned Greater = refl

module _ {X : Type 0} (by : X → X → Ordering) (total : IsTotalOrder by) where
  abbrev alike : X → X → Bool
  alike a b = is_eq (by a b)

  abbrev Apart : X → X → Type 0
  Apart a b = a ≡ b → ⊥

  heads_distinct : (gs : List (X × List X)) → IsAscending (λ g h. by g.0 h.0 ≢ Equal) gs → IsDistinct alike (map (λ (g : X × List X). g.0) gs)
  unfolding IsDistinct
  heads_distinct [] up = tt
  heads_distinct (g ∷ gs) up =
      let apart = all_weaker _ (λ (h : X × List X). alike g.0 h.0 ≡ false) (λ h differ. not_equal (by g.0 h.0) differ) gs up.0 in
      (all_map (λ y. alike g.0 y ≡ false) (λ (h : X × List X). h.0) gs apart, heads_distinct gs up.1)

  none_twice : (xs : List X) → IsDistinct alike xs → IsAscending Apart xs
  unfolding IsDistinct
  none_twice [] d = tt
  none_twice (x ∷ xs) d =
      let apart = all_weaker _ (Apart x) (λ z h e. true≢false (ap is_eq (sym (tied_itself total x)) ∙ ap (alike x) e ∙ h)) xs d.0 in
      (apart, none_twice xs d.1)

  apart_kept : (all kept ordered : List X) → IsDistinctOf by all kept → IsPermutation kept ordered → IsAscending Apart ordered
  apart_kept all kept ordered h same =
      let flips : (x y : X) → alike x y ≡ alike y x = λ x y. ap is_eq (total.antisymm x y) ∙ turned (by y x) in
      none_twice ordered (IsDistinct-IsPermutation alike flips kept ordered same (subst (IsDistinct alike) (sym h.2) (heads_distinct h.0 h.1.apart)))

  kept_in : (all kept : List X) → IsDistinctOf by all kept → (x : X) → IsIn x kept → IsIn x all
  kept_in all kept h x i =
      let g = map_in (λ (g : X × List X). g.0) h.0 x (subst (IsIn x) h.2 i) in
      in_permuted (flat_map members h.0) all x (IsPermutation-sym _ _ h.1.same) (flat_in members h.0 g.0 x g.1 (inl g.2))

  in_kept : (all kept : List X) (h : IsDistinctOf by all kept) → ((x y : X) → IsIn x all → IsIn y all → by x y ≡ Equal → x ≡ y) → (x : X) → IsIn x all → IsIn x kept
  in_kept all kept h one x i =
      let found = in_flat members h.0 x (in_permuted all (flat_map members h.0) x h.1.same i) in
      let g = found.0 in
      let head : IsIn g.0 kept = subst (IsIn g.0) (sym h.2) (in_map (λ (g : X × List X). g.0) h.0 g found.1) in
      subst (λ y. IsIn y kept) (is g (each_in (λ (g : X × List X). AllByRecursion (λ y. by g.0 y ≡ Equal) g.1) h.0 g h.1.alike found.1) (kept_in all kept h g.0 head) found.2) head
    where
      is : (g : X × List X) → AllByRecursion (λ y. by g.0 y ≡ Equal) g.1 → IsIn g.0 all → IsIn x (members g) → g.0 ≡ x
      is g same here (inl e) = e
      is g same here (inr j) = one g.0 x here i (each_in (λ y. by g.0 y ≡ Equal) g.1 x same j)

module _ {X : Type 0} (cmp : X → X → Ordering) (total : IsTotalOrder cmp) where
  abbrev Below : X → X → Type 0
  Below a b = cmp a b ≡ Less

  abbrev AtMost : X → X → Type 0
  AtMost a b = is_gt (cmp a b) ≡ false

  same_heads : (x y : X) (xs ys : List X) → AllByRecursion (Below x) xs → AllByRecursion (AtMost y) ys → IsIn x (y ∷ ys) → IsIn y (x ∷ xs) → y ≡ x
  same_heads x y xs ys below above (inl e) j = e
  same_heads x y xs ys below above (inr i) (inl e) = sym e
  same_heads x y xs ys below above (inr i) (inr j) =
      absurd (true≢false (ap (λ o. is_gt (ordering_reverse o)) (sym (each_in (Below x) xs y below j)) ∙ ap is_gt (sym (total.antisymm y x)) ∙ each_in (AtMost y) ys x above i))

  in_later : (x y : X) (xs ys : List X) → AllByRecursion (Below x) xs → y ≡ x → (z : X) → IsIn z xs → IsIn z (y ∷ ys) → IsIn z ys
  in_later x y xs ys below same z i (inr j) = j
  in_later x y xs ys below same z i (inl e) =
      absurd (true≢false (ap is_lt (sym (each_in (Below x) xs z below i)) ∙ ap (λ w. is_lt (cmp x w)) (sym e ∙ same) ∙ ap is_lt (tied_itself total x)))

  back_in : (x y : X) (xs ys : List X) → AllByRecursion (λ z. y ≡ z → ⊥) ys → y ≡ x → (z : X) → IsIn z ys → IsIn z (x ∷ xs) → IsIn z xs
  back_in x y xs ys apart same z i (inr j) = j
  back_in x y xs ys apart same z i (inl e) = absurd (each_in (λ z. y ≡ z → ⊥) ys z apart i (same ∙ e))

  same_sorted : (xs ys : List X) → IsAscending Below xs → IsAscending AtMost ys → IsAscending (λ a b. a ≡ b → ⊥) ys → ((z : X) → IsIn z xs → IsIn z ys) → ((z : X) → IsIn z ys → IsIn z xs) → ys ≡ xs
  same_sorted [] [] up sorted apart there back = refl
  same_sorted [] (y ∷ ys) up sorted apart there back = absurd (back y (inl refl))
  same_sorted (x ∷ xs) [] up sorted apart there back = absurd (there x (inl refl))
  same_sorted (x ∷ xs) (y ∷ ys) up sorted apart there back =
      let same = same_heads x y xs ys up.0 sorted.0 (there x (inl refl)) (back y (inl refl)) in
      ap₂ (λ h t. h ∷ t) same
      (same_sorted xs ys up.1 sorted.1 apart.1 (λ z i. in_later x y xs ys up.0 same z i (there z (inr i))) (λ z i. back_in x y xs ys apart.0 same z i (back z (inr i))))

  tied_in : (xs : List X) → IsAscending Below xs → (x y : X) → IsIn x xs → IsIn y xs → cmp x y ≡ Equal → x ≡ y
  tied_in [] up x y i j h = absurd i
  tied_in (z ∷ zs) up x y (inl a) (inl b) h = sym a ∙ b
  tied_in (z ∷ zs) up x y (inl a) (inr j) h =
      absurd (true≢false (ap is_lt (sym (each_in (Below z) zs y up.0 j)) ∙ ap (λ w. is_lt (cmp w y)) a ∙ ap is_lt h))
  tied_in (z ∷ zs) up x y (inr i) (inl b) h =
      absurd (true≢false (ap is_lt (sym (each_in (Below z) zs x up.0 i)) ∙ ap (λ w. is_lt (cmp w x)) b ∙ ap is_lt (tied_back total x y h)))
  tied_in (z ∷ zs) up x y (inr i) (inr j) h = tied_in zs up.1 x y i j h

  -- one of each, in order, where those that are wanted rise and what is told alike has one place
  pub in_turn_once : (by : X → X → Ordering) → IsTotalOrder by → (all kept ordered want : List X) → IsDistinctOf by all kept → IsPermutation kept ordered → IsSorted cmp ordered → IsAscending Below want
      → ((x : X) → IsIn x all → IsIn x want) → ((x : X) → IsIn x want → IsIn x all) → ((x y : X) → IsIn x want → IsIn y want → by x y ≡ Equal → cmp x y ≡ Equal) → ordered ≡ want
  in_turn_once by whole all kept ordered want h same sorted up wanted there tied =
      let one : (x y : X) → IsIn x all → IsIn y all → by x y ≡ Equal → x ≡ y = λ x y i j e. tied_in want up x y (wanted x i) (wanted y j) (tied x y (wanted x i) (wanted y j) e) in
      same_sorted want ordered up (ascending_from_sorted cmp total ordered sorted) (apart_kept by whole all kept ordered h same)
      (λ z i. in_permuted kept ordered z same (in_kept by whole all kept h one z (there z i)))
      (λ z i. wanted z (kept_in by whole all kept h z (in_permuted ordered kept z (IsPermutation-sym kept ordered same) i)))
