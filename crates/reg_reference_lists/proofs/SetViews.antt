-- A vector of items stands for the set of their keys.
use Rattle.reg_reference_lists.proofs.Words.{◌≡◌, ℕ, List, [], ◌∷◌, ◌++◌, Bool, true, false, refl, sym, ◌∙◌, ap, subst, ◌&&◌, ◌||◌, list_any}
use Rattle.reg_reference_lists.proofs.Words.{filter, bytes_eq, is_eq, nat_list_cmp_total, Text, Mark, Owner, mark_cmp, owner_cmp, text_cmp}
use Rattle.reg_reference_lists.proofs.Words.{mark_total, mark_apart, owner_total, owner_apart, text_apart, list_any_map}
use Rattle.std.specs.Prelude.{◌==◌, not, map}
use Rattle.std.specs.Ordering.{eq_by_cmp}
use Rattle.std.specs.declared.cmp.Ordering.{Ordering}
use Rattle.std.specs.Cmp.{IsTotalOrder, Equal-is, tied_itself, both_ways, eq_by_cmp_equiv, first_so, second_so}
use Rattle.std.specs.FinSet as set
use Rattle.std.specs.FinSet.{IsAntisymmetric}
use Rattle.std.proofs.lemmas.Slice.Eq.{bytes_eq-Decides}
use Rattle.std.proofs.lemmas.Bool.Decides.{Decides-eqb}
use Rattle.std.proofs.lemmas.Map.Views.{any-filter_same}
use mathlib.Core.List.{map-id}

any_same : {X : Type 0} (p q : X → Bool) → ((x : X) → p x ≡ q x) → (xs : List X) → list_any p xs ≡ list_any q xs
any_same p q same [] = refl
any_same p q same (x ∷ xs) = λ i. same x i || any_same p q same xs i

pub map_append : {X Y : Type 0} (f : X → Y) (xs ys : List X) → map f (xs ++ ys) ≡ map f xs ++ map f ys
map_append f [] ys = refl
map_append f (x ∷ xs) ys = ap (λ l. f x ∷ l) (map_append f xs ys)

or_or : (a b c : Bool) → (a || (b || c)) ≡ ((a || b) || c)
or_or true b c = refl
or_or false b c = refl

and_swap : (a b : Bool) → (a && b) ≡ (b && a)
and_swap true true = refl
and_swap true false = refl
and_swap false true = refl
and_swap false false = refl

any_and : {X : Type 0} (a : Bool) (p : X → Bool) (xs : List X) → (a && list_any p xs) ≡ list_any (λ x. a && p x) xs
any_and true p xs = any_same p (λ x. true && p x) (λ x. refl) xs
any_and false p [] = refl
any_and false p (x ∷ xs) = any_and false p xs

any_append : {X : Type 0} (p : X → Bool) (xs ys : List X) → list_any p (xs ++ ys) ≡ (list_any p xs || list_any p ys)
any_append p [] ys = refl
any_append p (x ∷ xs) ys = ap (λ b. p x || b) (any_append p xs ys) ∙ or_or (p x) _ _

module _ {M K : Type 0} {R : K → K → Ordering} (o : IsTotalOrder R) (apart : IsAntisymmetric R) (view : M → K) where
  -- what a test of the items says of the set
  pub has_view : (q : K) (test : M → Bool) → ((m : M) → test m ≡ eq_by_cmp R q (view m)) → (ms : List M) → set.contains (set.from_list {R = R} (map view ms)) q ≡ list_any test ms
  has_view q test agree ms = set.contains-from_list o (map view ms) q ∙ list_any_map (eq_by_cmp R q) view ms ∙ sym (any_same test _ agree ms)

  -- an item at the end
  pub push_view : (ms : List M) (m : M) → set.from_list {R = R} (map view (ms ++ m ∷ [])) ≡ set.insert (set.from_list (map view ms)) (view m)
  push_view ms m = ap (λ l. set.from_list {R = R} l) (map_append view ms (m ∷ [])) ∙ set.from_list_push o apart (map view ms) (view m)

  -- items at the end, whose keys are these
  pub append_view : (ms ns : List M) (ks : List K) → map view ns ≡ ks → set.from_list {R = R} (map view (ms ++ ns)) ≡ set.union (set.from_list (map view ms)) (set.from_list ks)
  append_view ms ns ks e =
      set.same_set o apart _ _ (λ q.
      ap (λ l. set.contains (set.from_list {R = R} l) q) (map_append view ms ns)
      ∙ set.contains-from_list o _ q ∙ any_append (eq_by_cmp R q) (map view ms) (map view ns)
      ∙ (λ i. sym (set.contains-from_list o (map view ms) q) i || sym (set.contains-from_list o (map view ns) q) i)
      ∙ ap (λ l. set.contains (set.from_list {R = R} (map view ms)) q || set.contains (set.from_list {R = R} l) q) e
      ∙ sym (set.contains-union o _ _ q))

  -- the items that have not this key
  pub remove_view : (q : K) (test : M → Bool) → ((m : M) → test m ≡ eq_by_cmp R q (view m)) → (ms : List M) → set.from_list {R = R} (map view (filter (λ m. not (test m)) ms)) ≡ set.remove (set.from_list (map view ms)) q
  remove_view q test agree ms =
      set.same_set o apart _ _ (λ x.
      set.contains-from_list o _ x ∙ list_any_map (eq_by_cmp R x) view _
      ∙ any-filter_same (λ m. eq_by_cmp R x (view m)) (λ m. not (test m)) (not (eq_by_cmp R x q))
      (λ m tied. ap not (agree m ∙ ap (eq_by_cmp R q) (sym (apart x (view m) ((Equal-is _).0 tied))) ∙ (eq_by_cmp_equiv o).symm q x)) ms
      ∙ ap (λ b. not (eq_by_cmp R x q) && b) (sym (list_any_map (eq_by_cmp R x) view ms) ∙ sym (set.contains-from_list o (map view ms) x))
      ∙ sym (set.contains-remove o _ q x))

  -- the items whose keys are not among these
  pub differ_view : (ks : List K) (test : M → Bool) → ((m : M) → test m ≡ list_any (eq_by_cmp R (view m)) ks) → (ms : List M) → set.from_list {R = R} (map view (filter (λ m. not (test m)) ms)) ≡ set.difference (set.from_list (map view ms)) (set.from_list ks)
  differ_view ks test agree ms =
      set.same_set o apart _ _ (λ x.
      set.contains-from_list o _ x ∙ list_any_map (eq_by_cmp R x) view _
      ∙ any-filter_same (λ m. eq_by_cmp R x (view m)) (λ m. not (test m)) (not (list_any (eq_by_cmp R x) ks))
      (λ m tied. ap not (agree m ∙ ap (λ k. list_any (eq_by_cmp R k) ks) (sym (apart x (view m) ((Equal-is _).0 tied))))) ms
      ∙ and_swap (not (list_any (eq_by_cmp R x) ks)) (list_any (λ m. eq_by_cmp R x (view m)) ms)
      ∙ ap (λ b. b && not (list_any (eq_by_cmp R x) ks)) (sym (list_any_map (eq_by_cmp R x) view ms) ∙ sym (set.contains-from_list o (map view ms) x))
      ∙ ap (λ b. set.contains (set.from_list {R = R} (map view ms)) x && not b) (sym (set.contains-from_list o ks x))
      ∙ sym (set.contains-difference o _ _ x))

both_true : (a b : Bool) → a ≡ true → b ≡ true → (a && b) ≡ true
both_true true b e f = f
both_true false b e f = e

-- the test of a mark is that of the order
pub mark_agrees : (q m : Mark) → (bytes_eq m.0 q.0 && bytes_eq m.1 q.1) ≡ eq_by_cmp mark_cmp q m
mark_agrees q m = both_ways _ _
    (λ same. let h = (bytes_eq-Decides m.0 q.0).0 (first_so _ _ same) in let k = (bytes_eq-Decides m.1 q.1).0 (second_so _ _ same) in
    let back = sym h in let last = sym k in let e : q ≡ m = λ i. (back i, last i) in let P : Mark → Type 0 = λ x. eq_by_cmp mark_cmp q x ≡ true in subst P e (ap is_eq (tied_itself mark_total q)))
    (λ tied. let e = mark_apart q m ((Equal-is _).0 tied) in both_true _ _ ((bytes_eq-Decides m.0 q.0).1 (ap (λ p. p.0) (sym e))) ((bytes_eq-Decides m.1 q.1).1 (ap (λ p. p.1) (sym e))))

-- the test of an owner is that of the order
pub owner_agrees : (q m : Owner) → (bytes_eq m.0 q.0 && (m.1 == q.1)) ≡ eq_by_cmp owner_cmp q m
owner_agrees q m = both_ways _ _
    (λ same. let h = (bytes_eq-Decides m.0 q.0).0 (first_so _ _ same) in let k = (Decides-eqb m.1 q.1).0 (second_so _ _ same) in
    let back = sym h in let last = sym k in let e : q ≡ m = λ i. (back i, last i) in let P : Owner → Type 0 = λ x. eq_by_cmp owner_cmp q x ≡ true in subst P e (ap is_eq (tied_itself owner_total q)))
    (λ tied. let e = owner_apart q m ((Equal-is _).0 tied) in both_true _ _ ((bytes_eq-Decides m.0 q.0).1 (ap (λ p. p.0) (sym e))) ((Decides-eqb m.1 q.1).1 (ap (λ p. p.1) (sym e))))

-- the test of a text is that of the order
pub text_agrees : (q m : Text) → bytes_eq m q ≡ eq_by_cmp text_cmp q m
text_agrees q m = both_ways _ _
    (λ same. let e : q ≡ m = sym ((bytes_eq-Decides m q).0 same) in let P : Text → Type 0 = λ x. eq_by_cmp text_cmp q x ≡ true in subst P e (ap is_eq (tied_itself nat_list_cmp_total q)))
    (λ tied. let e = text_apart q m ((Equal-is _).0 tied) in (bytes_eq-Decides m q).1 (sym e))

-- texts stand for themselves
pub has_text : (q : Text) (ts : List Text) → list_any (λ t. bytes_eq t q) ts ≡ set.contains (set.from_list {R = text_cmp} ts) q
has_text q ts = any_same (λ t. bytes_eq t q) (eq_by_cmp text_cmp q) (λ t. text_agrees q t) ts ∙ sym (set.contains-from_list nat_list_cmp_total ts q)

pub remove_text : (q : Text) (ts : List Text) → set.from_list {R = text_cmp} (filter (λ t. not (bytes_eq t q)) ts) ≡ set.remove (set.from_list ts) q
remove_text q ts =
    ap (λ l. set.from_list {R = text_cmp} l) (sym (map-id (filter (λ t. not (bytes_eq t q)) ts)))
    ∙ remove_view nat_list_cmp_total text_apart (λ t. t) q (λ t. bytes_eq t q) (λ t. text_agrees q t) ts
    ∙ ap (λ l. set.remove (set.from_list {R = text_cmp} l) q) (map-id ts)

bytes_symm : (a b : Text) → bytes_eq a b ≡ bytes_eq b a
bytes_symm a b = both_ways _ _ (λ t. (bytes_eq-Decides b a).1 (sym ((bytes_eq-Decides a b).0 t))) (λ t. (bytes_eq-Decides a b).1 (sym ((bytes_eq-Decides b a).0 t)))

-- the test of an owner of a crate, whose account is among these
pub owner_among : (n : Text) (ids : List ℕ) (m : Owner) → (bytes_eq m.0 n && list_any (λ id. id == m.1) ids) ≡ list_any (eq_by_cmp owner_cmp m) (map (λ id. (n, id)) ids)
owner_among n ids m =
    any_and (bytes_eq m.0 n) (λ id. id == m.1) ids
    ∙ any_same (λ id. bytes_eq m.0 n && (id == m.1)) (λ id. eq_by_cmp owner_cmp m (n, id)) (λ id. ap (λ b. b && (id == m.1)) (bytes_symm m.0 n) ∙ owner_agrees m (n, id)) ids
    ∙ sym (list_any_map (eq_by_cmp owner_cmp m) (λ id. (n, id)) ids)
