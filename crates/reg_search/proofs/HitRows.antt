-- What is found among rows, from one row to the next.
use Rattle.reg_search.proofs.Words.{◌≡◌, ◌==◌, ℕ, zero, suc, ◌+◌, ◌<◌, ◌≤◌, Bool, true, false, ◌&&◌, not, cond, List, [], ◌∷◌, ◌++◌, map}
use Rattle.reg_search.proofs.Words.{length, take, refl, sym, ap, ◌∙◌, arith, filter, list_any, length-map, map-append, Row, AreHits, id_of}
use Rattle.reg_search.proofs.Words.{is_hit, Hits}
use Rattle.std.proofs.lemmas.List.{length-append, append-nil}
use Rattle.reg_model.specs.Registry.{Text as Words}
use Rattle.reg_search.specs.Rows.{is_match}

-- a row behind others passes a test or not
last_passes : {X : Type 0} (p : X → Bool) (xs : List X) (x : X) → filter p (xs ++ x ∷ []) ≡ filter p xs ++ cond (p x) (x ∷ []) []
last_passes p [] x = refl
last_passes p (y ∷ ys) x = one (p y) (last_passes p ys x)
  where
    one : (b : Bool) → filter p (ys ++ x ∷ []) ≡ filter p ys ++ cond (p x) (x ∷ []) [] → cond b (y ∷ filter p (ys ++ x ∷ [])) (filter p (ys ++ x ∷ [])) ≡ cond b (y ∷ filter p ys) (filter p ys) ++ cond (p x) (x ∷ []) []
    one true h = ap (λ zs. y ∷ zs) h
    one false h = h

take_none : {X : Type 0} (n : ℕ) → take {A = X} n [] ≡ []
take_none zero = refl
take_none (suc n) = refl

-- the first of some, and one more
taken_short : {X : Type 0} (n : ℕ) (xs : List X) (x : X) → length (take n xs) < n → take n (xs ++ x ∷ []) ≡ take n xs ++ x ∷ []
taken_short zero xs x h = absurd (omega (arith, h))
taken_short (suc n) [] x h = ap (λ zs. x ∷ zs) (take_none n)
taken_short (suc n) (y ∷ xs) x h = ap (λ zs. y ∷ zs) (taken_short n xs x (omega (arith, h)))

taken_full : {X : Type 0} (n : ℕ) (xs : List X) (x : X) → n ≤ length (take n xs) → take n (xs ++ x ∷ []) ≡ take n xs
taken_full zero xs x h = refl
taken_full (suc n) [] x h = absurd (omega (arith, h))
taken_full (suc n) (y ∷ xs) x h = ap (λ zs. y ∷ zs) (taken_full n xs x (omega (arith, h)))

module _ (needle : Words) (hidden : List ℕ) (row : Row) where
  -- it is, and the crate is hidden or not
  pub match_seen : (id : ℕ) (b : Bool) → is_match needle row ≡ true → id ≡ id_of row → b ≡ list_any (λ n. n == id) hidden → is_hit needle hidden row ≡ not b
  match_seen id b there same is = (λ i. there i && not (list_any (λ n. n == sym same i) hidden)) ∙ ap not (sym is)

module _ (needle : Words) (hidden : List ℕ) (most : ℕ) (rows : List Row) (row : Row) where
  abbrev hits : List Row
  hits = filter (is_hit needle hidden) rows

  -- no hit
  pub passed_over : (h : Hits) → AreHits needle hidden most rows h → is_hit needle hidden row ≡ false → AreHits needle hidden most (rows ++ row ∷ []) h
  passed_over h are out =
      let same : filter (is_hit needle hidden) (rows ++ row ∷ []) ≡ hits = last_passes (is_hit needle hidden) rows row ∙ ap (λ b. hits ++ cond b (row ∷ []) []) out ∙ append-nil hits in
      record { total = rw same are.total; first = rw same are.first }

  module _ (h k : Hits) (are : AreHits needle hidden most rows h) (yes : is_hit needle hidden row ≡ true) (counted : k.total ≡ h.total + 1) where
    more : filter (is_hit needle hidden) (rows ++ row ∷ []) ≡ hits ++ row ∷ []
    more = last_passes (is_hit needle hidden) rows row ∙ ap (λ b. hits ++ cond b (row ∷ []) []) yes

    total : k.total ≡ length (filter (is_hit needle hidden) (rows ++ row ∷ []))
    total = counted ∙ ap (λ n. n + 1) are.total ∙ sym (length-append hits (row ∷ [])) ∙ ap length (sym more)

    kept_length : length h.ids.items ≡ length (take most hits)
    kept_length = ap length are.first ∙ length-map (take most hits) id_of

    -- there is room for it
    pub kept : (id : ℕ) → length h.ids.items < most → id ≡ id_of row → k.ids.items ≡ h.ids.items ++ id ∷ [] → AreHits needle hidden most (rows ++ row ∷ []) k
    kept id room is pushed = record {
      total = total;
      first = pushed ∙ (λ i. are.first i ++ is i ∷ []) ∙ sym (map-append id_of (take most hits) (row ∷ []))
          ∙ ap (map id_of) (sym (taken_short most hits row (omega (arith, room, kept_length))) ∙ ap (take most) (sym more));
    }

    -- there is none
    pub counted_only : most ≤ length h.ids.items → k.ids.items ≡ h.ids.items → AreHits needle hidden most (rows ++ row ∷ []) k
    counted_only full same = record {
      total = total;
      first = same ∙ are.first ∙ ap (map id_of) (sym (taken_full most hits row (omega (arith, full, kept_length))) ∙ ap (take most) (sym more));
    }
