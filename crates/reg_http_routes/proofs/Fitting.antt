-- A path that a row matches fits the row's pattern.
use Rattle.std.proofs.Common.{◌≡◌, ◌<◌, ◌-◌, ℕ, zero, suc, List, [], ◌∷◌, ◌++◌, length, take, drop, Option, Some, None, Bool, true, false, cond, ◌==◌, ltb, ◌&&◌, refl, sym, ap, ◌∙◌, arith, append-nil}
use Rattle.std.proofs.lemmas.Bool.Decides.{nat_tests}
use Rattle.std.proofs.lemmas.List.{take-append-drop, take_all}
use Rattle.std.specs.List.{AllByRecursion}
use Rattle.matchit.specs.Rows.{RowsOf, param_token, catch_all_token}
use Rattle.matchit.specs.Seek.{better, cuts, has_slash, longest_from, longest_suffix, or_else, own, param_step, same_text, seek, segment, slash, step, with_suffix}

-- the bytes that a token stands for: a byte is itself, and a parameter's have no slash
pub record Takes (token : ℕ) (front : List ℕ) : Type 0 where
  pub byte : token < param_token → front ≡ token ∷ []
  pub no_slash : token ≡ param_token → has_slash front ≡ false

-- the path is what the tokens stand for, one after another
abbrev pub Fits : List ℕ → List ℕ → Type 0
Fits [] path = path ≡ []
Fits (token ∷ t) path =
    (front : List ℕ) × (rest : List ℕ) × (path ≡ front ++ rest) × Takes token front × Fits t rest

-- the start of a segment, short of its end, has no slash
short_front : (n : ℕ) (path : List ℕ) → n < length (segment path) → has_slash (take n path) ≡ false
short_front zero path l = refl
short_front (suc n) [] l = refl
short_front (suc n) (b ∷ path) l = by (b == slash) refl l (short_front n path)
  where
    by : (v : Bool) → (b == slash) ≡ v → suc n < length (cond v (b ∷ []) (b ∷ segment path))
        → (n < length (segment path) → has_slash (take n path) ≡ false) → has_slash (b ∷ take n path) ≡ false
    by true e l ih = absurd (omega arith)
    by false e l ih = rw e (ih (omega arith))

segment_some : (b : ℕ) (path : List ℕ) → 0 < length (segment (b ∷ path))
segment_some b path =
    elim (b == slash) as (λ v. 0 < length (cond v (b ∷ []) (b ∷ segment path))) [
      | true ↦ omega arith
      | false ↦ omega arith
    ]

better_short : (seg best s : List ℕ) → length best < length seg → length (better seg best s) < length seg
better_short seg best s h = by (ltb (length best) (length s) && cuts seg s) refl
  where
    by : (v : Bool) → (ltb (length best) (length s) && cuts seg s) ≡ v → length (cond v s best) < length seg
    by true q = grind (arith, nat_tests)
    by false q = h

module _ {K : Type 0} where
  -- of each row
  abbrev pub Each : (List ℕ → K → Type 0) → RowsOf K → Type 0
  Each P rs = AllByRecursion (λ (row : List ℕ × K). P row.0 row.1) rs

  longest_short : (seg best : List ℕ) (rs : RowsOf K) → length best < length seg → length (longest_from seg best rs) < length seg
  longest_short seg best [] h = h
  longest_short seg best ((t, k) ∷ rs) h =
      longest_short seg (better seg best (segment t)) rs (better_short seg best (segment t) h)

  each_step : (b : ℕ) (P Q : List ℕ → K → Type 0) → ((t : List ℕ) (k : K) → P (b ∷ t) k → Q t k)
      → (rs : RowsOf K) → Each P rs → Each Q (step b rs)
  each_step b P Q on [] h = tt
  each_step b P Q on (([], k) ∷ rs) h = each_step b P Q on rs h.1
  each_step b P Q on ((x ∷ t, k) ∷ rs) h = by (x == b) refl (each_step b P Q on rs h.1)
    where
      by : (v : Bool) → (x == b) ≡ v → Each Q (step b rs) → Each Q (cond v ((t, k) ∷ step b rs) (step b rs))
      by true e ih =
          let same : x ≡ b = grind (arith, nat_tests) in
          (on t k (rw same at h.0), ih)
      by false e ih = ih

  each_with_suffix : (s : List ℕ) (P : List ℕ → K → Type 0) (rs : RowsOf K) → Each P rs → Each P (with_suffix s rs)
  each_with_suffix s P [] h = tt
  each_with_suffix s P ((t, k) ∷ rs) h =
      let ih = each_with_suffix s P rs h.1 in
      elim (same_text (segment t) s) as (λ v. Each P (cond v ((t, k) ∷ with_suffix s rs) (with_suffix s rs))) [
        | true ↦ (h.0, ih)
        | false ↦ ih
      ]

  from_own : (C : K → Type 0) (rs : RowsOf K) (key : K) → Each (λ t k. Fits t [] → C k) rs → own rs ≡ Some key → C key
  from_own C [] key h e = cc
  from_own C (([], k) ∷ rs) key h e =
      let same : k ≡ key = cc in
      rw same at (h.0 refl)
  from_own C ((x ∷ t, k) ∷ rs) key h e = from_own C rs key h.1 e

  from_either : {P : Type 0} (x y : Option K) (key : K) → (x ≡ Some key → P) → (y ≡ Some key → P) → or_else x y ≡ Some key → P
  from_either None y key f g e = g e
  from_either (Some k) y key f g e = f e

  -- the rows that go on after a parameter, where it takes bytes with no slash among them
  after_param : (P : ℕ → List ℕ → K → Type 0) (b : ℕ) (path : List ℕ) (rs : RowsOf K)
      → ((n : ℕ) → has_slash (take (suc n) (b ∷ path)) ≡ false → Each (P n) rs)
      → Each (P ((param_step rs (b ∷ path)).0 - 1)) (param_step rs (b ∷ path)).1
  unfolding param_step
  after_param P b path rs h =
      by (ltb 0 (length (longest_suffix (segment (b ∷ path)) rs))) refl (has_slash (b ∷ path)) refl
    where
      by : (v : Bool) → ltb 0 (length (longest_suffix (segment (b ∷ path)) rs)) ≡ v
          → (s : Bool) → has_slash (b ∷ path) ≡ s
          → let seg = segment (b ∷ path) in let suffix = longest_suffix seg rs in
          let went = cond {A = ℕ × RowsOf K} v (length seg - length suffix, with_suffix suffix rs) (cond s (0, []) (length (b ∷ path), rs)) in
          Each (P (went.0 - 1)) went.1
      by true e s f =
          let whole = length (segment (b ∷ path)) in
          let kept = length (longest_suffix (segment (b ∷ path)) rs) in
          let short = longest_short (segment (b ∷ path)) [] rs (segment_some b path) in
          let some : 0 < kept = grind (arith, nat_tests) in
          let front : suc ((whole - kept) - 1) < whole = omega arith in
          each_with_suffix _ _ rs (h _ (short_front _ (b ∷ path) front))
      by false e true f = tt
      by false e false f =
          let all : suc (suc (length path) - 1) ≡ length (b ∷ path) = omega arith in
          h _ (ap has_slash (ap (λ n. take n (b ∷ path)) all ∙ take_all (length (b ∷ path)) (b ∷ path) (omega arith)) ∙ f)

  -- what holds of each row whose pattern the path fits, holds of the row that it matches
  pub from_rows : (C : K → Type 0) (skip : ℕ) (path : List ℕ) (rs : RowsOf K) (key : K)
      → Each (λ t k. Fits t (drop skip path) → C k) rs → seek skip rs path ≡ Some key → C key
  unfolding seek
  from_rows C zero [] rs key h e = from_own C rs key h e
  from_rows C (suc skip) [] rs key h e = from_own C rs key h e
  from_rows C (suc skip) (b ∷ path) rs key h e = from_rows C skip path rs key h e
  from_rows C zero (b ∷ path) rs key h e =
      let after = param_step (step param_token rs) (b ∷ path) in
      from_either _ _ key
      (from_rows C zero path (step b rs) key
      (each_step b _ _ (λ t k f fit. f (b ∷ [], path, refl, record { byte = λ _. refl; no_slash = λ same. rw same refl }, fit)) rs h))
      (from_either _ _ key
      (from_rows C (after.0 - 1) path after.1 key
      (after_param (λ n t k. Fits t (drop n path) → C k) b path (step param_token rs)
      (λ n none. each_step param_token _ _
      (λ t k f fit. f (take (suc n) (b ∷ path), drop n path, sym (take-append-drop (suc n) (b ∷ path)), record { byte = λ l. absurd (omega arith); no_slash = λ _. none }, fit))
      rs h)))
      (from_own C (step catch_all_token rs) key
      (each_step catch_all_token _ _
      (λ t k f fit. f (b ∷ path, [], sym (append-nil (b ∷ path)), record { byte = λ l. absurd (omega arith); no_slash = λ same. absurd (omega arith) }, fit)) rs h)))
      e
