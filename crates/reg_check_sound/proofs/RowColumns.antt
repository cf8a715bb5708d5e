-- Rows that have a value of its type for each column, the last of them NOT NULL, are whole.
use Rattle.reg_check_sound.proofs.Words.{◌≡◌, ◌≤◌, ◌<◌, ◌+◌, ℕ, zero, suc, arith, List, [], ◌∷◌, map, length, Bool, true, false, not, Option}
use Rattle.reg_check_sound.proofs.Words.{Some, None, refl, sym, ap, ◌∙◌, ◌&&◌, ◌||◌, drop, if◌then◌else◌, and_parts, not-true, Value, Null}
use Rattle.reg_check_sound.proofs.Words.{Int, Real, Text, Blob, Datatype, NotNull, both_all, ours, IsKeyed, IsWhole}
use Rattle.std.specs.Prelude.{option_map, slice_get, unwrap_or}
use Rattle.reg_check_sound.proofs.Common.{all_weaker, AllByRecursion, column, is_null, maps_twice, Row, shows, Trees}
use Rattle.sqlite.specs.Table.{Table}
use Rattle.sqlite_schema.specs.Names.{is_key}
use Rattle.sqlite_schema.specs.Rules.{are_present, are_typed, has_computed, passes, suits}
use Rattle.sqlite_schema.specs.declared.schema.Column.{Column}

-- the first places
abbrev pub places : ℕ → List ℕ
places zero = []
places (suc n) = 0 ∷ map (λ i. suc i) (places n)

all_places : (r : Row) → shows (places (length r)) r ≡ r
all_places [] = refl
all_places (v ∷ r) = ap (λ rest. v ∷ rest) (maps_twice (λ i. suc i) (column (v ∷ r)) (places (length r)) ∙ all_places r)

null_is : (v : Value) → is_null v ≡ true → v ≡ Null
null_is Null h = refl
null_is (Int n) h = absurd cc
null_is (Real x) h = absurd cc
null_is (Text t) h = absurd cc
null_is (Blob b) h = absurd cc

-- no row has more values than its table has columns
typed_short : (key : Option ℕ) (at : ℕ) (cs : List Column) (r : Row) → are_typed key at cs r ≡ true → length r ≤ length cs
typed_short key at [] [] h = omega arith
typed_short key at [] (v ∷ vs) h = absurd cc
typed_short key at (c ∷ cs) [] h = omega arith
typed_short key at (c ∷ cs) (v ∷ vs) h = omega (arith, typed_short key (at + 1) cs vs (and_parts (if is_key key at then is_null v else suits c v) (are_typed key (at + 1) cs vs) h).1)

-- its key reads NULL
key_null : (cs : List Column) (r : Row) → are_typed (Some 0) 0 cs (drop 1 r) ≡ true → column r 1 ≡ Null
key_null cs [] h = refl
key_null cs (id ∷ []) h = refl
key_null [] (id ∷ v ∷ vs) h = absurd cc
key_null (c ∷ cs) (id ∷ v ∷ vs) h = null_is v (and_parts (is_null v) (are_typed (Some 0) (0 + 1) cs vs) h).0

third : (a b c : Bool) → (a || b || c) ≡ true → a ≡ false → b ≡ false → c ≡ true
third true b c h e f = absurd cc
third false true c h e f = absurd cc
third false false c h e f = h

same_column : {c d : Column} → Some c ≡ Some d → c ≡ d
same_column e = cc

-- a column that is NOT NULL has a value
pub present_at : (key : Option ℕ) (at : ℕ) (cs : List Column) (row : Row) (k p : ℕ) (c : Column) → are_present key at cs row ≡ true → slice_get cs k ≡ Some c → c.not_null ≡ true → p ≡ at + k → is_key key p ≡ false → is_null (column row (p + 1)) ≡ false
present_at key at [] row k p c h found required is other = absurd cc
present_at key at (d ∷ cs) row zero p c h found required is other =
    let here = and_parts (is_key key at || not d.not_null || not (is_null (column row (at + 1)))) (are_present key (at + 1) cs row) h in
    let same : at ≡ p = omega (arith, is) in
    let needed : not d.not_null ≡ false = ap (λ (x : Column). not x.not_null) (same_column found) ∙ ap not required in
    ap (λ n. is_null (column row (n + 1))) (sym same) ∙ not-true (is_null (column row (at + 1))) (third (is_key key at) (not d.not_null) (not (is_null (column row (at + 1)))) here.0 (ap (is_key key) same ∙ other) needed)
present_at key at (d ∷ cs) row (suc k) p c h found required is other =
    let rest = and_parts (is_key key at || not d.not_null || not (is_null (column row (at + 1)))) (are_present key (at + 1) cs row) h in
    present_at key (at + 1) cs row k p c rest.1 found required (omega (arith, is)) other

not_past : (row : Row) (n : ℕ) → is_null (column row n) ≡ false → n < length row
not_past [] n h = absurd cc
not_past (v ∷ row) zero h = omega arith
not_past (v ∷ row) (suc n) h = omega (arith, not_past row n h)

dropped : (row : Row) (n : ℕ) → length (drop 1 row) ≤ n → length row ≤ n + 1
dropped [] n h = omega arith
dropped (v ∷ row) n h = omega (arith, h)

-- whether a column is NOT NULL and no key
abbrev pub is_needed : Table → ℕ → Bool
is_needed t k = unwrap_or (option_map (λ c. c.not_null) (slice_get t.columns k)) false && not (is_key t.key k)

column_there : (o : Option Column) → unwrap_or (option_map (λ c. c.not_null) o) false ≡ true → (c : Column) × (o ≡ Some c) × (c.not_null ≡ true)
column_there None h = absurd cc
column_there (Some c) h = (c, refl, h)

needed_there : (t : Table) (k : ℕ) → is_needed t k ≡ true → (row : Row) → are_present t.key 0 t.columns row ≡ true → is_null (column row (k + 1)) ≡ false
needed_there t k needed row present =
    let p = and_parts (unwrap_or (option_map (λ c. c.not_null) (slice_get t.columns k)) false) (not (is_key t.key k)) needed in
    let c = column_there (slice_get t.columns k) p.0 in
    present_at t.key 0 t.columns row k k c.0 present c.1 c.2 (omega arith) (not-true (is_key t.key k) p.1)

-- the rows of a table of our schema
module _ (db : Trees) (t : Table) where
  abbrev pub Typed : Row → Type 0
  Typed row = passes Datatype ours db t row ≡ true

  abbrev pub Present : Row → Type 0
  Present row = passes NotNull ours db t row ≡ true

  typed_row : (row : Row) → Typed row → are_typed t.key 0 t.columns (drop 1 row) ≡ true
  typed_row row typed = (and_parts (are_typed t.key 0 t.columns (drop 1 row)) (has_computed t row) typed).0

  -- what is needed at a place is there
  pub filled : (k : ℕ) → is_needed t k ≡ true → (rows : List Row) → AllByRecursion Present rows → AllByRecursion (λ row. is_null (column row (k + 1)) ≡ false) rows
  filled k needed = all_weaker Present (λ row. is_null (column row (k + 1)) ≡ false) (needed_there t k needed)

  -- where the last column is needed
  module _ (k : ℕ) (needed : is_needed t k ≡ true) (last : length t.columns ≡ k + 1) where
    whole_row : (row : Row) → Typed row → Present row → IsWhole (places (k + 2)) row
    whole_row row typed present =
        let short = dropped row (length t.columns) (typed_short t.key 0 t.columns (drop 1 row) (typed_row row typed)) in
        let long = not_past row (k + 1) (needed_there t k needed row present) in
        let width : k + 2 ≡ length row = omega (arith, short, long, last) in
        ap (λ n. shows (places n) row) width ∙ all_places row

    pub whole_rows : (rows : List Row) → AllByRecursion Typed rows → AllByRecursion Present rows → AllByRecursion (IsWhole (places (k + 2))) rows
    whole_rows = both_all Typed Present (IsWhole (places (k + 2))) whole_row

    pub keyed_rows : t.key ≡ Some 0 → (rows : List Row) → AllByRecursion Typed rows → AllByRecursion Present rows → AllByRecursion (IsKeyed (places (k + 2))) rows
    keyed_rows key = both_all Typed Present (IsKeyed (places (k + 2))) (λ row typed present. (
      whole_row row typed present,
      key_null t.columns row (ap (λ o. are_typed o 0 t.columns (drop 1 row)) (sym key) ∙ typed_row row typed),
    ))
