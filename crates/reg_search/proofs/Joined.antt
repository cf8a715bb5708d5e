-- What the joins of the texts match, on any rows.
use Rattle.reg_search.proofs.Words.{◌≡◌, pos, Bool, true, false, ◌&&◌, not, cond, [], ◌∷◌, refl, ap, ◌∙◌, filter, flat_map, list_all}
use Rattle.reg_search.proofs.Words.{list_any, Binary, is_true, Row, column, inner, left, counted, end, Env, Trees, Int, equal, Instr}
use Rattle.std.proofs.Common.{append-nil}
use Rattle.sqlite.specs.Ops.{binary, unary}
use Rattle.sqlite.specs.Query.{matches, or_nulls}
use Rattle.sqlite.specs.Term.{holds}
use Rattle.reg_tables_represent.proofs.Gates.{bit, counted_any}
use Rattle.reg_search.proofs.Texts.{after_crate, counts, of_id, of_needle, on_version, read}

-- the slots as WHERE finds them
abbrev pub slots : Row → Row → Row → Bool → Bool → Env
slots params r c a b = params ∷ r ∷ c ∷ (Int (pos (bit a)) ∷ []) ∷ (Int (pos (bit b)) ∷ []) ∷ []

-- the needle in the canonical text of a crate
abbrev pub has_needle : Row → Row → Bool
has_needle params c = is_true (binary Instr (column c 2) (column params 1))

passes : (params r c : Row) (a b : Bool) → list_all (holds (slots params r c a b)) of_needle ≡ (equal Binary (column c 0) (column r 0) && (has_needle params c && (not a && not b)))
unfolding unary
passes params r c true true = refl
passes params r c true false = refl
passes params r c false true = refl
passes params r c false false = refl

module _ (db : Trees) (params r : Row) where
  abbrev pub is_pair : Row → Bool
  is_pair o = equal Binary (column o 1) (column r 0) && (equal Binary (column o 2) (column params 0) && true)

  -- the restricted crate with the needle in its text, where the account neither owns nor reads it
  pub gated : (c : Row) (a b : Bool) → list_any is_pair (db 9) ≡ a → list_any is_pair (db 18) ≡ b → matches db of_needle counts (params ∷ r ∷ c ∷ []) ≡ cond (equal Binary (column c 0) (column r 0) && (has_needle params c && (not a && not b))) (slots params r c a b ∷ []) []
  gated c a b owns reads =
      let m = counted_any is_pair (λ o. params ∷ r ∷ c ∷ o ∷ []) (db 9) ∙ ap bit owns in
      let n = λ (k : Row). counted_any is_pair (λ o. params ∷ r ∷ c ∷ k ∷ o ∷ []) (db 18) ∙ ap bit reads in
      (λ i. matches db of_needle (counted 1 (inner 18 end) read end) (params ∷ r ∷ c ∷ (Int (pos (m i)) ∷ []) ∷ []))
      ∙ (λ i. matches db of_needle end (params ∷ r ∷ c ∷ (Int (pos (bit a)) ∷ []) ∷ (Int (pos (n (Int (pos (bit a)) ∷ []) i)) ∷ []) ∷ []))
      ∙ (λ i. cond (passes params r c a b i) (slots params r c a b ∷ []) [])

-- of a crate with one summary and one highest version
pub joined : (db : Trees) (params c s v : Row) → filter (λ r. equal Binary (column r 0) (column c 0) && true) (db 16) ≡ s ∷ [] → filter (λ r. equal Binary (column r 0) (column s 2) && true) (db 11) ≡ v ∷ []
    → matches db of_id after_crate (params ∷ c ∷ []) ≡ cond (equal Binary (column c 0) (column params 0) && true) ((params ∷ c ∷ s ∷ v ∷ []) ∷ []) []
joined db params c s v one two =
    (λ i. flat_map (λ r. matches db of_id (left 11 on_version end) (params ∷ c ∷ r ∷ [])) (or_nulls (one i)))
    ∙ append-nil _
    ∙ (λ i. flat_map (λ r. matches db of_id end (params ∷ c ∷ s ∷ r ∷ [])) (or_nulls (two i)))
    ∙ append-nil _
