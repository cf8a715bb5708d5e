-- The values of a row that is read as a version.
use Rattle.reg_tables_sql.proofs.Words.{◌≡◌, [], ◌∷◌, Option, None, Some, length, refl, arith, string_bytes, option_map, Value, Null, Text}
use Rattle.reg_tables_sql.proofs.Words.{text_or_null, Row, column}
use Rattle.std.proofs.Common.{◌≢◌}
use Rattle.std.specs.Prelude.{MatchOption}
use Rattle.std.specs.declared.string.String.{String}

-- eight values
pub eight : (row : Row) → length row ≡ 8 → row ≡ column row 0 ∷ column row 1 ∷ column row 2 ∷ column row 3 ∷ column row 4 ∷ column row 5 ∷ column row 6 ∷ column row 7 ∷ []
eight [] h = absurd (omega arith)
eight (a ∷ []) h = absurd (omega arith)
eight (a ∷ b ∷ []) h = absurd (omega arith)
eight (a ∷ b ∷ c ∷ []) h = absurd (omega arith)
eight (a ∷ b ∷ c ∷ d ∷ []) h = absurd (omega arith)
eight (a ∷ b ∷ c ∷ d ∷ e ∷ []) h = absurd (omega arith)
eight (a ∷ b ∷ c ∷ d ∷ e ∷ f ∷ []) h = absurd (omega arith)
eight (a ∷ b ∷ c ∷ d ∷ e ∷ f ∷ g ∷ []) h = absurd (omega arith)
eight (a ∷ b ∷ c ∷ d ∷ e ∷ f ∷ g ∷ i ∷ []) h = refl
eight (a ∷ b ∷ c ∷ d ∷ e ∷ f ∷ g ∷ i ∷ j ∷ more) h = absurd (omega arith)

-- an optional text as it is read
pub reads_text : {Z : Type 0} (v : Value) (o : Option (String Z)) → MatchOption o (v ≡ Null) (λ t. (v ≢ Null) × (v ≡ Text (string_bytes t))) → v ≡ text_or_null (option_map string_bytes o)
reads_text v None h = h
reads_text v (Some t) h = h.1
