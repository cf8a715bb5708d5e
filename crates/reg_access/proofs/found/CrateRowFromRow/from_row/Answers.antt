use Rattle.reg_access.proofs.Words.{◌≡◌, ℕ, List, [], ◌∷◌, Bool, true, false, cond, Option, None, Some, length, refl, sym, arith, pos, ◌∙◌}
use Rattle.reg_access.proofs.Words.{string_bytes, Value, Int, Null, Row, column, is_name, name_of, number_or_null}
use Rattle.std.proofs.Common.{◌≢◌}
use Rattle.std.specs.Prelude.{MatchOption}
use Rattle.reg_access.proofs.found.CrateRowFromRow.from_row.Goals as goal

five : (row : Row) → length row ≡ 5 → row ≡ column row 0 ∷ column row 1 ∷ column row 2 ∷ column row 3 ∷ column row 4 ∷ []
five [] h = absurd (omega arith)
five (a ∷ []) h = absurd (omega arith)
five (a ∷ b ∷ []) h = absurd (omega arith)
five (a ∷ b ∷ c ∷ []) h = absurd (omega arith)
five (a ∷ b ∷ c ∷ d ∷ []) h = absurd (omega arith)
five (a ∷ b ∷ c ∷ d ∷ e ∷ []) h = refl
five (a ∷ b ∷ c ∷ d ∷ e ∷ f ∷ more) h = absurd (omega arith)

number_read : (v : Value) (o : Option ℕ) → MatchOption o (v ≡ Null) (λ n. (v ≢ Null) × (v ≡ Int (pos n))) → v ≡ number_or_null o
number_read v None h = h
number_read v (Some n) h = h.1

given : (t n : List ℕ) → name_of t ≡ Some n → n ≡ t
given t n e = by (is_name t) e
  where
    by : (b : Bool) → cond b (Some t) None ≡ Some n → n ≡ t
    by true some = sym (cc some)
    by false none = absurd cc none

pub returns : goal.returns
returns c =
    let row = c.args.row.now in
    let name = given (string_bytes c.in_ok-text.text) c.in-Some.name (rw c.deref.ensures at (sym c.parse_name.ensures ∙ c.in-Some.is)) in
    let owner = number_read (column row 2) c.in_ok-get-2.field-0 c.in_ok-get-2.ensures.ok.1 in
    let restricted = number_read (column row 3) c.in_ok-get-3.field-0 c.in_ok-get-3.ensures.ok.1 in
    let reader = number_read (column row 4) c.in_ok-get-4.field-0 c.in_ok-get-4.ensures.ok.1 in
    five row (sym c.column_count.ensures ∙ c.if-column_count-ne5.false)
    ∙ rw (c.in_ok-get.ensures.ok.1, c.in_ok-text.ensures.ok.1, owner, restricted, reader, name) refl
