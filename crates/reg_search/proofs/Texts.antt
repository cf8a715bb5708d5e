-- What the texts of a search are queries of.
use Rattle.reg_search.proofs.Words.{ℕ, List, [], ◌∷◌, refl, Binary, Query, inner, left, counted, end, Instr, ours, IsSelection, HIDDEN_TEXT}
use Rattle.reg_search.proofs.Words.{HIT_TEXT, WALK_TEXT}
use Rattle.std.proofs.Common.{codes}
use Rattle.sqlite.specs.Listing.{understood}
use Rattle.sqlite.specs.Query.{Join}
use Rattle.sqlite.specs.Term.{Term, col, op1, op2}
use Rattle.sqlite_sql.specs.declared.ops.BinaryOp.TheVariants.{Compare}
use Rattle.sqlite_sql.specs.declared.ops.UnaryOp.TheVariants.{Not}
use Rattle.sqlite_sql.specs.declared.ops.CompareOp.TheVariants.{Eq}
use Rattle.sqlite_tied.specs.Compute.{everything}
use Rattle.sqlite_value.specs.Keys.{ascending}
use Rattle.reg_tables_schema.proofs.Queries.{plain}
use Rattle.reg_tables_schema.proofs.Sorted.{in_order}

abbrev pub walk_query : Query
walk_query = in_order (inner 7 end) [] (col 1 2 ∷ col 1 0 ∷ []) ((col 1 2, ascending Binary) ∷ [])

abbrev pub walk_names : List (List ℕ)
walk_names = codes "canon" ∷ codes "id" ∷ []

pub walk_is : IsSelection ours WALK_TEXT.now walk_query walk_names
unfolding understood everything
walk_is = record { command = refl; unlisted = refl; plain = (refl, refl) }

abbrev eq : Term → Term → Term
eq a b = op2 (Compare Eq Binary) a b

abbrev pub owned : List Term
owned = eq (col 3 1) (col 1 0) ∷ eq (col 3 2) (col 0 0) ∷ []

abbrev pub read : List Term
read = eq (col 4 1) (col 1 0) ∷ eq (col 4 2) (col 0 0) ∷ []

-- what is counted of a restricted crate
abbrev pub counts : Join
counts = counted 1 (inner 9 end) owned (counted 1 (inner 18 end) read end)

abbrev pub no_counts : List Term
no_counts = op1 Not (col 3 0) ∷ op1 Not (col 4 0) ∷ []

-- of a crate with the needle in its canonical text
abbrev pub of_needle : List Term
of_needle = eq (col 2 0) (col 1 0) ∷ op2 Instr (col 2 2) (col 0 1) ∷ no_counts

abbrev pub hidden_query : Query
hidden_query = plain (inner 17 (inner 7 counts)) of_needle (col 1 0 ∷ [])

abbrev pub hidden_names : List (List ℕ)
hidden_names = codes "crate" ∷ []

pub hidden_is : IsSelection ours HIDDEN_TEXT.now hidden_query hidden_names
unfolding understood everything
hidden_is = record { command = refl; unlisted = refl; plain = (refl, refl) }

abbrev pub on_summary : List Term
on_summary = eq (col 2 0) (col 1 0) ∷ []

abbrev pub on_version : List Term
on_version = eq (col 3 0) (col 2 2) ∷ []

abbrev pub after_crate : Join
after_crate = left 16 on_summary (left 11 on_version end)

abbrev pub of_id : List Term
of_id = eq (col 1 0) (col 0 0) ∷ []

abbrev pub hit_query : Query
hit_query = plain (inner 7 after_crate) of_id (col 1 3 ∷ col 3 3 ∷ col 3 7 ∷ [])

abbrev pub hit_names : List (List ℕ)
hit_names = codes "name" ∷ codes "vers" ∷ codes "description" ∷ []

pub hit_is : IsSelection ours HIT_TEXT.now hit_query hit_names
unfolding understood everything
hit_is = record { command = refl; unlisted = refl; plain = (refl, refl) }
