-- What the queries on the one row of `about` answer.
use Rattle.reg_tables_sql.proofs.Words.{◌≡◌, ℕ, ℤ, List, [], ◌∷◌, codes, map, Option, Some, None, refl, subst, IsPermutation}
use Rattle.reg_tables_sql.proofs.Words.{IsPermutation-sym, Int, Row, col, inner, end, overlay, State, one_permutation, First, Second, ours}
use Rattle.reg_tables_sql.proofs.Words.{IsInside, about_columns, shows, IsSelection, selected, plain, IsAboutOf}
use Rattle.sqlite.specs.Listing.{understood}
use Rattle.sqlite.specs.State.{Shown}
use Rattle.sqlite_tied.specs.Compute.{everything}
use Rattle.reg_tables_schema.specs.declared.edition.SchemaVersion.{SchemaVersion}
use Rattle.reg_tables_schema.specs.Schema.{old_schema, schema_of}
use Rattle.reg_tables_schema.specs.States.{IsInsideOf}
use Rattle.reg_tables_schema.proofs.WholeTables.{all_rows}
use Rattle.reg_tables_sql.specs.declared.about.TheConstants.{READ_TEXT, THE_ROWID_TEXT}
use Rattle.reg_tables_sql.specs.declared.about.About.{About}
use Rattle.reg_tables_sql.specs.Abouts.{IsAbout}

first_is : IsSelection old_schema READ_TEXT.now (plain (inner 0 end) [] (col 1 1 ∷ col 1 2 ∷ [])) (codes "schema" ∷ codes "base" ∷ [])
unfolding understood everything
first_is = record { command = refl; unlisted = refl; plain = (refl, refl) }

second_is : IsSelection ours READ_TEXT.now (plain (inner 0 end) [] (col 1 1 ∷ col 1 2 ∷ [])) (codes "schema" ∷ codes "base" ∷ [])
unfolding understood everything
second_is = record { command = refl; unlisted = refl; plain = (refl, refl) }

-- under either schema
pub about_is : (e : SchemaVersion) → IsSelection (schema_of e) READ_TEXT.now (plain (inner 0 end) [] (col 1 1 ∷ col 1 2 ∷ [])) (codes "schema" ∷ codes "base" ∷ [])
about_is First = first_is
about_is Second = second_is

-- one row in any order is that row
one_row : (xs rows : List Row) (x : Row) → IsPermutation xs rows → rows ≡ x ∷ [] → xs ≡ x ∷ []
one_row xs rows x h is = one_permutation x xs (IsPermutation-sym xs (x ∷ []) (subst (IsPermutation xs) is h))

about_of_table : (xs rows : List Row) (a : Option About) → IsPermutation xs rows → IsAbout rows a → IsAbout xs a
about_of_table xs rows None h other = λ e base is. other e base (one_permutation (about_columns e base) rows (subst (λ ys. IsPermutation ys rows) is h))
about_of_table xs rows (Some a) h is = one_row xs rows _ h is

pub about : (e : SchemaVersion) (old new : State) (rows : List Row) (a : Option About) → IsInsideOf e old → Shown READ_TEXT.now [] old new rows → IsAbout rows a → IsAboutOf old.now.trees a
about e old new rows a at h = about_of_table _ rows a (all_rows (overlay old.now.trees []) [] 0 (col 1 1 ∷ col 1 2 ∷ []) rows (selected (about_is e) [] old new rows at h))

pub rowid_is : IsSelection ours THE_ROWID_TEXT.now (plain (inner 0 end) [] (col 1 0 ∷ [])) (codes "rowid" ∷ [])
unfolding understood everything
rowid_is = record { command = refl; unlisted = refl; plain = (refl, refl) }

pub the_rowid : (old new : State) (id : ℤ) → IsInside old → Shown THE_ROWID_TEXT.now [] old new ((Int id ∷ []) ∷ []) → map (shows (0 ∷ [])) (old.now.trees 0) ≡ (Int id ∷ []) ∷ []
the_rowid old new id at h = one_row _ _ (Int id ∷ []) (all_rows (overlay old.now.trees []) [] 0 (col 1 0 ∷ []) _ (selected rowid_is [] old new _ at h)) refl
