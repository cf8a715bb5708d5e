-- What is done to the table of summaries, told by the versions that the rows are of.
use Rattle.std.specs.Prelude.{◌≡◌, ℕ, ◌+◌, pos, not, List, [], ◌∷◌, filter, map, IsPermutation}
use Rattle.std.specs.FinSet as finset
use Rattle.sqlite.specs.Tree.{Trees}
use Rattle.sqlite_trees.specs.Tree.{has_rowid, put_row, without_rowid}
use Rattle.reg_model.specs.Lists.{IsIn}
use Rattle.reg_model.specs.Registry.{Publication, mark_cmp}
use Rattle.reg_tables_schema.specs.Changes.{KeepsOthers}
use Rattle.reg_tables_schema.specs.Places.{id_place, summaries_tree, versions_tree}
use Rattle.reg_tables_schema.specs.Tests.{is_number}
use Rattle.reg_tables_sql.specs.Summaries.{summary_row}
use Rattle.reg_tables_sql.specs.VersionMarks.{shows_mark}
use Rattle.reg_tables_sql.specs.declared.summaries.Summary.{Summary}
use Rattle.reg_tables_sql.specs.declared.versions.VersionMark.{VersionMark}
use Rattle.reg_tables_represent.specs.Stands.{StandCrates}
use Rattle.reg_tables_represent.specs.Stored.{IdAssignment, StoredVersion}
use Rattle.reg_tables_represent.specs.Summaries.{ShownMark, columns_of_shown, higher_marked, higher_of, highest_of, is_marked, its_versions, length_of, line_length, row_among, shown_mark}

-- it is so of the crates and versions that the rows are of
abbrev pub TellsOfCrates : (IdAssignment → finset.FinSet mark_cmp → Type 0) → Trees → Type 0
TellsOfCrates fact db = (ids : IdAssignment) (ps : List Publication)
    (yanked : finset.FinSet mark_cmp)
    → StandCrates ids ps yanked db → fact ids yanked

-- these are the highest version of a crate and the length of its index file
abbrev pub AreNumbers : ℕ → Trees → ℕ → ℕ → Type 0
AreNumbers id db highest length = TellsOfCrates (λ ids yanked.
    (highest ≡ highest_of ids yanked id) × (length ≡ length_of ids yanked id)) db

-- the summary of the crate says this
abbrev pub HasSummary : ℕ → ℕ → ℕ → Trees → Type 0
HasSummary id highest length db =
    filter (has_rowid (pos id)) (db summaries_tree) ≡ summary_row id highest length ∷ []

-- this is the only version with its id
abbrev pub HasVersion : ShownMark → Trees → Type 0
HasVersion v db =
    map shows_mark (filter (is_number id_place v.id) (db versions_tree)) ≡ columns_of_shown v ∷ []

-- it is what the summary of the crate says, where there is one
abbrev pub IsKept : ℕ → Trees → Summary → Type 0
IsKept id db found = (highest length : ℕ) → HasSummary id highest length db
    → (found.highest ≡ highest) × (found.index_length ≡ length)

-- it is the version with this id, where there is one
abbrev pub IsVersionAt : ℕ → Trees → VersionMark → Type 0
IsVersionAt id db found = (v : ShownMark) → v.id ≡ id → HasVersion v db → shown_mark found ≡ v

-- these are the numbers of a crate with one more version than its summary counts: the highest is
-- this one, which has this id, or the one that was the highest
abbrev pub ArePushed : ℕ → ℕ → Trees → ℕ → ℕ → Type 0
ArePushed id version db highest length = (top next : ShownMark) (was : ℕ) → next.id ≡ version
    → HasSummary id top.id was db → HasVersion top db → HasVersion next db
    → (highest ≡ (higher_of top next).id) × (length ≡ was + line_length next)

-- the summary of a crate whose only version has this id is added
pub record AddsSummary (id version : ℕ) (old new : Trees) : Type 0 where
  pub others : KeepsOthers summaries_tree old new
  pub row : (v : ShownMark) → v.id ≡ version → HasVersion v old
      → IsPermutation (summary_row id version (line_length v) ∷ old summaries_tree)
      (new summaries_tree)

-- the summary of the crate counts the version with this id too, the last one
pub record PushesSummary (id version : ℕ) (old new : Trees) : Type 0 where
  pub others : KeepsOthers summaries_tree old new
  pub row : (top next : ShownMark) (length : ℕ) → next.id ≡ version
      → HasSummary id top.id length old → HasVersion top old → HasVersion next old
      → new summaries_tree
      ≡ put_row (summary_row id (higher_of top next).id (length + line_length next))
      (without_rowid (pos id) (old summaries_tree))

-- these are the marks of some versions before and after that of one of them was changed
pub record IsMarkChange (vs : List StoredVersion) (v : StoredVersion)
    (before after : finset.FinSet mark_cmp) : Type 0 where
  pub there : IsIn v vs
  pub changed : is_marked before v ≡ not (is_marked after v)
  pub others : (w : StoredVersion) → IsIn w vs → (w.id ≡ v.id → ⊥)
      → is_marked before w ≡ is_marked after w

-- it is so where the mark of the version with this id was changed, and the summary of its crate is
-- as it was before
abbrev pub TellsOfChange : ℕ → ℕ → (IdAssignment → finset.FinSet mark_cmp → Type 0) → Trees → Type 0
TellsOfChange id version fact db = (ids : IdAssignment) (ps : List Publication)
    (before after : finset.FinSet mark_cmp) (v : StoredVersion) → StandCrates ids ps after db
    → HasSummary id (highest_of ids before id) (length_of ids before id) db
    → v.id ≡ version → IsMarkChange (its_versions ids id) v before after → fact ids after

-- this is the id of the highest, where it was that with the other id, and the mark is now this
abbrev pub IsHigherMarked : ℕ → ShownMark → Trees → ℕ → Type 0
IsHigherMarked highest now db n =
    (top : ShownMark) → top.id ≡ highest → HasVersion top db → n ≡ (higher_marked top now).id

-- these are the numbers of a crate after such a change
abbrev pub AreRemarked : ℕ → ℕ → Trees → ℕ → ℕ → Type 0
AreRemarked id version db highest length = TellsOfChange id version (λ ids yanked.
    (highest ≡ highest_of ids yanked id) × (length ≡ length_of ids yanked id)) db

-- the summary of the crate follows such a change
pub record RemarksSummary (id version : ℕ) (old new : Trees) : Type 0 where
  pub others : KeepsOthers summaries_tree old new
  pub row : TellsOfChange id version (λ ids yanked. new summaries_tree
      ≡ put_row (row_among yanked id (its_versions ids id))
      (without_rowid (pos id) (old summaries_tree))) old
