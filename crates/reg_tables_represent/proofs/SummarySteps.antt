-- What a statement on summaries is, told by the versions that the rows are of.
use Rattle.reg_tables_represent.proofs.Words.{◌≡◌, ◌+◌, ℕ, pos, ◌∷◌, sym, ap, subst, ◌∙◌, zero-add, put_row, without_rowid, summary_row}
use Rattle.reg_tables_represent.proofs.Words.{VersionMark, AddsSummary, HasSummary, IsVersionAt, PushesSummary, RemarksSummary, highest_of}
use Rattle.reg_tables_represent.proofs.Words.{length_of, line_length, shown_mark}
use Rattle.reg_tables_represent.proofs.Common.{Adds, Database, IsPermutation, KeepsOthers, Row, State, Trees}
use Rattle.reg_tables_sql.specs.Summaries.{Summarizes}
use Rattle.reg_tables_represent.proofs.Additions.{more_rows}
use Rattle.reg_tables_represent.specs.SummaryChanges.{ArePushed, AreRemarked}

module _ (old read new : State) (same : read.now ≡ old.now) where
  since : (P : Trees → Type 0) → P read.now.trees → P old.now.trees
  since P h = subst (λ (db : Database). P db.trees) same h

  before : (P : Trees → Type 0) → P old.now.trees → P read.now.trees
  before P h = subst (λ (db : Database). P db.trees) (sym same) h

  pub summary_added : (id version length : ℕ) (only : VersionMark) → IsVersionAt version old.now.trees only → length ≡ 0 + line_length (shown_mark only) → Adds 16 (summary_row id version length) read new → AddsSummary id version old.now.trees new.now.trees
  summary_added id version length only told is adds = record {
    others = since (λ db. KeepsOthers 16 db new.now.trees) adds.becomes.others;
    row = λ v e has.
        subst (λ n. IsPermutation (summary_row id version n ∷ old.now.trees 16) (new.now.trees 16)) (is ∙ zero-add (line_length (shown_mark only)) ∙ ap line_length (told v e has))
        (since (λ db. IsPermutation (summary_row id version length ∷ db 16) (new.now.trees 16)) (more_rows 16 (summary_row id version length) read new adds));
  }

  pub summary_pushed : (id version highest length : ℕ) → ArePushed id version old.now.trees highest length → Summarizes id highest length read new → PushesSummary id version old.now.trees new.now.trees
  summary_pushed id version highest length numbers renews = record {
    others = since (λ db. KeepsOthers 16 db new.now.trees) renews.touches.others;
    row = λ top next was e has a b.
        let n = numbers top next was e has a b in
        subst (λ (r : Row). new.now.trees 16 ≡ put_row r (without_rowid (pos id) (old.now.trees 16))) (λ i. summary_row id (n.0 i) (n.1 i))
        (since (λ db. new.now.trees 16 ≡ put_row (summary_row id highest length) (without_rowid (pos id) (db 16))) (renews.replaced top.id was (before (λ db. HasSummary id top.id was db) has)).rows_are);
  }

  pub summary_remarked : (id version highest length : ℕ) → AreRemarked id version old.now.trees highest length → Summarizes id highest length read new → RemarksSummary id version old.now.trees new.now.trees
  summary_remarked id version highest length numbers renews = record {
    others = since (λ db. KeepsOthers 16 db new.now.trees) renews.touches.others;
    row = λ ids ps was is v stands has e change.
        let n = numbers ids ps was is v stands has e change in
        let now = before (λ db. HasSummary id (highest_of ids was id) (length_of ids was id) db) has in
        subst (λ (r : Row). new.now.trees 16 ≡ put_row r (without_rowid (pos id) (old.now.trees 16))) (λ i. summary_row id (n.0 i) (n.1 i))
        (since (λ db. new.now.trees 16 ≡ put_row (summary_row id highest length) (without_rowid (pos id) (db 16))) (renews.replaced (highest_of ids was id) (length_of ids was id) now).rows_are);
  }
