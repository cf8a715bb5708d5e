-- Rows that are added to two tables, one after another.
use Rattle.reg_tables_represent.proofs.Words.{Table, our_tables, KeepsAllBut, AddsCrate, AddsVersion, IsGreatest, row_of_id, IsNext}
use Rattle.reg_tables_represent.proofs.Common.{◌≡◌, ◌≢◌, ◌∷◌, ◌∙◌, Adds, AddsColumns, ap, canon, Database, false, Int, is_taken, IsPermutation, KeepsOthers, List, Option, owner_columns, Publication, put_permutes, put_row, release_key_of, Row, State, subst, sym, Text, Trees, version_row, ℕ}
use Rattle.sqlite_trees.proofs.ListLemmas.{all_both}
use Rattle.reg_tables_sql.specs.Crates.{crate_row}
use Rattle.reg_tables_sql.specs.Archives.{archive_row}
use Rattle.reg_tables_represent.proofs.Stays.{same_crates, same_owners, same_versions, same_archives}

keeps_both : (one other : ℕ) (old mid new : Trees) → KeepsOthers one old mid → KeepsOthers other mid new → KeepsAllBut one other old new
keeps_both one other old mid new first next =
    let F : Table → Type 0 = λ t. t.tree ≢ one → mid t.tree ≡ old t.tree in
    let G : Table → Type 0 = λ t. t.tree ≢ other → new t.tree ≡ mid t.tree in
    let H : Table → Type 0 = λ t. t.tree ≢ one → t.tree ≢ other → new t.tree ≡ old t.tree in
    all_both F G H (λ t f g n m. g m ∙ f n) our_tables first next

pub more_rows : (tree : ℕ) (row : Row) (old new : State) → Adds tree row old new → IsPermutation (row ∷ old.now.trees tree) (new.now.trees tree)
more_rows tree row old new adds = subst (IsPermutation (row ∷ old.now.trees tree)) (sym adds.becomes.rows_are) (put_permutes row (old.now.trees tree) adds.fresh)

module _ (old read mid new : State) (same : read.now ≡ old.now) where
  since : (P : Trees → Type 0) → P read.now.trees → P old.now.trees
  since P h = subst (λ (db : Database). P db.trees) same h

  pub crate_added : (last : Option ℕ) (id : ℕ) (name : Text) (owner : ℕ) → IsGreatest (old.now.trees 7) (row_of_id last) → IsNext last id
      → (canonical spelling : Text) → canonical ≡ canon name → spelling ≡ name → Adds 7 (crate_row id canonical spelling) read mid → AddsColumns 9 (owner_columns id owner) mid new → AddsCrate id name owner old.now.trees new.now.trees
  crate_added last id name owner greatest next canonical spelling is_canon is_name put_crate owners =
      let crates : Adds 7 (crate_row id (canon name) name) read mid = subst (λ t. Adds 7 (crate_row id t name) read mid) is_canon (subst (λ t. Adds 7 (crate_row id canonical t) read mid) is_name put_crate) in
      let put = owners.1.becomes in
      let owner_row : Row = Int owners.0 ∷ owner_columns id owner in
      let kept : mid.now.trees 9 ≡ old.now.trees 9 = since (λ db. mid.now.trees 9 ≡ db 9) (same_owners 7 read.now.trees mid.now.trees crates.becomes.others (λ e. cc)) in
      record {
        is_next = record { last = last; greatest = greatest; next = next };
        crates = subst (IsPermutation (crate_row id (canon name) name ∷ old.now.trees 7)) (sym (same_crates 9 mid.now.trees new.now.trees put.others (λ e. cc)))
            (since (λ db. IsPermutation (crate_row id (canon name) name ∷ db 7) (mid.now.trees 7)) (more_rows 7 (crate_row id (canon name) name) read mid crates));
        rowid = owners.0;
        free = subst (λ (rows : List Row). is_taken rows owner_row ≡ false) kept owners.1.fresh;
        owners = put.rows_are ∙ ap (put_row owner_row) kept;
        others = since (λ db. KeepsAllBut 7 9 db new.now.trees) (keeps_both 7 9 read.now.trees mid.now.trees new.now.trees crates.becomes.others put.others);
      }

  pub version_added : (last : Option ℕ) (id of_crate : ℕ) (p : Publication) → IsGreatest (old.now.trees 11) (row_of_id last) → IsNext last id
      → (release : Text) → release ≡ release_key_of p.version → Adds 11 (version_row id of_crate p.version release p.digest p.stem p.description false) read mid → Adds 13 (archive_row id p.archive) mid new → AddsVersion id of_crate p old.now.trees new.now.trees
  version_added last id of_crate p greatest next release is put_version archives =
      let row = version_row id of_crate p.version (release_key_of p.version) p.digest p.stem p.description false in
      let versions : Adds 11 row read mid = subst (λ t. Adds 11 (version_row id of_crate p.version t p.digest p.stem p.description false) read mid) is put_version in
      let put = archives.becomes in
      let kept : mid.now.trees 13 ≡ old.now.trees 13 = since (λ db. mid.now.trees 13 ≡ db 13) (same_archives 11 read.now.trees mid.now.trees versions.becomes.others (λ e. cc)) in
      record {
        is_next = record { last = last; greatest = greatest; next = next };
        versions = subst (IsPermutation (row ∷ old.now.trees 11)) (sym (same_versions 13 mid.now.trees new.now.trees put.others (λ e. cc)))
            (since (λ db. IsPermutation (row ∷ db 11) (mid.now.trees 11)) (more_rows 11 row read mid versions));
        archives = subst (λ (rows : List Row). IsPermutation (archive_row id p.archive ∷ rows) (new.now.trees 13)) kept (more_rows 13 (archive_row id p.archive) mid new archives);
        others = since (λ db. KeepsAllBut 11 13 db new.now.trees) (keeps_both 11 13 read.now.trees mid.now.trees new.now.trees versions.becomes.others put.others);
      }
