-- Rows of our schema keep the rules of their tables.
use Rattle.reg_check_sound.proofs.Words.{◌&&◌, codes, drop, and_parts, not-true, Obeys, clashes, has_parent, Datatype, NotNull, plain}
use Rattle.reg_check_sound.proofs.Words.{both_all, our_tables, ours, refers, account_columns, columns_of_token, Account, Token, AreAllRows}
use Rattle.reg_check_sound.proofs.Words.{KeepsRules, RefersTo}
use Rattle.reg_check_sound.proofs.Common.{◌≡◌, [], ◌∷◌, all_weaker, AllByRecursion, AllRows, are_counted, column, false, is_null, List, map, not, refl, Row, Trees, true, ℕ}
use Rattle.sqlite_schema.specs.Rules.{Keeps}
use Rattle.sqlite_schema.specs.declared.schema.Constraint.TheVariants.{ForeignKey, Unique}
use Rattle.reg_tables_schema.specs.Schema as schema
use Rattle.reg_tables_rows.specs.WholeRows.{HaveIds}
use Rattle.reg_check_sound.specs.Rules.{HaveColumns, HaveParents, HaveUniques}
use Rattle.reg_check_sound.proofs.OwnRowids.{numbered_there, own_rowids, rowids_there}
use Rattle.reg_check_sound.proofs.RowColumns.{filled, keyed_rows, whole_rows}
use Rattle.reg_check_sound.proofs.RowKeys.{unique_at, unique_by}
use Rattle.reg_check_sound.proofs.RowParents.{accounts_key, crates_key, refers_to, versions_key}

module _ (db : Trees) (h : Obeys ours db) where
  typed : Keeps Datatype ours db
  typed = h.rules Datatype

  present : Keeps NotNull ours db
  present = h.rules NotNull

  have_columns : HaveColumns db
  have_columns = record {
    about = whole_rows db schema.about 1 refl refl (db 0) typed.0 present.0;
    accounts = keyed_rows db schema.accounts 3 refl refl refl (db 1) typed.1.0 present.1.0;
    tokens = keyed_rows db schema.tokens 7 refl refl refl (db 3) typed.1.1.0 present.1.1.0;
    scopes = whole_rows db schema.scopes 4 refl refl (db 5) typed.1.1.1.0 present.1.1.1.0;
    crates = keyed_rows db schema.crates 2 refl refl refl (db 7) typed.1.1.1.1.0 present.1.1.1.1.0;
    owners = whole_rows db schema.owners 1 refl refl (db 9) typed.1.1.1.1.1.0 present.1.1.1.1.1.0;
    versions = keyed_rows db schema.versions 7 refl refl refl (db 11) typed.1.1.1.1.1.1.0 present.1.1.1.1.1.1.0;
    archives = keyed_rows db schema.archives 1 refl refl refl (db 13) typed.1.1.1.1.1.1.1.0 present.1.1.1.1.1.1.1.0;
    reserved = whole_rows db schema.reserved 0 refl refl (db 14) typed.1.1.1.1.1.1.1.1.0 present.1.1.1.1.1.1.1.1.0;
    summaries = keyed_rows db schema.summaries 2 refl refl refl (db 16) typed.1.1.1.1.1.1.1.1.1.0 present.1.1.1.1.1.1.1.1.1.0;
    readers = whole_rows db schema.readers 1 refl refl (db 18) typed.1.1.1.1.1.1.1.1.1.1.1.0 present.1.1.1.1.1.1.1.1.1.1.1.0;
  }

  unique : Keeps Unique ours db
  unique = h.rules Unique

  -- a row that keeps UNIQUE clashes with none
  free : (places : List ℕ) (rows : List Row) → AllByRecursion (λ row. (not (clashes plain places rows row) && true) ≡ true) rows → AllByRecursion (λ row. clashes plain places rows row ≡ false) rows
  free places rows = all_weaker (λ row. (not (clashes plain places rows row) && true) ≡ true) (λ row. clashes plain places rows row ≡ false)
      (λ row kept. not-true (clashes plain places rows row) (and_parts (not (clashes plain places rows row)) true kept).0) rows

  have_uniques : (it : AllRows) → AreAllRows it db → are_counted 1 (map (λ a. a.id) it.accounts.items) ≡ true → are_counted 1 (map (λ t. t.id) it.tokens.items) ≡ true → HaveUniques db
  have_uniques it are accounts tokens =
      let account_id = λ (a : Account). drop 1 (account_columns a) in
      let token_id = λ (t : Token). drop 1 (columns_of_token t) in
      let own = are.apart in
      record {
        logins = unique_at (db 1) (own_rowids (λ a. a.id) account_id (2 ∷ 3 ∷ 4 ∷ []) (db 1) it.accounts.items are.accounts accounts) (rowids_there (λ a. a.id) account_id (2 ∷ 3 ∷ 4 ∷ []) (db 1) it.accounts.items are.accounts)
            2 (filled db schema.accounts 1 refl (db 1) present.1.0) (free (2 ∷ []) (db 1) unique.1.0);
        digests = unique_at (db 3) (own_rowids (λ t. t.id) token_id (2 ∷ 3 ∷ 4 ∷ 5 ∷ 6 ∷ 7 ∷ 8 ∷ []) (db 3) it.tokens.items are.tokens tokens) (rowids_there (λ t. t.id) token_id (2 ∷ 3 ∷ 4 ∷ 5 ∷ 6 ∷ 7 ∷ 8 ∷ []) (db 3) it.tokens.items are.tokens)
            2 (filled db schema.tokens 1 refl (db 3) present.1.1.0) (free (2 ∷ []) (db 3) unique.1.1.0);
        canons = unique_at (db 7) own.crates.0 (numbered_there (db 7) own.crates.1) 2 (filled db schema.crates 1 refl (db 7) present.1.1.1.1.0) (free (2 ∷ []) (db 7) unique.1.1.1.1.0);
        owners = unique_by (db 9) own.owners.0 (numbered_there (db 9) own.owners.1) 1 2 (filled db schema.owners 0 refl (db 9) present.1.1.1.1.1.0) (filled db schema.owners 1 refl (db 9) present.1.1.1.1.1.0) (free (1 ∷ 2 ∷ []) (db 9) unique.1.1.1.1.1.0);
        releases = unique_by (db 11) own.versions.0 (numbered_there (db 11) own.versions.1) 2 4 (filled db schema.versions 1 refl (db 11) present.1.1.1.1.1.1.0) (filled db schema.versions 3 refl (db 11) present.1.1.1.1.1.1.0) (free (2 ∷ 4 ∷ []) (db 11) unique.1.1.1.1.1.1.0);
        readers = unique_by (db 18) own.readers.0 (numbered_there (db 18) own.readers.1) 1 2 (filled db schema.readers 0 refl (db 18) present.1.1.1.1.1.1.1.1.1.1.1.0) (filled db schema.readers 1 refl (db 18) present.1.1.1.1.1.1.1.1.1.1.1.0)
            (free (1 ∷ 2 ∷ []) (db 18) unique.1.1.1.1.1.1.1.1.1.1.1.0);
      }

  keys : Keeps ForeignKey ours db
  keys = h.rules ForeignKey

  have_parents : HaveIds (db 13) → HaveParents db
  have_parents archive_ids =
      let to_accounts = λ (place : ℕ) (row : Row). has_parent our_tables db row (refers place (codes "accounts")) in
      let to_crates = λ (place : ℕ) (row : Row). has_parent our_tables db row (refers place (codes "crates")) in
      let to_versions = λ (place : ℕ) (row : Row). has_parent our_tables db row (refers place (codes "versions")) in
      let owner_keys = λ (row : Row). (to_crates 1 row && (to_accounts 2 row && true)) ≡ true in
      record {
        token_accounts = both_all (λ row. (to_accounts 3 row && true) ≡ true) (λ row. is_null (column row 3) ≡ false) (RefersTo (db 1) 3)
            (λ row kept there. refers_to db 3 1 (codes "accounts") (accounts_key 3) row (and_parts (to_accounts 3 row) true kept).0 there)
            (db 3) keys.1.1.0 (filled db schema.tokens 2 refl (db 3) present.1.1.0);
        owner_crates = both_all owner_keys (λ row. is_null (column row 1) ≡ false) (RefersTo (db 7) 1)
            (λ row kept there. refers_to db 1 7 (codes "crates") (crates_key 1) row (and_parts (to_crates 1 row) (to_accounts 2 row && true) kept).0 there)
            (db 9) keys.1.1.1.1.1.0 (filled db schema.owners 0 refl (db 9) present.1.1.1.1.1.0);
        owner_accounts = both_all owner_keys (λ row. is_null (column row 2) ≡ false) (RefersTo (db 1) 2)
            (λ row kept there. refers_to db 2 1 (codes "accounts") (accounts_key 2) row (and_parts (to_accounts 2 row) true (and_parts (to_crates 1 row) (to_accounts 2 row && true) kept).1).0 there)
            (db 9) keys.1.1.1.1.1.0 (filled db schema.owners 1 refl (db 9) present.1.1.1.1.1.0);
        archive_versions = both_all (λ row. (to_versions 0 row && true) ≡ true) (λ row. is_null (column row 0) ≡ false) (RefersTo (db 11) 0)
            (λ row kept there. refers_to db 0 11 (codes "versions") (versions_key 0) row (and_parts (to_versions 0 row) true kept).0 there)
            (db 13) keys.1.1.1.1.1.1.1.0 archive_ids;
      }

  pub keeps_rules : (it : AllRows) → AreAllRows it db → are_counted 1 (map (λ a. a.id) it.accounts.items) ≡ true → are_counted 1 (map (λ t. t.id) it.tokens.items) ≡ true → KeepsRules db
  keeps_rules it are accounts tokens = record {
    columns = have_columns;
    uniques = have_uniques it are accounts tokens;
    parents = have_parents are.archives;
  }
