-- What our schema makes of the texts of owners and of readers.
use Rattle.reg_tables_sql.proofs.Words.{◌≡◌, ℕ, ℤ, pos, Bool, List, [], ◌∷◌, length, map, not, ◌==◌, Result, OnOk, refl, Int, Row, Trees}
use Rattle.reg_tables_sql.proofs.Words.{State, Executes, Error, next_rowid, ours, IsInside, IsRowWrite, AddsColumns, Removes, step_of}
use Rattle.reg_tables_sql.proofs.Words.{cast_int, cast_null, Account, Pair, account_columns, AreAccountsOf, ArePairs, IsPaired}
use Rattle.reg_tables_sql.proofs.Words.{columns_of_pair, is_pair, pair_columns, AreRowids, rowid_columns}
use Rattle.sqlite.specs.Listing.{understood}
use Rattle.sqlite.specs.State.{Shown}
use Rattle.sqlite.specs.Given.{IsPlain}
use Rattle.sqlite_tied.specs.Compute.{everything}
use Rattle.reg_tables_schema.specs.Schema.{owners, readers}
use Rattle.reg_tables_sql.specs.declared.pairs.Relation.{Relation}
use Rattle.reg_tables_sql.specs.declared.pairs.Relation.TheVariants.{Owners, Readers}
use Rattle.reg_tables_sql.specs.Relations.{accounts_text, all_text, insert_text, pair_text, remove_text, rowids_text, tree_of}
use Rattle.reg_tables_sql.proofs.PairQueries as queries
use Rattle.reg_tables_sql.proofs.PairQueries.{ArePairQueries}
use Rattle.reg_tables_sql.proofs.PairTexts.{ArePairTexts, adds_pair, insert_terms, removes_pair}
use Rattle.reg_tables_sql.proofs.RowidQueries.{of_owners, of_readers, rowids}

owner_texts : ArePairTexts 5 owners (insert_text Owners) (remove_text Owners)
unfolding understood everything
owner_texts = record {
  found = refl;
  uncounted = refl;
  insert_is = refl;
  insert_plain = (refl, refl);
  insert_writes = refl;
  remove_is = refl;
  remove_plain = (refl, refl);
  remove_writes = refl;
  seen = λ db. refl;
}

reader_texts : ArePairTexts 11 readers (insert_text Readers) (remove_text Readers)
unfolding understood everything
reader_texts = record {
  found = refl;
  uncounted = refl;
  insert_is = refl;
  insert_plain = (refl, refl);
  insert_writes = refl;
  remove_is = refl;
  remove_plain = (refl, refl);
  remove_writes = refl;
  seen = λ db. refl;
}

owner_queries : ArePairQueries 9 (pair_text Owners) (accounts_text Owners) (all_text Owners)
unfolding understood everything
owner_queries = record {
  pair_is = record { command = refl; unlisted = refl; plain = (refl, refl) };
  of_crate_is = record { command = refl; unlisted = refl; plain = (refl, refl) };
  listed_is = record { command = refl; unlisted = refl; plain = (refl, refl) };
  seen = λ db. refl;
}

reader_queries : ArePairQueries 18 (pair_text Readers) (accounts_text Readers) (all_text Readers)
unfolding understood everything
reader_queries = record {
  pair_is = record { command = refl; unlisted = refl; plain = (refl, refl) };
  of_crate_is = record { command = refl; unlisted = refl; plain = (refl, refl) };
  listed_is = record { command = refl; unlisted = refl; plain = (refl, refl) };
  seen = λ db. refl;
}

queries_are : (relation : Relation) → ArePairQueries (tree_of relation) (pair_text relation) (accounts_text relation) (all_text relation)
queries_are Owners = owner_queries
queries_are Readers = reader_queries

owner_news : (db : Trees) (of_crate account : ℕ) → (step_of db owners (pair_columns of_crate account) insert_terms 3).news ≡ (Int (next_rowid (db 9)) ∷ pair_columns of_crate account) ∷ []
owner_news db of_crate account = rw (cast_int (pos of_crate), cast_int (pos account), cast_null)

reader_news : (db : Trees) (of_crate account : ℕ) → (step_of db readers (pair_columns of_crate account) insert_terms 3).news ≡ (Int (next_rowid (db 18)) ∷ pair_columns of_crate account) ∷ []
reader_news db of_crate account = rw (cast_int (pos of_crate), cast_int (pos account), cast_null)

pub insert_writes : (relation : Relation) → IsRowWrite (understood ours (insert_text relation))
insert_writes Owners = owner_texts.insert_writes
insert_writes Readers = reader_texts.insert_writes

pub remove_writes : (relation : Relation) → IsRowWrite (understood ours (remove_text relation))
remove_writes Owners = owner_texts.remove_writes
remove_writes Readers = reader_texts.remove_writes

pub pair_plain : (relation : Relation) → IsPlain (understood ours (pair_text relation))
pair_plain relation = (queries_are relation).pair_is.plain

pub accounts_plain : (relation : Relation) → IsPlain (understood ours (accounts_text relation))
accounts_plain relation = (queries_are relation).of_crate_is.plain

pub all_plain : (relation : Relation) → IsPlain (understood ours (all_text relation))
all_plain relation = (queries_are relation).listed_is.plain

pub rowids_plain : (relation : Relation) → IsPlain (understood ours (rowids_text relation))
rowids_plain Owners = of_owners.is.plain
rowids_plain Readers = of_readers.is.plain

module _ (relation : Relation) (old new : State) (at : IsInside old) where
  pub paired : (of_crate account : ℕ) (rows : List Row) (there : Bool) → Shown (pair_text relation) (pair_columns of_crate account) old new rows → there ≡ not (length rows == 0) → IsPaired (tree_of relation) of_crate account old.now.trees there
  paired of_crate account rows there = queries.paired (queries_are relation) old new at of_crate account rows there

  pub of_crate : (id : ℕ) (list : List Account) → Shown (accounts_text relation) (Int (pos id) ∷ []) old new (map account_columns list) → AreAccountsOf (tree_of relation) id old.now.trees list
  of_crate id list = queries.of_crate (queries_are relation) old new at id list

  pub listed : (list : List Pair) → Shown (all_text relation) [] old new (map columns_of_pair list) → ArePairs (tree_of relation) old.now.trees list
  listed list = queries.listed (queries_are relation) old new at list

pub numbered : (relation : Relation) (old new : State) (list : List ℤ) → IsInside old → Shown (rowids_text relation) [] old new (map rowid_columns list) → AreRowids (tree_of relation) old.now.trees list
numbered Owners old new list at h = rowids of_owners old new list at h
numbered Readers old new list at h = rowids of_readers old new list at h

module _ (old new : State) (of_crate account : ℕ) (r : Result ℕ Error) (at : IsInside old) where
  pub inserts : (relation : Relation) → Executes (insert_text relation) (pair_columns of_crate account) old new r → OnOk r (AddsColumns (tree_of relation) (pair_columns of_crate account) old new)
  inserts Owners h = adds_pair owner_texts old new of_crate account r at (owner_news old.now.trees of_crate account) h
  inserts Readers h = adds_pair reader_texts old new of_crate account r at (reader_news old.now.trees of_crate account) h

  pub removes : (relation : Relation) → Executes (remove_text relation) (pair_columns of_crate account) old new r → OnOk r (Removes (tree_of relation) (is_pair of_crate account) old new)
  removes Owners h = removes_pair owner_texts old new of_crate account r at h
  removes Readers h = removes_pair reader_texts old new of_crate account r at h
