-- The tables of owners and of readers, and their SQL texts.
use Rattle.std.specs.Prelude.{ℕ, List}
use Rattle.reg_tables_schema.specs.Places.{owners_tree, readers_tree}
use Rattle.reg_tables_sql.specs.declared.pairs.Relation.{Relation}
use Rattle.reg_tables_sql.specs.declared.pairs.Relation.TheVariants.{Owners, Readers}
use Rattle.reg_tables_sql.specs.declared.pairs.TheConstants.{INSERT_OWNER_TEXT, REMOVE_OWNER_TEXT, OWNER_TEXT, OWNING_ACCOUNTS_TEXT, ALL_OWNERS_TEXT, OWNER_ROWIDS_TEXT}
use Rattle.reg_tables_sql.specs.declared.pairs.TheConstants.{INSERT_READER_TEXT, REMOVE_READER_TEXT, READER_TEXT, READING_ACCOUNTS_TEXT, ALL_READERS_TEXT, READER_ROWIDS_TEXT}

-- the tree of a relation's table
abbrev pub tree_of : Relation → ℕ
tree_of Owners = owners_tree
tree_of Readers = readers_tree

abbrev pub insert_text : Relation → List ℕ
insert_text Owners = INSERT_OWNER_TEXT.now
insert_text Readers = INSERT_READER_TEXT.now

abbrev pub remove_text : Relation → List ℕ
remove_text Owners = REMOVE_OWNER_TEXT.now
remove_text Readers = REMOVE_READER_TEXT.now

abbrev pub pair_text : Relation → List ℕ
pair_text Owners = OWNER_TEXT.now
pair_text Readers = READER_TEXT.now

abbrev pub accounts_text : Relation → List ℕ
accounts_text Owners = OWNING_ACCOUNTS_TEXT.now
accounts_text Readers = READING_ACCOUNTS_TEXT.now

abbrev pub all_text : Relation → List ℕ
all_text Owners = ALL_OWNERS_TEXT.now
all_text Readers = ALL_READERS_TEXT.now

abbrev pub rowids_text : Relation → List ℕ
rowids_text Owners = OWNER_ROWIDS_TEXT.now
rowids_text Readers = READER_ROWIDS_TEXT.now
