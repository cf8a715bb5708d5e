-- The tables that the texts make, as `sqlite` keeps them.
-- Each table takes the next tree, and then each of its UNIQUE keys takes one. A row is its rowid
-- and then its columns, so column i stands at place i + 1; an INTEGER PRIMARY KEY is the rowid, at
-- place 0, and reads as NULL in its own column.
use Rattle.std.specs.Prelude.{true, false, [], ◌∷◌, Bool, Option, Some, None, codes, take, List, ℕ, pos}
use Rattle.sqlite.specs.Collation.TheVariants.{Binary}
use Rattle.sqlite.specs.declared.types.Value.TheVariants.{Null, Int}
use Rattle.sqlite.specs.Table.{Table}
use Rattle.sqlite.specs.Schema.{Schema}
use Rattle.sqlite.specs.Kind.{Kind}
use Rattle.sqlite.specs.Kind.TheVariants.{Integer, Text, Blob}
use Rattle.sqlite_sql.specs.Term.{Term, lit, col, op1, op2}
use Rattle.sqlite_sql.specs.declared.ops.BinaryOp.TheVariants.{And, Or, Compare}
use Rattle.sqlite_sql.specs.declared.ops.UnaryOp.TheVariants.{Length}
use Rattle.sqlite_sql.specs.declared.ops.CompareOp.{CompareOp}
use Rattle.sqlite_sql.specs.declared.ops.CompareOp.TheVariants.{Eq, Ge, Le}
use Rattle.sqlite_schema.specs.declared.schema.Column.{Column}
use Rattle.sqlite_schema.specs.declared.schema.Index.{Index}
use Rattle.sqlite_schema.specs.declared.schema.Reference.{Reference}
use Rattle.sqlite_schema.specs.declared.schema.Action.TheVariants.{NoAction}
use Rattle.sqlite_value.specs.Keys.{plain}
use Rattle.sqlite_value.specs.declared.keys.Order.{Order}
use Rattle.sqlite_catalog.specs.Listing.{automatic}
use Rattle.reg_tables_schema.specs.declared.edition.SchemaVersion.{SchemaVersion}
use Rattle.reg_tables_schema.specs.declared.edition.SchemaVersion.TheVariants.{First, Second}

abbrev pub column : List ℕ → Kind → Bool → Column
column name kind not_null = record {
  name = name;
  kind = kind;
  is_strict = true;
  not_null = not_null;
  default = Null;
  collation = Binary;
}

abbrev pub number : ℕ → Term
number n = lit (Int (pos n))

abbrev pub compare : CompareOp → Term → ℕ → Term
compare op t n = op2 (Compare op Binary) t (number n)

-- the column at this place is 0 or 1
abbrev pub is_mark : ℕ → Term
is_mark place = op2 Or (compare Eq (col 1 place) 0) (compare Eq (col 1 place) 1)

-- the key counts from 1, as a u32
abbrev pub is_id : Term
is_id = op2 And (compare Ge (col 1 0) 1) (compare Le (col 1 0) 4294967295)

-- a foreign key on the id of a table
abbrev pub refers : ℕ → List ℕ → Reference
refers place parent = record {
  columns = place ∷ [];
  parent = parent;
  parent_columns = codes "id"
      ∷ [];
  on_delete = NoAction;
  on_update = NoAction;
  is_deferred = false;
}

abbrev pub table : List ℕ → ℕ → List Column → Option ℕ → List ℕ → List (List ℕ) → List Order
    → List Term → List Reference → Table
table name tree columns key primary uniques orders checks references = record {
  name = name;
  tree = tree;
  columns = columns;
  key = key;
  primary = primary;
  uniques = uniques;
  orders = orders;
  checks = checks;
  references = references;
  computed = [];
  stamps = record { places = []; terms = []; formats = [] };
  is_counted = false;
}

abbrev pub about : Table
about = table (codes "about") 0 (column (codes "schema") Integer true ∷ column
    (codes "base") Text true ∷ []) None [] [] [] [] []

abbrev pub accounts : Table
accounts = table (codes "accounts") 1
    (column (codes "id") Integer false ∷ column (codes "login") Text true ∷ column
    (codes "name") Text false ∷ column (codes "enabled") Integer true ∷ [])
    (Some 0) (0 ∷ []) ((2 ∷ []) ∷ []) (plain ∷ []) (is_id ∷ is_mark 4 ∷ []) []

abbrev pub tokens : Table
tokens = table (codes "tokens") 3
    (column (codes "id") Integer false ∷ column (codes "digest") Blob true ∷ column
    (codes "account") Integer true ∷ column (codes "live") Integer true ∷ column
    (codes "publish_new") Integer true
    ∷ column (codes "publish_update") Integer true ∷ column (codes "yank") Integer true ∷ column
    (codes "change_owners") Integer true ∷ [])
    (Some 0) (0 ∷ []) ((2 ∷ []) ∷ []) (plain ∷ [])
    (is_id ∷ compare Eq (op1 Length (col 1 2)) 32 ∷ is_mark 4 ∷ is_mark 5 ∷ is_mark 6 ∷ is_mark 7
    ∷ is_mark 8 ∷ []) (refers 3 (codes "accounts") ∷ [])

abbrev pub scopes : Table
scopes = table (codes "scopes") 5
    (column (codes "token") Integer true ∷ column (codes "place") Integer true ∷ column
    (codes "pattern") Text true ∷ column (codes "low") Text true ∷ column
    (codes "high") Text true ∷ [])
    None (1 ∷ 2 ∷ []) ((1 ∷ 2 ∷ []) ∷ []) (plain ∷ []) (compare Ge (col 1 2) 0 ∷ [])
    (refers 1 (codes "tokens") ∷ [])

abbrev pub crates : Table
crates = table (codes "crates") 7 (column (codes "id") Integer false ∷ column
    (codes "canon") Text true ∷ column (codes "name") Text true ∷ []) (Some 0) (0 ∷ [])
    ((2 ∷ []) ∷ []) (plain ∷ []) (is_id ∷ []) []

abbrev pub owners : Table
owners = table (codes "owners") 9 (column (codes "crate") Integer true ∷ column
    (codes "account") Integer true ∷ []) None (1 ∷ 2 ∷ []) ((1 ∷ 2 ∷ []) ∷ []) (plain ∷ []) []
    (refers 1 (codes "crates") ∷ refers 2 (codes "accounts") ∷ [])

abbrev pub versions : Table
versions = table (codes "versions") 11
    (column (codes "id") Integer false ∷ column (codes "crate") Integer true ∷ column
    (codes "vers") Text true ∷ column (codes "release") Text true ∷ column
    (codes "digest") Blob true ∷ column (codes "stem") Blob true
    ∷ column (codes "description") Text false ∷ column (codes "yanked") Integer true ∷ [])
    (Some 0) (0 ∷ []) ((2 ∷ 4 ∷ []) ∷ []) (plain ∷ []) (compare Ge (col 1 0) 1 ∷ is_mark 8 ∷ [])
    (refers 2 (codes "crates") ∷ [])

abbrev pub archives : Table
archives = table (codes "archives") 13 (column (codes "version") Integer false ∷ column
    (codes "bytes") Blob true ∷ []) (Some 0) (0 ∷ []) [] [] [] (refers 0 (codes "versions") ∷ [])

abbrev pub reserved : Table
reserved = table (codes "reserved") 14 (column (codes "canon") Text true ∷ []) None (1 ∷ [])
    ((1 ∷ []) ∷ []) (plain ∷ []) [] []

-- of each crate the greatest version that is not yanked, and the length of its index file
abbrev pub summaries : Table
summaries = table (codes "summaries") 16
    (column (codes "crate") Integer false ∷ column (codes "highest") Integer true ∷ column
    (codes "index_length") Integer true ∷ [])
    (Some 0) (0 ∷ []) [] [] (compare Ge (col 1 3) 0 ∷ [])
    (refers 0 (codes "crates") ∷ refers 2 (codes "versions") ∷ [])

-- the crates that are not for everyone
abbrev pub restricted : Table
restricted = table (codes "restricted") 17 (column (codes "crate") Integer false ∷ [])
    (Some 0) (0 ∷ []) [] [] [] (refers 0 (codes "crates") ∷ [])

-- who may read a restricted crate
abbrev pub readers : Table
readers = table (codes "readers") 18 (column (codes "crate") Integer true ∷ column
    (codes "account") Integer true ∷ []) None (1 ∷ 2 ∷ []) ((1 ∷ 2 ∷ []) ∷ []) (plain ∷ []) []
    (refers 1 (codes "crates") ∷ refers 2 (codes "accounts") ∷ [])

abbrev pub our_tables : List Table
our_tables = about ∷ accounts ∷ tokens ∷ scopes ∷ crates ∷ owners ∷ versions ∷ archives ∷ reserved
    ∷ summaries ∷ restricted ∷ readers ∷ []

abbrev pub our_indexes : List Index
our_indexes =
    automatic accounts 0 (2 ∷ []) 2 ∷ automatic tokens 0 (2 ∷ []) 4 ∷ automatic scopes 0
    (1 ∷ 2 ∷ []) 6 ∷ automatic crates 0 (2 ∷ []) 8 ∷ automatic owners 0 (1 ∷ 2 ∷ []) 10
    ∷ automatic versions 0 (2 ∷ 4 ∷ []) 12 ∷ automatic reserved 0 (1 ∷ []) 15
    ∷ automatic readers 0 (1 ∷ 2 ∷ []) 19 ∷ []

-- schema 2, which a registry that is written to has
abbrev pub ours : Schema
ours = record { tables = our_tables; indexes = our_indexes; views = [] }

-- schema 1: without the tables of readers
abbrev pub old_tables : List Table
old_tables = take 10 our_tables

abbrev pub old_indexes : List Index
old_indexes = take 7 our_indexes

abbrev pub old_schema : Schema
old_schema = record { tables = old_tables; indexes = old_indexes; views = [] }

-- the schema of an edition, and its number
abbrev pub schema_of : SchemaVersion → Schema
schema_of First = old_schema
schema_of Second = ours

abbrev pub number_of : SchemaVersion → ℕ
number_of First = 1
number_of Second = 2

-- the schema with the first of our tables and indexes
abbrev pub first_of_ours : ℕ → ℕ → Schema
first_of_ours tables indexes = record {
  tables = take tables our_tables;
  indexes = take indexes our_indexes;
  views = [];
}

-- the schema of a store that holds nothing
abbrev pub blank : Schema
blank = record { tables = []; indexes = []; views = [] }
