-- Owners and readers of crates, each a set of crates and accounts.
use Rattle.std.specs.Prelude.{ℕ, List}
use Rattle.std.specs.FinSet as finset
use Rattle.reg_model.specs.Crates.{owners, readers}
use Rattle.reg_model.specs.Registry.{Account, Registry, Text, owner_cmp}
use Rattle.reg_tables_sql.specs.declared.pairs.Relation.{Relation}
use Rattle.reg_tables_sql.specs.declared.pairs.Relation.TheVariants.{Owners, Readers}

-- the set of a relation
abbrev pub related : Relation → Registry → finset.FinSet owner_cmp
related Owners s = s.owners
related Readers s = s.readers

-- another set in its place
abbrev pub with_related : Relation → finset.FinSet owner_cmp → Registry → Registry
with_related Owners held s = record s { owners = held }
with_related Readers held s = record s { readers = held }

-- the accounts in a relation with the crate of this canonical text, by id
abbrev pub accounts_related : Relation → Registry → Text → List (ℕ × Account)
accounts_related Owners = owners
accounts_related Readers = readers
