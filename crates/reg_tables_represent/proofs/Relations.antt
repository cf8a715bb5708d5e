-- Owners and readers, as the rows stand for them.
use Rattle.reg_tables_represent.proofs.Words.{tree_of, told_of, entry_of_account, related, with_related, IdAssignment, StandPairs, StandsBy}
use Rattle.reg_tables_represent.proofs.Words.{spelling_at}
use Rattle.reg_tables_represent.proofs.Common.{◌≡◌, [], KeepsOthers, List, map, owner_cmp, Registry, Trees, ℕ}
use Rattle.std.specs.FinSet as finset
use Rattle.reg_tables_sql.specs.declared.accounts.Account.{Account}
use Rattle.reg_tables_sql.specs.declared.pairs.Relation.{Relation}
use Rattle.reg_tables_sql.specs.declared.pairs.Relation.TheVariants.{Owners, Readers}
use Rattle.reg_tables_sql.specs.Pairs.{AreAccountsOf}
use Rattle.reg_tables_represent.specs.Relations.{accounts_related}
use Rattle.reg_tables_represent.proofs.PairEntries.{lists_accounts_of}
use Rattle.reg_tables_represent.proofs.Stays.{with_owners, with_readers}

-- the set of a relation stands in the rows of its table
pub pairs_of : (relation : Relation) (ids : IdAssignment) (s : Registry) (db : Trees) → StandsBy ids s db → StandPairs ids.crates (related relation s) (db (tree_of relation))
pairs_of Owners ids s db stands = stands.owners
pairs_of Readers ids s db stands = stands.readers

-- the registry after a change of one of the two tables
pub with_pairs : (relation : Relation) (ids : IdAssignment) (s : Registry) (old new : Trees) → StandsBy ids s old → (held : finset.FinSet owner_cmp) → KeepsOthers (tree_of relation) old new → StandPairs ids.crates held (new (tree_of relation))
    → StandsBy ids (with_related relation held s) new
with_pairs Owners ids s old new stands held others changed = with_owners ids s old new stands held others changed
with_pairs Readers ids s old new stands held others changed = with_readers ids s old new stands held others changed

-- the same set in its own place changes nothing
pub with_itself : (relation : Relation) (ids : IdAssignment) (s : Registry) (db : Trees) → StandsBy ids s db → StandsBy ids (with_related relation (related relation s) s) db
with_itself Owners ids s db stands = stands
with_itself Readers ids s db stands = stands

pub lists_related : (relation : Relation) (ids : IdAssignment) (s : Registry) (db : Trees) → StandsBy ids s db → (id : ℕ) (list : List Account) → AreAccountsOf (tree_of relation) id db list
    → map entry_of_account list ≡ told_of (spelling_at ids id) [] (accounts_related relation s)
lists_related Owners ids s db stands id list h = lists_accounts_of ids s.owners s.accounts db stands.accounts 9 stands.owners id list h
lists_related Readers ids s db stands id list h = lists_accounts_of ids s.readers s.accounts db stands.accounts 18 stands.readers id list h
