-- What each text makes is computed.
use Rattle.reg_tables_schema.proofs.Words.{◌≡◌, ℕ, List, false, Ok, refl, Table, Schema, CreateTable, created, next_tree, lacks_sequence}
use Rattle.reg_tables_schema.proofs.Words.{IsPlain, command_of, statement_of, ABOUT, RESERVED, blank, first_of_ours, ours, old_schema}
use Rattle.reg_tables_schema.proofs.Words.{about, accounts, tokens, scopes, crates, owners, versions, reserved, restricted, readers, ABOUT}
use Rattle.reg_tables_schema.proofs.Words.{RESERVED}
use Rattle.sqlite.specs.Compile.{table_defined_by}
use Rattle.sqlite.specs.Listing.{understood}
use Rattle.sqlite_tied.specs.Compute.{everything}
use Rattle.reg_tables_schema.specs.Schema.{archives, summaries}
use Rattle.reg_tables_schema.specs.declared.texts.TheConstants.{ACCOUNTS, TOKENS, SCOPES, CRATES, OWNERS, VERSIONS, ARCHIVES, SUMMARIES, RESTRICTED, READERS}

-- the text makes the table, and leads from one schema to the next
pub record IsStep (text : List ℕ) (table : Table) (before after : Schema) : Type 0 where
  pub command : command_of (understood before text) ≡ CreateTable
  pub statement : statement_of text (understood before text) ≡ text
  pub plain : IsPlain (understood before text)
  pub defined : table_defined_by text ≡ Ok table
  pub leads : created before table ≡ after
  pub uncounted : lacks_sequence after ≡ false

pub about_step : IsStep ABOUT.now (record about { tree = 0 }) blank (first_of_ours 1 0)
unfolding understood everything
about_step = record { command = refl; statement = refl; plain = (refl, refl); defined = refl; leads = refl; uncounted = refl }

pub accounts_step : IsStep ACCOUNTS.now (record accounts { tree = 0 }) (first_of_ours 1 0) (first_of_ours 2 1)
unfolding understood everything
accounts_step = record { command = refl; statement = refl; plain = (refl, refl); defined = refl; leads = refl; uncounted = refl }

pub tokens_step : IsStep TOKENS.now (record tokens { tree = 0 }) (first_of_ours 2 1) (first_of_ours 3 2)
unfolding understood everything
tokens_step = record { command = refl; statement = refl; plain = (refl, refl); defined = refl; leads = refl; uncounted = refl }

pub scopes_step : IsStep SCOPES.now (record scopes { tree = 0 }) (first_of_ours 3 2) (first_of_ours 4 3)
unfolding understood everything
scopes_step = record { command = refl; statement = refl; plain = (refl, refl); defined = refl; leads = refl; uncounted = refl }

pub crates_step : IsStep CRATES.now (record crates { tree = 0 }) (first_of_ours 4 3) (first_of_ours 5 4)
unfolding understood everything
crates_step = record { command = refl; statement = refl; plain = (refl, refl); defined = refl; leads = refl; uncounted = refl }

pub owners_step : IsStep OWNERS.now (record owners { tree = 0 }) (first_of_ours 5 4) (first_of_ours 6 5)
unfolding understood everything
owners_step = record { command = refl; statement = refl; plain = (refl, refl); defined = refl; leads = refl; uncounted = refl }

pub versions_step : IsStep VERSIONS.now (record versions { tree = 0 }) (first_of_ours 6 5) (first_of_ours 7 6)
unfolding understood everything
versions_step = record { command = refl; statement = refl; plain = (refl, refl); defined = refl; leads = refl; uncounted = refl }

pub archives_step : IsStep ARCHIVES.now (record archives { tree = 0 }) (first_of_ours 7 6) (first_of_ours 8 6)
unfolding understood everything
archives_step = record { command = refl; statement = refl; plain = (refl, refl); defined = refl; leads = refl; uncounted = refl }

pub reserved_step : IsStep RESERVED.now (record reserved { tree = 0 }) (first_of_ours 8 6) (first_of_ours 9 7)
unfolding understood everything
reserved_step = record { command = refl; statement = refl; plain = (refl, refl); defined = refl; leads = refl; uncounted = refl }

pub summaries_step : IsStep SUMMARIES.now (record summaries { tree = 0 }) (first_of_ours 9 7) old_schema
unfolding understood everything
summaries_step = record { command = refl; statement = refl; plain = (refl, refl); defined = refl; leads = refl; uncounted = refl }

pub restricted_step : IsStep RESTRICTED.now (record restricted { tree = 0 }) old_schema (first_of_ours 11 7)
unfolding understood everything
restricted_step = record { command = refl; statement = refl; plain = (refl, refl); defined = refl; leads = refl; uncounted = refl }

pub readers_step : IsStep READERS.now (record readers { tree = 0 }) (first_of_ours 11 7) ours
unfolding understood everything
readers_step = record { command = refl; statement = refl; plain = (refl, refl); defined = refl; leads = refl; uncounted = refl }

-- the trees of the tables that an old store does not have
pub restricted_next : next_tree old_schema ≡ 17
unfolding everything
restricted_next = refl

pub readers_next : next_tree (first_of_ours 11 7) ≡ 18
unfolding everything
readers_next = refl
