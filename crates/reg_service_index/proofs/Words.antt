-- What many proofs here use, passed on to them.
pub use Rattle.std.proofs.Common.{Bool, Err, List, Ok, Result, Some, [], ap, append-nil, append_assoc, arith, false, inl, inr, pos, refl}
pub use Rattle.std.proofs.Common.{subst, sym, zero, ℕ, ◌++◌, ◌+◌, ◌∙◌, ◌∷◌, ◌≡◌, ◌⊎◌}
pub use Rattle.std.proofs.lemmas.Result.{err_from_is_err_and}
pub use Rattle.reg_api_replies.proofs.Joined.{pile_stopped, piles_behind, stopped_first}
pub use Rattle.reg_api_replies.specs.Piled.{Piles}
pub use Rattle.reg_body.specs.Sent.{IsStopped, SendsAll, Sink}
pub use Rattle.reg_body.specs.declared.bytes.SendFault.{SendFault}
pub use Rattle.reg_model.specs.Registry.{Text}
pub use Rattle.reg_tables.specs.Works.{held}
pub use Rattle.reg_tables.specs.declared.tables.Tables.{Tables}
pub use Rattle.reg_tables_represent.proofs.Walking.{walk_ends}
pub use Rattle.reg_tables_represent.specs.Entries.{entry_row}
pub use Rattle.reg_tables_represent.specs.Walks.{HasWalked}
pub use Rattle.reg_tables_schema.specs.Statements.{rows_in}
pub use Rattle.reg_tables_schema.specs.States.{IsOurs}
pub use Rattle.reg_tables_sql.specs.Stems.{AreStemsOf, entries_text}
pub use Rattle.sqlite.specs.Held.{Held, state}
pub use Rattle.sqlite.specs.Order.{Row}
pub use Rattle.sqlite.specs.State.{HasCleanDisk}
pub use Rattle.sqlite.specs.declared.types.Value.TheVariants.{Int}
pub use Rattle.sqlite_trees.specs.declared.store.Store.{Ghosts}
pub use Rattle.reg_service_index.specs.Files.{BeginsFile, SendsRows, rows_text}
pub use Rattle.reg_service_index.specs.Lines.{lines_in}
pub use Rattle.reg_service_index.specs.Streams.{IsBroken, fault_of}
pub use Rattle.reg_service_index.specs.declared.fault.IndexFault.{IndexFault}
pub use Rattle.reg_service_index.specs.declared.fault.IndexFault.TheVariants.{Store}
