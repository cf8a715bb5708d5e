-- What a refusal by name tells of a connection.
use Rattle.std.proofs.Common.{◌≡◌, inl, inr, ℕ, List, Err, IsTrue, false, sym, ◌∙◌}
use Rattle.std.proofs.lemmas.Bool.{cases_Bool}
use Rattle.sqlite.specs.Order.{Row}
use Rattle.sqlite.specs.State.{State, Executes, ExecutesIn, IsNotRun, shows_rows, store_error}
use Rattle.sqlite.specs.declared.error.Error.{Error}
use Rattle.sqlite.specs.declared.error.Error.TheVariants.{SqliteFailure}
use Rattle.sqlite.specs.declared.error.ErrorCode.TheVariants.{TransactionState}
use Rattle.sqlite_trees.specs.declared.error.StoreError.{StoreError}
use Rattle.sqlite_trees.specs.declared.error.StoreError.TheVariants.{OutOfMemory, Io, Corrupt, Full, Broken, Unstorable}

-- no failure of the store has the name
no_cause : (cause : StoreError) → store_error cause ≡ SqliteFailure TransactionState → ⊥
no_cause OutOfMemory is = cc
no_cause Io is = cc
no_cause Corrupt is = cc
no_cause Full is = cc
no_cause Broken is = cc
no_cause Unstorable is = cc

-- a statement that is refused so leaves the connection open
pub still_open : (sql : List ℕ) (params : Row) (old new : State) (e : Error) → e ≡ SqliteFailure TransactionState → Executes sql params old new (Err e) → IsTrue new.is_open
unfolding ExecutesIn IsNotRun
still_open sql params old new e is (inl (inl h)) = h.1.0.is_open
still_open sql params old new e is (inl (inr h)) = absurd (no_cause h.0 (sym h.1 ∙ is))
still_open sql params old new e is (inr h) = elim (cases_Bool (shows_rows false h.0)) [
  | inl shows ↦ (rw shows at h.2).1.0.is_open
  | inr runs ↦ elim (rw runs at h.2) [ inl refused ↦ refused.1.0.is_open | inr failed ↦ absurd (no_cause failed.0 (sym failed.1 ∙ is)) ]
]
