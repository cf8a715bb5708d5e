-- What a write in a transaction leaves, where it is refused and over a crash; and what BEGIN, COMMIT and ROLLBACK do.
use Rattle.reg_tables_schema.proofs.Words.{◌≡◌, ◌⊎◌, inl, inr, ℕ, List, [], Bool, true, false, Ok, Err, Result, OnOk, OnErr, refl, sym, ap}
use Rattle.reg_tables_schema.proofs.Words.{subst, ◌∙◌, Row, Trees, Schema, Error, timed, State, HasCleanDisk, Survives, Shows, Executes}
use Rattle.reg_tables_schema.proofs.Words.{IsUnchanged, IsTrue, None, length, ◌≤◌, arith, subst₂, Compiled, CompileError, survives_weaker}
use Rattle.reg_tables_schema.proofs.Words.{IsPlain, command_of, runs_as, Refuses, IsUndone, writes_rows}
use Rattle.std.proofs.lemmas.Bool.{cases_Bool}
use Rattle.sqlite.specs.Command.{Command}
use Rattle.sqlite.specs.Command.TheVariants.{Begin, Commit, Rollback, Release, RollbackTo}
use Rattle.sqlite.specs.Listing.{understood}
use Rattle.sqlite.specs.State.{is_pragma, ExecutesIn, CommitsBy, MayCommit, RunsCommand, shows_rows, text_of, IsNoStatement, IsNotRun, IsRolledBack}
use Rattle.sqlite.specs.Calls.{IsWrite}
use Rattle.std.specs.Prelude.{IsSome, ◌||◌, is_some, Option}
use Rattle.sqlite_schema.specs.declared.command.Returning.{Returning}
use Rattle.sqlite.specs.Effect.{is_query}
use Rattle.sqlite_tied.specs.Compute.{everything}
use Rattle.reg_tables_schema.specs.declared.transaction.TheConstants.{BEGIN, COMMIT, ROLLBACK}

not_run : (sql : List ℕ) (params : Row) (old new : State) (e : Error) → IsNotRun old new sql params e → Refuses old new
unfolding IsNotRun
not_run sql params old new e (inl h) = inl h.1
not_run sql params old new e (inr h) = inr h.3

-- a statement that is refused changes nothing, or the transaction is undone
pub execute_refused : (sql : List ℕ) (params : Row) (old new : State) (e : Error) → Executes sql params old new (Err e) → Refuses old new
unfolding ExecutesIn
execute_refused sql params old new e (inl h) = not_run sql params old new e h
execute_refused sql params old new e (inr h) = elim (cases_Bool (shows_rows false h.0)) [
  | inl shows ↦ inl ((rw shows at h.2).1)
  | inr runs ↦ elim (rw runs at h.2) [ inl refused ↦ inl refused.1 | inr failed ↦ inr failed.3 ]
]

pub refused : (sql : List ℕ) (params : Row) (old new : State) (r : Result ℕ Error) → Executes sql params old new r → OnErr r (Refuses old new)
refused sql params old new (Ok n) h = tt
refused sql params old new (Err e) h = execute_refused sql params old new e h

no_commit : (c : Command) → writes_rows c ≡ true → c ≡ Commit → ⊥
no_commit c w is = let it : writes_rows Commit ≡ true = subst (λ k. writes_rows k ≡ true) is w in cc

no_release : (c : Command) (name : List ℕ) → writes_rows c ≡ true → c ≡ Release name → ⊥
no_release c name w is = let it : writes_rows (Release name) ≡ true = subst (λ k. writes_rows k ≡ true) is w in cc

module _ (sql : List ℕ) (params : Row) (old : State) (schema : Schema) (command : Command) (is : command_of (understood schema sql) ≡ command) where
  -- a write in a transaction commits nothing
  pub commits_nothing : old.now.schema ≡ schema → writes_rows command ≡ true → old.in_transaction ≡ true → (db : Trees) → CommitsBy sql params old db → ⊥
  unfolding CommitsBy
  commits_nothing has writes inside db h =
      let known = sym (ap command_of (sym h.1.is ∙ ap (λ s. understood s sql) has) ∙ is) in
      let wrote = subst (λ k. writes_rows k ≡ true) known writes in
      elim h.2 [
        | inl commits ↦ elim commits.0 [ inl bare ↦ no_commit h.0.command wrote bare | inr release ↦ no_release h.0.command release.0 wrote release.2 ]
        | inr writes ↦ absurd (let off = writes.0 in cc)
      ]

  pub survives_inside : (new : State) → writes_rows command ≡ true → (HasCleanDisk old → (old.now.schema ≡ schema) × (old.in_transaction ≡ true)) → Survives old new (CommitsBy sql params old) → Survives old new (λ _. ⊥)
  survives_inside new writes ready s = survives_weaker old new _ _ (λ clean db. let it = ready (omega (arith, s.clean)) in commits_nothing it.0 writes it.1 db) s

begin_is : (schema : Schema) → command_of (understood schema BEGIN.now) ≡ Begin
unfolding understood everything
begin_is schema = refl

begin_plain : (schema : Schema) → IsPlain (understood schema BEGIN.now)
unfolding understood everything
begin_plain schema = (refl, refl)

commit_is : (schema : Schema) → command_of (understood schema COMMIT.now) ≡ Commit
unfolding understood everything
commit_is schema = refl

commit_plain : (schema : Schema) → IsPlain (understood schema COMMIT.now)
unfolding understood everything
commit_plain schema = (refl, refl)

rollback_is : (schema : Schema) → command_of (understood schema ROLLBACK.now) ≡ Rollback
unfolding understood everything
rollback_is schema = refl

rollback_plain : (schema : Schema) → IsPlain (understood schema ROLLBACK.now)
unfolding understood everything
rollback_plain schema = (refl, refl)

pub begins : (old new : State) (r : Result ℕ Error) → Executes BEGIN.now [] old new r → OnOk r (Shows old new old.now old.committed true)
begins old new (Err e) h = tt
begins old new (Ok n) h = (runs_as BEGIN.now [] old new old.now.schema refl Begin (begin_is old.now.schema) (begin_plain old.now.schema) n h).1

pub finishes : (old new : State) (r : Result ℕ Error) → Executes COMMIT.now [] old new r → OnOk r (Shows old new old.now old.now false)
finishes old new (Err e) h = tt
finishes old new (Ok n) h = (runs_as COMMIT.now [] old new old.now.schema refl Commit (commit_is old.now.schema) (commit_plain old.now.schema) n h).1

module _ (text : List ℕ) (old : State) (db : Trees) (command : Command) (is : command_of (understood old.now.schema text) ≡ command) (plain : IsPlain (understood old.now.schema text)) where
  pub may_commit : CommitsBy text [] old db → (written : List ℕ) × (params : Row) × MayCommit old None command written params db
  unfolding CommitsBy
  may_commit h =
      let known = ap command_of (sym h.1.is) ∙ is in
      let none = (subst IsPlain h.1.is plain).0 in
      (text_of text h.0, timed [] h.0.formats h.1.now, subst₂ (λ r k. MayCommit old r k (text_of text h.0) (timed [] h.0.formats h.1.now) db) none known h.2)

pub begin_commits : (old : State) (db : Trees) → CommitsBy BEGIN.now [] old db → ⊥
begin_commits old db h = elim (may_commit BEGIN.now old db Begin (begin_is old.now.schema) (begin_plain old.now.schema) h).2 [
  | inl commits ↦ elim commits.0 [ inl e ↦ absurd cc | inr e ↦ absurd (let it = e.2 in cc) ]
  | inr writes ↦ absurd (let e = writes.3 in cc)
]

pub rollback_commits : (old : State) (db : Trees) → CommitsBy ROLLBACK.now [] old db → ⊥
rollback_commits old db h = elim (may_commit ROLLBACK.now old db Rollback (rollback_is old.now.schema) (rollback_plain old.now.schema) h).2 [
  | inl commits ↦ elim commits.0 [ inl e ↦ absurd cc | inr e ↦ absurd (let it = e.2 in cc) ]
  | inr writes ↦ absurd (let e = writes.3 in cc)
]

pub commit_commits : (old : State) (db : Trees) → CommitsBy COMMIT.now [] old db → db ≡ old.now.trees
commit_commits old db h = elim (may_commit COMMIT.now old db Commit (commit_is old.now.schema) (commit_plain old.now.schema) h).2 [
  | inl commits ↦ commits.1
  | inr writes ↦ absurd (let e = writes.3 in cc)
]

-- a text that is one statement, without parameters
abbrev IsWhole : List ℕ → Result Compiled CompileError → Type 0
IsWhole sql (Ok c) = (length sql ≤ c.tail) × (c.names ≡ []) × (c.formats ≡ [])
IsWhole sql (Err e) = ⊥

rollback_whole : (schema : Schema) → IsWhole ROLLBACK.now (understood schema ROLLBACK.now)
unfolding understood everything
rollback_whole schema = (omega arith, refl, refl)

commit_whole : (schema : Schema) → IsWhole COMMIT.now (understood schema COMMIT.now)
unfolding understood everything
commit_whole schema = (omega arith, refl, refl)

-- no transaction is open, and what was not committed is undone or was never begun
pub record IsEnded (old new : State) : Type 0 where
  pub was_open : IsTrue new.is_open → IsTrue old.is_open
  pub ended : IsTrue new.is_open → (new.committed ≡ old.committed) × ((new.now ≡ old.committed) ⊎ ((old.in_transaction ≡ false) × (new.now ≡ old.now)))
  pub autocommit : new.in_transaction ≡ false

is_statement : (sql : List ℕ) (old : State) (e : Error) → IsWhole sql (understood old.now.schema sql) → IsNoStatement old sql [] e → ⊥
is_statement sql old e whole (inl h) = subst (IsWhole sql) h.1 whole
is_statement sql old e whole (inr h) =
    let it = subst (IsWhole sql) h.1 whole in
    elim h.2 [
      | inl cut ↦ cut.0 it.0
      | inr other ↦ elim other [ inl count ↦ count.0 (ap length (sym it.1)) | inr timed ↦ timed.0 it.2 ]
    ]

undone_from : (old new : State) → IsRolledBack old new → IsEnded old new
undone_from old new h = record { was_open = h.was_open; ended = λ up. let it = h.undone up in (it.1, inl it.0); autocommit = h.autocommit }

undone_same : (old new : State) → old.in_transaction ≡ false → IsUnchanged old new → IsEnded old new
undone_same old new off h = record { was_open = λ _. h.0.was_open; ended = λ _. (h.0.committed_is, inr (off, h.0.now_is)); autocommit = h.0.mode ∙ off }

-- a command that ends a transaction
abbrev ends : Command → Bool
ends Commit = true
ends Rollback = true
ends _ = false

no_begin : (c : Command) → ends c ≡ true → c ≡ Begin → ⊥
no_begin c w is = let it : ends Begin ≡ true = subst (λ k. ends k ≡ true) is w in cc

no_mark : (c : Command) (name : List ℕ) → ends c ≡ true → (c ≡ Release name) ⊎ (c ≡ RollbackTo name) → ⊥
no_mark c name w (inl is) = let it : ends (Release name) ≡ true = subst (λ k. ends k ≡ true) is w in cc
no_mark c name w (inr is) = let it : ends (RollbackTo name) ≡ true = subst (λ k. ends k ≡ true) is w in cc

no_rows : (c : Command) (r : Option Returning) → ends c ≡ true → r ≡ None → (is_query c || (is_pragma c || is_some r)) ≡ true → ⊥
no_rows Commit r w none shows = let it = subst (λ (k : Option Returning). is_some k ≡ true) none shows in cc
no_rows Rollback r w none shows = let it = subst (λ (k : Option Returning). is_some k ≡ true) none shows in cc
no_rows _ r w none shows = absurd cc

no_write : (c : Command) → ends c ≡ true → IsWrite c → ⊥
no_write Commit w h = h
no_write Rollback w h = h
no_write _ w h = absurd cc

-- where it is refused, there was no transaction, or it is undone
end_refused : (old new : State) (text : List ℕ) (c : Compiled) (params : Row) (e : Error) → ends c.command ≡ true → c.returning ≡ None → RunsCommand old new text c params (Err e) → IsEnded old new
end_refused old new text c params e is none (inr failed) = undone_from old new failed.3
end_refused old new text c params e is none (inl (why, same)) = elim why [
  | inl misplaced ↦ elim misplaced [
    | inl state ↦ elim state.1 [ inl begin ↦ absurd (no_begin c.command is begin.0) | inr ended ↦ undone_same old new ended.1 same ]
    | inr mark ↦ absurd (no_mark c.command mark.1 is mark.2)
  ]
  | inr writes ↦ elim writes.0 [ inl it ↦ absurd (no_write c.command is it) | inr it ↦ absurd (let e = subst IsSome none it in cc) ]
]

module _ (sql : List ℕ) (old new : State) (whole : IsWhole sql (understood old.now.schema sql)) (plain : IsPlain (understood old.now.schema sql)) (ending : ends (command_of (understood old.now.schema sql)) ≡ true) where
  ended : (e : Error) → Executes sql [] old new (Err e) → IsEnded old new
  unfolding ExecutesIn IsNotRun
  ended e (inl (inl h)) = absurd (is_statement sql old e whole h.0)
  ended e (inl (inr h)) = undone_from old new h.3
  ended e (inr h) =
      let is : ends h.0.command ≡ true = subst (λ r. ends (command_of r) ≡ true) h.1.is ending in
      let none = (subst IsPlain h.1.is plain).0 in
      elim (cases_Bool (shows_rows false h.0)) [
        | inl shows ↦ absurd (no_rows h.0.command h.0.returning is none shows)
        | inr runs ↦ end_refused old new sql h.0 _ e is none (rw runs at h.2)
      ]

abbrev IsSettled : State → Type 0
IsSettled s = s.in_transaction ≡ false → IsTrue s.is_open → s.now ≡ s.committed

at_rest : (old new : State) → IsSettled new → IsEnded old new → IsUndone old new
at_rest old new settled h =
    record { was_open = h.was_open; undone = λ up. let same = (h.ended up).0 in (settled h.autocommit up ∙ same, same); autocommit = h.autocommit }

pub undoes : (old new : State) (r : Result ℕ Error) → IsSettled new → Executes ROLLBACK.now [] old new r → IsUndone old new
undoes old new (Ok n) settled h =
    at_rest old new settled (undone_from old new (runs_as ROLLBACK.now [] old new old.now.schema refl Rollback (rollback_is old.now.schema) (rollback_plain old.now.schema) n h).1)
undoes old new (Err e) settled h = at_rest old new settled (ended ROLLBACK.now old new (rollback_whole old.now.schema) (rollback_plain old.now.schema) (ap ends (rollback_is old.now.schema)) e h)

pub ends_undone : (old new : State) (r : Result ℕ Error) → IsSettled new → Executes COMMIT.now [] old new r → OnErr r (IsUndone old new)
ends_undone old new (Ok n) settled h = tt
ends_undone old new (Err e) settled h = at_rest old new settled (ended COMMIT.now old new (commit_whole old.now.schema) (commit_plain old.now.schema) (ap ends (commit_is old.now.schema)) e h)
