-- What a text that only reads leaves of our tables, in a transaction or in none.
use Rattle.reg_tables_represent.proofs.Words.{◌≡◌, inl, inr, arith, ℕ, List, [], Ok, Err, Result, IfOk, OnOk, OnErr, Option, sym, ap, subst}
use Rattle.reg_tables_represent.proofs.Words.{◌∙◌, State, HasCleanDisk, Survives, Fails, IsUnchanged, Error, Rows, Held, state, Bor, HasMoved}
use Rattle.reg_tables_represent.proofs.Words.{Ghosts, unchanged_then, survives_then, SchemaVersion, schema_of, IsOurs, Refuses, refuses_after}
use Rattle.reg_tables_represent.proofs.Words.{IsSpared}
use Rattle.std.proofs.Common.{◌⊎◌, IfErr}
use Rattle.sqlite.specs.Order.{Row}
use Rattle.sqlite.specs.Listing.{understood}
use Rattle.sqlite.specs.State.{CommitsShowing, FailsToQuery, IsNotRun}
use Rattle.sqlite.specs.Given.{HasBegun, HasGiven, IsRefused}
use Rattle.sqlite.proofs.Callers.{IsPlain, begun_plain, never_commits}
use Rattle.sqlite.proofs.StateLemmas.{survives_weaker}
use Rattle.reg_tables_schema.proofs.OursLemmas.{ours_refused}
use Rattle.reg_tables_schema.proofs.ReadLemmas.{query_refused}
use Rattle.reg_tables_represent.specs.Walks.{MayStream}

abbrev Silent : State → State → Type 0
Silent old new = Survives old new (λ _. ⊥)

silent_then : (a b c : State) → Silent a b → Silent b c → Silent a c
silent_then a b c = survives_then a b c _ _ (λ _. ⊥) (λ _ db none. none) (λ _ db none. none)

-- what a failure leaves keeps our tables
pub still_ours : (e : SchemaVersion) (old new : State) → Silent old new → (HasCleanDisk new → Refuses old new) → IsOurs e old → IsOurs e new
still_ours e old new s left = ours_refused e old new (λ clean. omega (arith, s.clean)) left

not_run : (sql : List ℕ) (params : Row) (old new : State) (e : Error) → IsNotRun old new sql params e → Refuses old new
unfolding IsNotRun
not_run sql params old new e (inl h) = inl h.1
not_run sql params old new e (inr h) = inr h.3

-- The text is prepared, which leaves `mid`, and then queried.
module _ {S : Type 0} (g : Ghosts S) (text asked : List ℕ) (params : Row) (old mid : Held S) (may : MayStream text (state g old))
    (s : Silent (state g old) (state g mid)) (ready : HasCleanDisk (state g mid) → (asked ≡ text) × IsUnchanged (state g old) (state g mid)) where
  plain_since : HasCleanDisk (state g mid) → IsPlain (understood mid.schema asked)
  plain_since clean =
      let it = ready clean in
      let was = may.1 (omega (arith, s.clean)) it.1.0.was_open in
      let now : mid.schema ≡ schema_of may.0 = ap (λ d. d.schema) (it.1.0.now_is ∙ was.settled) ∙ was.committed_is in
      subst (λ c. IsPlain (understood c asked)) (sym now) (subst (λ x. IsPlain (understood (schema_of may.0) x)) (sym it.0) may.2)

  module _ (new : Held S) (t : Survives (state g mid) (state g new) (CommitsShowing asked params (state g mid))) where
    early : HasCleanDisk (state g new) → HasCleanDisk (state g mid)
    early clean = omega (arith, t.clean)

    rows_survive : Silent (state g old) (state g new)
    rows_survive =
        let quiet = survives_weaker (state g mid) (state g new) _ (λ _. ⊥) (λ clean db. never_commits asked params (state g mid) db (plain_since (early clean))) t in
        silent_then (state g old) (state g mid) (state g new) s quiet

    module _ (begun : HasCleanDisk (state g new) → HasBegun g asked params mid new) where
      rows_given : HasCleanDisk (state g new) → HasGiven g text params new []
      rows_given clean = subst (λ x. HasGiven g x params new []) (ready (early clean)).0 (begun_plain g asked params mid new (plain_since (early clean)) (begun clean)).0

      rows_unchanged : HasCleanDisk (state g new) → IsUnchanged (state g old) (state g new)
      rows_unchanged clean = unchanged_then (state g old) (state g mid) (state g new) (ready (early clean)).1 (begun_plain g asked params mid new (plain_since (early clean)) (begun clean)).1

      rows_ours : (e : SchemaVersion) → IsOurs e (state g old) → IsOurs e (state g new)
      rows_ours e = still_ours e (state g old) (state g new) rows_survive (λ clean. inl (rows_unchanged clean))

    module _ (e : Error) (err : HasCleanDisk (state g new) → FailsToQuery asked params (state g mid) (state g new) e) where
      left : HasCleanDisk (state g new) → Refuses (state g old) (state g new)
      left clean = refuses_after (state g old) (state g mid) (state g new) (ready (early clean)).1 (query_refused asked params (state g mid) (state g new) (plain_since (early clean)) e (inl (err clean)))

      spared_late : IsSpared g old new
      spared_late = record { refused = λ clean. inr (left clean); ours = λ k. still_ours k (state g old) (state g new) rows_survive left; survives = rows_survive }

  pub if_refused : {X : Type 0} (r : Result X Error) (new : Held S) → OnErr r (IsRefused g asked params mid r new) → OnErr r (IsSpared g old new)
  if_refused (Ok x) new h = tt
  if_refused (Err e) new h = spared_late new h.survives e h.err

  pub if_begun : (r : Result (Rows S g) Error) → IfOk r (λ rows. HasCleanDisk (state g rows.conn.now) → HasBegun g asked params mid rows.conn.now)
      → IfOk r (λ rows. Survives (state g mid) (state g rows.conn.now) (CommitsShowing asked params (state g mid)))
      → IfOk r (λ rows. HasCleanDisk (state g rows.conn.now) → HasGiven g text params rows.conn.now [])
      × (IfOk r (λ rows. HasCleanDisk (state g rows.conn.now) → IsUnchanged (state g old) (state g rows.conn.now))
      × (((e : SchemaVersion) → IsOurs e (state g old) → IfOk r (λ rows. IsOurs e (state g rows.conn.now))) × IfOk r (λ rows. Silent (state g old) (state g rows.conn.now))))
  if_begun (Ok rows) begun t =
      let new = rows.conn.now in
      (rows_given new t begun, (rows_unchanged new t begun, (rows_ours new t begun, rows_survive new t)))
  if_begun (Err e) begun t = (tt, (tt, ((λ k at. tt), tt)))

pub spared_early : {S : Type 0} (g : Ghosts S) (text : List ℕ) (old new : Held S) (e : Error) → Silent (state g old) (state g new) → (HasCleanDisk (state g new) → (params : Row) → IsNotRun (state g old) (state g new) text params e)
    → IsSpared g old new
spared_early g text old new e s err =
    let left = λ (clean : HasCleanDisk (state g new)). not_run text [] (state g old) (state g new) e (err clean []) in
    record { refused = λ clean. inr (left clean); ours = λ k. still_ours k (state g old) (state g new) s left; survives = s }

-- the next row leaves our tables
pub next_ours : {S : Type 0} (g : Ghosts S) (old : Rows S g) (r : Result (Option (Bor Row)) Error) (new : Rows S g) → HasMoved g old r new → (e : SchemaVersion) → IsOurs e (state g old.conn.now) → IsOurs e (state g new.conn.now)
next_ours g old r new h e at = still_ours e (state g old.conn.now) (state g new.conn.now) h.survives (λ clean. either_way r (h.same clean) (h.kept clean)) at
  where
    either_way : (r : Result (Option (Bor Row)) Error) → OnOk r (IsUnchanged (state g old.conn.now) (state g new.conn.now))
        → IfErr r (λ e. Fails (state g old.conn.now) (state g new.conn.now) ⊥ e ⊎ IsUnchanged (state g old.conn.now) (state g new.conn.now)) → Refuses (state g old.conn.now) (state g new.conn.now)
    either_way (Ok row) same kept = inl same
    either_way (Err e) same (inl failed) = inr failed.3
    either_way (Err e) same (inr still) = inl still
