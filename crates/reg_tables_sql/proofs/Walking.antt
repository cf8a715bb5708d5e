-- Rows one at a time in a transaction: from the first to the end, or to a failure.
use Rattle.reg_tables_sql.proofs.Words.{◌≡◌, ◌==◌, arith, ℕ, ◌+◌, List, [], ◌∷◌, ◌++◌, length, true, false, not, Ok, Some, None, Option}
use Rattle.reg_tables_sql.proofs.Words.{Result, refl, sym, ap, subst, ◌∙◌, Database, timed, Row, Error, state, reads_listing, IsSourceOf}
use Rattle.reg_tables_sql.proofs.Words.{State, HasCleanDisk, IsUnchanged, reading_survives}
use Rattle.std.proofs.Common.{◌⊎◌, inl, inr, length-append, nat_lt, is_some, Err, OnErr}
use Rattle.std.proofs.lemmas.Bool.Decides.{nat_tests}
use Rattle.std.specs.Borrow.{Bor}
use Rattle.sqlite_trees.specs.declared.store.Store.{Ghosts}
use Rattle.sqlite.specs.declared.rows.stream.Rows.{Rows}
use Rattle.sqlite.specs.Held.{Held}
use Rattle.sqlite.specs.Given.{HasBegun, HasGiven, IsPlain, IsRefused}
use Rattle.sqlite.specs.Listing.{understood}
use Rattle.sqlite.specs.Next.{HasMoved}
use Rattle.sqlite.specs.State.{Fails, Survives, Shown, ShowsRows, CommitsShowing}
use Rattle.sqlite.proofs.Callers.{begun_plain, unchanged_then}
use Rattle.sqlite.proofs.StateLemmas.{survives_then}
use Rattle.reg_tables_schema.specs.States.{Refuses}
use Rattle.reg_tables_schema.specs.Statements.{IsReading, MayRead}
use Rattle.reg_tables_schema.specs.Steps.{LeavesSame}
use Rattle.reg_tables_schema.proofs.ReadLemmas.{query_refused}
use Rattle.reg_tables_schema.proofs.Writing.{refuses_after}

-- the connection gives the rows of a text, and has given these
pub record Walks {S : Type 0} (g : Ghosts S) (text : List ℕ) (params : Row) (old new : Held S) (rows : List Row) : Type 0 where
  pub given : HasCleanDisk (state g new) → HasGiven g text params new rows
  pub same : HasCleanDisk (state g new) → IsUnchanged (state g old) (state g new)
  pub survives : Survives (state g old) (state g new) (λ _. ⊥)

-- what is shown where nothing has changed was shown before
shown_since : (sql : List ℕ) (params : Row) (a b c : State) (rows : List Row) → IsPlain (understood a.now.schema sql) → IsUnchanged a b → Shown sql params b c rows → Shown sql params a c rows
unfolding Shown
shown_since sql params a b c rows plain p h =
    let same = p.0.now_is in
    let is = subst (λ (d : Database). understood d.schema sql ≡ Ok h.0) same h.1.is in
    let none = (subst IsPlain is plain).0 in
    let full = timed params h.0.formats h.1.now in
    let it = subst (ShowsRows b c sql h.0 full rows) none h.2 in (
      h.0,
      record { is = is; whole = h.1.whole; given = h.1.given; now = h.1.now },
      subst (ShowsRows a c sql h.0 full rows) (sym none)
          (it.0, subst (λ (d : Database). IsSourceOf (reads_listing d.schema sql) d it.0) same it.1, it.2, unchanged_then a b c p it.3),
    )

-- whether a list of this length has a row
pub counted_some : (n : ℕ) (rows : List Row) → length rows ≡ n → nat_lt 0 n ≡ not (length rows == 0)
counted_some n rows h = grind (arith, nat_tests)

-- a failure tells nothing
pub reads_none : {T E : Type 0} (tells : T → Type 0) (old new : State) (e : E) → LeavesSame {T = T} old new (Err e) → IsReading old new (Err e) tells
reads_none tells old new e h = record { told = λ clean. tt; only = h.only; survives = h.survives }

module _ {S : Type 0} (g : Ghosts S) (text : List ℕ) (params : Row) (first : Held S) (may : MayRead text (state g first)) where
  pub begins : (new : Held S) → (HasCleanDisk (state g new) → HasBegun g text params first new) → Survives (state g first) (state g new) (CommitsShowing text params (state g first)) → Walks g text params first new []
  begins new begun s =
      let both = λ (clean : HasCleanDisk (state g new)). begun_plain g text params first new (may (omega (arith, s.clean))).plain (begun clean) in
      record { given = λ clean. (both clean).0; same = λ clean. (both clean).1; survives = reading_survives text params (state g first) (state g new) may s }

  pub spared : {X T E : Type 0} (r : Result X Error) (e : Error) (f : E) (new : Held S) → r ≡ Err e → OnErr r (IsRefused g text params first r new) → LeavesSame {T = T} (state g first) (state g new) (Err f)
  spared (Ok x) e f new is h = absurd (let i = is in cc)
  spared (Err d) e f new is h = record {
    only = λ clean. (tt, query_refused text params (state g first) (state g new) (may (omega (arith, h.survives.clean))).plain d (inl (h.err clean)));
    survives = reading_survives text params (state g first) (state g new) may h.survives;
  }

  -- the same of the connection that was lent, which is as the walk left it
  pub leaves_as : {T E : Type 0} (left last : Held S) (r s : Result T E) → left ≡ last → r ≡ s → LeavesSame (state g first) (state g last) s → LeavesSame (state g first) (state g left) r
  leaves_as left last r s back is h = subst (λ q. LeavesSame (state g first) (state g left) q) (sym is) (subst (λ conn. LeavesSame (state g first) (state g conn) s) (sym back) h)

  module _ (old new : Rows S g) (given : List Row) (w : Walks g text params first old.conn.now given) where
    before : {r : Result (Option (Bor Row)) Error} → HasMoved g old r new → HasCleanDisk (state g new.conn.now) → HasCleanDisk (state g old.conn.now)
    before m clean = omega (arith, m.survives.clean)

    silent : {r : Result (Option (Bor Row)) Error} → HasMoved g old r new → Survives (state g first) (state g new.conn.now) (λ _. ⊥)
    silent m = survives_then (state g first) (state g old.conn.now) (state g new.conn.now) (λ _. ⊥) (λ _. ⊥) (λ _. ⊥) (λ _ db none. none) (λ _ db none. none) w.survives m.survives

    -- the row, as it was read
    pub walked : (row : Bor Row) (columns : Row) → row.now ≡ columns → HasMoved g old (Ok (Some row)) new → Walks g text params first new.conn.now (given ++ columns ∷ [])
    walked row columns is m = record {
      given = λ clean. subst (λ r. HasGiven g text params new.conn.now (given ++ r ∷ [])) is (m.ok clean text params given (w.given (before m clean)));
      same = λ clean. unchanged_then (state g first) (state g old.conn.now) (state g new.conn.now) (w.same (before m clean)) (m.same clean);
      survives = silent m;
    }

    -- one row more, counted
    pub walked_more : (o : Option (Bor Row)) → is_some o ≡ true → (n : ℕ) → length given ≡ n → HasMoved g old (Ok o) new → (rows : List Row) × (length rows ≡ n + 1) × Walks g text params first new.conn.now rows
    walked_more (Some row) some n counted m = (given ++ row.now ∷ [], length-append given (row.now ∷ []) ∙ ap (λ k. k + 1) counted, walked row row.now refl m)
    walked_more None some n counted m = absurd cc

    pub walked_all : (o : Option (Bor Row)) → is_some o ≡ false → HasMoved g old (Ok o) new → HasCleanDisk (state g new.conn.now) → Shown text params (state g first) (state g new.conn.now) given
    walked_all (Some row) none m clean = absurd cc
    walked_all None none m clean =
        let plain = (may (omega (arith, w.survives.clean, before m clean))).plain in
        shown_since text params (state g first) (state g old.conn.now) (state g new.conn.now) given plain (w.same (before m clean)) (m.ok clean text params given (w.given (before m clean)))

    pub walk_ends : {T E : Type 0} (x : T) (o : Option (Bor Row)) → HasMoved g old (Ok o) new → LeavesSame {E = E} (state g first) (state g new.conn.now) (Ok x)
    walk_ends x o m = record { only = λ clean. (unchanged_then (state g first) (state g old.conn.now) (state g new.conn.now) (w.same (before m clean)) (m.same clean), tt); survives = silent m }

    -- where the walk was left before its end
    pub walk_left : {T E : Type 0} (e : E) → LeavesSame {T = T} (state g first) (state g old.conn.now) (Err e)
    walk_left e = record { only = λ clean. (tt, inl (w.same clean)); survives = w.survives }

    pub walk_fails : {T E : Type 0} (e : Error) (f : E) → HasMoved g old (Err e) new → LeavesSame {T = T} (state g first) (state g new.conn.now) (Err f)
    walk_fails e f m = record {
      only = λ clean. (tt, refuses_after (state g first) (state g old.conn.now) (state g new.conn.now) (w.same (before m clean)) (left clean (m.kept clean)));
      survives = silent m;
    }
      where
        left : HasCleanDisk (state g new.conn.now) → Fails (state g old.conn.now) (state g new.conn.now) ⊥ e ⊎ IsUnchanged (state g old.conn.now) (state g new.conn.now) → Refuses (state g old.conn.now) (state g new.conn.now)
        left clean (inl failed) = inr failed.3
        left clean (inr still) = inl still

    -- the same, with what is told
    pub reads_all : {T E : Type 0} (tells : T → Type 0) (x : T) → (Shown text params (state g first) (state g new.conn.now) given → tells x) → (o : Option (Bor Row)) → is_some o ≡ false → HasMoved g old (Ok o) new
        → IsReading {E = E} (state g first) (state g new.conn.now) (Ok x) tells
    reads_all {E = E} tells x shows o none m =
        let ends = walk_ends {E = E} x o m in record { told = λ clean. shows (walked_all o none m clean); only = ends.only; survives = ends.survives }

    pub reads_left : {T E : Type 0} (tells : T → Type 0) (e : E) → IsReading (state g first) (state g old.conn.now) (Err e) tells
    reads_left tells e = reads_none tells (state g first) (state g old.conn.now) e (walk_left e)

    pub reads_failed : {T E : Type 0} (tells : T → Type 0) (e : Error) (f : E) → HasMoved g old (Err e) new → IsReading (state g first) (state g new.conn.now) (Err f) tells
    reads_failed tells e f m = reads_none tells (state g first) (state g new.conn.now) f (walk_fails e f m)
