use Rattle.reg_tables_rows.proofs.Words.{rules, arith, ◌≡◌, [], ◌∷◌, refl, subst, sym, ◌∙◌, pos, map, state, Int, HasCleanDisk}
use Rattle.reg_tables_rows.proofs.Words.{columns_of_stem, entries_text}
use Rattle.std.proofs.Common.{◌++◌, Result, Vec, Global}
use Rattle.std.proofs.lemmas.List.{map-append}
use Rattle.std.proofs.lemmas.Result.{err_from_is_err_and}
use Rattle.sqlite.specs.declared.error.Error.{Error}
use Rattle.sqlite.specs.declared.error.Error.TheVariants.{InvalidQuery, SqliteFailure}
use Rattle.sqlite.specs.declared.error.ErrorCode.TheVariants.{OutOfMemory}
use Rattle.reg_tables_sql.specs.declared.versions.StemRow.{StemRow}
use Rattle.sqlite.specs.Held.{Held}
use Rattle.sqlite_trees.specs.declared.store.Store.{Ghosts}
use Rattle.reg_tables_represent.specs.Walks.{IsRead}
use Rattle.reg_tables_represent.proofs.IndexWalk.{entries_read}
use Rattle.reg_tables_represent.proofs.Walking.{walk_ends, walk_fails, walk_left, walked, walked_all, walked_as}
use Rattle.reg_tables_rows.proofs.entries.index_entries.Goals as goal

-- what reading left of a connection, of that connection by another name
read_there : {S T E : Type 0} {r : Result T E} {new : Held S} (g : Ghosts S) (old now : Held S) → new ≡ now → IsRead g r old now
    → IsRead g r old new
read_there {r = r} g old now is h = subst (IsRead g r old) (sym is) h

pub returns-in_default-clause-entries : goal.returns-in_default-clause-entries
returns-in_default-clause-entries g c clean =
    let now = c.next.follows.lender-at-none in
    let back : c.conn-in_default-1.given.0 ≡ now.conn.now = search rules in
    let late : HasCleanDisk (state g.S.Store now.conn.now) = subst (λ w. HasCleanDisk (state g.S.Store w)) back clean in
    let moved = c.next.follows.holds-at-none in
    let early : HasCleanDisk (state g.S.Store c.rows.rows.conn.now) = omega (arith, moved.survives.clean, late) in
    let i = c.rows.invariant.1 in
    let given = map columns_of_stem c.rows.list.items in
    let all = walked_all g.S.Store entries_text (Int (pos c.args.crate_id) ∷ []) c.args.conn.now c.rows.rows now given i c.in_ok-row.field-0 (rw c.in_default.is refl) (rw c.in_ok-row.was at moved) late in
    entries_read g.S.Store c.args.conn.now c.rows.rows.conn.now c.args.crate_id given c.requires early i (state g.S.Store now.conn.now) all

pub rows-preserved : goal.rows-preserved
rows-preserved g c =
    let i = c.rows.invariant.1 in
    let moved = c.next.follows.holds-at-none in
    let more = map-append columns_of_stem c.rows.list.items (c.in_ok-from_row.field-0 ∷ []) in (
      moved.same_reference ∙ c.rows.invariant.0,
      rw (c.in_ok-push.ensures.items, more) (walked_as g.S.Store entries_text (Int (pos c.args.crate_id) ∷ []) c.args.conn.now c.rows.rows c.next.follows.lender-at-none (map columns_of_stem c.rows.list.items) i c.in-Some.row (columns_of_stem c.in_ok-from_row.field-0) c.in_ok-from_row.ensures (rw (c.in_ok-row.was, c.in-Some.is) at moved)),
    )

pub returns-clause-reads : goal.returns-clause-reads
returns-clause-reads g c =
    let read = walk_left g.S.Store entries_text (Int (pos c.args.crate_id) ∷ []) c.args.conn.now c.rows.rows c.rows.rows (map columns_of_stem c.rows.list.items) c.rows.invariant.1 {T = Vec StemRow Global} InvalidQuery in
    read_there g.S.Store c.args.conn.now c.rows.rows.conn.now (search rules) read

pub returns-in_default-clause-reads : goal.returns-in_default-clause-reads
returns-in_default-clause-reads g c =
    let read = walk_ends g.S.Store entries_text (Int (pos c.args.crate_id) ∷ []) c.args.conn.now c.rows.rows c.next.follows.lender-at-none (map columns_of_stem c.rows.list.items) c.rows.invariant.1 {E = Error} c.rows.list c.in_ok-row.field-0 (rw c.in_ok-row.was at c.next.follows.holds-at-none) in
    read_there g.S.Store c.args.conn.now c.next.follows.lender-at-none.conn.now (search rules) read

pub returns-in_err-row-clause-reads : goal.returns-in_err-row-clause-reads
returns-in_err-row-clause-reads g c =
    let p = err_from_is_err_and c.from_residual-in_err-row.result c.from_residual-in_err-row.ensures.1 in
    let read = walk_fails g.S.Store entries_text (Int (pos c.args.crate_id) ∷ []) c.args.conn.now c.rows.rows c.next.follows.lender-at-none (map columns_of_stem c.rows.list.items) c.rows.invariant.1 {T = Vec StemRow Global} c.in_err-row.field-0.0 c.in_err-row.field-0.0 (rw c.in_err-row.was at c.next.follows.holds-at-none) in
    rw (p.1, p.2) (read_there g.S.Store c.args.conn.now c.next.follows.lender-at-none.conn.now (search rules) read)

pub returns-in_err-from_row-clause-reads : goal.returns-in_err-from_row-clause-reads
returns-in_err-from_row-clause-reads g c =
    let p = err_from_is_err_and c.from_residual-in_err-from_row.result c.from_residual-in_err-from_row.ensures.1 in
    let one = walked g.S.Store entries_text (Int (pos c.args.crate_id) ∷ []) c.args.conn.now c.rows.rows c.next.follows.lender-at-none (map columns_of_stem c.rows.list.items) c.rows.invariant.1 c.in-Some.row (rw (c.in_ok-row.was, c.in-Some.is) at c.next.follows.holds-at-none) in
    let read = walk_left g.S.Store entries_text (Int (pos c.args.crate_id) ∷ []) c.args.conn.now c.next.follows.lender-at-none c.next.follows.lender-at-none ((map columns_of_stem c.rows.list.items) ++ c.in-Some.row.now ∷ []) one {T = Vec StemRow Global} c.in_err-from_row.field-0.0 in
    rw (p.1, p.2) (read_there g.S.Store c.args.conn.now c.next.follows.lender-at-none.conn.now (search rules) read)

pub returns-in_err-push-clause-reads : goal.returns-in_err-push-clause-reads
returns-in_err-push-clause-reads g c =
    let p = err_from_is_err_and c.from_residual-in_err-push.result c.from_residual-in_err-push.ensures.1 in
    let one = walked g.S.Store entries_text (Int (pos c.args.crate_id) ∷ []) c.args.conn.now c.rows.rows c.next.follows.lender-at-none (map columns_of_stem c.rows.list.items) c.rows.invariant.1 c.in-Some.row (rw (c.in_ok-row.was, c.in-Some.is) at c.next.follows.holds-at-none) in
    let read = walk_left g.S.Store entries_text (Int (pos c.args.crate_id) ∷ []) c.args.conn.now c.next.follows.lender-at-none c.next.follows.lender-at-none ((map columns_of_stem c.rows.list.items) ++ c.in-Some.row.now ∷ []) one {T = Vec StemRow Global} (SqliteFailure OutOfMemory) in
    rw (p.1, p.2) (read_there g.S.Store c.args.conn.now c.next.follows.lender-at-none.conn.now (search rules) read)
