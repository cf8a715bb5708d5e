use Rattle.reg_tables_represent.proofs.Words.{end_of, StandCrates, ShownMark, highest_of, length_of, mark_shown, shown_mark, HasVersion}
use Rattle.reg_tables_represent.proofs.Words.{IsHigherMarked}
use Rattle.reg_tables_represent.proofs.Common.{◌≡◌, ◌+◌, ◌∙◌, ap, Database, length, not, state, subst, sym, true, true_not_false}
use Rattle.reg_tables_represent.proofs.Readings.{◌⨾◌, fails, same_now, so_far, was_clean}
use Rattle.reg_tables_represent.proofs.Results.{if_ok}
use Rattle.reg_tables_represent.proofs.SummaryMarked.{highest_is_marked, its_row, length_is_marked}
use Rattle.reg_tables_represent.proofs.SummaryRows.{version_at}
use Rattle.reg_tables_represent.proofs.summaries.numbers_marked.Goals.{else-now-via-then-now+else-now-kept, else-now-via-else-now}
use Rattle.reg_tables_represent.proofs.summaries.numbers_marked.Goals as goal

pub returns-then-now-kept-clause-told : goal.returns-then-now-kept-clause-told
returns-then-now-kept-clause-told g c clean =
    let same = same_now (c.in_ok-kept.ensures.same ⨾ c.in_ok-now.ensures.same) (was_clean c.numbers_of.ensures.same clean) in
    if_ok c.numbers_of.result
    (λ n are ids ps before after v stands has e change. are ids ps after (subst (λ (db : Database). StandCrates ids ps after db.trees) (sym same) stands))
    (c.numbers_of.ensures.told clean)

pub returns-clause-told : goal.returns-clause-told
returns-clause-told g c clean ids ps before after v stands has e change =
    let old = state g.S.Store c.args.conn.now in
    let two = state g.S.Store c.version_at.new.conn in
    let id = c.args.crate_id in
    let n = c.in_ok-highest.highest in
    let clean_two = was_clean c.in_ok-highest.ensures.same clean in
    let clean_one = was_clean c.in_ok-now.ensures.same clean_two in
    let same_one = same_now c.in_ok-kept.ensures.same clean_one in
    let same = same_now (c.in_ok-kept.ensures.same ⨾ c.in_ok-now.ensures.same) clean_two in
    let kept = c.in_ok-kept.ensures.told clean_one (highest_of ids before id) (length_of ids before id) has in
    let mine : HasVersion (mark_shown after v) old.now.trees = version_at ids ps after old.now.trees stands v (its_row ids ps before after old.now.trees stands id v change) in
    let now : shown_mark c.in_ok-now.now ≡ mark_shown after v = c.in_ok-now.ensures.told clean_two (mark_shown after v) e (subst (λ (db : Database). HasVersion (mark_shown after v) db.trees) (sym same_one) mine) in
    let told : IsHigherMarked c.in_ok-kept.kept.highest (mark_shown after v) old.now.trees n =
    subst (λ (db : Database). IsHigherMarked c.in_ok-kept.kept.highest (mark_shown after v) db.trees n) same (subst (λ (m : ShownMark). IsHigherMarked c.in_ok-kept.kept.highest m two.now.trees n) now (c.in_ok-highest.ensures.told clean)) in
    let lines = subst (λ (m : ShownMark). c.in_ok-index_length.index_length + length (end_of (not m.yanked)) ≡ c.in_ok-kept.kept.index_length + length (end_of m.yanked)) now c.in_ok-index_length.ensures in (
      highest_is_marked ids ps before after old.now.trees stands id v change c.in_ok-kept.kept.highest n kept.0 told (λ m same_id.
          let yanked : c.in_ok-now.now.yanked ≡ true = ap (λ (k : ShownMark). k.yanked) now ∙ m in
          let highest : c.in_ok-now.now.id ≡ c.in_ok-kept.kept.highest = ap (λ (k : ShownMark). k.id) now ∙ same_id in
          elim c.else-now.branch [
            | else-now-via-then-now+else-now-kept w ↦ w.if-now-kept.false highest
            | else-now-via-else-now w ↦ true_not_false c.in_ok-now.now.yanked yanked w.if-now.false
          ]),
      length_is_marked ids ps before after old.now.trees stands id v change c.in_ok-kept.kept.index_length c.in_ok-index_length.index_length kept.1 lines,
    )

pub returns-in_err-now-clause-same : goal.returns-in_err-now-clause-same
returns-in_err-now-clause-same g c = fails _ c.from_residual-in_err-now.ensures.0 (c.in_ok-kept.ensures.same ⨾ c.in_err-now.ensures.same)

pub returns-then-now-kept-clause-same : goal.returns-then-now-kept-clause-same
returns-then-now-kept-clause-same g c = c.in_ok-kept.ensures.same ⨾ c.in_ok-now.ensures.same ⨾ c.numbers_of.ensures.same

pub returns-in_err-highest-clause-same : goal.returns-in_err-highest-clause-same
returns-in_err-highest-clause-same g c =
    fails _ c.from_residual-in_err-highest.ensures.0 (c.in_ok-kept.ensures.same ⨾ c.in_ok-now.ensures.same ⨾ c.in_err-highest.ensures.same)

pub returns-in_err-index_length-clause-same : goal.returns-in_err-index_length-clause-same
returns-in_err-index_length-clause-same g c = so_far (c.in_ok-kept.ensures.same ⨾ c.in_ok-now.ensures.same ⨾ c.in_ok-highest.ensures.same)

pub returns-clause-same : goal.returns-clause-same
returns-clause-same g c = so_far (c.in_ok-kept.ensures.same ⨾ c.in_ok-now.ensures.same ⨾ c.in_ok-highest.ensures.same)
