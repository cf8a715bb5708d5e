use Rattle.reg_service.proofs.Words.{◌≡◌, Err, arith, rules, ap, sym, subst, refl, inl, inr, ◌∙◌, false≢true, HasCleanDisk, Order}
use Rattle.reg_service.proofs.Words.{command_of, reply_of, held, is_stopped, seen, shown, call_looks, line_of_answer, Answers, AreUpToDate}
use Rattle.reg_service.proofs.Words.{Halts, WasClean}
use Rattle.reg_model.specs.declared.rule.AdminRefusal.TheVariants as refusal
use Rattle.reg_model.specs.Events.Answer.{Refused as to_refused}
use Rattle.reg_service.proofs.Frames.{committed, dropped, not_begun, not_committed, sees}
use Rattle.reg_service.proofs.Rests.{committed_halts, committed_tables, dropped_halts, dropped_looked, ended_clean, left_looked, refused_tables}
use Rattle.reg_service.proofs.Traced.{orders, tells_line, unordered}
use Rattle.reg_service.proofs.transactions.command_in.Goals as goal

pub returns-in_default : goal.returns-in_default
returns-in_default g c =
    let lim = c.args.limits.now in
    let cmd = command_of c.args.command.now in
    let old = c.args.tables.now in
    let left = rw c.in_default.is at c.work.follows.holds-at-none in
    let looked = left_looked g.S.Store old _ c.requires.tables left in
    record {
      answers = λ clean s h. unordered g.S.Store lim s c.args.traced cmd old _ refusal.G10 c.refused.result (not_begun g.S.Store lim s (Order cmd) _ old _ c.requires.tables.ours h clean refl left) c.refused.ensures.answer c.refused.ensures.line;
      tables = looked.tables;
      clean = looked.clean;
      halts = record { stopped = λ _. c.refused.ensures.answer; stays = λ was. left.shut ∙ was; stops = λ _. c.refused.ensures.answer };
    }

pub returns-in_default-order_told-clause-answers : goal.returns-in_default-order_told-clause-answers
returns-in_default-order_told-clause-answers g c clean s h =
    let lim = c.args.limits.now in
    let cmd = command_of c.args.command.now in
    let old = c.args.tables.now in
    let back = c.tables-in_default-order_told-1.given.1 (sym (c.order_told.ensures.leaves.same_reference ∙ c.in-Ok.ensures.same_reference)) in
    let still = subst (λ t. HasCleanDisk (shown g.S.Store t)) back clean in
    let mid : HasCleanDisk (seen g.S.Store c.order_told.new.work) = omega (arith, still, c.drop-work.ensures.survives.clean) in
    let looks = call_looks g.S.Store c.order_told.result c.in-Ok.work c.order_told.new.work c.order_told.ensures.leaves in
    let a = to_refused refusal.G10 in
    let answers = subst (λ t. Answers g.S.Store lim s (Order cmd) a old t) (sym back)
    (dropped g.S.Store lim s (Order cmd) a old c.drop-work.new.self.0 c.requires.tables.ours h still c.in-Ok.work c.order_told.new.work c.in-Ok.ensures.begun looks mid (λ are. inr (refl, refl)) c.drop-work.ensures (λ up db l. g.met.S.Store.settled (held old).store db up l)) in
    unordered g.S.Store lim s c.args.traced cmd old _ refusal.G10 c.refused-in_default-order_told.result answers c.refused-in_default-order_told.ensures.answer c.refused-in_default-order_told.ensures.line

pub returns-in-Ok-commit-clause-answers : goal.returns-in-Ok-commit-clause-answers
returns-in-Ok-commit-clause-answers g c clean s h =
    let lim = c.args.limits.now in
    let cmd = command_of c.args.command.now in
    let old = c.args.tables.now in
    let back = c.tables-in-Ok-answer-1.given.1 (sym (c.order_told.ensures.leaves.same_reference ∙ c.in-Ok.ensures.same_reference)) in
    let still = subst (λ t. HasCleanDisk (shown g.S.Store t)) back clean in
    let mid : HasCleanDisk (seen g.S.Store c.order_told.new.work) = omega (arith, still, c.commit.ensures.survives.clean) in
    let looks = call_looks g.S.Store c.order_told.result c.in-Ok.work c.order_told.new.work c.order_told.ensures.leaves in
    let told = c.in-Ok-order_told.told in
    let it = c.in-Ok-order_told.ensures.told mid in
    let a = reply_of told.answer in
    let answers = subst (λ t. Answers g.S.Store lim s (Order cmd) a old t) (sym back)
    (committed g.S.Store lim s (Order cmd) a old c.commit.new.self.0 c.requires.tables.ours h still c.in-Ok.work c.order_told.new.work c.in-Ok.ensures.begun looks mid c.soundness_law.ensures.step c.requires.fit (λ are. it.0 are.0 s are.1) c.in-Ok-commit.ensures.committed) in
    let are = sees g.S.Store lim s (Order cmd) a old c.commit.new.self.0 c.requires.tables.ours h still c.in-Ok.work c.order_told.new.work c.in-Ok.ensures.begun looks mid in
    orders g.S.Store lim s c.args.traced cmd old _ told answers (sym (ap (λ r. line_of_answer r told.line) c.in-Ok-answer.is)) (tells_line lim s (Order cmd) c.args.traced _ told.line it.1 are)

pub returns-in-Err-commit-clause-answers : goal.returns-in-Err-commit-clause-answers
returns-in-Err-commit-clause-answers g c clean s h =
    let lim = c.args.limits.now in
    let cmd = command_of c.args.command.now in
    let old = c.args.tables.now in
    let back = c.tables-in-Ok-answer-1.given.1 (sym (c.order_told.ensures.leaves.same_reference ∙ c.in-Ok.ensures.same_reference)) in
    let still = subst (λ t. HasCleanDisk (shown g.S.Store t)) back clean in
    let mid : HasCleanDisk (seen g.S.Store c.order_told.new.work) = omega (arith, still, c.commit.ensures.survives.clean) in
    let looks = call_looks g.S.Store c.order_told.result c.in-Ok.work c.order_told.new.work c.order_told.ensures.leaves in
    let it = c.in-Ok-order_told.ensures.told mid in
    let a = to_refused refusal.G10 in
    let answers = subst (λ t. Answers g.S.Store lim s (Order cmd) a old t) (sym back)
    (not_committed g.S.Store lim s (Order cmd) a old c.commit.new.self.0 c.requires.tables.ours h still c.in-Ok.work c.order_told.new.work c.in-Ok.ensures.begun looks mid (λ are. (it.0 are.0 s are.1).1) refl c.in-Err-commit.ensures.refused c.commit.ensures.survives) in
    unordered g.S.Store lim s c.args.traced cmd old _ refusal.G10 c.refused-in-Err-commit.result answers c.refused-in-Err-commit.ensures.answer c.refused-in-Err-commit.ensures.line

pub returns-in-Err-clause-answers : goal.returns-in-Err-clause-answers
returns-in-Err-clause-answers g c clean s h =
    let lim = c.args.limits.now in
    let cmd = command_of c.args.command.now in
    let old = c.args.tables.now in
    let back = c.tables-in-Err-told-1.given.1 (sym (c.order_told.ensures.leaves.same_reference ∙ c.in-Ok.ensures.same_reference)) in
    let still = subst (λ t. HasCleanDisk (shown g.S.Store t)) back clean in
    let mid : HasCleanDisk (seen g.S.Store c.order_told.new.work) = omega (arith, still, c.drop-work-in-Err-told.ensures.survives.clean) in
    let looks = call_looks g.S.Store c.order_told.result c.in-Ok.work c.order_told.new.work c.order_told.ensures.leaves in
    let it = c.in-Ok-order_told.ensures.told mid in
    let a = to_refused c.in-Err.refusal in
    let answers = subst (λ t. Answers g.S.Store lim s (Order cmd) a old t) (sym back)
    (dropped g.S.Store lim s (Order cmd) a old c.drop-work-in-Err-told.new.self.0 c.requires.tables.ours h still c.in-Ok.work c.order_told.new.work c.in-Ok.ensures.begun looks mid
    (λ are.
    let has = sym (ap reply_of c.in-Err.is) ∙ (it.0 are.0 s are.1).0 in
    inl (has, sym (c.denial_law.ensures.refused lim s _ (Order cmd) c.in-Err.refusal (inl (has, refl))))) c.drop-work-in-Err-told.ensures (λ up db l. g.met.S.Store.settled (held old).store db up l)) in
    unordered g.S.Store lim s c.args.traced cmd old _ c.in-Err.refusal c.refused-in-Err.result answers c.refused-in-Err.ensures.answer c.refused-in-Err.ensures.line

pub returns-in_default-order_told-clause-tables : goal.returns-in_default-order_told-clause-tables
returns-in_default-order_told-clause-tables g c =
    let back = c.tables-in_default-order_told-1.given.1 (sym (c.order_told.ensures.leaves.same_reference ∙ c.in-Ok.ensures.same_reference)) in
    subst (λ t. AreUpToDate g.S.Store t) (sym back) ((dropped_looked g.S.Store c.args.tables.now c.in-Ok.work c.order_told.new.work c.in-Ok.ensures.begun (call_looks g.S.Store c.order_told.result c.in-Ok.work c.order_told.new.work c.order_told.ensures.leaves) c.drop-work.new.self.0 c.requires.tables c.drop-work.ensures).tables)

pub returns-in_default-order_told-clause-clean : goal.returns-in_default-order_told-clause-clean
returns-in_default-order_told-clause-clean g c =
    let back = c.tables-in_default-order_told-1.given.1 (sym (c.order_told.ensures.leaves.same_reference ∙ c.in-Ok.ensures.same_reference)) in
    subst (λ t. WasClean g.S.Store c.args.tables.now t) (sym back) ((dropped_looked g.S.Store c.args.tables.now c.in-Ok.work c.order_told.new.work c.in-Ok.ensures.begun (call_looks g.S.Store c.order_told.result c.in-Ok.work c.order_told.new.work c.order_told.ensures.leaves) c.drop-work.new.self.0 c.requires.tables c.drop-work.ensures).clean)

pub returns-in_default-order_told-clause-halts : goal.returns-in_default-order_told-clause-halts
returns-in_default-order_told-clause-halts g c =
    let back = c.tables-in_default-order_told-1.given.1 (sym (c.order_told.ensures.leaves.same_reference ∙ c.in-Ok.ensures.same_reference)) in
    subst (λ t. Halts (is_stopped c.args.tables.now) (is_stopped t) (c.refused-in_default-order_told.result.answer ≡ Err refusal.G10)) (sym back) (dropped_halts g.S.Store c.args.tables.now c.in-Ok.work c.order_told.new.work c.in-Ok.ensures.begun (call_looks g.S.Store c.order_told.result c.in-Ok.work c.order_told.new.work c.order_told.ensures.leaves) c.drop-work.new.self.0 c.drop-work.ensures)

pub returns-in-Err-clause-tables : goal.returns-in-Err-clause-tables
returns-in-Err-clause-tables g c =
    let back = c.tables-in-Err-told-1.given.1 (sym (c.order_told.ensures.leaves.same_reference ∙ c.in-Ok.ensures.same_reference)) in
    subst (λ t. AreUpToDate g.S.Store t) (sym back) ((dropped_looked g.S.Store c.args.tables.now c.in-Ok.work c.order_told.new.work c.in-Ok.ensures.begun (call_looks g.S.Store c.order_told.result c.in-Ok.work c.order_told.new.work c.order_told.ensures.leaves) c.drop-work-in-Err-told.new.self.0 c.requires.tables c.drop-work-in-Err-told.ensures).tables)

pub returns-in-Err-clause-clean : goal.returns-in-Err-clause-clean
returns-in-Err-clause-clean g c =
    let back = c.tables-in-Err-told-1.given.1 (sym (c.order_told.ensures.leaves.same_reference ∙ c.in-Ok.ensures.same_reference)) in
    subst (λ t. WasClean g.S.Store c.args.tables.now t) (sym back) ((dropped_looked g.S.Store c.args.tables.now c.in-Ok.work c.order_told.new.work c.in-Ok.ensures.begun (call_looks g.S.Store c.order_told.result c.in-Ok.work c.order_told.new.work c.order_told.ensures.leaves) c.drop-work-in-Err-told.new.self.0 c.requires.tables c.drop-work-in-Err-told.ensures).clean)

pub returns-in-Err-clause-halts : goal.returns-in-Err-clause-halts
returns-in-Err-clause-halts g c =
    let back = c.tables-in-Err-told-1.given.1 (sym (c.order_told.ensures.leaves.same_reference ∙ c.in-Ok.ensures.same_reference)) in
    subst (λ t. Halts (is_stopped c.args.tables.now) (is_stopped t) (c.refused-in-Err.result.answer ≡ Err refusal.G10)) (sym back) (dropped_halts g.S.Store c.args.tables.now c.in-Ok.work c.order_told.new.work c.in-Ok.ensures.begun (call_looks g.S.Store c.order_told.result c.in-Ok.work c.order_told.new.work c.order_told.ensures.leaves) c.drop-work-in-Err-told.new.self.0 c.drop-work-in-Err-told.ensures)

pub returns-in-Ok-commit-clause-clean : goal.returns-in-Ok-commit-clause-clean
returns-in-Ok-commit-clause-clean g c =
    let back = c.tables-in-Ok-answer-1.given.1 (sym (c.order_told.ensures.leaves.same_reference ∙ c.in-Ok.ensures.same_reference)) in
    subst (λ t. WasClean g.S.Store c.args.tables.now t) (sym back) (ended_clean g.S.Store c.args.tables.now c.in-Ok.work c.order_told.new.work c.in-Ok.ensures.begun (call_looks g.S.Store c.order_told.result c.in-Ok.work c.order_told.new.work c.order_told.ensures.leaves) c.commit.new.self.0 c.commit.result c.commit.ensures)

pub returns-in-Ok-commit-clause-halts : goal.returns-in-Ok-commit-clause-halts
returns-in-Ok-commit-clause-halts g c =
    let back = c.tables-in-Ok-answer-1.given.1 (sym (c.order_told.ensures.leaves.same_reference ∙ c.in-Ok.ensures.same_reference)) in
    subst (λ t. Halts (is_stopped c.args.tables.now) (is_stopped t) (c.in-Ok-order_told.told.answer ≡ Err refusal.G10)) (sym back) (committed_halts g.S.Store c.args.tables.now c.in-Ok.work c.order_told.new.work c.in-Ok.ensures.begun (call_looks g.S.Store c.order_told.result c.in-Ok.work c.order_told.new.work c.order_told.ensures.leaves) c.commit.new.self.0 c.in-Ok-commit.ensures.committed)

pub returns-in-Err-commit-clause-tables : goal.returns-in-Err-commit-clause-tables
returns-in-Err-commit-clause-tables g c =
    let back = c.tables-in-Ok-answer-1.given.1 (sym (c.order_told.ensures.leaves.same_reference ∙ c.in-Ok.ensures.same_reference)) in
    subst (λ t. AreUpToDate g.S.Store t) (sym back) (refused_tables g.S.Store c.args.tables.now c.in-Ok.work c.order_told.new.work c.in-Ok.ensures.begun (call_looks g.S.Store c.order_told.result c.in-Ok.work c.order_told.new.work c.order_told.ensures.leaves) c.commit.new.self.0 c.commit.result c.requires.tables c.commit.ensures c.in-Err-commit.ensures.refused)

pub returns-in-Err-commit-clause-clean : goal.returns-in-Err-commit-clause-clean
returns-in-Err-commit-clause-clean g c =
    let back = c.tables-in-Ok-answer-1.given.1 (sym (c.order_told.ensures.leaves.same_reference ∙ c.in-Ok.ensures.same_reference)) in
    subst (λ t. WasClean g.S.Store c.args.tables.now t) (sym back) (ended_clean g.S.Store c.args.tables.now c.in-Ok.work c.order_told.new.work c.in-Ok.ensures.begun (call_looks g.S.Store c.order_told.result c.in-Ok.work c.order_told.new.work c.order_told.ensures.leaves) c.commit.new.self.0 c.commit.result c.commit.ensures)

pub returns-in-Err-commit-clause-halts : goal.returns-in-Err-commit-clause-halts
returns-in-Err-commit-clause-halts g c = record {
  stopped = λ was. absurd (false≢true (sym c.in-Ok.ensures.begun.was_open ∙ was));
  stays = λ was. absurd (false≢true (sym c.in-Ok.ensures.begun.was_open ∙ was));
  stops = λ is. search rules;
}

pub returns-in-Ok-commit-clause-tables : goal.returns-in-Ok-commit-clause-tables
returns-in-Ok-commit-clause-tables g c =
    let back = c.tables-in-Ok-answer-1.given.1 (sym (c.order_told.ensures.leaves.same_reference ∙ c.in-Ok.ensures.same_reference)) in
    subst (λ t. AreUpToDate g.S.Store t) (sym back) (committed_tables g.S.Store c.args.tables.now c.in-Ok.work c.order_told.new.work c.in-Ok.ensures.begun (call_looks g.S.Store c.order_told.result c.in-Ok.work c.order_told.new.work c.order_told.ensures.leaves) c.commit.new.self.0 c.commit.result c.requires.tables c.commit.ensures c.in-Ok-commit.ensures.committed)
