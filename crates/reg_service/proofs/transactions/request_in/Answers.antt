use Rattle.reg_service.proofs.Words.{None, refl, rules, sym, subst, ◌∙◌, option_map, Denied, IsDropped, held, call_looks, AreUpToDate}
use Rattle.reg_model.specs.declared.rule.Rule.TheVariants as rule
use Rattle.reg_policy.specs.Events.{asked_of}
use Rattle.reg_service.proofs.Requested.{committed, failed, found, not_committed, only_told, sought, unbegun}
use Rattle.reg_service.proofs.Rests.{dropped_looked}
use Rattle.reg_service.proofs.transactions.request_in.Goals as goal

pub returns-in_default : goal.returns-in_default
returns-in_default g c =
    let digest = option_map (λ d. d.now) c.args.digest in
    let asked = asked_of c.args.asked.now in
    let old = c.args.tables.now in
    let left = rw c.in_default.is at c.work.follows.holds-at-none in
    unbegun g.S.Store c.args.limits.now c.args.traced digest asked old c.requires.tables c.denied.result _ c.denied.ensures.reply c.denied.ensures.line left

pub returns-in_default-serve_told : goal.returns-in_default-serve_told
returns-in_default-serve_told g c =
    let lim = c.args.limits.now in
    let digest = option_map (λ d. d.now) c.args.digest in
    let asked = asked_of c.args.asked.now in
    let old = c.args.tables.now in
    let it = c.denied-in_default-serve_told in
    let back = c.tables-in_default-serve_told-1.given.1 (sym (c.serve_told.ensures.leaves.same_reference ∙ c.in-Ok.ensures.same_reference)) in
    let looks = call_looks g.S.Store c.serve_told.result c.in-Ok.work c.serve_told.new.work c.serve_told.ensures.leaves in
    failed g.S.Store lim c.args.traced digest asked old c.requires.tables it.result c.in-Ok.work c.serve_told.new.work c.in-Ok.ensures.begun looks
    _ c.drop-work.new.self.0 back it.ensures.reply it.ensures.line c.drop-work.ensures
    (λ up db l. g.met.S.Store.settled (held old).store db up l)

pub returns-in-Ok-commit : goal.returns-in-Ok-commit
returns-in-Ok-commit g c =
    let lim = c.args.limits.now in
    let digest = option_map (λ d. d.now) c.args.digest in
    let asked = asked_of c.args.asked.now in
    let old = c.args.tables.now in
    let told = c.in-Ok-serve_told in
    let it = c.with_line in
    let back = c.tables-in-Done-1.given.1 (sym (c.serve_told.ensures.leaves.same_reference ∙ c.in-Ok.ensures.same_reference)) in
    let looks = call_looks g.S.Store c.serve_told.result c.in-Ok.work c.serve_told.new.work c.serve_told.ensures.leaves in
    committed g.S.Store lim c.args.traced digest asked old c.requires.tables it.result c.in-Ok.work c.serve_told.new.work c.in-Ok.ensures.begun looks
    told.told told.ensures.told
    c.commit.result c.in-Done.reply _ c.commit.new.self.0 back c.in-Done.is it.ensures.reply it.ensures.line c.commit.ensures c.in-Ok-commit.ensures.committed c.soundness_law.ensures.step
    (c.requires.fit digest)

pub returns-in-Err : goal.returns-in-Err
returns-in-Err g c =
    let lim = c.args.limits.now in
    let digest = option_map (λ d. d.now) c.args.digest in
    let asked = asked_of c.args.asked.now in
    let old = c.args.tables.now in
    let told = c.in-Ok-serve_told in
    let back = c.tables-in-Done-1.given.1 (sym (c.serve_told.ensures.leaves.same_reference ∙ c.in-Ok.ensures.same_reference)) in
    let looks = call_looks g.S.Store c.serve_told.result c.in-Ok.work c.serve_told.new.work c.serve_told.ensures.leaves in
    let end = not_committed g.S.Store lim c.args.traced digest asked old c.requires.tables (record { reply = Denied rule.S1; line = None }) c.in-Ok.work
    c.serve_told.new.work c.in-Ok.ensures.begun looks told.told told.ensures.told
    c.commit.result c.in-Done.reply c.tables-in-Done-1.given.0 c.commit.new.self.0 back c.in-Done.is refl refl c.commit.ensures c.in-Err.ensures.refused in
    record {
      replies = λ clean s h. let it = end.replies clean s h in (it.0, search (rules, it.1), it.2, λ t. let e = it.3 t in cc);
      tables = end.tables;
      clean = end.clean;
      halts = record { stopped = λ _. search rules; stays = end.halts.stays; stops = λ _. search rules };
    }

pub returns-in-ReadOnly : goal.returns-in-ReadOnly
returns-in-ReadOnly g c =
    let lim = c.args.limits.now in
    let digest = option_map (λ d. d.now) c.args.digest in
    let asked = asked_of c.args.asked.now in
    let old = c.args.tables.now in
    let told = c.in-Ok-serve_told in
    let it = c.with_line-in-ReadOnly in
    let back = c.tables-in-ReadOnly-1.given.1 (sym (c.serve_told.ensures.leaves.same_reference ∙ c.in-Ok.ensures.same_reference)) in
    let looks = call_looks g.S.Store c.serve_told.result c.in-Ok.work c.serve_told.new.work c.serve_told.ensures.leaves in
    only_told g.S.Store lim c.args.traced digest asked old c.requires.tables it.result c.in-Ok.work c.serve_told.new.work c.in-Ok.ensures.begun looks
    told.told told.ensures.told
    c.in-ReadOnly.reply _ c.drop-work-in-ReadOnly-1.new.self.0 back c.in-ReadOnly.is it.ensures.reply it.ensures.line c.drop-work-in-ReadOnly-1.ensures (λ up db l. g.met.S.Store.settled (held old).store db up l)

pub search_reply-requires : goal.search_reply-requires
search_reply-requires g c =
    let back = c.tables-in-Seeks-1.given.1 (sym (c.serve_told.ensures.leaves.same_reference ∙ c.in-Ok.ensures.same_reference)) in
    let looks = call_looks g.S.Store c.serve_told.result c.in-Ok.work c.serve_told.new.work c.serve_told.ensures.leaves in
    subst (λ t. AreUpToDate g.S.Store t) (sym back) (dropped_looked g.S.Store c.args.tables.now c.in-Ok.work c.serve_told.new.work c.in-Ok.ensures.begun looks c.drop.new.self.0 c.requires.tables c.drop.ensures).tables

pub returns-in-Seeks : goal.returns-in-Seeks
returns-in-Seeks g c =
    let lim = c.args.limits.now in
    let digest = option_map (λ d. d.now) c.args.digest in
    let asked = asked_of c.args.asked.now in
    let old = c.args.tables.now in
    let told = c.in-Ok-serve_told in
    let it = c.with_line-in-Seeks in
    let back = c.tables-in-Seeks-1.given.1 (sym (c.serve_told.ensures.leaves.same_reference ∙ c.in-Ok.ensures.same_reference)) in
    let looks = call_looks g.S.Store c.serve_told.result c.in-Ok.work c.serve_told.new.work c.serve_told.ensures.leaves in
    let dropped = subst (λ t. IsDropped g.S.Store c.serve_told.new.work t) (sym back) c.drop.ensures in
    sought g.S.Store lim c.args.traced digest asked old c.requires.tables it.result c.in-Ok.work c.serve_told.new.work c.in-Ok.ensures.begun looks
    told.told told.ensures.told
    c.in-Seeks.account c.search_reply.result c.tables-in-Seeks-1.given.0 c.search_reply.new.tables c.in-Seeks.is it.ensures.reply it.ensures.line dropped
    (λ up db l. g.met.S.Store.settled (held old).store db up l) c.search_reply.ensures.left c.search_reply.ensures.sought

pub returns-in-Sends : goal.returns-in-Sends
returns-in-Sends g c =
    let old = c.args.tables.now in
    let told = c.in-Ok-serve_told in
    let back = c.tables-in-Sends-1.given.1 (sym (c.serve_told.ensures.leaves.same_reference ∙ c.in-Ok.ensures.same_reference)) in
    let looks = call_looks g.S.Store c.serve_told.result c.in-Ok.work c.serve_told.new.work c.serve_told.ensures.leaves in
    found g.S.Store c.args.limits.now c.args.traced (option_map (λ d. d.now) c.args.digest) (asked_of c.args.asked.now) old c.requires.tables c.in-Ok.work c.serve_told.new.work c.in-Ok.ensures.begun looks
    told.told told.ensures.told c.file_law.ensures
    c.in-Sends.file _ c.drop-work-in-Sends-1.new.self.0 back c.in-Sends.is c.drop-work-in-Sends-1.ensures (λ up db l. g.met.S.Store.settled (held old).store db up l)
