use Rattle.reg_service.proofs.Words.{[], ◌∷◌, ◌++◌, ◌+◌, take, subst, sym, refl, ◌∙◌, arith, limits_of, tables_of, HasAnswered, take_all}
use Rattle.reg_service.proofs.Histories.{answered_next, answered_nothing, fit_at, no_told}
use Rattle.reg_service.proofs.sequences.answer_all.Goals as goal

pub loop-call-init : goal.loop-call-init
loop-call-init g c = (
  refl,
  λ clean s shows. subst (λ ts. HasAnswered g.S.Store (limits_of c.args.registry.now) s (tables_of c.args.registry.now) [] ts (tables_of c.args.registry.now)) (sym c.new-told.ensures.items)
      (answered_nothing g.S.Store (limits_of c.args.registry.now) s (tables_of c.args.registry.now) c.growth_law.ensures.sound c.growth_law.ensures.grows shows),
)

pub loop-call-preserved : goal.loop-call-preserved
loop-call-preserved g c = (
  c.answer.ensures.limits ∙ c.loop-call.invariant.0,
  λ clean s shows. subst (λ ts. HasAnswered g.S.Store (limits_of c.args.registry.now) s (tables_of c.args.registry.now) (take (c.loop-call.call-index + 1) c.args.calls.now) ts (tables_of c.answer.new.registry)) (sym c.in_ok-push.ensures.items)
      (answered_next g.S.Store (limits_of c.args.registry.now) s (tables_of c.args.registry.now) c.growth_law.ensures.sound c.growth_law.ensures.grows c.run_law.ensures.step c.run_law.ensures.join c.args.calls.now c.loop-call.call-index c.call-item.result c.loop-call.told.items c.answer.result (tables_of c.loop-call.registry) (tables_of c.answer.new.registry) c.loop-call-test.true c.call-item.is (rw c.loop-call.invariant.0 at c.answer.ensures.read) clean
      (c.loop-call.invariant.1 (c.answer.ensures.clean clean) s shows) (rw c.loop-call.invariant.0 at c.answer.ensures.told)),
)

pub returns-in_err-push : goal.returns-in_err-push
returns-in_err-push g c = record {
  answered = λ clean s shows. no_told _ c.from_residual.result c.from_residual.ensures.0;
  begun = λ clean s shows. (
    c.loop-call.call-index + 1,
    c.loop-call.told.items ++ c.answer.result ∷ [],
    answered_next g.S.Store (limits_of c.args.registry.now) s (tables_of c.args.registry.now) c.growth_law.ensures.sound c.growth_law.ensures.grows c.run_law.ensures.step c.run_law.ensures.join c.args.calls.now c.loop-call.call-index c.call-item.result c.loop-call.told.items c.answer.result (tables_of c.loop-call.registry) (tables_of c.answer.new.registry) c.loop-call-test.true c.call-item.is (rw c.loop-call.invariant.0 at c.answer.ensures.read) clean
        (c.loop-call.invariant.1 (c.answer.ensures.clean clean) s shows) (rw c.loop-call.invariant.0 at c.answer.ensures.told),
  );
  limits = c.answer.ensures.limits ∙ c.loop-call.invariant.0;
}

pub returns : goal.returns
returns g c =
    let l = c.loop-call in
    record {
      answered = λ clean s shows. subst (λ cs. HasAnswered g.S.Store (limits_of c.args.registry.now) s (tables_of c.args.registry.now) cs l.told.items (tables_of l.registry)) (take_all l.call-index c.args.calls.now c.loop-call-test.false) (l.invariant.1 clean s shows);
      begun = λ clean s shows. (l.call-index, l.told.items, l.invariant.1 clean s shows);
      limits = l.invariant.0;
    }

pub answer-requires : goal.answer-requires
answer-requires g c = record { fit = fit_at c.args.calls.now c.loop-call.call-index c.call-item.result c.requires.fit c.loop-call-test.true c.call-item.is }

pub loop-call-smaller : goal.loop-call-smaller
loop-call-smaller g c = omega (arith, c.loop-call-test.true)
