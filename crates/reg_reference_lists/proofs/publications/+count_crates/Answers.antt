use Rattle.std.proofs.Common.{◌+◌, ◌∙◌, sym, ap}
use Rattle.reg_reference_lists.proofs.PublicationViews.{crates_of, count_known, count_new, count_none}
use Rattle.reg_reference_lists.proofs.publications.+count_crates.Goals as goal

pub returns-then-has_crate-clause-value : goal.returns-then-has_crate-clause-value
returns-then-has_crate-clause-value t c =
    c.count_crates-others.ensures.value ∙ count_known c.in-Some.publication.now c.in-Some.rest.now (sym c.has_crate.ensures ∙ c.if-has_crate.true) ∙ ap crates_of (sym (c.in-Some.ensures.cases.0))

pub returns-else-has_crate-clause-value : goal.returns-else-has_crate-clause-value
returns-else-has_crate-clause-value t c =
    ap (λ k. k + 1) c.count_crates-others.ensures.value ∙ count_new c.in-Some.publication.now c.in-Some.rest.now (sym c.has_crate.ensures ∙ c.if-has_crate.false) ∙ ap crates_of (sym (c.in-Some.ensures.cases.0))

pub returns-in-None-clause-value : goal.returns-in-None-clause-value
returns-in-None-clause-value t c = count_none c.args.list.now c.in-None.ensures.cases
