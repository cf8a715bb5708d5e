use Rattle.std.proofs.Common.{◌∙◌, ap, arith, inl, inr, subst, sym}
use Rattle.std.proofs.lemmas.Bool.{cases_lt}
use Rattle.sqlite.specs.Effect.{Database}
use Rattle.reg_service.specs.Registries.{Running, tables_of}
use Rattle.reg_tables.specs.Works.{shown}
use Rattle.reg_cli.proofs.laws.found_law.Goals as goal

pub returns : goal.returns
returns g c auto up opened marked k0 k1 leaves marks clean db l =
    let before : (shown g.S.Store (tables_of opened)).may_leave db = elim (cases_lt 0 k0.left) [
      | inl some ↦ (marks.looked some).left clean db l
      | inr none ↦ subst (λ (r : Running _). (shown g.S.Store (tables_of r)).may_leave db) (marks.untold (omega (arith, none))).0 l
    ] in
    elim (leaves db before) [
      | inl was ↦ inl (c.stop_law.ensures up db was.1 ∙ ap (λ (d : Database). d.trees) (sym (c.rest_law.ensures auto up)))
      | inr old ↦ inr old
    ]
