use Rattle.reg_reference.proofs.Words.{◌+◌, ◌++◌, map, sym, ap, ◌∙◌, append_assoc, enumerate_from, flat_map, string_bytes, Text}
use Rattle.reg_reference.proofs.Words.{Registry, grant_lines, registry_of, token_of}
use Rattle.reg_reference.proofs.ReportTexts.{on_ok}
use Rattle.reg_reference.proofs.plain.PlainRegistry.+push_grants.Goals as goal

pub returns-in_ok-push_granted-in-Some : goal.returns-in_ok-push_granted-in-Some
returns-in_ok-push_granted-in-Some t c =
    let s : Registry = registry_of c.args.self.now in
    let n : Text = c.args.name.now in
    let rest = flat_map (grant_lines s n) (enumerate_from (c.args.before + 1 + 1) (map token_of c.in-Some.more.now)) in
    on_ok c.push_grants.result c.push_grants.ensures (λ e.
    e ∙ ap (λ l. l ++ rest) c.in_ok-push_granted-in-Some.ensures
    ∙ append_assoc (string_bytes c.args.report.now) (grant_lines s n (c.args.before + 1, token_of c.in-Some.token.now)) rest
    ∙ ap (λ l. string_bytes c.args.report.now ++ flat_map (grant_lines s n) (enumerate_from (c.args.before + 1) (map token_of l))) (sym c.in-Some.ensures.cases.0))
