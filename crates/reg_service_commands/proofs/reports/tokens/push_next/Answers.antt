use Rattle.reg_service_commands.proofs.Words.{◌==◌, ◌+◌, ◌++◌, map, sym, ap, subst, ◌∙◌, arith, string_bytes, token_line, Scope, AreTokens}
use Rattle.reg_service_commands.proofs.Words.{pattern_of, with_patterns}
use Rattle.std.proofs.lemmas.List.Sums.{prefix_len-le-length}
use Rattle.reg_service_commands.proofs.TokenScopes.{next_token}
use Rattle.reg_service_commands.proofs.reports.tokens.push_next.Goals as goal

pub split_at-requires : goal.split_at-requires
split_at-requires c = omega (arith, c.count_of.ensures, prefix_len-le-length (λ (s : Scope). s.token == c.args.token.now.id) c.args.scopes.now)

pub returns : goal.returns
returns c from t ts more are =
    let next = next_token c.args.accounts.now from t ts c.args.token.now more c.args.scopes.now c.count_of.result c.count_of.ensures are in (
      subst (λ l. AreTokens (from + 1) ts more l) (sym c.split_at.ensures.back) next.0,
      c.in_ok-push_token.ensures
          ∙ ap (λ l. string_bytes c.args.report.now ++ l) ((λ i. token_line (c.login_of.ensures i) (with_patterns (map pattern_of (c.split_at.ensures.front i)) c.args.token.now)) ∙ next.1),
    )
