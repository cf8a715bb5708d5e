use Rattle.reg_service_commands.proofs.Words.{Counted, nat_le, ap, ◌∙◌, asks_made}
use Rattle.std.specs.Prelude.{◌||◌, length, nat_lt}
use Rattle.reg_service_commands.proofs.tokens.is_full.Goals as goal

pub returns : goal.returns
returns g c =
    asks_made g.S.Store {P = Counted (λ s. length s.tokens)} c.in_ok-tokens.tokens _ c.args.work.now c.count_tokens.new.self
    (λ h ids s holds. c.are_too_many.ensures ∙ ap (λ n. nat_lt c.args.limits.now.patterns (length c.args.patterns.now) || nat_le c.args.limits.now.tokens n) (h ids s holds))
    c.in_ok-tokens.ensures
