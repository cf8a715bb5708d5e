use Rattle.reg_reference.proofs.Words.{[], ◌∷◌, ◌++◌, List, length, true, refl, sym, ◌∙◌, ap, not, is_none, is_some, nat_le, ◌||◌}
use Rattle.reg_reference.proofs.Words.{unwrap_or, option_map, G3, G4, G7, Text, Registry, id_of_login, token_of, limits_of, registry_of}
use Rattle.std.specs.Prelude.{map, nat_lt}
use Rattle.std.specs.List.{list_all}
use Rattle.reg_names.specs.Patterns.{is_pattern}
use Rattle.reg_model.specs.declared.rule.AdminRefusal.TheVariants.{G5, G9}
use Rattle.reg_model.specs.Refusals.{patterns_given}
use Rattle.reg_model.specs.Events.Answer.{Id}
use Rattle.reg_model.specs.Events.Command.{TokenAdd}
use Rattle.reg_model.specs.Effects.{commanded}
use Rattle.reg_reference.proofs.Joined.{refused_step, done_step, login_there, no_login_there, read_none, read_some, is_some_mapped, told}
use Rattle.reg_reference.proofs.plain.PlainRegistry.token_add.Goals as goal

pub returns-in_err-account : goal.returns-in_err-account
returns-in_err-account c =
    let s : Registry = registry_of c.args.self.now in
    let words : List Text = map (λ w. w.now) c.args.words.now in
    let patterns : List Text = map (λ p. p.now) c.args.patterns.now in
    let no = no_login_there (id_of_login s c.args.login.now) c.in_err-account.field-0.0 c.in_err-account.ensures in
    record { step = refused_step (limits_of c.args.self.now) s _ (TokenAdd c.args.login.now words patterns c.args.digest.now) _ 0 G3 (refl, no.1) (told c.from_residual.result c.in_err-account.field-0.0 G3 c.from_residual.ensures.1 no.0) refl; limits = refl }

pub returns-then-not-name_endpoints : goal.returns-then-not-name_endpoints
returns-then-not-name_endpoints c =
    let words : List Text = map (λ w. w.now) c.args.words.now in
    let patterns : List Text = map (λ p. p.now) c.args.patterns.now in
    let found = login_there (id_of_login (registry_of c.args.self.now) c.args.login.now) c.in_ok-account.account c.in_ok-account.ensures in
    record { step = refused_step (limits_of c.args.self.now) (registry_of c.args.self.now) _ (TokenAdd c.args.login.now words patterns c.args.digest.now) _ 1 G9 (ap is_none found, (refl, sym c.name_endpoints.ensures ∙ ap not c.if-not-name_endpoints.true)) refl refl; limits = refl }

pub returns-in_default-patterns : goal.returns-in_default-patterns
returns-in_default-patterns c =
    let words : List Text = map (λ w. w.now) c.args.words.now in
    let patterns : List Text = map (λ p. p.now) c.args.patterns.now in
    let found = login_there (id_of_login (registry_of c.args.self.now) c.args.login.now) c.in_ok-account.account c.in_ok-account.ensures in
    let named = sym c.name_endpoints.ensures ∙ ap not c.if-not-name_endpoints.false in
    let bad = read_none (list_all is_pattern patterns) (patterns_given patterns) (sym (ap (option_map (λ v. v.items)) c.in_default-patterns.is) ∙ c.in-Ok.ensures) in
    record { step = refused_step (limits_of c.args.self.now) (registry_of c.args.self.now) _ (TokenAdd c.args.login.now words patterns c.args.digest.now) _ 2 G4 (ap is_none found, (named, (refl, ap not bad))) refl refl; limits = refl }

pub returns-then-is_full_for : goal.returns-then-is_full_for
returns-then-is_full_for c =
    let words : List Text = map (λ w. w.now) c.args.words.now in
    let patterns : List Text = map (λ p. p.now) c.args.patterns.now in
    let found = login_there (id_of_login (registry_of c.args.self.now) c.args.login.now) c.in_ok-account.account c.in_ok-account.ensures in
    let named = sym c.name_endpoints.ensures ∙ ap not c.if-not-name_endpoints.false in
    let read = read_some (list_all is_pattern patterns) (patterns_given patterns) c.in-Some.patterns.items (sym (ap (option_map (λ v. v.items)) c.in-Some.is) ∙ c.in-Ok.ensures) in
    let room = ap (λ n. nat_lt (limits_of c.args.self.now).patterns n || nat_le (limits_of c.args.self.now).tokens (length c.args.self.now.tokens)) (sym (ap length read.1) ∙ sym c.in-Some.patterns.ok.0 ∙ sym c.len.ensures) ∙ sym c.is_full_for.ensures ∙ c.if-is_full_for.true in
    record { step = refused_step (limits_of c.args.self.now) (registry_of c.args.self.now) _ (TokenAdd c.args.login.now words patterns c.args.digest.now) _ 3 G7 (ap is_none found, (named, (ap not read.0, (refl, room)))) refl refl; limits = refl }

pub returns-then-is_some : goal.returns-then-is_some
returns-then-is_some c =
    let words : List Text = map (λ w. w.now) c.args.words.now in
    let patterns : List Text = map (λ p. p.now) c.args.patterns.now in
    let found = login_there (id_of_login (registry_of c.args.self.now) c.args.login.now) c.in_ok-account.account c.in_ok-account.ensures in
    let named = sym c.name_endpoints.ensures ∙ ap not c.if-not-name_endpoints.false in
    let read = read_some (list_all is_pattern patterns) (patterns_given patterns) c.in-Some.patterns.items (sym (ap (option_map (λ v. v.items)) c.in-Some.is) ∙ c.in-Ok.ensures) in
    let room = ap (λ n. nat_lt (limits_of c.args.self.now).patterns n || nat_le (limits_of c.args.self.now).tokens (length c.args.self.now.tokens)) (sym (ap length read.1) ∙ sym c.in-Some.patterns.ok.0 ∙ sym c.len.ensures) ∙ sym c.is_full_for.ensures ∙ c.if-is_full_for.false in
    let taken = ap is_some (sym c.find.ensures) ∙ is_some_mapped (λ t. token_of t.now) c.find.result ∙ sym c.is_some.ensures ∙ c.if-is_some.true in
    record { step = refused_step (limits_of c.args.self.now) (registry_of c.args.self.now) _ (TokenAdd c.args.login.now words patterns c.args.digest.now) _ 4 G5 (ap is_none found, (named, (ap not read.0, (room, (refl, taken))))) refl refl; limits = refl }

pub returns-in-Ok-add : goal.returns-in-Ok-add
unfolding commanded
returns-in-Ok-add c =
    let s : Registry = registry_of c.args.self.now in
    let words : List Text = map (λ w. w.now) c.args.words.now in
    let patterns : List Text = map (λ p. p.now) c.args.patterns.now in
    let found = login_there (id_of_login (registry_of c.args.self.now) c.args.login.now) c.in_ok-account.account c.in_ok-account.ensures in
    let named = sym c.name_endpoints.ensures ∙ ap not c.if-not-name_endpoints.false in
    let read = read_some (list_all is_pattern patterns) (patterns_given patterns) c.in-Some.patterns.items (sym (ap (option_map (λ v. v.items)) c.in-Some.is) ∙ c.in-Ok.ensures) in
    let room = ap (λ n. nat_lt (limits_of c.args.self.now).patterns n || nat_le (limits_of c.args.self.now).tokens (length c.args.self.now.tokens)) (sym (ap length read.1) ∙ sym c.in-Some.patterns.ok.0 ∙ sym c.len.ensures) ∙ sym c.is_full_for.ensures ∙ c.if-is_full_for.false in
    let taken = ap is_some (sym c.find.ensures) ∙ is_some_mapped (λ t. token_of t.now) c.find.result ∙ sym c.is_some.ensures ∙ c.if-is_some.false in
    let account = sym (ap (λ o. unwrap_or o 0) found) in
    let after = c.in-Ok-add.ensures.ok ∙ (λ i. s.tokens ++ record { digest = c.args.digest.now; account = account i; live = true; endpoints = c.endpoints_named.ensures i; patterns = read.1 i } ∷ []) in
    record { step = done_step (limits_of c.args.self.now) s _ (TokenAdd c.args.login.now words patterns c.args.digest.now) _ (ap is_none found, (named, (ap not read.0, (room, (taken, tt))))) (ap Id c.in-Ok-add.ensures.id) (λ i. record s { tokens = after i }); limits = refl }
