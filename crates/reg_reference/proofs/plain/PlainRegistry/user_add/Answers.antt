use Rattle.reg_reference.proofs.Words.{◌≡◌, [], ◌∷◌, ◌++◌, true, Option, refl, sym, ◌∙◌, ap, arith, ◌&&◌, not, is_some, option_map, G7}
use Rattle.reg_reference.proofs.Words.{Text, Registry, id_of_login, limits_of, registry_of}
use Rattle.std.proofs.lemmas.Bool.{le-leb}
use Rattle.reg_names.specs.Logins.{is_login}
use Rattle.reg_model.specs.declared.rule.AdminRefusal.TheVariants.{G1, G2}
use Rattle.reg_model.specs.Refusals.{may_name}
use Rattle.reg_model.specs.Events.Command.{UserAdd}
use Rattle.reg_model.specs.Effects.{commanded}
use Rattle.reg_reference.proofs.Joined.{refused_step, done_step, read_none, read_some, is_more}
use Rattle.reg_reference.proofs.plain.PlainRegistry.user_add.Goals as goal

pub returns-in_default : goal.returns-in_default
returns-in_default c =
    let name : Option Text = option_map (λ n. n.now) c.args.name in
    let unread = read_none (is_login c.args.login.now) c.args.login.now (sym c.in_default.is ∙ c.parse_login.ensures) in
    record { step = refused_step (limits_of c.args.self.now) (registry_of c.args.self.now) _ (UserAdd c.args.login.now name) _ 0 G1 (refl, ap (λ b. not (b && may_name name)) unread) refl refl; limits = refl }

pub returns-then-not-may_name : goal.returns-then-not-may_name
returns-then-not-may_name c =
    let name : Option Text = option_map (λ n. n.now) c.args.name in
    let read = read_some (is_login c.args.login.now) c.args.login.now c.in-Some.login (sym c.in-Some.is ∙ c.parse_login.ensures) in
    let bad = sym c.may_name.ensures ∙ c.if-not-may_name.true in
    record { step = refused_step (limits_of c.args.self.now) (registry_of c.args.self.now) _ (UserAdd c.args.login.now name) _ 0 G1 (refl, λ i. not (read.0 i && bad i)) refl refl; limits = refl }

pub returns-then-is_some : goal.returns-then-is_some
returns-then-is_some c =
    let s : Registry = registry_of c.args.self.now in
    let name : Option Text = option_map (λ n. n.now) c.args.name in
    let read = read_some (is_login c.args.login.now) c.args.login.now c.in-Some.login (sym c.in-Some.is ∙ c.parse_login.ensures) in
    let good = sym c.may_name.ensures ∙ c.if-not-may_name.false in
    let login = c.as_str.ensures.value ∙ read.1 in
    let taken = ap (λ t. is_some (id_of_login s t)) (sym login) ∙ ap is_some (sym c.id_of.ensures) ∙ sym c.is_some.ensures ∙ c.if-is_some.true in
    record { step = refused_step (limits_of c.args.self.now) s _ (UserAdd c.args.login.now name) _ 1 G2 ((λ i. not (read.0 i && good i)), (refl, taken)) refl refl; limits = refl }

pub returns-then-self-len : goal.returns-then-self-len
returns-then-self-len c =
    let s : Registry = registry_of c.args.self.now in
    let name : Option Text = option_map (λ n. n.now) c.args.name in
    let read = read_some (is_login c.args.login.now) c.args.login.now c.in-Some.login (sym c.in-Some.is ∙ c.parse_login.ensures) in
    let good = sym c.may_name.ensures ∙ c.if-not-may_name.false in
    let login = c.as_str.ensures.value ∙ read.1 in
    let free = ap (λ t. is_some (id_of_login s t)) (sym login) ∙ ap is_some (sym c.id_of.ensures) ∙ sym c.is_some.ensures ∙ c.if-is_some.false in
    record { step = refused_step (limits_of c.args.self.now) s _ (UserAdd c.args.login.now name) _ 2 G7 ((λ i. not (read.0 i && good i)), (free, (refl, le-leb _ _ (omega (arith, c.len.ensures.value))))) refl refl; limits = refl }

pub returns-in-Ok-add : goal.returns-in-Ok-add
unfolding commanded
returns-in-Ok-add c =
    let s : Registry = registry_of c.args.self.now in
    let name : Option Text = option_map (λ n. n.now) c.args.name in
    let read = read_some (is_login c.args.login.now) c.args.login.now c.in-Some.login (sym c.in-Some.is ∙ c.parse_login.ensures) in
    let good = sym c.may_name.ensures ∙ c.if-not-may_name.false in
    let login = c.as_str.ensures.value ∙ read.1 in
    let free = ap (λ t. is_some (id_of_login s t)) (sym login) ∙ ap is_some (sym c.id_of.ensures) ∙ sym c.is_some.ensures ∙ c.if-is_some.false in
    let after = c.in-Ok-add.ensures.ok ∙ (λ i. s.accounts ++ record { login = read.1 i; name = c.in-Ok.ensures i; enabled = true } ∷ []) in
    record { step = done_step (limits_of c.args.self.now) s _ (UserAdd c.args.login.now name) _ ((λ i. not (read.0 i && good i)), (free, (is_more _ _ (omega (arith, c.len.ensures.value)), tt))) refl (λ i. record s { accounts = after i }); limits = refl }
