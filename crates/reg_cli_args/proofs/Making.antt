-- Rules that are added to what a command has.
use Rattle.std.proofs.Common.{◌≡◌, ◌∙◌, ◌==◌, ◌&&◌, ◌||◌, ◌++◌, Bool, true, false, not, List, [], ◌∷◌, Bor, length, refl, ap, ap₂, subst}
use Rattle.std.proofs.Math.Dec.{eqb-suc-zero}
use Rattle.std.proofs.lemmas.List.{append_assoc}
use Rattle.std.proofs.lemmas.List.Sums.{fold-append}
use Rattle.clap.proofs.OnLiterals.{clap_on_literals}
use Rattle.clap.specs.Faults.{is_simple_and_free}
use Rattle.clap.specs.Walk.{is_empty}
use Rattle.clap.specs.Words.{AddsArg, AddsConflicts, AddsRequiredUnless, AddsSubcommand, App, Rule, Shape as Level, is_simple, rule_of, with_rule, with_subcommand}
use Rattle.clap.specs.declared.builder.arg.Arg.{Arg}
use Rattle.clap.specs.declared.builder.command.Command.{Command}
use Rattle.reg_model.specs.Registry.{Text}
use Rattle.reg_cli_args.specs.declared.parameters.Shape.TheVariants.{Program, Setup}
use Rattle.reg_cli_args.specs.Grammar.{message_app, needed_rule, option_rule, order_levels, other_levels, plain_levels, program_app, program_top, report_words, service_levels, setup_app, setup_top, with_levels, with_rules}
use Rattle.reg_cli_args.specs.Making.{HasLevel, HasRule, HasRules}

pub arg_added : (old new : Command) (a : Arg) (app : App) (r : Rule) → HasRule r a → AddsArg old a new → HasRules app old → HasRules (with_rule app r) new
arg_added old new a app r is added had = record {
  app = added.shape is.local ∙ ap₂ with_rule had.app is.rule;
  local = added.globals ∙ ap₂ (λ x y. x || y) had.local is.local;
}

pub sub_added : (old sub new : Command) (app : App) (s : Level) → HasLevel s sub → AddsSubcommand old sub new → HasRules app old → HasRules (with_subcommand app s) new
sub_added old sub new app s is added had = record {
  app = added.shape is.local ∙ ap₂ with_subcommand had.app (ap (λ (a : App). a.top) is.app);
  local = added.globals ∙ ap₂ (λ x y. x || y) had.local is.local;
}

pub rules_append : (app : App) (rs qs : List Rule) → with_rules (with_rules app rs) qs ≡ with_rules app (rs ++ qs)
rules_append app rs qs = ap (λ rules. record app { top = record app.top { rules = rules } }) (append_assoc app.top.rules rs qs)

pub levels_append : (app : App) (s : Level) (ls : List Level) → with_levels app (ls ++ s ∷ []) ≡ with_subcommand (with_levels app ls) s
levels_append app s ls = fold-append with_subcommand app ls (s ∷ [])

-- two words or options, one after the other
pub two_added : (old mid new : Command) (a b : Arg) (app : App) (p q : Rule) → HasRule p a → HasRule q b → AddsArg old a mid → AddsArg mid b new
    → HasRules app old → HasRules (with_rules app (p ∷ q ∷ [])) new
two_added old mid new a b app p q is_p is_q first second had =
    subst (λ it. HasRules it new) (rules_append app (p ∷ []) (q ∷ [])) (arg_added mid new b (with_rule app p) q is_q second (arg_added old mid a app p is_p first had))

has_last : {X : Type 0} (xs : List X) (x : X) → (length (xs ++ x ∷ []) == 0) ≡ false
has_last [] x = refl
has_last (y ∷ ys) x = eqb-suc-zero (length (ys ++ x ∷ []))

and_false : (x y : Bool) → y ≡ false → (x && y) ≡ false
and_false true y is = is
and_false false y is = refl

not_first : (x y : Bool) → x ≡ false → (x && y) ≡ false
not_first x y is = ap (λ e. e && y) is

sixth : (a b c d e x y : Bool) → x ≡ false → (a && (b && (c && (d && (e && (x && y)))))) ≡ false
sixth false b c d e x y is = refl
sixth true false c d e x y is = refl
sixth true true false d e x y is = refl
sixth true true true false e x y is = refl
sixth true true true true false x y is = refl
sixth true true true true true x y is = not_first x y is

-- an argument that excludes another
pub excludes : (a b : Arg) (id : Bor Text) (r : Rule) → HasRule r a → AddsConflicts a b (id ∷ []) → HasRule (record r { is_free = false }) b
excludes a b id r is (same, more) = record {
  rule = ap rule_of same ∙ ap (λ free. record (rule_of a) { is_free = free }) (and_false _ _ (not_first _ _ (ap (λ ids. length ids == 0) more ∙ has_last a.conflicts.items id))) ∙ ap (λ (it : Rule). record it { is_free = false }) is.rule;
  local = ap (λ (it : Arg). it.global) same ∙ is.local;
}

-- one that has to stand where another does not
pub unless : (a b : Arg) (id : Bor Text) (r : Rule) → HasRule r a → AddsRequiredUnless a b (id ∷ []) → HasRule (record r { is_free = false }) b
unless a b id r is (same, more) = record {
  rule = ap rule_of same
      ∙ ap (λ free. record (rule_of a) { is_free = free }) (sixth (not a.exclusive) (is_empty a.conflicts.items) (is_empty a.needs.items) (is_empty a.r_ifs.items) (is_empty a.r_ifs_all.items) (is_empty b.r_unless.items) (is_empty a.r_unless_all.items) (ap (λ ids. length ids == 0) more ∙ has_last a.r_unless.items id))
      ∙ ap (λ (it : Rule). record it { is_free = false }) is.rule;
  local = ap (λ (it : Arg). it.global) same ∙ is.local;
}

-- one that has to stand
pub needed : (a b : Arg) (name : Text) → HasRule (option_rule name) a → b ≡ record a { required = true } → HasRule (needed_rule name) b
needed a b name is same = record {
  rule = ap rule_of same ∙ ap (λ (it : Rule). record it { required = true }) is.rule;
  local = ap (λ (it : Arg). it.global) same ∙ is.local;
}

pub setup_is : with_levels setup_top (order_levels Setup) ≡ setup_app
unfolding setup_app
setup_is = refl

pub setup_simple : is_simple setup_app ≡ true
unfolding setup_app clap_on_literals
setup_simple = refl

pub setup_free : is_simple_and_free setup_app ≡ true
unfolding setup_app clap_on_literals
setup_free = refl

pub message_is : with_levels (with_levels setup_top (order_levels Setup)) (plain_levels Setup report_words) ≡ message_app
unfolding message_app
message_is = refl

pub message_simple : is_simple message_app ≡ true
unfolding message_app clap_on_literals
message_simple = refl

pub message_free : is_simple_and_free message_app ≡ true
unfolding message_app clap_on_literals
message_free = refl

pub program_is : with_levels (with_levels (with_levels (with_levels program_top service_levels) other_levels) (order_levels Program)) (plain_levels Program report_words) ≡ program_app
unfolding program_app
program_is = refl

pub program_simple : is_simple program_app ≡ true
unfolding program_app clap_on_literals
program_simple = refl
