-- Commands that report.
use Rattle.reg_service_commands.proofs.Words.{◌≡◌, ◌∷◌, [], not, Some, None, refl, sym, ap, ◌∙◌, Trees, Limits, name_of, Refused, Access}
use Rattle.reg_service_commands.proofs.Words.{Crates, Tokens, Users, Order, Text, Tells, HasOutcome, first_ground, is_given, is_not}
use Rattle.reg_model.specs.declared.rule.AdminRefusal.TheVariants as refusal
use Rattle.reg_model.specs.Events.Answer.{Report}
use Rattle.reg_model.specs.Effects.{commanded}
use Rattle.reg_model.specs.Refusals.{refused}
use Rattle.reg_model.specs.Reports.{access_text, crates_text, tokens_text, users_text}
use Rattle.reg_service_commands.proofs.Outcomes.{done_so, refused_so}

pub no_report : (limits : Limits) (name : Text) (db : Trees) → name_of name ≡ None → HasOutcome limits (Order (Access name)) (Refused refusal.G4) db db
unfolding refused
no_report limits name db none = refused_so limits (Access name) refusal.G4 db (λ ids s h. ap (λ b. first_ground ((refusal.G4, not b) ∷ [])) (is_not name none))

pub access_told : (limits : Limits) (name n t : Text) (db : Trees) → name_of name ≡ Some n → Tells (λ ids s. t ≡ access_text s n) db → HasOutcome limits (Order (Access name)) (Report t) db db
unfolding refused commanded
access_told limits name n t db given told = done_so limits (Access name) (Report t) db db (λ ids s h.
    let it = is_given name n given in
    (ap (λ b. first_ground ((refusal.G4, not b) ∷ [])) it.0, ap (λ x. Report x) (told ids s h ∙ ap (access_text s) (sym it.1)), (ids, h.stands)))

pub users_told : (limits : Limits) (t : Text) (db : Trees) → Tells (λ ids s. t ≡ users_text s) db → HasOutcome limits (Order Users) (Report t) db db
unfolding refused commanded
users_told limits t db told = done_so limits Users (Report t) db db (λ ids s h. (refl, ap (λ x. Report x) (told ids s h), (ids, h.stands)))

pub tokens_told : (limits : Limits) (t : Text) (db : Trees) → Tells (λ ids s. t ≡ tokens_text s) db → HasOutcome limits (Order Tokens) (Report t) db db
unfolding refused commanded
tokens_told limits t db told = done_so limits Tokens (Report t) db db (λ ids s h. (refl, ap (λ x. Report x) (told ids s h), (ids, h.stands)))

pub crates_told : (limits : Limits) (t : Text) (db : Trees) → Tells (λ ids s. t ≡ crates_text s) db → HasOutcome limits (Order Crates) (Report t) db db
unfolding refused commanded
crates_told limits t db told = done_so limits Crates (Report t) db db (λ ids s h. (refl, ap (λ x. Report x) (told ids s h), (ids, h.stands)))
