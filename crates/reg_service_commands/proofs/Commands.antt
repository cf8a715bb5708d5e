-- What was found and what was changed make up a command.
use Rattle.reg_service_commands.proofs.Words.{◌≡◌, ◌∷◌, [], ℕ, Bool, true, false, not, cond, Some, None, is_none, refl, sym, ap, subst, ◌∙◌}
use Rattle.reg_service_commands.proofs.Words.{option_map, find, Trees, Limits, canon, name_of, is_reserved_always, replied, Done, Refused}
use Rattle.reg_service_commands.proofs.Words.{Reserve, Unreserve, Order, Registry, Text, id_of_login, Account, FindsAccount, Stands}
use Rattle.reg_service_commands.proofs.Words.{HasOutcome, enabling, first_ground, is_given, is_not}
use Rattle.reg_model.specs.declared.rule.AdminRefusal.TheVariants as refusal
use Rattle.reg_model.specs.Changes.{with_enabled, with_reserved, without_reserved}
use Rattle.reg_model.specs.Effects.{commanded, enable}
use Rattle.reg_model.specs.Refusals.{refused}
use Rattle.reg_tables_represent.specs.Calls.{SetsEnabled, Transforms}
use Rattle.reg_service_commands.proofs.Outcomes.{done_so, refused_so}

-- accounts are enabled and disabled
no_such : (limits : Limits) (b : Bool) (s : Registry) (login : Text) → id_of_login s login ≡ None → refused limits s (enabling b login) ≡ Some refusal.G3
unfolding refused
no_such limits true s login e = ap (λ o. option_map (λ (g : _ × Bool). g.0) (find (λ g. g.1) ((refusal.G3, is_none o) ∷ []))) e
no_such limits false s login e = ap (λ o. option_map (λ (g : _ × Bool). g.0) (find (λ g. g.1) ((refusal.G3, is_none o) ∷ []))) e

such : (limits : Limits) (b : Bool) (s : Registry) (login : Text) (id : ℕ) → id_of_login s login ≡ Some id → refused limits s (enabling b login) ≡ None
unfolding refused
such limits true s login id e = ap (λ o. option_map (λ (g : _ × Bool). g.0) (find (λ g. g.1) ((refusal.G3, is_none o) ∷ []))) e
such limits false s login id e = ap (λ o. option_map (λ (g : _ × Bool). g.0) (find (λ g. g.1) ((refusal.G3, is_none o) ∷ []))) e

enabled_so : (b : Bool) (s : Registry) (login : Text) (id : ℕ) → id_of_login s login ≡ Some id → with_enabled b id s ≡ commanded s (enabling b login)
unfolding commanded
enabled_so true s login id e = ap (λ o. record s { accounts = enable true o s.accounts }) (sym e)
enabled_so false s login id e = ap (λ o. record s { accounts = enable false o s.accounts }) (sym e)

told_done : (b : Bool) (s : Registry) (login : Text) → Done ≡ replied s (enabling b login)
told_done true s login = refl
told_done false s login = refl

pub none_enabled : (limits : Limits) (b : Bool) (login : Text) (db : Trees) → FindsAccount login db None → HasOutcome limits (Order (enabling b login)) (Refused refusal.G3) db db
none_enabled limits b login db none = refused_so limits (enabling b login) refusal.G3 db (λ ids s h. no_such limits b s login (sym (none ids s h).0))

pub is_enabled_so : (limits : Limits) (b : Bool) (login : Text) (a : Account) (old new : Trees) → FindsAccount login old (Some a) → SetsEnabled b a.id old new → HasOutcome limits (Order (enabling b login)) Done old new
is_enabled_so limits b login a old new finds sets = done_so limits (enabling b login) Done old new (λ ids s h.
    let found = sym (finds ids s h).0 in
    (such limits b s login a.id found, told_done b s login, subst (λ t. Stands t new) (enabled_so b s login a.id found) (ids, sets ids s h)))

-- names are reserved and set free
pub bad_name : (limits : Limits) (name : Text) (db : Trees) → name_of name ≡ None → HasOutcome limits (Order (Reserve name)) (Refused refusal.G4) db db
unfolding refused
bad_name limits name db none = refused_so limits (Reserve name) refusal.G4 db (λ ids s h. ap (λ b. first_ground ((refusal.G4, not b) ∷ [])) (is_not name none))

pub bad_free_name : (limits : Limits) (name : Text) (db : Trees) → name_of name ≡ None → HasOutcome limits (Order (Unreserve name)) (Refused refusal.G4) db db
unfolding refused
bad_free_name limits name db none = refused_so limits (Unreserve name) refusal.G4 db (λ ids s h. ap (λ b. first_ground ((refusal.G4, not b) ∷ [])) (is_not name none))

pub reserved_already : (limits : Limits) (name n : Text) (db : Trees) → name_of name ≡ Some n → is_reserved_always (canon n) ≡ true → HasOutcome limits (Order (Reserve name)) Done db db
unfolding refused commanded
reserved_already limits name n db given always = done_so limits (Reserve name) Done db db (λ ids s h.
    let it = is_given name n given in (
      ap (λ b. first_ground ((refusal.G4, not b) ∷ [])) it.0,
      refl,
      subst (λ t. Stands t db) (ap (λ b. cond b s (with_reserved (canon name) s)) (sym (ap (λ t. is_reserved_always (canon t)) it.1 ∙ always))) (ids, h.stands),
    ))

pub reserved_now : (limits : Limits) (name n : Text) (old new : Trees) → name_of name ≡ Some n → is_reserved_always (canon n) ≡ false → Transforms (λ ids. with_reserved (canon n)) old new → HasOutcome limits (Order (Reserve name)) Done old new
unfolding refused commanded
reserved_now limits name n old new given not_always adds = done_so limits (Reserve name) Done old new (λ ids s h.
    let it = is_given name n given in (
      ap (λ b. first_ground ((refusal.G4, not b) ∷ [])) it.0,
      refl,
      subst (λ t. Stands t new) (ap (λ t. with_reserved (canon t) s) (sym it.1) ∙ (ap (λ b. cond b s (with_reserved (canon name) s)) (sym (ap (λ t. is_reserved_always (canon t)) it.1 ∙ not_always)))) (ids, adds ids s h),
    ))

pub freed_now : (limits : Limits) (name n : Text) (old new : Trees) → name_of name ≡ Some n → Transforms (λ ids. without_reserved (canon n)) old new → HasOutcome limits (Order (Unreserve name)) Done old new
unfolding refused commanded
freed_now limits name n old new given frees = done_so limits (Unreserve name) Done old new (λ ids s h.
    let it = is_given name n given in (
      ap (λ b. first_ground ((refusal.G4, not b) ∷ [])) it.0,
      refl,
      subst (λ t. Stands t new) (ap (λ t. without_reserved (canon t) s) (sym it.1) ∙ (refl)) (ids, frees ids s h),
    ))
