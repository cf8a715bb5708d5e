-- Crates and accounts that are named by texts.
use Rattle.reg_service_commands.proofs.Words.{◌≡◌, ◌∷◌, [], ◌&&◌, not, is_none, ℕ, Bool, true, Option, Some, None, sym, ap, ◌∙◌, Trees}
use Rattle.reg_service_commands.proofs.Words.{is_name, exists, Registry, Text, id_of_login, Account, Crate, FindsAccount, FindsNamed}
use Rattle.reg_service_commands.proofs.Words.{named_there, FindsPair, first_ground}
use Rattle.std.specs.Prelude.{Ok, Err}
use Rattle.reg_model.specs.declared.rule.AdminRefusal.TheVariants as refusal

-- a crate and an account
no_ground : (there : Bool) (o : Option ℕ) (id : ℕ) → there ≡ true → o ≡ Some id → first_ground ((refusal.G8, not there) ∷ (refusal.G3, is_none o) ∷ []) ≡ None
no_ground there o id is has = ap (λ b. first_ground ((refusal.G8, not b) ∷ (refusal.G3, is_none o) ∷ [])) is ∙ ap (λ it. first_ground ((refusal.G3, is_none it) ∷ [])) has

pub no_pair_named : (name login : Text) (db : Trees) → FindsNamed name db None → FindsPair name login db (Err refusal.G8)
no_pair_named name login db none ids s h = ap (λ b. first_ground ((refusal.G8, not b) ∷ (refusal.G3, is_none (id_of_login s login)) ∷ [])) (none ids s h)

pub no_pair_known : (name login : Text) (db : Trees) (c : Crate) → FindsNamed name db (Some c) → FindsAccount login db None → FindsPair name login db (Err refusal.G3)
no_pair_known name login db c is none ids s h =
    ap (λ b. first_ground ((refusal.G8, not b) ∷ (refusal.G3, is_none (id_of_login s login)) ∷ [])) (named_there name db c is ids s h).0
    ∙ ap (λ o. first_ground ((refusal.G3, is_none o) ∷ [])) (sym (none ids s h).0)

pub pair_named : (name login : Text) (db : Trees) (c : Crate) (a : Account) → FindsNamed name db (Some c) → FindsAccount login db (Some a) → FindsPair name login db (Ok (c, a.id))
pair_named name login db c a is found ids s h = (named_there name db c is ids s h, sym (found ids s h).0, is ids s h)

pub paired : (s : Registry) (name login : Text) (account : ℕ) → (is_name name && exists s name) ≡ true → id_of_login s login ≡ Some account → first_ground ((refusal.G8, not (is_name name && exists s name)) ∷ (refusal.G3, is_none (id_of_login s login)) ∷ []) ≡ None
paired s name login account is has = no_ground (is_name name && exists s name) (id_of_login s login) account is has
