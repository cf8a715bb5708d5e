-- Crates that are named by texts.
use Rattle.std.proofs.Common.{◌≡◌, ◌&&◌, Bool, true, false, cond, Option, Some, None, refl, sym, ap, subst, ◌∙◌}
use Rattle.std.specs.Prelude.{[], string_bytes, unwrap_or}
use Rattle.std.specs.Option.{option_map}
use Rattle.sqlite.specs.Tree.{Trees}
use Rattle.reg_names.specs.Names.{canon, is_name, name_at, name_of}
use Rattle.reg_model.specs.Crates.{exists, first}
use Rattle.reg_model.specs.Facts.{spelling}
use Rattle.reg_model.specs.Registry.{Registry, Text}
use Rattle.reg_tables_sql.specs.declared.crates.Crate.{Crate}
use Rattle.reg_tables_represent.specs.Calls.{FindsCrate}
use Rattle.reg_tables_represent.specs.Stands.{StandsSoundBy, IdAssignment}
use Rattle.reg_access.proofs.GrantLaw.{first_canon, there_is}
use Rattle.reg_access.specs.Admitted.{IsCrateOf, IsFoundOf}
use Rattle.reg_access.specs.declared.admission.FoundCrate.{FoundCrate}
use Rattle.reg_service_steps.specs.Named.{FindsNamed, IsNamed, IsSpelled}

same_some : {X : Type 0} {a b : X} → ◌≡◌ {A = Option X} (Some a) (Some b) → a ≡ b
same_some e = cc

pub is_given : (t n : Text) → name_of t ≡ Some n → (is_name t ≡ true) × (t ≡ n)
is_given t n e = by (is_name t) refl e
  where
    by : (b : Bool) → is_name t ≡ b → cond b (Some t) None ≡ Some n → (is_name t ≡ true) × (t ≡ n)
    by true is some = (is, cc some)
    by false is none = absurd cc none

pub is_not : (t : Text) → name_of t ≡ None → is_name t ≡ false
is_not t e = by (is_name t) refl e
  where
    by : (b : Bool) → is_name t ≡ b → cond b (Some t) None ≡ None → is_name t ≡ false
    by true is none = absurd cc none
    by false is none = is

-- the text is a name, and this was found under its canonical text
pub named : (t n : Text) (db : Trees) (found : Option Crate) → name_of t ≡ Some n → FindsCrate (canon n) db found → FindsNamed t db found
named t n db None given finds = λ ids s h.
    let it = is_given t n given in
    ap (λ b. b && exists s t) it.0 ∙ there_is ids s db h t None ((finds ids s h).0 t (ap canon it.1))
named t n db (Some c) given finds = λ ids s h.
    let it = is_given t n given in
    let f = finds ids s h in
    record { name = it.0; first = sym (f.0 t (ap canon it.1)); at = f.1 }

-- its name is one, and it is there
pub named_there : (t : Text) (db : Trees) (c : Crate) → FindsNamed t db (Some c) → (ids : IdAssignment) (s : Registry) → StandsSoundBy ids s db → IsNamed ids s t c.id
named_there t db c finds ids s h =
    let f = finds ids s h in (
      ap (λ b. b && exists s t) f.name ∙ there_is ids s db h t (Some c) (sym f.first),
      (string_bytes c.name, f.at, first_canon s t (string_bytes c.name) f.first),
    )

-- the text is no name
pub unnamed : (t : Text) (db : Trees) → name_of t ≡ None → FindsNamed t db None
unnamed t db given ids s h = ap (λ b. b && exists s t) (is_not t given)

-- the crate of an action, by the text that names it and by the path of its index file
module _ (ids : IdAssignment) (s : Registry) (c : FoundCrate) where
  pub spelled_as : (t : Text) → IsCrateOf ids s (name_of t) c → (is_name t ≡ true) × IsSpelled ids t c.id
  spelled_as t it = by (is_name t) refl it.alike
    where
      by : (b : Bool) → is_name t ≡ b → option_map canon (cond b (Some t) None) ≡ Some (canon c.name) → (is_name t ≡ true) × IsSpelled ids t c.id
      by true is same = (is, (c.name, it.placed, sym (same_some same)))
      by false is none = absurd cc none

  pub spelled_at : (path : Text) → IsCrateOf ids s (name_at path) c → IsSpelled ids (unwrap_or (name_at path) []) c.id
  spelled_at path it = by (name_at path) it.alike
    where
      by : (o : Option Text) → option_map canon o ≡ Some (canon c.name) → IsSpelled ids (unwrap_or o []) c.id
      by None none = absurd cc none
      by (Some n) same = (c.name, it.placed, sym (same_some same))

  pub first_as : (t : Text) → IsCrateOf ids s (name_of t) c → first s t ≡ Some c.name
  first_as t it = by (is_name t) it.first
    where
      by : (b : Bool) → spelling s (cond b (Some t) None) ≡ Some c.name → first s t ≡ Some c.name
      by true is = is
      by false none = absurd cc none

-- the crate that was found for a caller is that of the text
pub crate_found : (ids : IdAssignment) (s : Registry) (o : Option Text) (t : Text) (found : Option FoundCrate) (c : FoundCrate) → o ≡ name_of t → found ≡ Some c → IsFoundOf ids s o found → IsCrateOf ids s (name_of t) c
crate_found ids s o t found c named is h = subst (IsFoundOf ids s (name_of t)) is (subst (λ o. IsFoundOf ids s o found) named h)
