-- An optional text as a parameter.
use Rattle.reg_tables_schema.proofs.Words.{◌≡◌, ℕ, List, None, Some, Option, refl, Text, cast}
use Rattle.std.proofs.Common.{Bor}
use Rattle.std.specs.Option.{option_map}
use Rattle.sqlite.specs.Kind.TheVariants.{Text as TextKind}
use Rattle.sqlite.specs.Values.{or_null, bound_value}
use Rattle.reg_tables_schema.specs.Rows.{text_or_null}

pub text_is : (t : Option (Bor (List ℕ))) → or_null (λ s. Text s.now) t ≡ text_or_null (option_map (λ d. d.now) t)
text_is None = refl
text_is (Some t) = refl

pub binds_text : (t : Option (List ℕ)) → bound_value (text_or_null t) ≡ text_or_null t
binds_text None = refl
binds_text (Some t) = refl

-- a text column takes it as it is
pub cast_text : (t : Option (List ℕ)) → cast TextKind (text_or_null t) ≡ text_or_null t
cast_text None = refl
cast_text (Some t) = refl
