-- Which logins the body of an owner request names
-- (the Cargo Book, "Registry Web API", "Owners: Add").
use Rattle.std.specs.Prelude.{◌&&◌, nat_le, nat_lt, List, codes, length, Option, Some, None, Ok, Err, if◌then◌else◌}
use Rattle.serde_json.specs.Data.{Data}
use Rattle.reg_body.specs.declared.limits.Limits.{Limits}
use Rattle.reg_manifest.specs.Parsing.{Parsed, ◌>>=◌}
use Rattle.reg_manifest.specs.Fields.{field, json_of, members_of, required, texts_of}
use Rattle.reg_manifest.specs.declared.fault.ManifestFault.TheVariants as fault
use Rattle.reg_model.specs.Registry.{Text}

-- at least one login and not too many; a login that is named twice counts twice
abbrev pub counted : Limits → List Text → Parsed (List Text)
counted limits users =
    if nat_lt 0 (length users) && nat_le (length users) limits.logins then Ok users
    else Err fault.Field

-- the value is an object whose `users` is a list of texts
unfoldable pub users_of : Limits → Data → Parsed (List Text)
users_of limits d = members_of d >>= λ _.
    required texts_of (field (codes "users") d) >>= λ users. counted limits users

-- what was read, whatever the fault if nothing was
abbrev pub if_read : {A : Type 0} → Parsed A → Option A
if_read (Ok a) = Some a
if_read (Err e) = None

-- the logins that a body names
unfoldable pub users_in : Limits → Text → Parsed (List Text)
users_in limits body = json_of body >>= λ d. users_of limits d

-- the same, or none where the body is no such JSON
abbrev pub logins_named : Limits → Text → Option (List Text)
logins_named limits body = if_read (users_in limits body)
