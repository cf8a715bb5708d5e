-- The texts of the tests only read.
use Rattle.std.proofs.Common.{codes, refl}
use Rattle.sqlite.specs.Given.{IsPlain}
use Rattle.sqlite.specs.Listing.{understood}
use Rattle.sqlite_tied.specs.Compute.{everything}
use Rattle.reg_tables_schema.specs.Schema.{ours, old_schema, schema_of}
use Rattle.reg_tables_schema.specs.declared.edition.SchemaVersion.{SchemaVersion}
use Rattle.reg_tables_schema.specs.declared.edition.SchemaVersion.TheVariants.{First, Second}

first_plain : IsPlain (understood old_schema (codes "SELECT id, login, name FROM accounts ORDER BY id"))
unfolding understood everything
first_plain = (refl, refl)

pub logins_plain : IsPlain (understood ours (codes "SELECT id, login, name FROM accounts ORDER BY id"))
unfolding understood everything
logins_plain = (refl, refl)

-- under either schema
pub logins_plain_on : (e : SchemaVersion) → IsPlain (understood (schema_of e) (codes "SELECT id, login, name FROM accounts ORDER BY id"))
logins_plain_on First = first_plain
logins_plain_on Second = logins_plain

pub by_login_plain : IsPlain (understood ours (codes "SELECT id FROM accounts WHERE login = ?1"))
unfolding understood everything
by_login_plain = (refl, refl)
