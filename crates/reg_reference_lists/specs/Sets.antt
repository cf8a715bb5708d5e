-- The keys that records of the program stand for.
use Rattle.std.specs.Prelude.{ℕ, string_bytes}
use Rattle.reg_names.specs.Names.{canon}
use Rattle.reg_model.specs.Registry as model
use Rattle.reg_reference_lists.specs.declared.owners.PlainOwner.{PlainOwner}
use Rattle.reg_reference_lists.specs.declared.yanked.Mark.{Mark}

abbrev pub owner_of : PlainOwner → model.Owner
owner_of o = (o.crate_text, o.account)

abbrev pub mark_of : Mark → model.Mark
mark_of m = (m.crate_text, string_bytes m.version)

-- an account as an owner of the crate of this name
abbrev pub owner_by : model.Text → ℕ → model.Owner
owner_by n id = (canon n, id)
