use Rattle.reg_reference.proofs.Words.{Option, sym, ◌∙◌, ap, Limits, Rule, Text, Registry, judged, account_of, asked_of, limits_of}
use Rattle.reg_reference.proofs.Words.{registry_of}
use Rattle.std.specs.Prelude.{map, string_bytes}
use Rattle.reg_model.specs.Effects.{done}
use Rattle.reg_model.specs.Events.{action_of as action_asked}
use Rattle.reg_policy.specs.declared.event.Asked.{Asked}
use Rattle.reg_reference.proofs.Allowed.{index_named, download_named, download_there, list_named, yank_named, unyank_named, add_named, remove_named}
use Rattle.reg_reference.proofs.Joined.{if_ok}
use Rattle.reg_reference.proofs.plain.PlainRegistry.serve.Goals as goal

abbrev judged_of : Limits → Registry → Text → Asked → Option Rule
judged_of limits s d a = judged limits s d (action_asked (asked_of a))

pub index_file-requires : goal.index_file-requires
index_file-requires c = record { named = index_named (limits_of c.args.self.now) (registry_of c.args.self.now) c.args.digest.now c.in-Index.path.now (sym (ap (judged_of (limits_of c.args.self.now) (registry_of c.args.self.now) c.args.digest.now) c.in-Index.is) ∙ c.requires.allowed) }

pub archive-requires-clause-named : goal.archive-requires-clause-named
archive-requires-clause-named c = download_named (limits_of c.args.self.now) (registry_of c.args.self.now) c.args.digest.now c.in-Download.name.now c.in-Download.version.now (sym (ap (judged_of (limits_of c.args.self.now) (registry_of c.args.self.now) c.args.digest.now) c.in-Download.is) ∙ c.requires.allowed)

pub archive-requires-clause-there : goal.archive-requires-clause-there
archive-requires-clause-there c = download_there (limits_of c.args.self.now) (registry_of c.args.self.now) c.args.digest.now c.in-Download.name.now c.in-Download.version.now (sym (ap (judged_of (limits_of c.args.self.now) (registry_of c.args.self.now) c.args.digest.now) c.in-Download.is) ∙ c.requires.allowed)

pub owner_list-requires : goal.owner_list-requires
owner_list-requires c = record { named = list_named (limits_of c.args.self.now) (registry_of c.args.self.now) c.args.digest.now c.in-ListOwners.name.now (sym (ap (judged_of (limits_of c.args.self.now) (registry_of c.args.self.now) c.args.digest.now) c.in-ListOwners.is) ∙ c.requires.allowed) }

pub yank-requires : goal.yank-requires
yank-requires c = record { named = yank_named (limits_of c.args.self.now) (registry_of c.args.self.now) c.args.digest.now c.in-Yank.name.now c.in-Yank.version.now (sym (ap (judged_of (limits_of c.args.self.now) (registry_of c.args.self.now) c.args.digest.now) c.in-Yank.is) ∙ c.requires.allowed) }

pub unyank-requires : goal.unyank-requires
unyank-requires c = record { named = unyank_named (limits_of c.args.self.now) (registry_of c.args.self.now) c.args.digest.now c.in-Unyank.name.now c.in-Unyank.version.now (sym (ap (judged_of (limits_of c.args.self.now) (registry_of c.args.self.now) c.args.digest.now) c.in-Unyank.is) ∙ c.requires.allowed) }

pub add_owners-requires : goal.add_owners-requires
add_owners-requires c = record { named = add_named (limits_of c.args.self.now) (registry_of c.args.self.now) c.args.digest.now c.in-AddOwners.name.now (map string_bytes c.in-AddOwners.logins.items) (sym (ap (judged_of (limits_of c.args.self.now) (registry_of c.args.self.now) c.args.digest.now) c.in-AddOwners.is) ∙ c.requires.allowed) }

pub remove_owners-requires : goal.remove_owners-requires
remove_owners-requires c = record { named = remove_named (limits_of c.args.self.now) (registry_of c.args.self.now) c.args.digest.now c.in-RemoveOwners.name.now (map string_bytes c.in-RemoveOwners.logins.items) (sym (ap (judged_of (limits_of c.args.self.now) (registry_of c.args.self.now) c.args.digest.now) c.in-RemoveOwners.is) ∙ c.requires.allowed) }

pub returns-in-Malformed-clause-state : goal.returns-in-Malformed-clause-state
unfolding done
returns-in-Malformed-clause-state c = sym (ap (λ a. done (registry_of c.args.self.now) (account_of (registry_of c.args.self.now) c.args.digest.now) (asked_of a)) c.in-Malformed.is)

pub returns-in-Read-clause-state : goal.returns-in-Read-clause-state
unfolding done
returns-in-Read-clause-state c = sym (ap (λ a. done (registry_of c.args.self.now) (account_of (registry_of c.args.self.now) c.args.digest.now) (asked_of a)) c.in-Read.is)

pub returns-in-Index-clause-state : goal.returns-in-Index-clause-state
unfolding done
returns-in-Index-clause-state c = if_ok c.index_file.result (sym (ap (λ a. done (registry_of c.args.self.now) (account_of (registry_of c.args.self.now) c.args.digest.now) (asked_of a)) c.in-Index.is))

pub returns-in-Download-clause-state : goal.returns-in-Download-clause-state
unfolding done
returns-in-Download-clause-state c = if_ok c.archive.result (sym (ap (λ a. done (registry_of c.args.self.now) (account_of (registry_of c.args.self.now) c.args.digest.now) (asked_of a)) c.in-Download.is))

pub returns-in-ListOwners-clause-state : goal.returns-in-ListOwners-clause-state
unfolding done
returns-in-ListOwners-clause-state c = if_ok c.owner_list.result (sym (ap (λ a. done (registry_of c.args.self.now) (account_of (registry_of c.args.self.now) c.args.digest.now) (asked_of a)) c.in-ListOwners.is))
