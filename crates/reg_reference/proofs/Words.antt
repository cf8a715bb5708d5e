-- What many proofs here use, passed on to them.
pub use Rattle.std.proofs.Common.{Bool, List, None, Option, Some, [], ap, append_assoc, arith, cond, false, inr, length, map, refl, rules}
pub use Rattle.std.proofs.Common.{sym, take, true, ℕ, ◌++◌, ◌+◌, ◌∙◌, ◌∷◌, ◌≡◌}
pub use Rattle.std.proofs.lemmas.List.{length-map}
pub use Rattle.std.specs.Borrow.{Bor}
pub use Rattle.std.specs.List.{enumerate_from, filter, find, flat_map}
pub use Rattle.std.specs.Option.{option_and_then, option_map}
pub use Rattle.std.specs.Prelude.{Err, Ok, OnOk, Result, is_none, is_some, nat_le, not, slice_get, unwrap_or, ◌&&◌, ◌||◌}
pub use Rattle.std.specs.Str.{bytes_eq}
pub use Rattle.std.specs.String.{string_bytes}
pub use Rattle.reg_body.specs.declared.limits.Limits.{Limits}
pub use Rattle.reg_model.proofs.Canons.{canon-canon}
pub use Rattle.reg_model.specs.Crates.{canons, exists, sees, versions}
pub use Rattle.reg_model.specs.Effects.{account_of, owners_of, replied}
pub use Rattle.reg_model.specs.Events.{Command}
pub use Rattle.reg_model.specs.Events.Answer.{Report}
pub use Rattle.reg_model.specs.Events.Event.{Order}
pub use Rattle.reg_model.specs.Facts.{lists, spelling}
pub use Rattle.reg_model.specs.Refusals.{grounds, judged}
pub use Rattle.reg_model.specs.Registry.{Publication, Registry, Text, Token, holds, id_of_login}
pub use Rattle.reg_model.specs.Reports.{crate_line, reader_line}
pub use Rattle.reg_model.specs.Search.{hit, occurs}
pub use Rattle.reg_model.specs.Steps.{Step}
pub use Rattle.reg_model.specs.declared.rule.AdminRefusal.{AdminRefusal}
pub use Rattle.reg_model.specs.declared.rule.AdminRefusal.TheVariants.{G3, G4, G7, G8}
pub use Rattle.reg_model.specs.declared.rule.Rule.{Rule}
pub use Rattle.reg_names.specs.Names.{canon, is_name}
pub use Rattle.reg_policy.specs.Events.{asked_of, reply_of}
pub use Rattle.reg_policy.specs.declared.event.AdminReply.{AdminReply}
pub use Rattle.reg_reference_lists.proofs.TopVersions.{mapped}
pub use Rattle.reg_reference_lists.specs.Publications.{publication_of}
pub use Rattle.reg_reference_lists.specs.Tokens.{token_of}
pub use Rattle.reg_versions.specs.Precedence.{top_place}
pub use Rattle.reg_versions.specs.Versions.{parts_of}
pub use Rattle.reg_reference.specs.Plain.{crate_found, grant_lines, limits_of, line_at, login_found, registry_of}
