-- What many proofs here use, passed on to them.
pub use Rattle.std.proofs.Common.{Bool, List, None, Option, Some, [], ap, arith, cond, drop, false, length, map, refl, rules, subst, suc}
pub use Rattle.std.proofs.Common.{sym, take, true, zero, ℕ, ◌++◌, ◌+◌, ◌-◌, ◌<◌, ◌==◌, ◌∙◌, ◌∷◌, ◌≡◌, ◌≤◌}
pub use Rattle.std.proofs.lemmas.Bool.Decides.{nat_tests}
pub use Rattle.std.proofs.lemmas.Fn.{filter_same}
pub use Rattle.std.proofs.lemmas.Grind.{common_steps}
pub use Rattle.std.proofs.lemmas.List.{map-append}
pub use Rattle.std.specs.Borrow.{Bor}
pub use Rattle.std.specs.Cmp.Lexicographic.{nat_list_cmp_total}
pub use Rattle.std.specs.List.{enumerate_from, filter, find, list_any}
pub use Rattle.std.specs.Option.{option_map}
pub use Rattle.std.specs.Ordering.{is_eq}
pub use Rattle.std.specs.Prelude.{slice_get, string_bytes, ◌&&◌, ◌||◌}
pub use Rattle.std.specs.Str.{bytes_eq}
pub use Rattle.reg_line.specs.File.{entry_view}
pub use Rattle.reg_model.proofs.Keys.{mark_apart, mark_total, owner_apart, owner_total, text_apart}
pub use Rattle.reg_model.proofs.Lists.{list_any_map}
pub use Rattle.reg_model.specs.Crates.{collides}
pub use Rattle.reg_model.specs.Effects.{owner_entry}
pub use Rattle.reg_model.specs.Registry.{Mark, Owner, Text, holds, mark_cmp, owner_cmp, text_cmp}
pub use Rattle.reg_names.specs.Names.{canon}
pub use Rattle.reg_policy.specs.Events.{entry_of}
pub use Rattle.reg_policy.specs.Rows.{id_and_login, row_view}
pub use Rattle.reg_versions.specs.Versions.{parts_of}
pub use Rattle.reg_reference_lists.specs.Accounts.{account_of, owned}
pub use Rattle.reg_reference_lists.specs.Publications.{canons_in, marked_in, place_for, publication_of, put_text, top_in, versions_in}
pub use Rattle.reg_reference_lists.specs.Sets.{mark_of, owner_by, owner_of}
pub use Rattle.reg_reference_lists.specs.Tokens.{token_of}
pub use Rattle.reg_reference_lists.specs.declared.publications.Publication.{Publication}
