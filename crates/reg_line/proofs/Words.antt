-- What many proofs here use, passed on to them.
pub use Rattle.std.proofs.Common.{Bool, Global, IsUtf8, Less, List, None, Ok, Option, Ordering, Some, String, [], ap, arith, codes, cond}
pub use Rattle.std.proofs.Common.{drop, false, filter, length, map, nat_cmp, nat_lt, not, option_map, refl, rules, string_bytes, string_cmp}
pub use Rattle.std.proofs.Common.{subst, sym, take, true, ℕ, ◌++◌, ◌-◌, ◌/◌, ◌<◌, ◌∙◌, ◌∷◌, ◌≡◌, ◌≤◌}
pub use Rattle.std.proofs.lemmas.Bool.{and_from, and_parts, false≢true}
pub use Rattle.std.proofs.lemmas.Grind.{common_steps}
pub use Rattle.std.proofs.lemmas.Result.{IfOk-weaker}
pub use Rattle.std.specs.BTreeMap.{IsOrdered, insert_entry}
pub use Rattle.std.specs.Cmp.Lexicographic.{slice_cmp}
pub use Rattle.std.specs.Ordering.{is_lt}
pub use Rattle.hex.specs.Hex.{encode_lower, lower_digits}
pub use Rattle.json.proofs.Printed.Utf8.{IsUtf8-are_ascii}
pub use Rattle.json.specs.Print.{quoted}
pub use Rattle.reg_manifest.specs.Fields.{Features, each}
pub use Rattle.reg_manifest.specs.Manifests.{DepData, Metadata, dep_view, feature_view, manifest_view}
pub use Rattle.reg_manifest.specs.Parsing.{Parsed, ◌>>=◌}
pub use Rattle.reg_manifest.specs.declared.manifest.Manifest.{Manifest}
pub use Rattle.reg_names.specs.Names.{is_name}
pub use Rattle.serde_json.proofs.Views.{view-Object}
pub use Rattle.serde_json.specs.Data.{Data, Items, Members, array, boolean, depth, item, items_depth, member, members_depth, no_items}
pub use Rattle.serde_json.specs.Data.{no_members, null, number, object, put, string, unsigned}
pub use Rattle.serde_json.specs.Read.{max_depth, read}
pub use Rattle.serde_json.specs.View.{items_of, members_view, view}
pub use Rattle.serde_json.specs.Written.{comma_if, compact_text, has_float, items_text, members_text}
pub use Rattle.reg_line.specs.Features.{feature_members, is_newer, newer, older}
pub use Rattle.reg_line.specs.File.{line_of}
pub use Rattle.reg_line.specs.Line.{IsStem, dep_data, dep_named, dep_object, line_members, text_or_null}
pub use Rattle.reg_line.specs.Shortest.{shortest_line}
pub use Rattle.reg_line.specs.StemCheck.{IsStemOf}
