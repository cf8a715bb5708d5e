-- What many proofs here use, passed on to them.
pub use Rattle.std.proofs.Common.{Bool, List, None, Option, Some, [], ap, arith, cond, false, inl, inr, map, refl, subst, suc, sym, true}
pub use Rattle.std.proofs.Common.{zero, ℕ, ◌++◌, ◌+◌, ◌-◌, ◌<◌, ◌==◌, ◌^◌, ◌∙◌, ◌∷◌, ◌≡◌, ◌≢◌, ◌≤◌, ◌⊎◌}
pub use Rattle.std.proofs.lemmas.Bool.{and_from, and_parts}
pub use Rattle.std.proofs.lemmas.Bool.Decides.{nat_tests}
pub use Rattle.std.proofs.lemmas.Fmt.{digits_decimal}
pub use Rattle.std.proofs.lemmas.List.{append_assoc, length-append, length-map}
pub use Rattle.std.proofs.lemmas.List.Elements.{All-from_recursion}
pub use Rattle.std.proofs.lemmas.List.Folds.{list_all-append, list_all-map, list_any-append}
pub use Rattle.std.proofs.lemmas.List.Splits.{join_with_byte-slice_split, slice_split_at, slice_split_none}
pub use Rattle.std.proofs.lemmas.Map.Keys.{IsDistinct-push}
pub use Rattle.std.proofs.lemmas.Slice.Eq.{bytes_eq-Decides}
pub use Rattle.std.proofs.lemmas.Str.Parse.{numerals_by_value, tells_all_ascii_digits}
pub use Rattle.std.specs.Cmp.{Equal-is, IsEquivalence, IsTotalOrder, on_equiv, tied_itself}
pub use Rattle.std.specs.Cmp.Lexicographic.{nat_list_cmp_total, nat_list_eq_equiv}
pub use Rattle.std.specs.FinSet.{FinSet, IsAntisymmetric, contains}
pub use Rattle.std.specs.Fmt.{decimal}
pub use Rattle.std.specs.List.{All, AllByRecursion, cons_option, enumerate_from, filter, find, join_with_byte, list_all, list_any}
pub use Rattle.std.specs.List.{position_from}
pub use Rattle.std.specs.Option.{option_map}
pub use Rattle.std.specs.Ordering.{eq_by_cmp, is_eq, on}
pub use Rattle.std.specs.Prelude.{codes, if◌then◌else◌, is_none, is_some, length, nat_lt, not, slice_get, take, unwrap_or, ◌&&◌, ◌||◌}
pub use Rattle.std.specs.Str.{all_ascii_digits, bytes_eq}
pub use Rattle.std.specs.declared.cmp.Ordering.{Ordering}
pub use Rattle.reg_body.specs.declared.limits.Limits.{Limits}
pub use Rattle.reg_line.specs.File.{file_text}
pub use Rattle.reg_names.specs.Logins.{is_login, is_login_byte}
pub use Rattle.reg_names.specs.Names.{canon, canon_byte, is_name, is_name_byte, name_at, name_of}
pub use Rattle.reg_names.specs.Patterns.{covers, has_star, is_pattern, prefix_of}
pub use Rattle.reg_names.specs.declared.endpoint.Endpoint.{Endpoint}
pub use Rattle.reg_model.specs.Actions.{Action, crate_of}
pub use Rattle.reg_model.specs.Changes.{with_reserved}
pub use Rattle.reg_model.specs.Crates.{canons, collides, exists, file, first, has_crate, is_among, is_reserved_always, is_restricted}
pub use Rattle.reg_model.specs.Crates.{is_yanked, owners, owns, readers, sees, versions, viewer, visible}
pub use Rattle.reg_model.specs.Effects.{account_of, caller, enable, owners_of, replied, served}
pub use Rattle.reg_model.specs.Events.{Answer, Asked, Command, Event, action_of, fault_of}
pub use Rattle.reg_model.specs.Events.Answer.{Archive, Denied, File, Found, Owners, Refused}
pub use Rattle.reg_model.specs.Events.Asked.{AddOwners, Download, Malformed, Index, ListOwners, Publish, Read, RemoveOwners, Unyank, Yank}
pub use Rattle.reg_model.specs.Events.Command.{Access, CrateOpen, CrateRestrict, Crates, OwnerAdd, ReaderAdd, ReaderRemove, Reserve}
pub use Rattle.reg_model.specs.Events.Command.{TokenAdd, TokenRevoke, Tokens, Unreserve, UserAdd, UserDisable, UserEnable, Users}
pub use Rattle.reg_model.specs.Events.Event.{Ask, Order}
pub use Rattle.reg_model.specs.Events.Reading.{Config, Search}
pub use Rattle.reg_model.specs.Facts.{Counts, endpoints_of, has_login, is_named, lists, spelling}
pub use Rattle.reg_model.specs.Grants.{is_granted}
pub use Rattle.reg_model.specs.Lists.{IsIn}
pub use Rattle.reg_model.specs.Refusals.{endpoints_named, grounds, is_endpoint, judged, may_name, or_else, patterns_given}
pub use Rattle.reg_model.specs.Registry.{Account, Mark, Owner, Publication, Registry, Text, Token, change_at, change_place, holds}
pub use Rattle.reg_model.specs.Registry.{id_of_login, ids_of, is_enabled, is_known, mark_cmp, owner_cmp, text_cmp, token_of, with_id}
pub use Rattle.reg_model.specs.Replay.{AreAlike, asked_in, at_commas, command_in, lines_in, replay, replayed, told_publication, told_token}
pub use Rattle.reg_model.specs.Reports.{login_of, with_commas}
pub use Rattle.reg_model.specs.Rules.{breaks, broken, order}
pub use Rattle.reg_model.specs.Search.{hit, occurs}
pub use Rattle.reg_model.specs.Sight.{HaveOneSight}
pub use Rattle.reg_model.specs.Sound.{Sound, has_version, is_account, is_token}
pub use Rattle.reg_model.specs.Steps.{IsFit, IsGenuine, Outcome, Run, Step, unavailable, outcome, unless_denied, unless_refused}
pub use Rattle.reg_model.specs.Trail.{command_words, event_words, has_no_room, id_of_token, line_of, only_if, or_nothing, request_words}
pub use Rattle.reg_model.specs.Trail.{spelled, trail, unless, unless_some, with_asker, words_in, words_of}
pub use Rattle.reg_model.specs.TrailLaws.{GivesOwner, HasIds, Publishes, Yanks, are_words, is_plain, is_printed, is_word}
pub use Rattle.reg_model.specs.declared.rule.AdminRefusal.{AdminRefusal}
pub use Rattle.reg_model.specs.declared.rule.Rule.{Rule}
