-- What many proofs here use, passed on to them.
pub use Rattle.std.proofs.Common.{Bool, Err, List, Ok, Option, Result, Some, [], ap, append-nil, append_assoc, arith, drop, false, get_or}
pub use Rattle.std.proofs.Common.{inl, inr, length, length-append, map, min, refl, reverse, subst, sym, take, take-append-drop, true, ℕ}
pub use Rattle.std.proofs.Common.{◌++◌, ◌+◌, ◌-◌, ◌<◌, ◌==◌, ◌^◌, ◌||◌, ◌∙◌, ◌∷◌, ◌≡◌, ◌≤◌}
pub use Rattle.std.proofs.KnownBytes.{Consumes-nil, Consumes-trans}
pub use Rattle.std.proofs.Math.Seq.{get_or-append_seam}
pub use Rattle.std.proofs.lemmas.Bool.{cases_lt}
pub use Rattle.std.proofs.lemmas.Bool.Decides.{nat_tests}
pub use Rattle.std.proofs.lemmas.List.{length-take-le, take-append-le}
pub use Rattle.std.proofs.lemmas.Result.{err_from_is_err_and}
pub use Rattle.std.specs.Char.{is_ascii_digit}
pub use Rattle.std.specs.List.{count_by, position_or_len}
pub use Rattle.std.specs.Str.Parse.{digits_value}
pub use Rattle.httparse.proofs.GrammarLemmas.{ReadsRequest-append, request_prefix_free}
pub use Rattle.httparse.specs.Borrowed.{header_parts}
pub use Rattle.httparse.specs.Grammar.{NeverHasRequest, ReadsRequest, RequestHead, skip_ows}
pub use Rattle.reg_body.specs.declared.limits.Limits.{Limits}
pub use Rattle.reg_model.specs.Registry.{Text}
pub use Rattle.reg_model.specs.declared.rule.Rule.{Rule}
pub use Rattle.reg_model.specs.declared.rule.Rule.TheVariants.{H4, H5}
pub use Rattle.reg_http_read.specs.Begun.{IsRefused, is_head_only}
pub use Rattle.reg_http_read.specs.Fields.{lists_word, same_word}
pub use Rattle.reg_http_read.specs.Fronts.{EndsLine, IsBadCut, IsFront, IsHead, IsHeadCut, IsJudged, IsUnjudged}
pub use Rattle.reg_http_read.specs.Heads.{Facts, IsBroken, IsHeadAt, IsRefusedAt, IsUnfinished, greatest_body}
pub use Rattle.reg_http_read.specs.Owned.{facts_owned}
pub use Rattle.reg_http_read.specs.Reads.{IsAsked, IsJudgement, facts_of}
pub use Rattle.reg_http_read.specs.Taking.{Awaits, Fills, IsPiece, Reads}
pub use Rattle.reg_http_read.specs.Turns.{SpendsFor, SpendsSome, reads_of, tally}
pub use Rattle.reg_http_read.specs.declared.fault.StreamFault.{StreamFault}
pub use Rattle.reg_http_read.specs.declared.fault.StreamFault.TheVariants.{Memory, ReadFault, StoreFault, TooManyTurns, WriteFault}
pub use Rattle.reg_http_read.specs.declared.head.Head.{Head}
pub use Rattle.reg_http_read.specs.declared.head.HeadRead.{HeadRead}
