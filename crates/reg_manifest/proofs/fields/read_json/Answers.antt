-- What is read is UTF-8, and what is not read is no JSON or no UTF-8.
use Rattle.std.proofs.Common.{refl, inl, inr}
use Rattle.std.proofs.lemmas.Bool.{cases_Bool}
use Rattle.std.proofs.lemmas.Str.{IsUtf8-from_is_utf8, is_utf8-from_IsUtf8}
use Rattle.std.specs.Str.{is_utf8}
use Rattle.reg_manifest.proofs.fields.read_json.Goals as goal

pub returns-in-Ok : goal.returns-in-Ok
returns-in-Ok c = rw (is_utf8-from_IsUtf8 c.args.bytes.now c.in-Ok.ensures.ok.0, c.in-Ok.ensures.ok.1) refl

pub returns-in_default : goal.returns-in_default
returns-in_default c = elim (cases_Bool (is_utf8 c.args.bytes.now)) [
  | inl text ↦ rw (text, c.in-Err.ensures.err (λ m. c.in_default.not-Memory (c.classify.ensures.memory.1 m)) (IsUtf8-from_is_utf8 c.args.bytes.now text)) refl
  | inr other ↦ rw other refl
]
