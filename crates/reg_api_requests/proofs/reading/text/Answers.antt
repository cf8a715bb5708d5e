use Rattle.std.proofs.Common.{◌∙◌, inl, inr, sym}
use Rattle.std.proofs.lemmas.Bool.{cases_Bool, cond-true, cond-false}
use Rattle.std.proofs.lemmas.Str.{IsUtf8-from_is_utf8, is_utf8-from_IsUtf8}
use Rattle.std.specs.Str.{is_utf8}
use Rattle.reg_api_requests.proofs.reading.text.Goals as goal

pub returns-in-Ok : goal.returns-in-Ok
returns-in-Ok c =
    let h = c.in-Ok.ensures.cases in
    rw (← c.as_slice.ensures.value) (h.0 ∙ sym (cond-true _ _ _ (is_utf8-from_IsUtf8 c.as_slice.result.now h.1)))

pub returns-in-Err : goal.returns-in-Err
returns-in-Err c = rw (← c.as_slice.ensures.value) elim (cases_Bool (is_utf8 c.as_slice.result.now)) [
  | inl text ↦ absurd (c.in-Err.ensures.cases.0 (IsUtf8-from_is_utf8 c.as_slice.result.now text))
  | inr other ↦ sym (cond-false _ _ _ other)
]
