-- What could not be judged still can't while no line ends.
use Rattle.reg_http_read.proofs.Common.{◌≡◌, ℕ, ◌+◌, ◌-◌, ◌<◌, ◌≤◌, inl, inr, [], ◌∷◌, ◌++◌, length, get_or, take, drop, sym, ap, ◌∙◌, subst}
use Rattle.reg_http_read.proofs.Common.{arith, length-append, cases_lt, take-append-le, length-take-le, get_or-append_seam, Limits, EndsLine}
use Rattle.reg_http_read.proofs.Common.{IsUnfinished, Text}
use Rattle.std.proofs.lemmas.List.{get_or-take}
use Rattle.std.proofs.Math.Seq.{drop-append_seam, get_or-append_right}
use Rattle.reg_http_read.specs.Taking.{HasNoLine}

-- a front that ends a line lies in the bytes before those with no line
line_before : (b p : Text) (n : ℕ) → n ≤ length (b ++ p) → HasNoLine p → EndsLine (take n (b ++ p)) → n ≤ length b
line_before b p n fits none (line, ends) =
    elim (cases_lt (length b) n) as (λ _. n ≤ length b) [
      | inr le ↦ le
      | inl over ↦
          let size : n ≡ length line + 1 =
          omega (arith, length-take-le n (b ++ p) fits, ap length ends, length-append line (10 ∷ [])) in
          let at : length line < n = omega arith in
          let in_p : length line - length b < length p = omega (arith, length-append b p) in
          let past : length b ≤ length line = omega arith in
          let same = get_or-take n (b ++ p) (length line) 0 at in
          let seam = get_or-append_seam line 10 [] 0 in
          absurd (none (length line - length b) in_p
          (sym (get_or-append_right b p (length line) 0 past) ∙ sym same ∙ ap (λ l. get_or l (length line) 0) ends ∙ seam))
    ]

pub still_unfinished : (limits : Limits) (b p : Text) → IsUnfinished limits b → HasNoLine p
    → length (b ++ p) < limits.head → IsUnfinished limits (b ++ p)
still_unfinished limits b p begun none short = record {
  unjudged = λ n line judged.
      (let le : n ≤ length b = line_before b p n line.there none line.ends in
      let same = take-append-le n b p le in
      begun.unjudged n (record { small = line.small; there = le; ends = subst EndsLine same line.ends })
      (rw same at judged));
  short = short;
}

-- the same of what one read brought
pub still_begun : (limits : Limits) (was now came bytes : Text) (n : ℕ) → IsUnfinished limits was → now ≡ was ++ bytes
    → n ≡ length was → came ≡ drop n now → HasNoLine came → length now < limits.head → IsUnfinished limits now
still_begun limits was now came bytes n begun same at behind none short =
    let is : came ≡ bytes = behind ∙ ap (λ k. drop k now) at ∙ ap (λ l. drop (length was) l) same ∙ drop-append_seam was bytes in
    subst (λ l. IsUnfinished limits l) (sym same)
    (still_unfinished limits was bytes begun (subst HasNoLine is none) (subst (λ l. length l < limits.head) same short))
