-- What the frame of a publish body makes of its parts.
use Rattle.std.proofs.Common.{◌≡◌, ℕ, ◌+◌, ◌^◌, ◌<◌, ◌≤◌, ◌⊎◌, List, [], ◌∷◌, ◌++◌, length, take, drop, Some, None, Ok, Err, refl, sym, ap, ◌∙◌, subst, inl, inr, ⊎_elim, append_assoc, append-nil, arith, length-append, false, true}
use Rattle.std.specs.Int.{w32, from_le_bytes, to_le_bytes}
use Rattle.std.proofs.lemmas.Nat.{from_le_bytes-to_le_bytes_4}
use Rattle.std.proofs.lemmas.List.{take_at, drop_at, take-append-le}
use Rattle.std.proofs.lemmas.Bool.{cases_lt, cases_Bool, cond-true, cond-false, lt-ltb, le-ltb}
use Rattle.std.proofs.lemmas.Bool.Decides.{nat_tests}
use Rattle.reg_body.specs.declared.limits.Limits.{Limits}
use Rattle.reg_body.specs.declared.frame.BodyFault.TheVariants.{Short, Trailing, TooLong}
use Rattle.reg_body.specs.Frames.{Frame, IsCut, IsCutPart, IsProperPrefix, IsTooLong, IsTrailed, IsWithin, le4, with_length}
use Rattle.reg_api_requests.specs.Bodies.{body_parts, first_part, is_within, length_at, with_archive, with_json, with_rest}

length_le4 : (n : ℕ) → length (le4 n) ≡ 4
unfolding le4
length_le4 n = refl

le4_digits : (n : ℕ) → le4 n ≡ to_le_bytes w32 n
unfolding le4
le4_digits n = refl

-- what begins with the digits of a length says that length
said : (n : ℕ) (x : List ℕ) → n < 2 ^ 32 → length_at (le4 n ++ x) ≡ n
said n x fits =
    ap (from_le_bytes w32) (take_at (le4 n) x 4 (length_le4 n) ∙ le4_digits n) ∙ from_le_bytes-to_le_bytes_4 n fits

long : (part rest : List ℕ) → length (le4 (length part) ++ (part ++ rest)) ≡ 4 + length part + length rest
long part rest = omega (arith, length_le4 (length part), length-append (le4 (length part)) (part ++ rest), length-append part rest)

first_there : (b : List ℕ) (n : ℕ) → length_at b ≡ n → 4 + n ≤ length b → first_part b ≡ Some (take n (drop 4 b), drop (4 + n) b)
unfolding first_part
first_there b n e h = rw e (cond-false _ _ _ (le-ltb (length b) (4 + n) h))

first_missing : (b : List ℕ) (n : ℕ) → length_at b ≡ n → length b < 4 + n → first_part b ≡ None
unfolding first_part
first_missing b n e h = rw e (cond-true _ _ _ (lt-ltb (length b) (4 + n) h))

-- a whole part is the first
part_first : (part rest : List ℕ) → length part < 2 ^ 32 → first_part (with_length part ++ rest) ≡ Some (part, rest)
part_first part rest fits =
    let n = length part in
    let whole = le4 n ++ (part ++ rest) in
    let there = first_there whole n (said n (part ++ rest) fits) (omega (arith, long part rest)) in
    let json : take n (drop 4 whole) ≡ part = ap (take n) (drop_at (le4 n) (part ++ rest) 4 (length_le4 n)) ∙ take_at part rest n refl in
    let front : length (le4 n ++ part) ≡ 4 + n = omega (arith, length_le4 n, length-append (le4 n) part) in
    let back : drop (4 + n) whole ≡ rest = ap (drop (4 + n)) (sym (append_assoc (le4 n) part rest)) ∙ drop_at (le4 n ++ part) rest (4 + n) front in
    ap first_part (append_assoc (le4 n) part rest) ∙ there ∙ (λ i. Some (json i, back i))

-- a part that is cut off is none
cut_none : (b : List ℕ) → IsCutPart b → first_part b ≡ None
cut_none b (part, fits, (more, e, some)) =
    let n = length part in
    let few : length b < 4 + n = omega (arith, some, length_le4 n, length-append (le4 n) part, length-append b more, ap length e) in
    ⊎_elim
    (λ (short : length b < 4). first_missing b (length_at b) refl (omega arith))
    (λ (digits : 4 ≤ length b).
    let same : take 4 b ≡ le4 n = sym (take-append-le 4 b more digits) ∙ ap (take 4) (sym e) ∙ take_at (le4 n) part 4 (length_le4 n) in
    let size : length_at b ≡ n = ap (from_le_bytes w32) (same ∙ le4_digits n) ∙ from_le_bytes-to_le_bytes_4 n fits in
    first_missing b n size few)
    (cases_lt (length b) 4)

-- a front of two joined texts ends within the first of them, or behind it
front_of : (b rest p q : List ℕ) → b ++ rest ≡ p ++ q → IsProperPrefix b p ⊎ ((d : List ℕ) × (b ≡ p ++ d) × (d ++ rest ≡ q))
front_of b rest [] q e = inr (b, refl, e)
front_of [] rest (x ∷ p) q e = inl (x ∷ p, refl, omega arith)
front_of (y ∷ b) rest (x ∷ p) q e =
    let head : y ≡ x = cc in
    let tail : b ++ rest ≡ p ++ q = cc in
    ⊎_elim
    (λ within. inl (within.0, λ i. sym head i ∷ within.1 i, omega (arith, within.2)))
    (λ behind. inr (behind.0, λ i. head i ∷ behind.1 i, behind.2))
    (front_of b rest p q tail)

-- ---- each outcome

framed : (limits : Limits) (b j a rest : List ℕ) → Frame ((with_length j ++ with_length a)) j a → b ≡ (with_length j ++ with_length a) ++ rest → body_parts limits b ≡ with_rest limits j a rest
unfolding body_parts
framed limits b j a rest frame e =
    ap (λ x. with_json limits (first_part x)) (e ∙ append_assoc (with_length j) (with_length a) rest)
    ∙ ap (with_json limits) (part_first j (with_length a ++ rest) frame.json_fits)
    ∙ ap (with_archive limits j) (part_first a rest frame.archive_fits)

fitting : (limits : Limits) (j a : List ℕ) → IsWithin limits j a → is_within limits j a ≡ true
fitting limits j a within = grind (arith, nat_tests, within.0, within.1)

fitting_back : (limits : Limits) (j a : List ℕ) → is_within limits j a ≡ true → IsWithin limits j a
fitting_back limits j a h = (grind (arith, nat_tests), grind (arith, nat_tests))

pub within_parts : (limits : Limits) (b j a : List ℕ) → Frame b j a → IsWithin limits j a → body_parts limits b ≡ Ok (j, a)
within_parts limits b j a frame within =
    framed limits b j a [] (subst (λ x. Frame x j a) frame.bytes frame) (frame.bytes ∙ sym (append-nil _))
    ∙ cond-true _ _ _ (fitting limits j a within)

pub cut_short : (limits : Limits) (b : List ℕ) → IsCut b → body_parts limits b ≡ Err Short
unfolding body_parts
cut_short limits b (whole, (j, a, frame), (rest, e, some)) =
    ⊎_elim
    (λ (within : IsProperPrefix b (with_length j)). ap (with_json limits) (cut_none b (j, frame.json_fits, within)))
    (λ (behind : (d : List ℕ) × (b ≡ with_length j ++ d) × (d ++ rest ≡ with_length a)).
    ap (λ x. with_json limits (first_part x)) behind.1
    ∙ ap (with_json limits) (part_first j behind.0 frame.json_fits)
    ∙ ap (with_archive limits j) (cut_none behind.0 (a, frame.archive_fits, (rest, sym behind.2, some))))
    (front_of b rest (with_length j) (with_length a) (sym e ∙ frame.bytes))

more_trailing : (limits : Limits) (j a rest : List ℕ) → 0 < length rest → with_rest limits j a rest ≡ Err Trailing
more_trailing limits j a [] some = absurd (omega arith)
more_trailing limits j a (b ∷ rest) some = refl

pub trailed_trailing : (limits : Limits) (b : List ℕ) → IsTrailed b → body_parts limits b ≡ Err Trailing
trailed_trailing limits b (front, (j, a, frame), (rest, e, some)) =
    framed limits b j a rest (subst (λ x. Frame x j a) frame.bytes frame) (e ∙ ap (λ x. x ++ rest) frame.bytes)
    ∙ more_trailing limits j a rest some

pub long_too_long : (limits : Limits) (b : List ℕ) → IsTooLong limits b → body_parts limits b ≡ Err TooLong
long_too_long limits b (j, a, frame, long) =
    framed limits b j a [] (subst (λ x. Frame x j a) frame.bytes frame) (frame.bytes ∙ sym (append-nil _))
    ∙ ⊎_elim
    (λ (fits : is_within limits j a ≡ true). absurd (long (fitting_back limits j a fits)))
    (λ (over : is_within limits j a ≡ false). cond-false _ _ _ over)
    (cases_Bool (is_within limits j a))
