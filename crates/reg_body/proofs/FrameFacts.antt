-- What a publish body's bytes say of its parts.
use Rattle.std.proofs.Common.{◌≡◌, ℕ, ◌+◌, ◌-◌, ◌^◌, ◌<◌, List, [], ◌∷◌, ◌++◌, length, get_or, take, drop, replicate, refl, sym, ap, ◌∙◌, append_assoc, append-nil, arith, zero, suc, lit<, Option, Some, None, MatchOption, Bor}
use Rattle.std.specs.List.{IsSplitAt}
use Rattle.std.specs.Int.{w32, from_le_bytes, to_le_bytes}
use Rattle.std.proofs.lemmas.List.{take_at, drop_at, take-append-drop, length-append, length-replicate, length-take-le}
use Rattle.std.proofs.lemmas.Nat.{le_bytes_4, from_le_bytes-to_le_bytes_4}
use Rattle.reg_body.specs.Frames.{Frame, IsFrame, IsProperPrefix, IsCut, IsTrailed, IsCutPart, le4, with_length}

-- ---- lengths

pub length-le4 : (n : ℕ) → length (le4 n) ≡ 4
unfolding le4
length-le4 n = refl

pub le4_std : (n : ℕ) → le4 n ≡ to_le_bytes w32 n
unfolding le4
le4_std n = refl

pub le4_same : (m n : ℕ) → m < 2 ^ 32 → n < 2 ^ 32 → le4 m ≡ le4 n → m ≡ n
le4_same m n below fits e =
    sym (from_le_bytes-to_le_bytes_4 m below) ∙ ap (from_le_bytes w32) (sym (le4_std m) ∙ e ∙ le4_std n) ∙ from_le_bytes-to_le_bytes_4 n fits

-- four bytes are the digits of some length
pub le4_read : (bs : List ℕ) (n : ℕ) → length bs ≡ 4 → ((i : ℕ) → get_or bs i 0 < 256) → n ≡ from_le_bytes w32 bs → le4 n ≡ bs
le4_read bs n four small e = le4_std n ∙ le_bytes_4 bs n four small e

-- ---- parts

same_front : (a b x y : List ℕ) → length a ≡ length b → a ++ x ≡ b ++ y → (a ≡ b) × (x ≡ y)
same_front a b x y e h = (
  sym (take_at a x (length a) refl) ∙ ap (take (length a)) h ∙ take_at b y (length a) (sym e),
  sym (drop_at a x (length a) refl) ∙ ap (drop (length a)) h ∙ drop_at b y (length a) (sym e),
)

-- what begins with a part begins with no other
pub same_part : (p q x y : List ℕ) → length p < 2 ^ 32 → length q < 2 ^ 32 → with_length p ++ x ≡ with_length q ++ y → (p ≡ q) × (x ≡ y)
same_part p q x y below fits h =
    let digits = same_front (le4 (length p)) (le4 (length q)) (p ++ x) (q ++ y) (length-le4 _ ∙ sym (length-le4 _))
    (sym (append_assoc (le4 (length p)) p x) ∙ h ∙ append_assoc (le4 (length q)) q y) in
    same_front p q x y (le4_same _ _ below fits digits.0) digits.1

-- ---- whole bodies

-- a body that another begins with is that other
pub same_frame : (b j a c k d rest : List ℕ) → Frame b j a → Frame c k d → c ≡ b ++ rest → (j ≡ k) × (a ≡ d) × (rest ≡ [])
same_frame b j a c k d rest one other h =
    let first = same_part j k (with_length a ++ rest) (with_length d) one.json_fits other.json_fits
    (sym (append_assoc (with_length j) (with_length a) rest) ∙ ap (λ l. l ++ rest) (sym one.bytes) ∙ sym h ∙ other.bytes) in
    let second = same_part a d rest [] one.archive_fits other.archive_fits (first.1 ∙ sym (append-nil (with_length d))) in
    (first.0, second.0, second.1)

pub no_prefix : (b c : List ℕ) → IsFrame b → IsFrame c → IsProperPrefix b c → ⊥
no_prefix b c (j, a, one) (k, d, other) (rest, h, more) =
    let same = same_frame b j a c k d rest one other h in
    absurd (omega (arith, more, ap length same.2))

pub same_parts : (b j a k c : List ℕ) → Frame b j a → Frame b k c → (j ≡ k) × (a ≡ c)
same_parts b j a k c one other =
    let same = same_frame b j a b k c [] one other (sym (append-nil b)) in
    (same.0, same.1)

pub cut_no_trail : (b : List ℕ) → IsCut b → IsTrailed b → ⊥
cut_no_trail b (whole, framed, (rest, e, more)) (front, fits, (between, f, some)) =
    no_prefix front whole fits framed
    (between ++ rest, e ∙ ap (λ l. l ++ rest) f ∙ append_assoc front between rest, omega (arith, some, length-append between rest))

-- ---- bytes that are no whole body

pub cut_first : (b : List ℕ) → IsCutPart b → IsCut b
cut_first b (part, below, (rest, e, more)) =
    let none : List ℕ = [] in (
      with_length part ++ with_length none,
      (part, none, record { json_fits = below; archive_fits = lit< tt; bytes = refl }),
      (rest ++ with_length none, ap (λ l. l ++ with_length none) e ∙ append_assoc b rest (with_length none), omega (arith, more, length-append rest (with_length none))),
    )

pub cut_second : (b j rest : List ℕ) → length j < 2 ^ 32 → b ≡ with_length j ++ rest → IsCutPart rest → IsCut b
cut_second b j rest fits h (part, below, (more, e, some)) = (
  with_length j ++ with_length part,
  (j, part, record { json_fits = fits; archive_fits = below; bytes = refl }),
  (more, ap (λ l. with_length j ++ l) e ∙ sym (append_assoc (with_length j) rest more) ∙ ap (λ l. l ++ more) (sym h), some),
)

pub trailed : (b j r a rest : List ℕ) → length j < 2 ^ 32 → length a < 2 ^ 32 → b ≡ with_length j ++ r → r ≡ with_length a ++ rest → 0 < length rest → IsTrailed b
trailed b j r a rest fits below h e some = (
  with_length j ++ with_length a,
  (j, a, record { json_fits = fits; archive_fits = below; bytes = refl }),
  (rest, h ∙ ap (λ l. with_length j ++ l) e ∙ sym (append_assoc (with_length j) (with_length a) rest), some),
)

no_more : (rest : List ℕ) → length rest ≡ 0 → rest ≡ []
no_more [] e = refl
no_more (x ∷ xs) e = cc

pub whole : (b j r a rest : List ℕ) → length j < 2 ^ 32 → length a < 2 ^ 32 → b ≡ with_length j ++ r → r ≡ with_length a ++ rest → length rest ≡ 0 → Frame b j a
whole b j r a rest fits below h e none = record {
  json_fits = fits;
  archive_fits = below;
  bytes = h ∙ ap (λ l. with_length j ++ l) (e ∙ ap (λ l. with_length a ++ l) (no_more rest none) ∙ append-nil (with_length a));
}

-- ---- the part that bytes begin with

from_le_below : (bs : List ℕ) → ((i : ℕ) → get_or bs i 0 < 256) → from_le_bytes w32 bs < 2 ^ 32
from_le_below bs small = omega (arith, small 0, small 1, small 2, small 3)

zeros_small : (k i : ℕ) → get_or (replicate k 0) i 0 < 256
zeros_small zero i = lit< tt
zeros_small (suc k) zero = lit< tt
zeros_small (suc k) (suc i) = zeros_small k i

padded_small : (b : List ℕ) (k : ℕ) → ((i : ℕ) → get_or b i 0 < 256) → (i : ℕ) → get_or (b ++ replicate k 0) i 0 < 256
padded_small [] k small i = zeros_small k i
padded_small (x ∷ xs) k small zero = small 0
padded_small (x ∷ xs) k small (suc i) = padded_small xs k (λ n. small (suc n)) i

-- bytes that end before a part does, at that part's digits or its bytes, which zeros fill up
cut_after : (b digits rest : List ℕ) (n k : ℕ) → n < 2 ^ 32 → le4 n ≡ digits → length rest + k ≡ n → (fill : List ℕ)
    → digits ++ (rest ++ replicate k 0) ≡ b ++ fill → 0 < length fill → IsCutPart b
cut_after b digits rest n k below e len fill h some =
    let part = rest ++ replicate k 0 in
    let long : length part ≡ n = length-append rest (replicate k 0) ∙ ap (λ m. length rest + m) (length-replicate k 0) ∙ len in
    (part, rw long below, (fill, ap (λ l. l ++ part) (ap le4 long ∙ e) ∙ h, some))

-- fewer bytes than the digits of a length
pub cut_digits : (b : List ℕ) → length b < 4 → ((i : ℕ) → get_or b i 0 < 256) → IsCutPart b
cut_digits b few small =
    let zeros = replicate (4 - length b) 0 in
    let digits = b ++ zeros in
    let n = from_le_bytes w32 digits in
    let four : length digits ≡ 4 = length-append b zeros ∙ ap (λ m. length b + m) (length-replicate (4 - length b) 0) ∙ omega arith in
    let all_small = padded_small b (4 - length b) small in
    cut_after b digits [] n n (from_le_below digits all_small) (le4_read digits n four all_small refl) (omega arith)
    (zeros ++ replicate n 0) (append_assoc b zeros (replicate n 0))
    (omega (arith, few, length-append zeros (replicate n 0), length-replicate {A = ℕ} (4 - length b) 0))

front_small : (b : List ℕ) (k : ℕ) → ((i : ℕ) → get_or b i 0 < 256) → (i : ℕ) → get_or (take k b) i 0 < 256
front_small b zero small i = lit< tt
front_small [] (suc k) small i = lit< tt
front_small (x ∷ xs) (suc k) small zero = small 0
front_small (x ∷ xs) (suc k) small (suc i) = front_small xs k (λ n. small (suc n)) i

-- what stands after the digits of a length n: fewer bytes than n, or n bytes and the rest
pub after_digits : (b digits after : List ℕ) (n : ℕ) (taken : Option (Bor (List ℕ) × Bor (List ℕ))) → ((i : ℕ) → get_or b i 0 < 256)
    → digits ≡ take 4 b → after ≡ drop 4 b → length after + 4 ≡ length b → n ≡ from_le_bytes w32 digits
    → MatchOption taken (length after < n) (λ p. IsSplitAt after n p.0.now p.1.now)
    → MatchOption taken (IsCutPart b) (λ p. (length p.0.now < 2 ^ 32) × (b ≡ with_length p.0.now ++ p.1.now))
after_digits b digits after n taken small front back enough e h =
    let four : length digits ≡ 4 = ap length front ∙ length-take-le 4 b (omega arith) in
    let digits_small : (i : ℕ) → get_or digits i 0 < 256 = rw front (front_small b 4 small) in
    let below : n < 2 ^ 32 = rw e (from_le_below digits digits_small) in
    let read : le4 n ≡ digits = le4_read digits n four digits_small e in
    let split : digits ++ after ≡ b = ap (λ l. l ++ after) front ∙ ap (λ l. take 4 b ++ l) back ∙ take-append-drop 4 b in
    elim taken as (λ t. MatchOption t (length after < n) (λ p. IsSplitAt after n p.0.now p.1.now)
    → MatchOption t (IsCutPart b) (λ p. (length p.0.now < 2 ^ 32) × (b ≡ with_length p.0.now ++ p.1.now))) [
      | None ↦ λ few. cut_after b digits after n (n - length after) below read (omega arith)
          (replicate (n - length after) 0)
          (sym (append_assoc digits after _) ∙ ap (λ l. l ++ replicate (n - length after) 0) split)
          (omega (arith, few, length-replicate {A = ℕ} (n - length after) 0))
      | Some p ↦ λ cut. (
        rw cut.3 below,
        sym split ∙ ap (λ l. l ++ after) (sym read ∙ ap le4 (sym cut.3))
            ∙ ap (λ l. le4 (length p.0.now) ++ l) (sym (ap (λ l. l ++ p.1.now) cut.1 ∙ ap (λ l. take n after ++ l) cut.2 ∙ take-append-drop n after))
            ∙ sym (append_assoc (le4 (length p.0.now)) p.0.now p.1.now),
      )
    ] h
