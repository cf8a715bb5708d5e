-- The first bytes of a request, and its method.
use Rattle.std.proofs.Common.{◌≡◌, ◌++◌, ◌∷◌, ◌<◌, ◌&&◌, ℕ, List, Bool, true, false, [], cond, codes, length, take, drop, min, refl, sym, ap, ◌∙◌, subst, arith}
use Rattle.std.proofs.Common.{zero, suc, ◌==◌}
use Rattle.std.specs.Str.{bytes_eq}
use Rattle.std.proofs.lemmas.Bool.Decides.{Decides-eqb, same_from_decides}
use Rattle.std.proofs.lemmas.List.Sums.{AllPass-from_list_all}
use Rattle.std.proofs.lemmas.Slice.Eq.{bytes_eq-Decides, starts_is}
use Rattle.httparse.proofs.GrammarLemmas.{print_request-append}
use Rattle.httparse.proofs.PieceLemmas.{Stops_token, space_ends_token}
use Rattle.httparse.proofs.RunLemmas.{run_unique}
use Rattle.httparse.specs.Grammar.{AllPass, LineEnd, crlf, lf, is_token_byte, print_blank, print_end, print_section, print_version}
use Rattle.httparse.specs.Pieces.{Stops, is_newline}
use Rattle.reg_body.specs.declared.limits.Limits.{Limits}
use Rattle.reg_model.specs.Registry.{Text}
use Rattle.reg_http_read.specs.Begun.{begins_head, is_head_only, skip_newlines}
use Rattle.reg_http_read.specs.Heads.{Facts, IsHeadAt}
use Rattle.reg_http_read.proofs.Following.{front_reads}
use Rattle.reg_http_read.proofs.Judged.{judged_method}

-- ---- bytes in two pieces

joined : (t p q r : Bool) → (p && q) ≡ r → ((t && p) && q) ≡ (t && r)
joined true p q r is = is
joined false p q r is = refl

-- a word is found in two pieces, where its front is found in the first and its back in the second
found_in_two : (n : ℕ) (word a b : Text) → n ≡ min (length a) (length word)
    → (bytes_eq (take n word) (take (length (take n word)) a) && bytes_eq (drop n word) (take (length (drop n word)) b)) ≡ bytes_eq word (take (length word) (a ++ b))
found_in_two zero word [] b is = refl
found_in_two zero [] (x ∷ a) b is = refl
found_in_two zero (w ∷ word) (x ∷ a) b is = absurd (omega arith)
found_in_two (suc n) word [] b is = absurd (omega arith)
found_in_two (suc n) [] (x ∷ a) b is = absurd (omega arith)
found_in_two (suc n) (w ∷ word) (x ∷ a) b is = joined (w == x) _ _ _ (found_in_two n word a b (omega arith))

pub both_found : (n : ℕ) (word a b here there : Text) (x y : Bool) → n ≡ min (length a) (length word) → here ≡ take n word → there ≡ drop n word
    → x ≡ bytes_eq here (take (length here) a) → y ≡ bytes_eq there (take (length there) b) → (x && y) ≡ bytes_eq word (take (length word) (a ++ b))
both_found n word a b here there x y is front back first last =
    let f = subst (λ h. x ≡ bytes_eq h (take (length h) a)) front first in
    let l = subst (λ h. y ≡ bytes_eq h (take (length h) b)) back last in
    rw (f, l) (found_in_two n word a b is)

skip_test : (t : Bool) (s u xs ys b : Text) → (0 < length s → u ≡ s ++ b) → ys ≡ xs ++ b → 0 < length (cond t s xs) → cond t u ys ≡ cond t s xs ++ b
skip_test true s u xs ys b later here some = later some
skip_test false s u xs ys b later here some = here

-- a line begins in the first piece
pub skip_some : (a b : Text) → 0 < length (skip_newlines a) → skip_newlines (a ++ b) ≡ skip_newlines a ++ b
skip_some [] b some = absurd (omega arith)
skip_some (x ∷ a) b some = skip_test (is_newline x) (skip_newlines a) (skip_newlines (a ++ b)) (x ∷ a) (x ∷ (a ++ b)) b (skip_some a b) refl some

none_test : (t : Bool) (s u v xs ys : Text) → (length s ≡ 0 → u ≡ v) → 0 < length xs → length (cond t s xs) ≡ 0 → cond t u ys ≡ v
none_test true s u v xs ys later some none = later none
none_test false s u v xs ys later some none = absurd (omega arith)

-- the first piece has line ends alone
pub skip_none : (a b : Text) → length (skip_newlines a) ≡ 0 → skip_newlines (a ++ b) ≡ skip_newlines b
skip_none [] b none = refl
skip_none (x ∷ a) b none =
    none_test (is_newline x) (skip_newlines a) (skip_newlines (a ++ b)) (skip_newlines b) (x ∷ a) (x ∷ (a ++ b)) (skip_none a b) (omega arith) none

-- ---- the method of a head

skip_blank : (es : List LineEnd) (r : Text) → Stops is_newline r → skip_newlines (print_blank es ++ r) ≡ r
skip_blank [] [] stops = absurd stops
skip_blank [] (x ∷ r) stops = rw stops refl
skip_blank (crlf ∷ es) r stops = skip_blank es r stops
skip_blank (lf ∷ es) r stops = skip_blank es r stops

abbrev head_word : Text
head_word = codes "HEAD"

abbrev pub head_start : Text
head_start = codes "HEAD "

head_is_token : AllPass is_token_byte head_word
unfolding is_token_byte
head_is_token = AllPass-from_list_all is_token_byte head_word refl

starts : (s : Text) → (bytes_eq head_start (take 5 s) ≡ true → s ≡ head_start ++ drop 5 s) × ((rest : Text) → s ≡ head_start ++ rest → bytes_eq head_start (take 5 s) ≡ true)
starts s = starts_is Decides-eqb s head_start (bytes_eq head_start (take 5 s)) refl

begins_method : (m tail : Text) → AllPass is_token_byte m → bytes_eq head_start (take 5 (m ++ 32 ∷ tail)) ≡ bytes_eq m head_word
begins_method m tail token =
    let s : Text = m ++ 32 ∷ tail in
    same_from_decides {P = m ≡ head_word} (bytes_eq head_start (take 5 s)) (bytes_eq m head_word) (
      (λ yes. (run_unique is_token_byte m head_word (32 ∷ tail) (32 ∷ drop 5 s) token head_is_token space_ends_token space_ends_token ((starts s).0 yes)).0),
      (λ is. (starts s).1 tail (ap (λ w. w ++ 32 ∷ tail) is)),
    )
    (bytes_eq-Decides m head_word)

-- the first bytes tell the method
pub told_by_first : (limits : Limits) (b : Text) (f : Facts) → IsHeadAt limits b f → begins_head b ≡ is_head_only f
told_by_first limits b f it =
    let h = it.head in
    let reads = front_reads limits.head f.len b h it.cut in
    let tail : Text = h.target ++ 32 ∷ (print_version h.minor ++ (print_end h.line_end ++ (print_section h.fields h.last ++ drop f.len b))) in
    let text : b ≡ print_blank h.blank ++ (h.method ++ 32 ∷ tail) = reads.1 ∙ print_request-append h (drop f.len b) in
    let token = reads.0.method in
    let skipped : skip_newlines b ≡ h.method ++ 32 ∷ tail =
    ap skip_newlines text ∙ skip_blank h.blank (h.method ++ 32 ∷ tail) (Stops_token h.method (32 ∷ tail) token.0 token.1) in
    ap (λ s. bytes_eq head_start (take 5 s)) skipped ∙ begins_method h.method tail token.1
    ∙ ap (λ m. bytes_eq m head_word) (sym (judged_method limits h f it.judged))

-- what the first bytes told stays so
still_begins : (b more : Text) → begins_head b ≡ true → begins_head (b ++ more) ≡ true
still_begins b more told =
    let line = skip_newlines b in
    let is : line ≡ head_start ++ drop 5 line = (starts line).0 told in
    let more_is : skip_newlines (b ++ more) ≡ head_start ++ (drop 5 line ++ more) =
    skip_some b more (omega (arith, ap length is)) ∙ ap (λ l. l ++ more) is in
    (starts (skip_newlines (b ++ more))).1 (drop 5 line ++ more) more_is

pub told_before : (limits : Limits) (b more : Text) (f : Facts) → begins_head b ≡ true → IsHeadAt limits (b ++ more) f → is_head_only f ≡ true
told_before limits b more f told it = sym (told_by_first limits (b ++ more) f it) ∙ still_begins b more told
