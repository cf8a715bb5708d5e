-- Lines are read back, and their characters are plain.
use Rattle.reg_model.proofs.Words.{◌≡◌, ◌<◌, ◌^◌, ◌+◌, ◌-◌, ◌==◌, ℕ, List, [], ◌∷◌, ◌++◌, Bool, true, false, cond, refl, sym, ◌∙◌, ap}
use Rattle.reg_model.proofs.Words.{subst, arith, ◌||◌, codes, length, take, decimal, All, AllByRecursion, join_with_byte, list_all}
use Rattle.reg_model.proofs.Words.{all_ascii_digits, and_from, and_parts, nat_tests, digits_decimal, length-append, All-from_recursion}
use Rattle.reg_model.proofs.Words.{bytes_eq-Decides, list_all-append, join_with_byte-slice_split, slice_split_at, slice_split_none}
use Rattle.reg_model.proofs.Words.{numerals_by_value, tells_all_ascii_digits, is_login, is_login_byte, is_name, is_name_byte, has_star}
use Rattle.reg_model.proofs.Words.{is_pattern, prefix_of, Text, line_of, words_in, words_of, are_words, is_plain, is_printed, is_word}
use Rattle.std.specs.Prelude.{drop}
use Rattle.std.specs.Char.{is_ascii_digit}
use Rattle.std.specs.List.{onto_first}
use Rattle.std.proofs.lemmas.List.{take-append-drop}
use Rattle.std.proofs.Math.Seq.{take-append_seam}
use Rattle.semver.specs.Grammar.{is_build, is_build_identifier, is_identifier_byte, is_pre_identifier, is_pre_release}
use Rattle.semver.specs.Identifiers.{marked}
use Rattle.semver.specs.Order.{parts}
use Rattle.reg_versions.specs.Versions.{is_version}
use Rattle.reg_versions.proofs.Grammar.{version_grammar}
use Rattle.reg_model.proofs.Lists.{all_so}

-- ---- words of plain characters

no_space : (b : ℕ) → is_plain b ≡ true → (b == 32) ≡ false
no_space b e = grind (arith, nat_tests)

printed : (b : ℕ) → is_plain b ≡ true → is_printed b ≡ true
printed b e = grind (arith, nat_tests)

spaceless : (t : Text) → is_word t ≡ true → All (λ b. (b == 32) ≡ false) t
spaceless t e = All-from_recursion (λ b. (b == 32) ≡ false) t (each t e)
  where
    each : (t : Text) → is_word t ≡ true → AllByRecursion (λ b. (b == 32) ≡ false) t
    each [] e = tt
    each (b ∷ t) e = let h = and_parts _ _ e in (no_space b h.0, each t h.1)

pub words_read : (w : Text) (ws : List Text) → are_words (w ∷ ws) ≡ true → words_in (join_with_byte 32 (w ∷ ws)) ≡ w ∷ ws
words_read w [] h = slice_split_none (λ b. b == 32) w (spaceless w (and_parts _ _ h).0)
words_read w (v ∷ ws) h = slice_split_at (λ b. b == 32) w 32 (join_with_byte 32 (v ∷ ws)) (spaceless w (and_parts _ _ h).0) refl ∙ ap (λ rest. w ∷ rest) (words_read v ws (and_parts _ _ h).1)

front_of : (t : Text) (b : ℕ) → take (length (t ++ b ∷ []) - 1) (t ++ b ∷ []) ≡ t
front_of t b = ap (λ n. take n (t ++ b ∷ [])) (omega (arith, length-append t (b ∷ []))) ∙ take-append_seam t (b ∷ [])

pub line_read : (w : Text) (ws : List Text) → are_words (w ∷ ws) ≡ true → words_of (line_of (w ∷ ws)) ≡ w ∷ ws
line_read w ws h = ap words_in (front_of (join_with_byte 32 (w ∷ ws)) 10) ∙ words_read w ws h

-- texts that pass, with a character between them that passes, pass
pub joined_pass : (p : ℕ → Bool) (c : ℕ) → p c ≡ true → (ws : List Text) → list_all (list_all p) ws ≡ true → list_all p (join_with_byte c ws) ≡ true
joined_pass p c there [] h = refl
joined_pass p c there (w ∷ []) h = (and_parts _ _ h).0
joined_pass p c there (w ∷ v ∷ ws) h = list_all-append p w _ ∙ and_from _ _ (and_parts _ _ h).0 (and_from _ _ there (joined_pass p c there (v ∷ ws) (and_parts _ _ h).1))

pub line_printed : (ws : List Text) → are_words ws ≡ true → list_all is_printed (join_with_byte 32 ws) ≡ true
line_printed ws h = joined_pass is_printed 32 refl ws (all_so is_word (list_all is_printed) (all_so is_plain is_printed printed) ws h)

-- ---- kinds of words

digit_plain : (b : ℕ) → is_ascii_digit b ≡ true → is_plain b ≡ true
digit_plain b e = grind (arith, nat_tests)

digits_plain : (t : Text) → all_ascii_digits t ≡ true → is_word t ≡ true
digits_plain [] e = refl
digits_plain (b ∷ t) e = let h = and_parts _ _ e in and_from _ _ (digit_plain b h.0) (digits_plain t h.1)

pub decimal_word : (n : ℕ) → n < 2 ^ 64 → is_word (decimal n) ≡ true
decimal_word n small = digits_plain (decimal n) (digits_decimal (numerals_by_value _ tells_all_ascii_digits) n small)

name_byte_plain : (b : ℕ) → is_name_byte b ≡ true → is_plain b ≡ true
name_byte_plain b e = grind (arith, nat_tests)

pub name_word : (t : Text) → is_name t ≡ true → is_word t ≡ true
name_word t e = all_so is_name_byte is_plain name_byte_plain t (and_parts _ _ (and_parts _ _ e).1).1

login_byte_plain : (b : ℕ) → is_login_byte b ≡ true → is_plain b ≡ true
login_byte_plain b e = grind (arith, nat_tests)

pub login_word : (t : Text) → is_login t ≡ true → is_word t ≡ true
login_word t e = all_so is_login_byte is_plain login_byte_plain t (and_parts _ _ (and_parts _ _ e).1).1

identifier_plain : (b : ℕ) → is_identifier_byte b ≡ true → is_plain b ≡ true
identifier_plain b e = grind (arith, nat_tests)

build_word : (t : Text) → is_build_identifier t ≡ true → is_word t ≡ true
build_word t e = all_so is_identifier_byte is_plain identifier_plain t (and_parts _ _ e).1

dotted : (t : Text) → list_all is_build_identifier (parts t) ≡ true → is_word t ≡ true
dotted t h = ap is_word (sym (join_with_byte-slice_split 46 t)) ∙ joined_pass is_plain 46 refl (parts t) (all_so is_build_identifier is_word build_word (parts t) h)

build_plain : (t : Text) → is_build t ≡ true → is_word t ≡ true
build_plain [] h = refl
build_plain (b ∷ t) h = dotted (b ∷ t) h

pre_plain : (t : Text) → is_pre_release t ≡ true → is_word t ≡ true
pre_plain [] h = refl
pre_plain (b ∷ t) h = dotted (b ∷ t) (all_so is_pre_identifier is_build_identifier (λ x e. (and_parts _ _ e).0) (parts (b ∷ t)) h)

marked_plain : (mark : ℕ) (t : Text) → is_plain mark ≡ true → is_word t ≡ true → is_word (marked mark t) ≡ true
marked_plain mark [] m h = refl
marked_plain mark (b ∷ t) m h = and_from _ _ m h

pub version_word : (t : Text) → is_version t ≡ true → is_word t ≡ true
version_word t e =
    let v = (version_grammar t).0 e in let p = v.0 in let fits = v.1.0 in
    ap is_word (sym v.1.1) ∙ list_all-append is_plain (decimal p.0) _ ∙ and_from _ _ (decimal_word p.0 fits.0)
    (list_all-append is_plain (decimal p.1) _ ∙ and_from _ _ (decimal_word p.1 fits.1)
    (list_all-append is_plain (decimal p.2) _ ∙ and_from _ _ (decimal_word p.2 fits.2)
    (list_all-append is_plain (marked 45 p.3) _ ∙ and_from _ _ (marked_plain 45 p.3 refl (pre_plain p.3 fits.3)) (marked_plain 43 p.4 refl (build_plain p.4 fits.4)))))

-- (its own proof in reg_names)
with_star : (p : Text) → has_star p ≡ true → p ≡ prefix_of p ++ codes "*"
with_star p e = sym (take-append-drop (length p - 1) p) ∙ ap (λ l. prefix_of p ++ l) (sym ((bytes_eq-Decides (codes "*") (drop (length p - 1) p)).0 e))

-- a pattern passes where names and the star do
pub pattern_pass : (p : ℕ → Bool) → ((t : Text) → is_name t ≡ true → list_all p t ≡ true) → p 42 ≡ true → (t : Text) → is_pattern t ≡ true → list_all p t ≡ true
pattern_pass p name star t e = by (has_star t) refl e
  where
    longer : (b : ℕ) (t : Text) → (length (b ∷ t) == 0) ≡ false
    longer b t = grind (arith, nat_tests)

    prefix : (t : Text) → (length t == 0 || is_name t) ≡ true → list_all p t ≡ true
    prefix [] e = refl
    prefix (b ∷ t) e = name (b ∷ t) (sym (ap (λ c. c || is_name (b ∷ t)) (longer b t)) ∙ e)

    by : (b : Bool) → has_star t ≡ b → cond b (length (prefix_of t) == 0 || is_name (prefix_of t)) (is_name t) ≡ true → list_all p t ≡ true
    by true there ok = ap (list_all p) (with_star t there) ∙ list_all-append p (prefix_of t) (codes "*") ∙ and_from _ _ (prefix (prefix_of t) ok) (and_from _ _ star refl)
    by false there ok = name t ok

pub pattern_word : (t : Text) → is_pattern t ≡ true → is_word t ≡ true
pattern_word t e = pattern_pass is_plain name_word refl t e

-- a text of printed characters, cut at its spaces
onto_word : (b : ℕ) (ws : List Text) → is_plain b ≡ true → are_words ws ≡ true → are_words (onto_first b ws) ≡ true
onto_word b [] p h = and_from _ _ (and_from _ _ p refl) refl
onto_word b (w ∷ ws) p h = let k = and_parts _ _ h in and_from _ _ (and_from _ _ p k.0) k.1

plain_or_space : (b : ℕ) → is_printed b ≡ true → (b == 32) ≡ false → is_plain b ≡ true
plain_or_space b e f = grind (arith, nat_tests)

pub printed_words : (t : Text) → list_all is_printed t ≡ true → are_words (words_in t) ≡ true
printed_words [] h = refl
printed_words (b ∷ t) h = let k = and_parts _ _ h in by (b == 32) refl k.0 (printed_words t k.1)
  where
    by : (c : Bool) → (b == 32) ≡ c → is_printed b ≡ true → are_words (words_in t) ≡ true → are_words (cond c ([] ∷ words_in t) (onto_first b (words_in t))) ≡ true
    by true e k rest = rest
    by false e k rest = onto_word b (words_in t) (plain_or_space b k e) rest
