-- Pieces with an empty one at the end, and pieces without.
use Rattle.std.proofs.Common.{◌≡◌, ◌≢◌, ◌<◌, ◌++◌, ◌∙◌, ℕ, List, [], ◌∷◌, Bor, length, map, refl, sym, ap, subst}
use Rattle.std.proofs.Math.ListN.{get_or}
use Rattle.std.proofs.lemmas.List.{get_or-map, length-map}
use Rattle.reg_model.specs.Registry.{Text}
use Rattle.std.proofs.Common.{◌==◌, Bool, true, false, Some, None}
use Rattle.std.specs.Prelude.{if◌then◌else◌}
use Rattle.std.specs.List.{slice_split}
use Rattle.std.specs.Str.{IsUtf8, is_utf8}
use Rattle.std.proofs.lemmas.Str.{IsUtf8-from_is_utf8, is_utf8-from_IsUtf8}
use Rattle.std.specs.Option.{option_map}
use Rattle.reg_cli_run.specs.Lines.{but_empty_end}
use Rattle.reg_cli_run.specs.Messages.{arguments_in, but_last}

pub end_goes : (ps : List Text) → but_empty_end (ps ++ [] ∷ []) ≡ ps
end_goes [] = refl
end_goes (p ∷ []) = refl
end_goes (p ∷ q ∷ more) = ap (λ it. p ∷ it) (end_goes (q ∷ more))

pub end_stays : (ps : List Text) (p : Text) → p ≢ [] → but_empty_end (ps ++ p ∷ []) ≡ ps ++ p ∷ []
end_stays [] [] not = absurd (not refl)
end_stays [] (b ∷ bs) not = refl
end_stays (q ∷ []) p not = ap (λ it. q ∷ it) (end_stays [] p not)
end_stays (q ∷ r ∷ more) p not = ap (λ it. q ∷ it) (end_stays (r ∷ more) p not)

pub cut : (pieces ps : List Text) (p : Text) → pieces ≡ ps ++ p ∷ [] → p ≡ [] → ps ≡ but_empty_end pieces
cut pieces ps p is empty = sym (ap but_empty_end (is ∙ ap (λ e. ps ++ e ∷ []) empty) ∙ end_goes ps)

pub kept : (pieces ps : List Text) (p : Text) → pieces ≡ ps ++ p ∷ [] → p ≢ [] → ps ++ p ∷ [] ≡ but_empty_end pieces
kept pieces ps p is some = sym (ap but_empty_end is ∙ end_stays ps p some)

pub no_bytes : (p : Text) → length p ≡ 0 → p ≡ []
no_bytes [] is = refl
no_bytes (b ∷ bs) is = absurd cc is

-- a line that is read by its place is the text that stands there
pub line_at : (items seen : List (Bor Text)) (lines : List Text) (i : ℕ) (d : Bor Text) → seen ≡ items → map (λ l. l.now) items ≡ lines → i < length lines
    → get_or lines i (get_or seen i d).now ≡ (get_or seen i d).now
line_at items seen lines i d same is less =
    let now = λ (l : Bor Text). l.now in
    let all : lines ≡ map now seen = sym is ∙ ap (map now) (sym same) in
    ap (λ ls. get_or ls i (get_or seen i d).now) all ∙ get_or-map now seen i d (get_or seen i d).now (subst (λ n. i < n) (ap length all ∙ length-map seen now) less)

-- pieces that end with an empty one, and pieces that do not
pub last_goes : (ps : List Text) → but_last (ps ++ [] ∷ []) ≡ Some ps
last_goes [] = refl
last_goes (p ∷ []) = refl
last_goes (p ∷ q ∷ more) = ap (option_map (λ ps. p ∷ ps)) (last_goes (q ∷ more))

pub last_stays : (ps : List Text) (p : Text) → p ≢ [] → but_last (ps ++ p ∷ []) ≡ None
last_stays [] [] not = absurd (not refl)
last_stays [] (b ∷ bs) not = refl
last_stays (q ∷ []) p not = ap (option_map (λ ps. q ∷ ps)) (last_stays [] p not)
last_stays (q ∷ r ∷ more) p not = ap (option_map (λ ps. q ∷ ps)) (last_stays (r ∷ more) p not)

not_true : (b : Bool) → b ≢ true → b ≡ false
not_true true not = absurd (not refl)
not_true false not = refl

-- the bytes of a message are no text
pub no_text : (bytes : Text) → ¬ (IsUtf8 bytes) → arguments_in bytes ≡ None
unfolding arguments_in
no_text bytes not = ap (λ b. if b then but_last (slice_split (λ c. c == 0) bytes) else None) (not_true (is_utf8 bytes) (λ is. not (IsUtf8-from_is_utf8 bytes is)))

-- its last piece is empty, or not
pub arguments_are : (bytes : Text) (ps : List Text) (p : Text) → IsUtf8 bytes → slice_split (λ c. c == 0) bytes ≡ ps ++ p ∷ [] → p ≡ [] → arguments_in bytes ≡ Some ps
unfolding arguments_in
arguments_are bytes ps p text is empty =
    ap (λ b. if b then but_last (slice_split (λ c. c == 0) bytes) else None) (is_utf8-from_IsUtf8 bytes text) ∙ ap but_last (is ∙ ap (λ e. ps ++ e ∷ []) empty) ∙ last_goes ps

pub no_arguments : (bytes : Text) (ps : List Text) (p : Text) → IsUtf8 bytes → slice_split (λ c. c == 0) bytes ≡ ps ++ p ∷ [] → p ≢ [] → arguments_in bytes ≡ None
unfolding arguments_in
no_arguments bytes ps p text is some =
    ap (λ b. if b then but_last (slice_split (λ c. c == 0) bytes) else None) (is_utf8-from_IsUtf8 bytes text) ∙ ap but_last is ∙ last_stays ps p some
