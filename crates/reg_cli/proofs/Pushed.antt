-- Arguments behind those of a message.
use Rattle.std.proofs.Common.{◌≡◌, ◌==◌, ◌++◌, ◌∙◌, ℕ, List, [], ◌∷◌, refl, sym, ap, append-nil}
use Rattle.std.specs.Prelude.{codes}
use Rattle.std.specs.List.{flat_map}
use Rattle.std.proofs.lemmas.Grind.{flat_map-append}
use Rattle.std.proofs.lemmas.List.{append_assoc}
use Rattle.reg_model.specs.Registry.{Text}
use Rattle.reg_cli.specs.Sending.{argument, is_whole, named}

abbrev sent : List Text → Text
sent words = flat_map argument words

pub one_word : (old word : Text) → old ++ argument word ≡ old ++ sent (word ∷ [])
one_word old word = ap (λ e. old ++ e) (sym (append-nil (argument word)))

pub no_word : (old : Text) → old ≡ old ++ sent []
no_word old = sym (append-nil old)

pub named_words : (old option value : Text) → ((old ++ codes "--") ++ argument option) ++ argument value ≡ old ++ sent (named option value)
named_words old option value =
    append_assoc (old ++ codes "--") (argument option) (argument value) ∙ append_assoc old (codes "--") (argument option ++ argument value)
    ∙ ap (λ e. old ++ (codes "--" ++ (argument option ++ e))) (sym (append-nil (argument value)))

pub digest_words : (old digits : Text) → ((old ++ argument (codes "--digest")) ++ digits) ++ 0 ∷ [] ≡ old ++ sent (named (codes "digest") digits)
digest_words old digits =
    append_assoc (old ++ argument (codes "--digest")) digits (0 ∷ []) ∙ append_assoc old (argument (codes "--digest")) (digits ++ 0 ∷ [])
    ∙ ap (λ e. old ++ (argument (codes "--digest") ++ e)) (sym (append-nil (argument digits)))

two : (old : Text) (xs ys : List Text) → (old ++ sent xs) ++ sent ys ≡ old ++ sent (xs ++ ys)
two old xs ys = append_assoc old (sent xs) (sent ys) ∙ ap (λ e. old ++ e) (sym (flat_map-append argument xs ys))

pub three : (old : Text) (xs ys zs : List Text) → ((old ++ sent xs) ++ sent ys) ++ sent zs ≡ old ++ sent (xs ++ (ys ++ zs))
three old xs ys zs = two (old ++ sent xs) ys zs ∙ two old xs (ys ++ zs)

pub four : (old : Text) (xs ys zs ws : List Text) → (((old ++ sent xs) ++ sent ys) ++ sent zs) ++ sent ws ≡ old ++ sent (xs ++ (ys ++ (zs ++ ws)))
four old xs ys zs ws = three (old ++ sent xs) ys zs ws ∙ two old xs (ys ++ (zs ++ ws))

-- the end of a text tells whether its lines are whole
pub whole_by_end : (front : Text) (b : ℕ) → is_whole (front ++ b ∷ []) ≡ (b == 10)
whole_by_end [] b = refl
whole_by_end (x ∷ []) b = refl
whole_by_end (x ∷ y ∷ more) b = whole_by_end (y ∷ more) b
