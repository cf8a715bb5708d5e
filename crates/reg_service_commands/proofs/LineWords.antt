-- Words with spaces between them, of which one is cut into words again.
use Rattle.reg_service_commands.proofs.Words.{◌≡◌, ◌+◌, ◌==◌, List, [], ◌∷◌, ◌++◌, arith, length, Ok, Err, Result, Option, Some, refl, sym}
use Rattle.reg_service_commands.proofs.Words.{ap, ◌∙◌, String, codes, string_bytes, option_map, Global, Text, line_of, name_words}
use Rattle.std.specs.Prelude.{IfOk}
use Rattle.std.specs.Borrow.{Bor}
use Rattle.std.specs.declared.alloc.AllocError.{AllocError}
use Rattle.std.specs.List.{count_by, join_with_byte}
use Rattle.std.proofs.lemmas.List.{append_assoc}
use Rattle.std.proofs.lemmas.List.Splits.{join_with_byte-slice_split, length-slice_split}
use Rattle.reg_model.specs.Trail.{words_in}

spaced : (w name : Text) → join_with_byte 32 (w ∷ name ∷ []) ≡ join_with_byte 32 (w ∷ words_in name)
spaced w name = by (words_in name) refl (length-slice_split (λ b. b == 32) name)
  where
    by : (ws : List Text) → words_in name ≡ ws → length (words_in name) ≡ count_by (λ b. b == 32) name + 1 → join_with_byte 32 (w ∷ name ∷ []) ≡ join_with_byte 32 (w ∷ words_in name)
    by [] e l = absurd (let z = ap length e in omega (arith, l))
    by (v ∷ ws) e l = sym (ap (λ us. join_with_byte 32 (w ∷ us)) e ∙ ap (λ t. w ++ 32 ∷ t) (ap (join_with_byte 32) (sym e) ∙ join_with_byte-slice_split 32 name))

pub named_words : (login name : Text) → line_of (codes "-" ∷ codes "admin" ∷ codes "user-add" ∷ login ∷ codes "--name" ∷ name ∷ []) ≡ line_of (codes "-" ∷ codes "admin" ∷ codes "user-add" ∷ login ∷ codes "--name" ∷ words_in name)
named_words login name = ap (λ t. (codes "-" ++ 32 ∷ (codes "admin" ++ 32 ∷ (codes "user-add" ++ 32 ∷ (login ++ 32 ∷ t)))) ++ 10 ∷ []) (spaced (codes "--name") name)

pub named_so : (login : Text) (o : Option (Bor Text)) (n : Bor Text) (r : Result (String Global) AllocError) → o ≡ Some n → IfOk r (λ line. string_bytes line ≡ line_of (codes "-" ∷ codes "admin" ∷ codes "user-add" ∷ login ∷ codes "--name" ∷ n.now ∷ []))
    → IfOk r (λ line. string_bytes line ≡ line_of (codes "-" ∷ codes "admin" ∷ codes "user-add" ∷ login ∷ name_words (option_map (λ x. x.now) o)))
named_so login o n (Ok line) is h = h ∙ named_words login n.now ∙ ap (λ p. line_of (codes "-" ∷ codes "admin" ∷ codes "user-add" ∷ login ∷ name_words (option_map (λ x. x.now) p))) (sym is)
named_so login o n (Err e) is h = tt

-- the line of a new token, as it is written
pub token_written : (begun login words patterns : Text) → begun ≡ [] → begun ++ (codes "- admin token-add " ++ (login ++ (codes " --endpoints " ++ (words ++ (codes " --patterns " ++ (patterns ++ 10 ∷ []))))))
    ≡ line_of (codes "-" ∷ codes "admin" ∷ codes "token-add" ∷ login ∷ codes "--endpoints" ∷ words ∷ codes "--patterns" ∷ patterns ∷ [])
token_written begun login words patterns e =
    ap (λ b. b ++ (codes "- admin token-add " ++ (login ++ (codes " --endpoints " ++ (words ++ (codes " --patterns " ++ (patterns ++ 10 ∷ []))))))) e
    ∙ ap (λ t. codes "- admin token-add " ++ t)
    (sym (append_assoc login (codes " --endpoints " ++ (words ++ (codes " --patterns " ++ patterns))) (10 ∷ []) ∙ ap (λ t. login ++ (codes " --endpoints " ++ t)) (append_assoc words (codes " --patterns " ++ patterns) (10 ∷ []))))
