-- The lines of tokens, from one token to the next.
use Rattle.reg_service_commands.proofs.Words.{◌≡◌, ◌+◌, List, [], ◌∷◌, ◌++◌, length, refl, sym, ap, subst, ◌∙◌, append-nil, append_assoc}
use Rattle.reg_service_commands.proofs.Words.{arith, enumerate_from, flat_map, flat_map-append, Text, Account, Scope, Token, AreTokens}
use Rattle.reg_service_commands.proofs.Words.{line_among}
use Rattle.std.proofs.lemmas.List.{length_push}
use Rattle.reg_model.specs.Registry as model
use Rattle.reg_tables_represent.proofs.Numbered.{enumerate_snoc}
use Rattle.reg_service_commands.specs.ReportedTokens.{IsNext}

-- some tokens have their lines, and these are left
pub record Walked (accounts : List Account) (ts : List model.Token) (tokens : List Token) (scopes : List Scope) (text : Text) : Type 0 where
  pub done : List model.Token
  pub left : List model.Token
  pub whole : ts ≡ done ++ left
  pub are : AreTokens (1 + length done) left tokens scopes
  pub told : text ≡ flat_map (line_among accounts) (enumerate_from 1 done)

module _ (accounts : List Account) (ts : List model.Token) where
  pub begun : (tokens : List Token) (scopes : List Scope) → AreTokens 1 ts tokens scopes → Walked accounts ts tokens scopes []
  begun tokens scopes are = record { done = []; left = ts; whole = refl; are = are; told = refl }

  pub one_more : (token : Token) (more : List Token) (scopes others : List Scope) (old new : Text) → Walked accounts ts (token ∷ more) scopes old → IsNext accounts token scopes others old new → Walked accounts ts more others new
  one_more token more scopes others old new w next = by w.left w.whole w.are
    where
      by : (left : List model.Token) → ts ≡ w.done ++ left → AreTokens (1 + length w.done) left (token ∷ more) scopes → Walked accounts ts more others new
      by [] whole are = absurd (let e = are.each in cc)
      by (t ∷ left) whole are =
          let n = 1 + length w.done in
          let step = next n t left more are in
          let line = line_among accounts in
          let long : n + 1 ≡ 1 + length (w.done ++ t ∷ []) = omega (arith, length_push w.done t) in
          record {
            done = w.done ++ t ∷ [];
            left = left;
            whole = whole ∙ sym (append_assoc w.done (t ∷ []) left);
            are = subst (λ k. AreTokens k left more others) long step.0;
            told = step.1 ∙ ap (λ l. l ++ line (n, t)) w.told ∙ ap (λ l. flat_map line (enumerate_from 1 w.done) ++ l) (sym (append-nil (line (n, t))))
                ∙ sym (flat_map-append line (enumerate_from 1 w.done) ((n, t) ∷ [])) ∙ ap (flat_map line) (sym (enumerate_snoc 1 w.done t));
          }

  pub ended : (scopes : List Scope) (text : Text) → Walked accounts ts [] scopes text → text ≡ flat_map (line_among accounts) (enumerate_from 1 ts)
  ended scopes text w = by w.left w.whole w.are
    where
      by : (left : List model.Token) → ts ≡ w.done ++ left → AreTokens (1 + length w.done) left [] scopes → text ≡ flat_map (line_among accounts) (enumerate_from 1 ts)
      by [] whole are = w.told ∙ ap (λ l. flat_map (line_among accounts) (enumerate_from 1 l)) (sym (whole ∙ append-nil w.done))
      by (t ∷ left) whole are = absurd (let e = are.each in cc)
