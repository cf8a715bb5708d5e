-- What each effect keeps, each run keeps.
use Rattle.reg_model.proofs.Words.{◌≡◌, List, [], ◌∷◌, Option, Some, None, inl, inr, refl, sym, subst, Rule, AdminRefusal, Limits, Registry}
use Rattle.reg_model.proofs.Words.{Text, Asked, Command, Event, Answer, Ask, Order, account_of, Step, Run, IsFit, outcome, Outcome}
use Rattle.reg_model.proofs.Words.{unless_denied, unless_refused}
use Rattle.reg_model.specs.Refusals.{denied, refused}
use Rattle.reg_model.specs.Effects.{done, commanded}

-- a relation of states that holds of the same, goes through, and holds across each allowed request and command
pub record Kept (limits : Limits) (R : Registry → Registry → Type 0) : Type 0 where
  pub same : (s : Registry) → R s s
  pub through : (s m t : Registry) → R s m → R m t → R s t
  pub by_request : (s : Registry) (digest : Text) (asked : Asked) → IsFit (Ask (Some digest) asked) → denied limits s (Some digest) asked ≡ None → R s (done s (account_of s digest) asked)
  pub by_command : (s : Registry) (c : Command) → IsFit (Order c) → refused limits s c ≡ None → R s (commanded s c)

module _ {limits : Limits} {R : Registry → Registry → Type 0} (kept : Kept limits R) where
  if_denied : (s : Registry) (d : Option Rule) (o : Outcome) → (d ≡ None → R s o.1) → R s (unless_denied s d o).1
  if_denied s (Some r) o h = kept.same s
  if_denied s None o h = h refl

  if_refused : (s : Registry) (g : Option AdminRefusal) (o : Outcome) → (g ≡ None → R s o.1) → R s (unless_refused s g o).1
  if_refused s (Some r) o h = kept.same s
  if_refused s None o h = h refl

  outcome_keeps : (s : Registry) (e : Event) → IsFit e → R s (outcome limits s e).1
  unfolding denied
  outcome_keeps s (Ask None asked) fit = kept.same s
  outcome_keeps s (Ask (Some d) asked) fit = if_denied s (denied limits s (Some d) asked) _ (kept.by_request s d asked fit)
  outcome_keeps s (Order c) fit = if_refused s (refused limits s c) _ (kept.by_command s c fit)

  pub step_keeps : (s t : Registry) (e : Event) (a : Answer) → IsFit e → Step limits s e a t → R s t
  step_keeps s t e a fit (inl h) = let P : Registry → Type 0 = λ r. R s r in subst P (sym h.1) (outcome_keeps s e fit)
  step_keeps s t e a fit (inr h) = let P : Registry → Type 0 = λ r. R s r in subst P (sym h.1) (kept.same s)

  pub run_keeps : (s t : Registry) (es : List Event) (xs : List Answer) → Run limits s es xs t → R s t
  run_keeps s t [] [] here = let P : Registry → Type 0 = λ r. R s r in subst P (sym here) (kept.same s)
  run_keeps s t [] (x ∷ xs) here = absurd here
  run_keeps s t (e ∷ es) [] here = absurd here
  run_keeps s t (e ∷ es) (x ∷ xs) (fit, (m, step, rest)) = kept.through s m t (step_keeps s m e x fit step) (run_keeps m t es xs rest)
