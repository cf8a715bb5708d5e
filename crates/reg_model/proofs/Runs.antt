-- Runs join, what is refused changes nothing, and steps agree.
use Rattle.reg_model.proofs.Words.{◌≡◌, ◌≢◌, ℕ, List, [], ◌∷◌, ◌++◌, Option, Some, None, inl, inr, refl, sym, ◌∙◌, subst, Rule}
use Rattle.reg_model.proofs.Words.{AdminRefusal, Limits, Registry, Asked, Command, Event, Answer, Malformed, Read, Index, Download, ListOwners}
use Rattle.reg_model.proofs.Words.{Publish, Yank, Unyank, AddOwners, RemoveOwners, UserAdd, UserDisable, UserEnable, TokenAdd, TokenRevoke}
use Rattle.reg_model.proofs.Words.{Reserve, Unreserve, OwnerAdd, Access, Users, Tokens, Crates, CrateRestrict, CrateOpen, ReaderAdd}
use Rattle.reg_model.proofs.Words.{ReaderRemove, Config, Search, Ask, Order, Denied, Refused, served, caller, replied, Step, Run, IsFit}
use Rattle.reg_model.proofs.Words.{unavailable, Outcome, unless_denied, unless_refused}
use Rattle.reg_model.specs.Refusals.{denied, refused}
use Rattle.reg_model.specs.Effects.{done}

pub step_runs : (limits : Limits) (s t : Registry) (e : Event) (a : Answer) → IsFit e → Step limits s e a t → Run limits s (e ∷ []) (a ∷ []) t
step_runs limits s t e a fit step = (fit, (t, step, refl))

pub runs_join : (limits : Limits) (s m t : Registry) (es fs : List Event) (xs ys : List Answer) → Run limits s es xs m → Run limits m fs ys t → Run limits s (es ++ fs) (xs ++ ys) t
runs_join limits s m t [] fs [] ys here after = let P : Registry → Type 0 = λ r. Run limits r fs ys t in subst P here after
runs_join limits s m t [] fs (x ∷ xs) ys here after = absurd here
runs_join limits s m t (e ∷ es) fs [] ys here after = absurd here
runs_join limits s m t (e ∷ es) fs (x ∷ xs) ys (fit, (k, step, rest)) after = (fit, (k, step, runs_join limits k m t es fs xs ys rest after))

-- where a refusal is served, nothing is done
served_denial : (s : Registry) (who : Option ℕ) (k : ℕ) (asked : Asked) (r : Rule) → Denied r ≡ served s who asked → done s k asked ≡ s
unfolding done
served_denial s who k (Malformed q) r e = refl
served_denial s who k (Read Config) r e = cc
served_denial s who k (Read (Search q m)) r e = cc
served_denial s who k (Index p) r e = cc
served_denial s who k (Download n v) r e = cc
served_denial s who k (ListOwners n) r e = cc
served_denial s who k (Publish p) r e = cc
served_denial s who k (Yank n v) r e = cc
served_denial s who k (Unyank n v) r e = cc
served_denial s who k (AddOwners n l) r e = cc
served_denial s who k (RemoveOwners n l) r e = cc

served_refusal : (s : Registry) (who : Option ℕ) (asked : Asked) (g : AdminRefusal) → Refused g ≢ served s who asked
served_refusal s who (Malformed q) g e = cc
served_refusal s who (Read Config) g e = cc
served_refusal s who (Read (Search q m)) g e = cc
served_refusal s who (Index p) g e = cc
served_refusal s who (Download n v) g e = cc
served_refusal s who (ListOwners n) g e = cc
served_refusal s who (Publish p) g e = cc
served_refusal s who (Yank n v) g e = cc
served_refusal s who (Unyank n v) g e = cc
served_refusal s who (AddOwners n l) g e = cc
served_refusal s who (RemoveOwners n l) g e = cc

replied_denial : (s : Registry) (c : Command) (r : Rule) → Denied r ≢ replied s c
replied_denial s (UserAdd l n) r e = cc
replied_denial s (UserDisable l) r e = cc
replied_denial s (UserEnable l) r e = cc
replied_denial s (TokenAdd l w p d) r e = cc
replied_denial s (TokenRevoke i) r e = cc
replied_denial s (Reserve n) r e = cc
replied_denial s (Unreserve n) r e = cc
replied_denial s (OwnerAdd n l) r e = cc
replied_denial s (Access n) r e = cc
replied_denial s Users r e = cc
replied_denial s Tokens r e = cc
replied_denial s Crates r e = cc
replied_denial s (CrateRestrict n) r e = cc
replied_denial s (CrateOpen n) r e = cc
replied_denial s (ReaderAdd n l) r e = cc
replied_denial s (ReaderRemove n l) r e = cc

replied_refusal : (s : Registry) (c : Command) (g : AdminRefusal) → Refused g ≢ replied s c
replied_refusal s (UserAdd l n) r e = cc
replied_refusal s (UserDisable l) r e = cc
replied_refusal s (UserEnable l) r e = cc
replied_refusal s (TokenAdd l w p d) r e = cc
replied_refusal s (TokenRevoke i) r e = cc
replied_refusal s (Reserve n) r e = cc
replied_refusal s (Unreserve n) r e = cc
replied_refusal s (OwnerAdd n l) r e = cc
replied_refusal s (Access n) r e = cc
replied_refusal s Users r e = cc
replied_refusal s Tokens r e = cc
replied_refusal s Crates r e = cc
replied_refusal s (CrateRestrict n) r e = cc
replied_refusal s (CrateOpen n) r e = cc
replied_refusal s (ReaderAdd n l) r e = cc
replied_refusal s (ReaderRemove n l) r e = cc

-- an answer that only an outcome without effect gives
unless_denied_keeps : (s t : Registry) (a : Answer) (d : Option Rule) (o : Outcome) → (a ≡ o.0 → o.1 ≡ s) → a ≡ (unless_denied s d o).0 → t ≡ (unless_denied s d o).1 → t ≡ s
unless_denied_keeps s t a (Some q) o same e f = f
unless_denied_keeps s t a None o same e f = f ∙ same e

unless_refused_keeps : (s t : Registry) (a : Answer) (d : Option AdminRefusal) (o : Outcome) → (a ≡ o.0 → o.1 ≡ s) → a ≡ (unless_refused s d o).0 → t ≡ (unless_refused s d o).1 → t ≡ s
unless_refused_keeps s t a (Some q) o same e f = f
unless_refused_keeps s t a None o same e f = f ∙ same e

pub denials_keep : (limits : Limits) (s t : Registry) (e : Event) (r : Rule) → Step limits s e (Denied r) t → t ≡ s
denials_keep limits s t e r (inr h) = h.1
denials_keep limits s t (Ask d asked) r (inl h) = unless_denied_keeps s t (Denied r) (denied limits s d asked) _ (served_denial s (caller s d) _ asked r) h.0 h.1
denials_keep limits s t (Order c) r (inl h) = unless_refused_keeps s t (Denied r) (refused limits s c) _ (λ e. absurd (replied_denial s c r e)) h.0 h.1

pub refusals_keep : (limits : Limits) (s t : Registry) (e : Event) (g : AdminRefusal) → Step limits s e (Refused g) t → t ≡ s
refusals_keep limits s t e g (inr h) = h.1
refusals_keep limits s t (Ask d asked) g (inl h) = unless_denied_keeps s t (Refused g) (denied limits s d asked) _ (λ e. absurd (served_refusal s (caller s d) asked g e)) h.0 h.1
refusals_keep limits s t (Order c) g (inl h) = unless_refused_keeps s t (Refused g) (refused limits s c) _ (λ e. absurd (replied_refusal s c g e)) h.0 h.1

pub steps_agree : (limits : Limits) (s t u : Registry) (e : Event) (a b : Answer) → Step limits s e a t → Step limits s e b u → a ≢ unavailable e → b ≢ unavailable e → (a ≡ b) × (t ≡ u)
steps_agree limits s t u e a b (inl h) (inl k) na nb = (h.0 ∙ sym k.0, h.1 ∙ sym k.1)
steps_agree limits s t u e a b (inr h) k na nb = absurd (na h.0)
steps_agree limits s t u e a b (inl h) (inr k) na nb = absurd (nb k.0)
