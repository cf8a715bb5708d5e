-- A refusal or an effect makes a step.
use Rattle.reg_reference.proofs.Words.{◌≡◌, ℕ, List, [], ◌∷◌, ◌++◌, Bool, true, false, cond, Option, Some, None, inr, refl, sym, ◌∙◌, ap}
use Rattle.reg_reference.proofs.Words.{◌&&◌, is_none, is_some, not, nat_le, OnOk, Result, Ok, Err, find, option_map, Limits, Rule}
use Rattle.reg_reference.proofs.Words.{AdminRefusal, canon, is_name, G3, G8, Text, Publication, Registry, id_of_login, exists, Command}
use Rattle.reg_reference.proofs.Words.{Order, judged, grounds, account_of, replied, Step, AdminReply, reply_of, crate_found, login_found}
use Rattle.std.proofs.Common.{zero, suc, inl, subst}
use Rattle.std.specs.Prelude.{◌<◌, ◌⊎◌}
use Rattle.std.specs.Result.{IsErrAnd}
use Rattle.std.specs.List.{filter_map, cons_option}
use Rattle.std.specs.FinSet as finset
use Rattle.std.proofs.lemmas.Bool.{lt-leb}
use Rattle.reg_model.specs.declared.rule.Rule.TheVariants as rule
use Rattle.reg_model.specs.Registry.{Account, owner_cmp, change_at}
use Rattle.reg_model.specs.Crates.{viewer}
use Rattle.reg_model.specs.Events.{Asked, Answer, action_of, fault_of}
use Rattle.reg_model.specs.Events.Asked.{Malformed, Read, Index, Download, ListOwners, Publish, Yank, Unyank, AddOwners, RemoveOwners}
use Rattle.reg_model.specs.Events.Event.{Ask}
use Rattle.reg_model.specs.Events.Answer.{Denied, Refused}
use Rattle.reg_model.specs.Refusals.{denied, no_crate, no_login, or_else, refused}
use Rattle.reg_model.specs.Effects.{served, done, commanded, enable}
use Rattle.reg_model.specs.Steps.{unless_denied, unless_refused}
use Rattle.reg_policy.specs.declared.action.Decision.TheVariants.{Allowed, Denied as DeniedBy}
use Rattle.reg_policy.specs.Events.{decision_alone}
use Rattle.reg_policy.specs.Views.{decision_of}
use Rattle.reg_reference.specs.Plain.{PlainStep, both_found, or_unknown}

-- the ground at this place refuses, and those before it do not
abbrev pub Refuses : ℕ → AdminRefusal → List (AdminRefusal × Bool) → Type 0
Refuses k g [] = ⊥
Refuses zero g (h ∷ hs) = (h.0 ≡ g) × (h.1 ≡ true)
Refuses (suc k) g (h ∷ hs) = (h.1 ≡ false) × Refuses k g hs

-- no ground refuses
abbrev pub Free : List (AdminRefusal × Bool) → Type 0
Free [] = Unit {0}
Free (h ∷ hs) = (h.1 ≡ false) × Free hs

past : (h : AdminRefusal × Bool) (hs : List (AdminRefusal × Bool)) (r : Option AdminRefusal) → h.1 ≡ false → option_map (λ g. g.0) (find (λ g. g.1) hs) ≡ r → option_map (λ g. g.0) (find (λ g. g.1) (h ∷ hs)) ≡ r
past h hs r e k = ap (λ b. option_map (λ g. g.0) (cond b (Some h) (find (λ g. g.1) hs))) e ∙ k

refuses : (k : ℕ) (g : AdminRefusal) (hs : List (AdminRefusal × Bool)) → Refuses k g hs → option_map (λ g. g.0) (find (λ g. g.1) hs) ≡ Some g
refuses k g [] e = absurd e
refuses zero g (h ∷ hs) e = ap (λ b. option_map (λ g. g.0) (cond b (Some h) (find (λ g. g.1) hs))) e.1 ∙ ap (λ r. Some r) e.0
refuses (suc k) g (h ∷ hs) e = past h hs (Some g) e.0 (refuses k g hs e.1)

free : (hs : List (AdminRefusal × Bool)) → Free hs → option_map (λ g. g.0) (find (λ g. g.1) hs) ≡ None
free [] e = refl
free (h ∷ hs) e = past h hs None e.0 (free hs e.1)

module _ (limits : Limits) (s t : Registry) (c : Command) (a : Answer) where
  pub refused_step : (k : ℕ) (g : AdminRefusal) → Refuses k g (grounds limits s c) → a ≡ Refused g → t ≡ s → Step limits s (Order c) a t
  unfolding refused
  refused_step k g e answer same =
      let o = ap (λ r. unless_refused s r (replied s c, commanded s c)) (refuses k g (grounds limits s c) e) in
      inl (answer ∙ ap (λ p. p.0) (sym o), same ∙ ap (λ p. p.1) (sym o))

  pub done_step : Free (grounds limits s c) → a ≡ replied s c → t ≡ commanded s c → Step limits s (Order c) a t
  unfolding refused
  done_step e answer after =
      let o = ap (λ r. unless_refused s r (replied s c, commanded s c)) (free (grounds limits s c) e) in
      inl (answer ∙ ap (λ p. p.0) (sym o), after ∙ ap (λ p. p.1) (sym o))

-- what a text that is read says of its test
pub read_none : {X : Type 0} (b : Bool) (x : X) → None ≡ cond b (Some x) None → b ≡ false
read_none true x e = cc
read_none false x e = refl

pub read_some : {X : Type 0} (b : Bool) (x y : X) → Some y ≡ cond b (Some x) None → (b ≡ true) × (y ≡ x)
read_some true x y e = (refl, cc)
read_some false x y e = cc

-- the accounts where the one of a login is enabled or not
pub enabled_at : (b : Bool) (s : Registry) (login : Text) (id : ℕ) (accounts : List Account) → id_of_login s login ≡ Some id → accounts ≡ change_at (λ a. record a { enabled = b }) id s.accounts → accounts ≡ enable b (id_of_login s login) s.accounts
enabled_at b s login id accounts e k = k ∙ ap (λ o. enable b o s.accounts) (sym e)

pub none_of_not_some : {X : Type 0} (o : Option X) (b : Bool) → is_some o ≡ b → is_none o ≡ not b
none_of_not_some None b e = ap not e
none_of_not_some (Some x) b e = ap not e

pub ids_of_one : (f : Text → Option ℕ) (login : Text) (id : ℕ) → f login ≡ Some id → filter_map f (login ∷ []) ≡ id ∷ []
ids_of_one f login id e = ap (λ o. cons_option o []) e

pub is_more : (a b : ℕ) → b < a → nat_le a b ≡ false
is_more a b h = lt-leb a b h

pub is_some_mapped : {X Y : Type 0} (f : X → Y) (o : Option X) → is_some (option_map f o) ≡ is_some o
is_some_mapped f None = refl
is_some_mapped f (Some x) = refl

-- a publication of a crate that is there, and the first one of a crate
module _ (s : Registry) (id : ℕ) (p : Publication) (pubs : List Publication) (more : pubs ≡ s.publications ++ p ∷ []) where
  pub published_known : exists s p.name ≡ true → record s { publications = pubs } ≡ done s id (Publish p)
  unfolding done
  published_known known =
      let o = ap (λ b. cond b s.owners (finset.insert s.owners (canon p.name, id))) (sym known) in
      λ i. record s { publications = more i; owners = o i }

  pub published_new : (owners : finset.FinSet owner_cmp) → exists s p.name ≡ false → owners ≡ finset.insert s.owners (canon p.name, id) → record s { publications = pubs; owners = owners } ≡ done s id (Publish p)
  unfolding done
  published_new owners fresh put =
      let o = put ∙ ap (λ b. cond b s.owners (finset.insert s.owners (canon p.name, id))) (sym fresh) in
      λ i. record s { publications = more i; owners = o i }

-- back from a decision to the verdict
pub none_of : (v : Option Rule) → Allowed ≡ decision_of v → v ≡ None
none_of None e = refl
none_of (Some r) e = cc

pub some_of : (v : Option Rule) (r : Rule) → DeniedBy r ≡ decision_of v → v ≡ Some r
some_of None r e = cc
some_of (Some q) r e = cc

-- what a faulty request is served is what it is denied by
by_fault : (s : Registry) (who : Option ℕ) (k : ℕ) (asked : Asked) → unless_denied s (fault_of asked) (served s who asked, done s k asked) ≡ (served s who asked, done s k asked)
unfolding done
by_fault s who k (Malformed r) = refl
by_fault s who k (Read w) = refl
by_fault s who k (Index path) = refl
by_fault s who k (Download n v) = refl
by_fault s who k (ListOwners n) = refl
by_fault s who k (Publish p) = refl
by_fault s who k (Yank n v) = refl
by_fault s who k (Unyank n v) = refl
by_fault s who k (AddOwners n logins) = refl
by_fault s who k (RemoveOwners n logins) = refl

module _ (limits : Limits) (s t : Registry) (d : Text) (asked : Asked) (a : Answer) where
  pub denied_step : (r : Rule) → judged limits s d (action_of asked) ≡ Some r → a ≡ Denied r → t ≡ s → PlainStep limits s (Ask (Some d) asked) a t
  unfolding denied
  denied_step r e answer same =
      let o = ap (λ q. unless_denied s (or_else q (fault_of asked)) (served s (viewer s d) asked, done s (account_of s d) asked)) e in
      (Denied r, inl (ap (λ p. p.0) (sym o), same ∙ ap (λ p. p.1) (sym o)), answer)

  pub allowed_step : judged limits s d (action_of asked) ≡ None → a ≡ decision_alone (served s (viewer s d) asked) → t ≡ done s (account_of s d) asked → PlainStep limits s (Ask (Some d) asked) a t
  unfolding denied
  allowed_step e answer after =
      let o = ap (λ q. unless_denied s (or_else q (fault_of asked)) (served s (viewer s d) asked, done s (account_of s d) asked)) e ∙ by_fault s (viewer s d) (account_of s d) asked in
      (served s (viewer s d) asked, inl (ap (λ p. p.0) (sym o), after ∙ ap (λ p. p.1) (sym o)), answer)

-- a request that no room is left for
pub no_room_step : (limits : Limits) (s t : Registry) (o : Option Text) (asked : Asked) → t ≡ s → PlainStep limits s (Ask o asked) (Denied rule.S1) t
no_room_step limits s t o asked same = (Denied rule.S1, inr (refl, same), refl)

-- what holds anyway holds where there is room
pub if_ok : {X E P : Type 0} (r : Result X E) → P → OnOk r P
if_ok (Ok x) p = p
if_ok (Err e) p = tt

pub no_token_step : (limits : Limits) (s : Registry) (o : Option Text) (asked : Asked) → o ≡ None → PlainStep limits s (Ask o asked) (Denied rule.A1) s
unfolding denied
no_token_step limits s None asked e = (Denied rule.A1, inl (refl, refl), refl)
no_token_step limits s (Some d) asked e = cc

pub with_token : (limits : Limits) (s t : Registry) (o : Option Text) (d : Text) (asked : Asked) (a : Answer) → o ≡ Some d → PlainStep limits s (Ask (Some d) asked) a t → PlainStep limits s (Ask o asked) a t
with_token limits s t o d asked a e step = let P : Option Text → Type 0 = λ q. PlainStep limits s (Ask q asked) a t in subst P (sym e) step

-- what the crate that is found, and the account, say of the grounds
pub login_there : (o : Option ℕ) (id : ℕ) → Ok id ≡ or_unknown o → o ≡ Some id
login_there None id e = cc
login_there (Some k) id e = cc

pub no_login_there : (o : Option ℕ) (g : AdminRefusal) → Err g ≡ or_unknown o → (g ≡ G3) × (is_none o ≡ true)
no_login_there None g e = (cc, refl)
no_login_there (Some k) g e = cc

crate_at : (b : Bool) (n m : Text) → Ok m ≡ cond b (Ok n) (Err G8) → (m ≡ n) × (not b ≡ false)
crate_at true n m e = (cc, refl)
crate_at false n m e = cc

no_crate_at : (b : Bool) (n : Text) (g : AdminRefusal) → Err g ≡ cond b (Ok n) (Err G8) → (g ≡ G8) × (not b ≡ true)
no_crate_at true n g e = cc
no_crate_at false n g e = (cc, refl)

pub crate_there : (s : Registry) (n m : Text) → Ok m ≡ crate_found s n → (m ≡ n) × (not (is_name n && exists s n) ≡ false)
crate_there s n m e = crate_at (is_name n && exists s n) n m e

pub no_crate_there : (s : Registry) (n : Text) (g : AdminRefusal) → Err g ≡ crate_found s n → (g ≡ G8) × (not (is_name n && exists s n) ≡ true)
no_crate_there s n g e = no_crate_at (is_name n && exists s n) n g e

abbrev crate_in : Result (Text × ℕ) AdminRefusal → Result Text AdminRefusal
crate_in (Ok both) = Ok both.0
crate_in (Err g) = Err g

abbrev account_in : Result (Text × ℕ) AdminRefusal → Result ℕ AdminRefusal
account_in (Ok both) = Ok both.1
account_in (Err g) = Err g

pub both_there : (c : Result Text AdminRefusal) (a : Result ℕ AdminRefusal) (n : Text) (id : ℕ) → Ok (n, id) ≡ both_found c a → (Ok n ≡ c) × (Ok id ≡ a)
both_there (Ok m) (Ok k) n id e = (ap crate_in e, ap account_in e)
both_there (Ok m) (Err g) n id e = cc
both_there (Err g) a n id e = cc

not_both : (c : Result Text AdminRefusal) (a : Result ℕ AdminRefusal) (g : AdminRefusal) → Err g ≡ both_found c a → (Err g ≡ c) ⊎ ((n : Text) × (Ok n ≡ c) × (Err g ≡ a))
not_both (Ok n) (Ok id) g e = cc
not_both (Ok n) (Err h) g e = inr (n, refl, cc)
not_both (Err h) a g e = inl cc

-- a refusal that is passed on
pub told : (r : Result AdminReply AdminRefusal) (g h : AdminRefusal) → IsErrAnd r (λ e. e ≡ g) → g ≡ h → reply_of r ≡ Refused h
told (Ok x) g h is e = absurd is
told (Err f) g h is e = ap Refused (is ∙ e)

-- a command that is about a crate, and an account, is refused where they are not there
module _ (limits : Limits) (s : Registry) (c : Command) (n : Text) (rest : List (AdminRefusal × Bool)) (about : grounds limits s c ≡ no_crate s n ∷ rest) (r : Result AdminReply AdminRefusal) (g : AdminRefusal) (is : IsErrAnd r (λ e. e ≡ g)) where
  pub no_crate_step : Err g ≡ crate_found s n → Step limits s (Order c) (reply_of r) s
  no_crate_step e =
      let no = no_crate_there s n g e in
      refused_step limits s s c (reply_of r) 0 G8 (subst (Refuses 0 G8) (sym about) (refl, no.1)) (told r g G8 is no.0) refl

  pub no_account_step : (login m : Text) (more : List (AdminRefusal × Bool)) → rest ≡ no_login s login ∷ more → Ok m ≡ crate_found s n → Err g ≡ or_unknown (id_of_login s login) → Step limits s (Order c) (reply_of r) s
  no_account_step login m more then there e =
      let no = no_login_there (id_of_login s login) g e in
      let these = about ∙ ap (λ l. no_crate s n ∷ l) then in
      refused_step limits s s c (reply_of r) 1 G3 (subst (Refuses 1 G3) (sym these) ((crate_there s n m there).1, (refl, no.1))) (told r g G3 is no.0) refl

  pub no_pair_step : (login : Text) (more : List (AdminRefusal × Bool)) → rest ≡ no_login s login ∷ more → Err g ≡ both_found (crate_found s n) (login_found s login) → Step limits s (Order c) (reply_of r) s
  no_pair_step login more then e = by (not_both (crate_found s n) (login_found s login) g e)
    where
      by : (Err g ≡ crate_found s n) ⊎ ((m : Text) × (Ok m ≡ crate_found s n) × (Err g ≡ login_found s login)) → Step limits s (Order c) (reply_of r) s
      by (inl f) = no_crate_step f
      by (inr p) = no_account_step login p.0 more then p.1 p.2
