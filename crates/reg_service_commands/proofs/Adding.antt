-- Accounts and tokens that are added by a command.
use Rattle.reg_service_commands.proofs.Words.{◌≡◌, ◌∷◌, [], ◌||◌, ◌==◌, not, length, List, ℕ, zero, suc, Bool, true, false, Option, Some}
use Rattle.reg_service_commands.proofs.Words.{None, is_none, cond, ◌&&◌, ◌+◌, ◌-◌, arith, refl, sym, ap, subst, ◌∙◌, Vec, slice_get}
use Rattle.reg_service_commands.proofs.Words.{unwrap_or, Global, list_all, option_map, Trees, Limits, is_pattern, AdminRefusal, Answer}
use Rattle.reg_service_commands.proofs.Words.{Done, Refused, TokenAdd, TokenRevoke, UserAdd, Order, patterns_given, Registry, Text}
use Rattle.reg_service_commands.proofs.Words.{id_of_login, with_id, Outcome, outcome, unless_refused, reply_of, Account, AddsToken}
use Rattle.reg_service_commands.proofs.Words.{FindsAccount, FindsToken, Tells, Stands, HasOutcome, Reply, first_ground}
use Rattle.std.proofs.Common.{nat_le, nat_lt, is_some}
use Rattle.std.specs.Prelude.{Ok, Err}
use Rattle.std.proofs.lemmas.Bool.Decides.{nat_tests}
use Rattle.reg_names.specs.Logins.{is_login, login_of}
use Rattle.reg_names.specs.declared.endpoint.Endpoints.{Endpoints}
use Rattle.reg_model.specs.declared.rule.AdminRefusal.TheVariants as refusal
use Rattle.reg_model.specs.Changes.{with_token}
use Rattle.reg_model.specs.Effects.{commanded}
use Rattle.reg_model.specs.Events.Answer.{Id}
use Rattle.reg_model.specs.Refusals.{endpoints_named, is_endpoint, may_name, refused}
use Rattle.reg_model.specs.Registry.{token_of}
use Rattle.reg_policy.specs.declared.event.AdminReply.TheVariants as reply
use Rattle.reg_tables_represent.specs.Calls.{AddsAccount, Ends}
use Rattle.reg_tables_represent.specs.FoundTokens.{IsFound}
use Rattle.reg_tables_represent.specs.declared.tokens.TokenRows.{TokenRows}
use Rattle.reg_service_commands.specs.Orders.{IsScope, PutsToken, account_refusal, is_full_for, token_outcome, token_refusal}
use Rattle.reg_service_commands.proofs.Outcomes.{done_so, refused_so}

-- an account
pub is_login_so : (t : Text) → is_some (login_of t) ≡ is_login t
is_login_so t = by (is_login t)
  where
    by : (b : Bool) → is_some (cond b (Some t) None) ≡ b
    by true = refl
    by false = refl

has_login : (s : Registry) (login : Text) (found : Option Account) → option_map (λ a. a.id) found ≡ id_of_login s login → is_some (id_of_login s login) ≡ is_some found
has_login s login None e = ap is_some (sym e)
has_login s login (Some a) e = ap is_some (sym e)

pub is_taken : (limits : Limits) (login : Text) (db : Trees) (found : Option Account) → FindsAccount login db found → is_some found ≡ true → Tells (λ ids s. account_refusal limits login s ≡ Some refusal.G2) db
is_taken limits login db found finds is ids s h =
    ap (λ b. first_ground ((refusal.G2, b) ∷ (refusal.G7, nat_le limits.accounts (length s.accounts)) ∷ [])) (has_login s login found (finds ids s h).0 ∙ is)

pub is_counted : (limits : Limits) (login : Text) (db : Trees) (found : Option Account) (full : Bool) → FindsAccount login db found → is_some found ≡ false → Tells (λ ids s. full ≡ nat_le limits.accounts (length s.accounts)) db
    → Tells (λ ids s. account_refusal limits login s ≡ first_ground ((refusal.G7, full) ∷ [])) db
is_counted limits login db found full finds is counted ids s h =
    ap (λ b. first_ground ((refusal.G2, b) ∷ (refusal.G7, nat_le limits.accounts (length s.accounts)) ∷ [])) (has_login s login found (finds ids s h).0 ∙ is)
    ∙ ap (λ b. first_ground ((refusal.G7, b) ∷ [])) (sym (counted ids s h))

pub bad_account : (limits : Limits) (login : Text) (name : Option Text) (db : Trees) → not (is_login login && may_name name) ≡ true → HasOutcome limits (Order (UserAdd login name)) (Refused refusal.G1) db db
unfolding refused
bad_account limits login name db bad = refused_so limits (UserAdd login name) refusal.G1 db (λ ids s h.
    ap (λ b. first_ground ((refusal.G1, b) ∷ (refusal.G2, is_some (id_of_login s login)) ∷ (refusal.G7, nat_le limits.accounts (length s.accounts)) ∷ [])) bad)

good : (limits : Limits) (login : Text) (name : Option Text) (s : Registry) → not (is_login login && may_name name) ≡ false → refused limits s (UserAdd login name) ≡ account_refusal limits login s
unfolding refused
good limits login name s fine =
    ap (λ b. first_ground ((refusal.G1, b) ∷ (refusal.G2, is_some (id_of_login s login)) ∷ (refusal.G7, nat_le limits.accounts (length s.accounts)) ∷ [])) fine

pub account_refused : (limits : Limits) (login : Text) (name : Option Text) (g : AdminRefusal) (db : Trees) → not (is_login login && may_name name) ≡ false → Tells (λ ids s. account_refusal limits login s ≡ Some g) db → HasOutcome limits (Order (UserAdd login name)) (Refused g) db db
account_refused limits login name g db fine why = refused_so limits (UserAdd login name) g db (λ ids s h. good limits login name s fine ∙ why ids s h)

pub account_added : (limits : Limits) (login : Text) (name : Option Text) (id : ℕ) (old new : Trees) → not (is_login login && may_name name) ≡ false → Tells (λ ids s. account_refusal limits login s ≡ None) old → AddsAccount login name old new id → HasOutcome limits (Order (UserAdd login name)) Done old new
unfolding commanded
account_added limits login name id old new fine why adds = done_so limits (UserAdd login name) Done old new (λ ids s h.
    (good limits login name s fine ∙ why ids s h, refl, subst (λ t. Stands t new) (refl) (ids, (adds ids s h).1)))

-- a token
pub is_full_so : (limits : Limits) (digest : Text) (patterns : List Text) (db : Trees) → Tells (λ ids s. true ≡ is_full_for limits patterns s) db → Tells (λ ids s. token_refusal limits digest patterns s ≡ Some refusal.G7) db
is_full_so limits digest patterns db full ids s h = ap (λ b. first_ground ((refusal.G7, b) ∷ (refusal.G5, is_some (token_of s digest)) ∷ [])) (sym (full ids s h))

has_token : (s : Registry) (digest : Text) (found : Option TokenRows) → IsFound s digest found → is_some (token_of s digest) ≡ is_some found
has_token s digest None is = ap is_some is
has_token s digest (Some r) (patterns, is, at, of, scopes) = ap is_some is

pub is_known_so : (limits : Limits) (digest : Text) (patterns : List Text) (db : Trees) (found : Option TokenRows) → Tells (λ ids s. false ≡ is_full_for limits patterns s) db → FindsToken digest db found → Tells (λ ids s. token_refusal limits digest patterns s ≡ first_ground ((refusal.G5, is_some found) ∷ [])) db
is_known_so limits digest patterns db found room finds ids s h =
    ap (λ b. first_ground ((refusal.G7, b) ∷ (refusal.G5, is_some (token_of s digest)) ∷ [])) (sym (room ids s h))
    ∙ ap (λ b. first_ground ((refusal.G5, b) ∷ [])) (has_token s digest found (finds ids s h))

module _ (limits : Limits) (digest : Text) (account : ℕ) (endpoints : Endpoints) (patterns : List Text) where
  by : (s : Registry) (o : Option AdminRefusal) → token_refusal limits digest patterns s ≡ o → token_outcome limits digest account endpoints patterns s ≡ unless_refused s o (Id (length s.tokens + 1), with_token digest account endpoints patterns s)
  by s o e = ap (λ r. unless_refused s r (Id (length s.tokens + 1), with_token digest account endpoints patterns s)) e

  made : (s : Registry) (a : Answer) (o : Outcome) (new : Trees) → token_outcome limits digest account endpoints patterns s ≡ o → a ≡ o.0 → Stands o.1 new → (a ≡ (token_outcome limits digest account endpoints patterns s).0) × Stands (token_outcome limits digest account endpoints patterns s).1 new
  made s a o new e same stands = (same ∙ ap (λ it. it.0) (sym e), subst (λ (it : Outcome). Stands it.1 new) (sym e) stands)

  pub token_kept : (g : AdminRefusal) (db : Trees) → Tells (λ ids s. token_refusal limits digest patterns s ≡ Some g) db → PutsToken limits digest account endpoints patterns db db (Err g)
  token_kept g db why ids s h = made s (Refused g) (Refused g, s) db (by s (Some g) (why ids s h)) refl (ids, h.stands)

  pub token_put : (id : ℕ) (old new : Trees) → Tells (λ ids s. token_refusal limits digest patterns s ≡ None) old → AddsToken digest account endpoints patterns old new id → PutsToken limits digest account endpoints patterns old new (Ok (reply.Id id))
  token_put id old new why adds ids s h =
      let n : id ≡ length s.tokens + 1 = let it = (adds ids s h).0 in omega (arith, it) in
      made s (Id id) (Id (length s.tokens + 1), with_token digest account endpoints patterns s) new (by s None (why ids s h)) (ap (λ k. Id k) n) (ids, (adds ids s h).1)

module _ (limits : Limits) (login : Text) (words texts : List Text) (digest : Text) where
  abbrev of_login : Option ℕ → Registry → Option AdminRefusal
  of_login o s = first_ground ((refusal.G3, is_none o) ∷ (refusal.G9, length words == 0 || not (list_all is_endpoint words)) ∷ (refusal.G4, not (list_all is_pattern texts))
      ∷ (refusal.G7, is_full_for limits (patterns_given texts) s) ∷ (refusal.G5, is_some (token_of s digest)) ∷ [])

  pub no_account : (db : Trees) → FindsAccount login db None → HasOutcome limits (Order (TokenAdd login words texts digest)) (Refused refusal.G3) db db
  unfolding refused
  no_account db none = refused_so limits (TokenAdd login words texts digest) refusal.G3 db (λ ids s h. ap (λ o. of_login o s) (sym (none ids s h).0))

  first_of : (b c : Bool) (g : AdminRefusal) (more : List (AdminRefusal × Bool)) → first_ground ((refusal.G9, b) ∷ (refusal.G4, c) ∷ []) ≡ Some g → first_ground ((refusal.G9, b) ∷ (refusal.G4, c) ∷ more) ≡ Some g
  first_of true c g more e = e
  first_of false true g more e = e
  first_of false false g more e = absurd cc e

  pub bad_scope : (a : Account) (g : AdminRefusal) (db : Trees) → FindsAccount login db (Some a) → IsScope words texts (Err g) → HasOutcome limits (Order (TokenAdd login words texts digest)) (Refused g) db db
  unfolding refused
  bad_scope a g db found why = refused_so limits (TokenAdd login words texts digest) g db (λ ids s h.
      ap (λ o. of_login o s) (sym (found ids s h).0) ∙ first_of (length words == 0 || not (list_all is_endpoint words)) (not (list_all is_pattern texts)) g ((refusal.G7, is_full_for limits (patterns_given texts) s) ∷ (refusal.G5, is_some (token_of s digest)) ∷ []) why)

  pub token_added : (a : Account) (patterns : Vec Text Global) (old new : Trees) (r : Reply) → FindsAccount login old (Some a) → IsScope words texts (Ok patterns) → PutsToken limits digest a.id (endpoints_named words) patterns.items old new r → HasOutcome limits (Order (TokenAdd login words texts digest)) (reply_of r) old new
  unfolding refused commanded
  token_added a patterns old new r found is puts ids s h =
      let has = sym (found ids s h).0 in
      let e : refused limits s (TokenAdd login words texts digest) ≡ token_refusal limits digest patterns.items s =
      ap (λ o. of_login o s) has ∙ ap (λ b. first_ground ((refusal.G9, b) ∷ (refusal.G4, not (list_all is_pattern texts)) ∷ (refusal.G7, is_full_for limits (patterns_given texts) s) ∷ (refusal.G5, is_some (token_of s digest)) ∷ [])) is.0
      ∙ ap (λ b. first_ground ((refusal.G4, not b) ∷ (refusal.G7, is_full_for limits (patterns_given texts) s) ∷ (refusal.G5, is_some (token_of s digest)) ∷ [])) is.1
      ∙ ap (λ p. token_refusal limits digest p s) (sym is.2) in
      let same : token_outcome limits digest a.id (endpoints_named words) patterns.items s ≡ outcome limits s (Order (TokenAdd login words texts digest)) =
      ap (λ r. unless_refused s r (Id (length s.tokens + 1), with_token digest a.id (endpoints_named words) patterns.items s)) (sym e)
      ∙ ap (λ t. unless_refused s (refused limits s (TokenAdd login words texts digest)) (Id (length s.tokens + 1), t))
      (ap (λ p. with_token digest a.id (endpoints_named words) p s) is.2 ∙ (ap (λ o. with_token digest (unwrap_or o 0) (endpoints_named words) (patterns_given texts) s) (sym has))) in
      let it = puts ids s h in
      (it.0 ∙ ap (λ o. o.0) same, subst (λ (o : Outcome). Stands o.1 new) same it.1)

-- a token that is revoked
within : {X : Type 0} (xs : List X) (k : ℕ) → nat_le (suc k) (length xs) ≡ is_some (slice_get xs k)
within [] k = grind (arith, nat_tests)
within (x ∷ xs) zero = grind (arith, nat_tests)
within (x ∷ xs) (suc k) =
    let one : nat_le (suc (suc k)) (suc (length xs)) ≡ nat_le (suc k) (length xs) = grind (arith, nat_tests) in
    one ∙ within xs k

pub has_id : {X : Type 0} (xs : List X) (id n : ℕ) (b : Bool) → n ≡ length xs → b ≡ (nat_lt 0 id && nat_le id n) → b ≡ is_some (with_id xs id)
has_id xs zero n b same is = is
has_id xs (suc k) n b same is =
    let above : nat_lt 0 (suc k) ≡ true = grind (arith, nat_tests) in
    let apart : (suc k == 0) ≡ false = grind (arith, nat_tests) in
    let back : suc k - 1 ≡ k = omega arith in
    is ∙ ap (λ c. c && nat_le (suc k) n) above ∙ ap (nat_le (suc k)) same ∙ within xs k
    ∙ ap (λ i. is_some (slice_get xs i)) (sym back) ∙ ap (λ c. is_some (cond c None (slice_get xs (suc k - 1)))) (sym apart)

pub no_token : (limits : Limits) (id : ℕ) (db : Trees) → Tells (λ ids s. false ≡ is_some (with_id s.tokens id)) db → HasOutcome limits (Order (TokenRevoke id)) (Refused refusal.G6) db db
unfolding refused
no_token limits id db none = refused_so limits (TokenRevoke id) refusal.G6 db (λ ids s h. ap (λ b. first_ground ((refusal.G6, b) ∷ [])) (lacks (with_id s.tokens id) (none ids s h)))
  where
    lacks : {X : Type 0} (o : Option X) → false ≡ is_some o → is_none o ≡ true
    lacks None e = refl
    lacks (Some x) e = absurd cc e

pub revoked_now : (limits : Limits) (id : ℕ) (old new : Trees) → Tells (λ ids s. true ≡ is_some (with_id s.tokens id)) old → Ends id old new → HasOutcome limits (Order (TokenRevoke id)) Done old new
unfolding refused commanded
revoked_now limits id old new has ends = done_so limits (TokenRevoke id) Done old new (λ ids s h.
    (ap (λ b. first_ground ((refusal.G6, b) ∷ [])) (there (with_id s.tokens id) (has ids s h)), refl, subst (λ t. Stands t new) (refl) (ids, ends ids s h)))
  where
    there : {X : Type 0} (o : Option X) → true ≡ is_some o → is_none o ≡ false
    there None e = absurd cc e
    there (Some x) e = refl
