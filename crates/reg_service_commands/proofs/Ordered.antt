-- From the words for what a command changes to what is told of it.
use Rattle.reg_service_commands.proofs.Words.{◌≡◌, ℕ, List, [], ◌∷◌, Bool, true, false, cond, not, Option, Some, None, Result, Ok, Err}
use Rattle.reg_service_commands.proofs.Words.{is_none, refl, sym, ap, subst, ◌∙◌, Vec, codes, string_bytes, unwrap_or, Global, decimal}
use Rattle.reg_service_commands.proofs.Words.{cons_option, list_all, option_map, Trees, Limits, canon, name_of, is_pattern, AdminRefusal}
use Rattle.reg_service_commands.proofs.Words.{is_reserved_always, Command, Done, Refused, Access, CrateOpen, CrateRestrict, Crates}
use Rattle.reg_service_commands.proofs.Words.{OwnerAdd, ReaderAdd, ReaderRemove, Reserve, TokenAdd, TokenRevoke, Tokens, Unreserve, UserAdd}
use Rattle.reg_service_commands.proofs.Words.{UserDisable, UserEnable, Users, Order, patterns_given, Registry, Text, id_of_login, with_id}
use Rattle.reg_service_commands.proofs.Words.{with_commas, command_words, line_of, name_words, unless_some, AdminReply, reply_of, Account}
use Rattle.reg_service_commands.proofs.Words.{Crate, FindsAccount, Tells, TellsLive, FindsNamed, line_if, is_given, FindsPair, HasOutcome}
use Rattle.reg_service_commands.proofs.Words.{enabling, restricting, IsDoneTold, enabled_word, restricted_word, TracedOrder}
use Rattle.std.specs.Prelude.{◌&&◌, ◌||◌, is_some}
use Rattle.std.specs.FinSet as finset
use Rattle.reg_model.specs.Crates.{is_restricted}
use Rattle.reg_model.specs.Refusals.{refused}
use Rattle.reg_model.specs.Registry.{Token, holds, ids_of, is_enabled, is_known}
use Rattle.reg_model.specs.Trail.{line, only_if, spelled, unless}
use Rattle.reg_tables_sql.specs.declared.pairs.Relation.{Relation}
use Rattle.reg_tables_sql.specs.declared.pairs.Relation.TheVariants.{Owners, Readers}
use Rattle.reg_tables_represent.specs.Calls.{TellsOtherSight, TellsPair, TellsReserved}
use Rattle.reg_tables_represent.specs.Relations.{related}
use Rattle.reg_access.proofs.GrantLaw.{first_canon}
use Rattle.reg_service_steps.specs.Telling.{differs}
use Rattle.reg_service_steps.proofs.Afterwards.{none_told, told_if}
use Rattle.reg_service_commands.specs.Telling.{OrdersTold}
use Rattle.reg_service_commands.proofs.AnswerLines.{refused_untold}

-- what is so, by whether it has yet to become so
was : (is wanted : Bool) → cond (differs is wanted) (not wanted) wanted ≡ is
was true true = refl
was true false = refl
was false true = refl
was false false = refl

pub differed : (is wanted b : Bool) → b ≡ differs is wanted → is ≡ cond b (not wanted) wanted
differed is wanted b e = sym (ap (λ x. cond x (not wanted) wanted) e ∙ was is wanted)

-- these are the words for what a command changes that nothing refuses
abbrev pub Orders : Limits → Command → Trees → Option (List Text) → Type 0
Orders limits c db words = Tells (λ ids s. refused limits s c ≡ None → command_words s c ≡ words) db

abbrev by_admin : List Text → Text
by_admin words = line_of (codes "-" ∷ codes "admin" ∷ words)

order_line : (limits : Limits) (s : Registry) (c : Command) → refused limits s c ≡ None → line limits s (Order c) ≡ option_map by_admin (command_words s c)
unfolding line
order_line limits s c ok = ap (λ o. option_map by_admin (unless_some o (command_words s c))) ok

in_line_if : (b : Bool) (words : List Text) → option_map by_admin (only_if b words) ≡ line_if b (codes "-" ∷ codes "admin" ∷ words)
in_line_if true words = refl
in_line_if false words = refl

module _ (traced : Bool) (limits : Limits) (c : Command) (old new : Trees) (it : TracedOrder) where
  -- it was answered so, and its line is told, if one is wanted
  pub told_so : (changed wanted : Bool) (words : List Text) → HasOutcome limits (Order c) (reply_of it.answer) old new → Orders limits c old (only_if changed words) → wanted ≡ (traced && changed)
      → option_map string_bytes it.line ≡ line_if wanted (codes "-" ∷ codes "admin" ∷ words) → OrdersTold traced limits c old new it
  told_so changed wanted words has orders is told = (
    has,
    told_if traced changed wanted limits (Order c) old (codes "-" ∷ codes "admin" ∷ words) it.line is told (λ ids s h ok. order_line limits s c ok ∙ ap (option_map by_admin) (orders ids s h ok) ∙ in_line_if changed words),
  )

  -- it was done
  pub done_told : (changed wanted : Bool) (words : List Text) → IsDoneTold wanted (codes "-" ∷ codes "admin" ∷ words) it → HasOutcome limits (Order c) Done old new → Orders limits c old (only_if changed words) → wanted ≡ (traced && changed)
      → OrdersTold traced limits c old new it
  done_told changed wanted words done has orders is = told_so changed wanted words (subst (λ a. HasOutcome limits (Order c) (reply_of a) old new) (sym done.0) has) orders is done.1

  -- it changed nothing, and has no line
  pub unchanged_told : (reply : Result AdminReply AdminRefusal) → it.answer ≡ reply → it.line ≡ None → HasOutcome limits (Order c) (reply_of reply) old new → Orders limits c old None → OrdersTold traced limits c old new it
  unchanged_told reply answer none has orders = (
    subst (λ a. HasOutcome limits (Order c) (reply_of a) old new) (sym answer) has,
    none_told traced limits (Order c) old it.line none (λ ids s h ok. order_line limits s c ok ∙ ap (option_map by_admin) (orders ids s h ok)),
  )

  -- it was refused
  pub refusal_told : (g : AdminRefusal) → it.answer ≡ Err g → it.line ≡ None → HasOutcome limits (Order c) (Refused g) old new → OrdersTold traced limits c old new it
  refusal_told g answer none has = (
    subst (λ a. HasOutcome limits (Order c) (reply_of a) old new) (sym answer) has,
    none_told traced limits (Order c) old it.line none (λ ids s h ok. refused_untold limits s c g (has ids s h).0),
  )

unless_not : (b : Bool) (words : List Text) → unless (not b) words ≡ only_if b words
unless_not true words = refl
unless_not false words = refl

-- accounts
pub user_words : (limits : Limits) (login : Text) (name : Option Text) (db : Trees) → Orders limits (UserAdd login name) db (Some (codes "user-add" ∷ login ∷ name_words name))
user_words limits login name db = λ ids s h ok. refl

known_words : (b other k : Bool) (s : Registry) (login : Text) → is_known s login ≡ k → k ≡ cond other (not b) b → command_words s (enabling b login) ≡ only_if other (enabled_word b ∷ login ∷ [])
known_words true true k s login e f = ap (λ x. unless x (enabled_word true ∷ login ∷ [])) (e ∙ f)
known_words true false k s login e f = ap (λ x. unless x (enabled_word true ∷ login ∷ [])) (e ∙ f)
known_words false true k s login e f = ap (λ x. only_if x (enabled_word false ∷ login ∷ [])) (e ∙ f)
known_words false false k s login e f = ap (λ x. only_if x (enabled_word false ∷ login ∷ [])) (e ∙ f)

pub enabled_words : (limits : Limits) (b other : Bool) (login : Text) (a : Account) (db : Trees) → FindsAccount login db (Some a) → a.enabled ≡ cond other (not b) b → Orders limits (enabling b login) db (only_if other (enabled_word b ∷ login ∷ []))
enabled_words limits b other login a db finds e = λ ids s h ok.
    let f = finds ids s h in
    known_words b other a.enabled s login (ap (holds (is_enabled s)) (sym f.0) ∙ ap (holds (λ x. x.enabled)) f.1) e

-- tokens
pub token_words : (limits : Limits) (login : Text) (words texts given : List Text) (digest : Text) (db : Trees) → given ≡ patterns_given texts → Orders limits (TokenAdd login words texts digest) db
    (Some (codes "token-add" ∷ login ∷ codes "--endpoints" ∷ with_commas words ∷ codes "--patterns" ∷ with_commas given ∷ []))
token_words limits login words texts given digest db e = λ ids s h ok.
    ap (λ ps. Some (codes "token-add" ∷ login ∷ codes "--endpoints" ∷ with_commas words ∷ codes "--patterns" ∷ with_commas ps ∷ [])) (sym e)

given_so : (b : Bool) (ps : List Text) (given : Vec Text Global) → Some given.items ≡ cond b (Some ps) None → given.items ≡ ps
given_so true ps given e = cc
given_so false ps given e = absurd cc

pub given_are : (texts : List Text) (given : Vec Text Global) → Some given.items ≡ cond (list_all is_pattern texts) (Some (patterns_given texts)) None → given.items ≡ patterns_given texts
given_are texts given e = given_so (list_all is_pattern texts) (patterns_given texts) given e

none_so : (b : Bool) (ps : List Text) → None ≡ cond b (Some ps) None → b ≡ false
none_so true ps e = absurd cc
none_so false ps e = refl

pub none_given : (texts : List Text) → None ≡ cond (list_all is_pattern texts) (Some (patterns_given texts)) None → list_all is_pattern texts ≡ false
none_given texts e = none_so (list_all is_pattern texts) (patterns_given texts) e

live_is : (o : Option Token) (found : Option Bool) → found ≡ option_map (λ t. t.live) o → holds (λ t. t.live) o ≡ unwrap_or found false
live_is None found e = ap (λ f. unwrap_or f false) (sym e)
live_is (Some t) found e = ap (λ f. unwrap_or f false) (sym e)

pub revoke_words : (limits : Limits) (id : ℕ) (live : Bool) (db : Trees) → TellsLive id db (Some live) → Orders limits (TokenRevoke id) db (only_if live (codes "token-revoke" ∷ decimal id ∷ []))
revoke_words limits id live db tells = λ ids s h ok.
    ap (λ x. only_if x (codes "token-revoke" ∷ decimal id ∷ [])) (live_is (with_id s.tokens id) (Some live) (tells ids s h))

-- whether it is there at all
pub live_there : (id : ℕ) (db : Trees) (found : Option Bool) → TellsLive id db found → Tells (λ ids s. is_some found ≡ is_some (with_id s.tokens id)) db
live_there id db found tells ids s h = ap is_some (tells ids s h) ∙ by (with_id s.tokens id)
  where
    by : (o : Option Token) → is_some (option_map (λ (t : Token). t.live) o) ≡ is_some o
    by None = refl
    by (Some t) = refl

-- reports
abbrev pub is_report : Command → Bool
is_report (Access n) = true
is_report Users = true
is_report Tokens = true
is_report Crates = true
is_report _ = false

pub report_words : (limits : Limits) (c : Command) (db : Trees) → is_report c ≡ true → Orders limits c db None
report_words limits (Access n) db e = λ ids s h ok. refl
report_words limits Users db e = λ ids s h ok. refl
report_words limits Tokens db e = λ ids s h ok. refl
report_words limits Crates db e = λ ids s h ok. refl
report_words limits (UserAdd a b) db e = absurd cc
report_words limits (UserDisable a) db e = absurd cc
report_words limits (UserEnable a) db e = absurd cc
report_words limits (TokenAdd a b c d) db e = absurd cc
report_words limits (TokenRevoke a) db e = absurd cc
report_words limits (Reserve a) db e = absurd cc
report_words limits (Unreserve a) db e = absurd cc
report_words limits (OwnerAdd a b) db e = absurd cc
report_words limits (CrateRestrict a) db e = absurd cc
report_words limits (CrateOpen a) db e = absurd cc
report_words limits (ReaderAdd a b) db e = absurd cc
report_words limits (ReaderRemove a b) db e = absurd cc

-- names
pub reserved_always : (limits : Limits) (n given : Text) (db : Trees) → name_of n ≡ Some given → is_reserved_always (canon given) ≡ true → Orders limits (Reserve n) db None
reserved_always limits n given db name e = λ ids s h ok.
    ap (λ b. unless (b || finset.contains s.reserved (canon n)) (codes "reserve" ∷ n ∷ [])) (ap (λ t. is_reserved_always (canon t)) (is_given n given name).1 ∙ e)

pub reserve_words : (limits : Limits) (n given : Text) (added : Bool) (db : Trees) → name_of n ≡ Some given → is_reserved_always (canon given) ≡ false → TellsReserved (canon given) db (not added) → Orders limits (Reserve n) db (only_if added (codes "reserve" ∷ n ∷ []))
reserve_words limits n given added db name e tells = λ ids s h ok.
    let same = (is_given n given name).1 in
    ap (λ b. unless (b || finset.contains s.reserved (canon n)) (codes "reserve" ∷ n ∷ [])) (ap (λ t. is_reserved_always (canon t)) same ∙ e)
    ∙ ap (λ b. unless b (codes "reserve" ∷ n ∷ [])) (ap (λ t. finset.contains s.reserved (canon t)) same ∙ sym (tells ids s h))
    ∙ unless_not added (codes "reserve" ∷ n ∷ [])

pub free_words : (limits : Limits) (n given : Text) (there : Bool) (db : Trees) → name_of n ≡ Some given → TellsReserved (canon given) db there → Orders limits (Unreserve n) db (only_if there (codes "unreserve" ∷ n ∷ []))
free_words limits n given there db name tells = λ ids s h ok.
    ap (λ b. only_if b (codes "unreserve" ∷ n ∷ [])) (ap (λ t. finset.contains s.reserved (canon t)) (is_given n given name).1 ∙ sym (tells ids s h))

-- restricted crates
restrict_of : (b other : Bool) (s : Registry) (n : Text) → is_restricted s n ≡ cond other (not b) b → command_words s (restricting b n) ≡ only_if other (restricted_word b ∷ spelled s n ∷ [])
restrict_of true true s n e = ap (λ x. unless x (restricted_word true ∷ spelled s n ∷ [])) e
restrict_of true false s n e = ap (λ x. unless x (restricted_word true ∷ spelled s n ∷ [])) e
restrict_of false true s n e = ap (λ x. only_if x (restricted_word false ∷ spelled s n ∷ [])) e
restrict_of false false s n e = ap (λ x. only_if x (restricted_word false ∷ spelled s n ∷ [])) e

pub restrict_words : (limits : Limits) (b other : Bool) (n : Text) (it : Crate) (db : Trees) → FindsNamed n db (Some it) → TellsOtherSight it.id b db other → Orders limits (restricting b n) db (only_if other (restricted_word b ∷ string_bytes it.name ∷ []))
restrict_words limits b other n it db finds tells = λ ids s h ok.
    let f = finds ids s h in
    let same = first_canon s n (string_bytes it.name) f.first in
    restrict_of b other s n (ap (finset.contains s.restricted) (sym same) ∙ tells ids s h (string_bytes it.name) f.at)
    ∙ ap (λ o. only_if other (restricted_word b ∷ unwrap_or o n ∷ [])) f.first

-- owners and readers
one_has : (q : ℕ → Bool) (o : Option ℕ) → is_none o ≡ false → list_all q (cons_option o []) ≡ holds q o
one_has q None e = absurd cc
one_has q (Some id) e = alone (q id)
  where
    alone : (b : Bool) → (b && true) ≡ b
    alone true = refl
    alone false = refl

module _ (limits : Limits) (n login : Text) (it : Crate) (account : ℕ) (db : Trees) (finds : FindsPair n login db (Ok (it, account))) where
  -- whether the account that was found is in a relation with the crate that was
  has_it : (relation : Relation) (b : Bool) → TellsPair relation it.id account db b → Tells (λ ids s. list_all (λ id. finset.contains (related relation s) (canon n, id)) (ids_of s (login ∷ [])) ≡ b) db
  has_it relation b tells ids s h =
      let f = finds ids s h in
      let is : is_none (id_of_login s login) ≡ false = ap is_none f.1 in
      one_has (λ id. finset.contains (related relation s) (canon n, id)) (id_of_login s login) is
      ∙ ap (holds (λ id. finset.contains (related relation s) (canon n, id))) f.1
      ∙ ap (λ c. finset.contains (related relation s) (c, account)) (sym (first_canon s n (string_bytes it.name) f.2.first)) ∙ tells ids s h (string_bytes it.name) f.2.at

  pub owner_words : (added : Bool) → TellsPair Owners it.id account db (not added) → Orders limits (OwnerAdd n login) db (only_if added (codes "owner-add" ∷ string_bytes it.name ∷ login ∷ []))
  owner_words added tells = λ ids s h ok.
      ap (λ x. unless x (codes "owner-add" ∷ spelled s n ∷ login ∷ [])) (has_it Owners (not added) tells ids s h)
      ∙ unless_not added (codes "owner-add" ∷ spelled s n ∷ login ∷ []) ∙ ap (λ o. only_if added (codes "owner-add" ∷ unwrap_or o n ∷ login ∷ [])) (finds ids s h).2.first

  pub reader_words : (added : Bool) → TellsPair Readers it.id account db (not added) → Orders limits (ReaderAdd n login) db (only_if added (codes "reader-add" ∷ string_bytes it.name ∷ login ∷ []))
  reader_words added tells = λ ids s h ok.
      ap (λ x. unless x (codes "reader-add" ∷ spelled s n ∷ login ∷ [])) (has_it Readers (not added) tells ids s h)
      ∙ unless_not added (codes "reader-add" ∷ spelled s n ∷ login ∷ []) ∙ ap (λ o. only_if added (codes "reader-add" ∷ unwrap_or o n ∷ login ∷ [])) (finds ids s h).2.first

  pub no_reader_words : (removed : Bool) → TellsPair Readers it.id account db removed → Orders limits (ReaderRemove n login) db (only_if removed (codes "reader-remove" ∷ string_bytes it.name ∷ login ∷ []))
  no_reader_words removed tells = λ ids s h ok.
      ap (λ x. only_if x (codes "reader-remove" ∷ spelled s n ∷ login ∷ [])) (has_it Readers removed tells ids s h)
      ∙ ap (λ o. only_if removed (codes "reader-remove" ∷ unwrap_or o n ∷ login ∷ [])) (finds ids s h).2.first
