-- A command within a transaction is the command of the registry that the rows stand for.
use Rattle.std.specs.Prelude.{◌≡◌, ◌||◌, ◌==◌, ◌+◌, ℕ, nat_le, nat_lt, not, Bool, true, false, is_some, List, [], ◌∷◌, length, Option, Some, Result, Ok, Err, Vec}
use Rattle.std.specs.declared.alloc.Global.{Global}
use Rattle.std.specs.List.{find, list_all}
use Rattle.std.specs.Option.{option_map}
use Rattle.sqlite.specs.Tree.{Trees}
use Rattle.sqlite_trees.specs.declared.store.Store.{Ghosts}
use Rattle.reg_body.specs.declared.limits.Limits.{Limits}
use Rattle.reg_names.specs.Patterns.{is_pattern}
use Rattle.reg_model.specs.declared.rule.AdminRefusal.{AdminRefusal}
use Rattle.reg_model.specs.declared.rule.AdminRefusal.TheVariants as refusal
use Rattle.reg_names.specs.declared.endpoint.Endpoints.{Endpoints}
use Rattle.reg_model.specs.Changes.{with_token}
use Rattle.reg_model.specs.Events.{Answer, Command, Event}
use Rattle.reg_model.specs.Events.Answer.{Id}
use Rattle.reg_model.specs.Events.Command.{CrateOpen, CrateRestrict, ReaderAdd, ReaderRemove, UserDisable, UserEnable}
use Rattle.reg_model.specs.Events.Event.{Order}
use Rattle.reg_model.specs.Refusals.{is_endpoint, no_crate, no_login, patterns_given}
use Rattle.reg_model.specs.Registry.{Registry, Text, id_of_login, token_of}
use Rattle.reg_model.specs.Steps.{Outcome, outcome, unless_refused}
use Rattle.reg_policy.specs.declared.event.AdminReply.{AdminReply}
use Rattle.reg_policy.specs.Events.{reply_of}
use Rattle.reg_tables_sql.specs.declared.crates.Crate.{Crate}
use Rattle.reg_tables_represent.specs.Calls.{Tells}
use Rattle.reg_tables_represent.specs.Stands.{StandsSoundBy, IdAssignment, Stands}
use Rattle.reg_tables.specs.declared.work.StoreFault.{StoreFault}
use Rattle.reg_tables.specs.declared.work.Work.{Work}
use Rattle.reg_service_steps.specs.Named.{IsNamed, IsSpelledBy}
use Rattle.reg_tables.specs.Calling.{Updates}

-- the answer is the event's, and the rows are those of the state after it
abbrev pub HasOutcome : Limits → Event → Answer → Trees → Trees → Type 0
HasOutcome limits e a old new =
    (ids : IdAssignment) (s : Registry) → StandsSoundBy ids s old
    → (a ≡ (outcome limits s e).0) × Stands (outcome limits s e).1 new

-- what a command within a transaction is answered: a reply or a refusal, unless the store is
-- refused
abbrev pub Reply : Type 0
Reply = Result AdminReply AdminRefusal

-- the command is done or refused, under any limits
abbrev pub Obeys : {S : Type 0} → Ghosts S → Command → Result Reply StoreFault → Work S → Work S
    → Type 0
Obeys g c r old new = Updates g old new r (λ before after reply.
    (limits : Limits) → HasOutcome limits (Order c) (reply_of reply) before after)

-- the command that enables an account or disables it; that restricts a crate or opens it to all
abbrev pub enabling : Bool → Text → Command
enabling true login = UserEnable login
enabling false login = UserDisable login

abbrev pub restricting : Bool → Text → Command
restricting true n = CrateRestrict n
restricting false n = CrateOpen n

-- the command that makes an account a reader of a crate, or no longer
abbrev pub reading : Bool → Text → Text → Command
reading true n login = ReaderAdd n login
reading false n login = ReaderRemove n login

-- the first ground whose test passes
abbrev pub first_ground : List (AdminRefusal × Bool) → Option AdminRefusal
first_ground grounds = option_map (λ g. g.0) (find (λ g. g.1) grounds)

-- the crate that a text names and the id of the account with a login, or why there are none
abbrev pub FindsPair : Text → Text → Trees → Result (Crate × ℕ) AdminRefusal → Type 0
FindsPair name login db (Err g) =
    Tells (λ ids s. first_ground (no_crate s name ∷ no_login s login ∷ []) ≡ Some g) db
FindsPair name login db (Ok it) =
    Tells (λ ids s. IsNamed ids s name it.0.id × (id_of_login s login ≡ Some it.1)
    × IsSpelledBy ids s name it.0) db

-- why an account with this login can't be added, if there is a reason
abbrev pub account_refusal : Limits → Text → Registry → Option AdminRefusal
account_refusal limits login s = first_ground
    ((refusal.G2, is_some (id_of_login s login))
    ∷ (refusal.G7, nat_le limits.accounts (length s.accounts)) ∷ [])

-- the patterns of a token that is to be added, where they and the words for its endpoints are good
abbrev pub IsScope : List Text → List Text → Result (Vec Text Global) AdminRefusal → Type 0
IsScope words texts (Err g) = first_ground
    ((refusal.G9, length words == 0 || not (list_all is_endpoint words))
    ∷ (refusal.G4, not (list_all is_pattern texts)) ∷ []) ≡ Some g
IsScope words texts (Ok patterns) =
    ((length words == 0 || not (list_all is_endpoint words)) ≡ false)
    × (list_all is_pattern texts ≡ true) × (patterns.items ≡ patterns_given texts)

-- whether there are as many tokens as there may be, or so many patterns as none may have
abbrev pub is_full_for : Limits → List Text → Registry → Bool
is_full_for limits patterns s =
    nat_lt limits.patterns (length patterns) || nat_le limits.tokens (length s.tokens)

-- why a token with this digest and these patterns can't be added, if there is a reason
abbrev pub token_refusal : Limits → Text → List Text → Registry → Option AdminRefusal
token_refusal limits digest patterns s = first_ground
    ((refusal.G7, is_full_for limits patterns s) ∷ (refusal.G5, is_some (token_of s digest)) ∷ [])

-- a token of an account is added, unless there is a reason
abbrev pub token_outcome : Limits → Text → ℕ → Endpoints → List Text → Registry → Outcome
token_outcome limits digest account endpoints patterns s =
    unless_refused s (token_refusal limits digest patterns s)
    (Id (length s.tokens + 1), with_token digest account endpoints patterns s)

abbrev pub PutsToken : Limits → Text → ℕ → Endpoints → List Text → Trees → Trees → Reply → Type 0
PutsToken limits digest account endpoints patterns old new reply =
    (ids : IdAssignment) (s : Registry) → StandsSoundBy ids s old
    → (reply_of reply ≡ (token_outcome limits digest account endpoints patterns s).0)
    × Stands (token_outcome limits digest account endpoints patterns s).1 new
