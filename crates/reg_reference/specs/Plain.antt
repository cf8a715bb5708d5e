-- The registry that the vectors stand for.
use Rattle.std.specs.Prelude.{◌≡◌, ℕ, ◌&&◌, ◌++◌, if◌then◌else◌, Option, Some, None, Result, Ok, Err, IfOk, OnOk, OnErr, List, [], length, codes, unwrap_or, String, string_bytes}
use Rattle.reg_names.specs.Names.{is_name}
use Rattle.reg_model.specs.declared.rule.AdminRefusal.{AdminRefusal}
use Rattle.reg_model.specs.declared.rule.AdminRefusal.TheVariants.{G3, G8, G10}
use Rattle.std.specs.declared.alloc.AllocError.{AllocError}
use Rattle.std.specs.declared.alloc.Global.{Global}
use Rattle.reg_model.specs.Crates.{exists, first, owners, readers, versions}
use Rattle.reg_model.specs.Effects.{done}
use Rattle.reg_model.specs.Facts.{lists}
use Rattle.reg_model.specs.Grants.{all_endpoints, is_granted}
use Rattle.reg_model.specs.Reports.{crate_line, grant_line, login_of_token}
use Rattle.reg_model.specs.Search.{top}
use Rattle.std.specs.List.{filter, flat_map}
use Rattle.std.specs.Option.{option_map}
use Rattle.reg_policy.specs.declared.event.AdminReply.{AdminReply}
use Rattle.reg_policy.specs.declared.event.Answer.{Answer}
use Rattle.reg_body.specs.declared.limits.Limits.{Limits}
use Rattle.reg_model.specs.Registry as model
use Rattle.reg_model.specs.Events as events
use Rattle.reg_model.specs.Events.Answer.{Granted}
use Rattle.reg_model.specs.Events.Event.{Order}
use Rattle.reg_model.specs.Steps.{Step}
use Rattle.reg_policy.specs.Events.{answer_of, decision_alone, reply_of}
use Rattle.reg_reference.specs.declared.plain.PlainRegistry.{PlainRegistry}

abbrev pub registry_of : PlainRegistry → model.Registry
registry_of r = record {
  base = codes "http://127.0.0.1:8080";
  accounts = r.accounts;
  tokens = r.tokens;
  publications = r.publications;
  owners = r.owners;
  yanked = r.yanked;
  reserved = r.reserved;
  restricted = r.restricted;
  readers = r.readers;
}

abbrev pub limits_of : PlainRegistry → Limits
limits_of r = r.limits

-- A step of which this is the answer, with the decision alone for what is read.
abbrev pub PlainStep : Limits → model.Registry → events.Event → events.Answer → model.Registry
    → Type 0
PlainStep limits s e a t = (b : events.Answer) × Step limits s e b t × (a ≡ decision_alone b)

-- A command is obeyed: with this reply the registry takes a step, and its limits stay.
pub record Obeys (before after : PlainRegistry) (command : events.Command)
    (reply : Result AdminReply AdminRefusal) : Type 0 where
  pub step : Step (limits_of before) (registry_of before) (Order command) (reply_of reply)
      (registry_of after)
  pub limits : limits_of after ≡ limits_of before

-- A request that may be is granted and done; or no room was left, and all stays as it was.
pub record Does (before after : PlainRegistry) (asked : events.Asked)
    (result : Result Answer AllocError) : Type 0 where
  pub answer : IfOk result (λ a. answer_of a ≡ Granted)
  pub state : (id : ℕ) → OnOk result (registry_of after ≡ done (registry_of before) id asked)
  pub err : OnErr result (registry_of after ≡ registry_of before)
  pub limits : limits_of after ≡ limits_of before

-- who owns a crate, and who reads it, if a name is given
abbrev pub owners_at : PlainRegistry → Option model.Text → List (ℕ × model.Account)
owners_at r name = lists (owners (registry_of r)) name

abbrev pub readers_at : PlainRegistry → Option model.Text → List (ℕ × model.Account)
readers_at r name = lists (readers (registry_of r)) name

-- the crate of a name, where it is there, or the refusal
abbrev pub crate_found : model.Registry → model.Text → Result model.Text AdminRefusal
crate_found s n = if is_name n && exists s n then Ok n else Err G8

-- the id of an account with a login, or the refusal
abbrev pub or_unknown : Option ℕ → Result ℕ AdminRefusal
or_unknown None = Err G3
or_unknown (Some id) = Ok id

abbrev pub login_found : model.Registry → model.Text → Result ℕ AdminRefusal
login_found s login = or_unknown (model.id_of_login s login)

-- a crate and an account that are both there, or the refusal of the first that is not
abbrev pub both_found : Result model.Text AdminRefusal → Result ℕ AdminRefusal
    → Result (model.Text × ℕ) AdminRefusal
both_found (Ok n) (Ok id) = Ok (n, id)
both_found (Ok n) (Err refusal) = Err refusal
both_found (Err refusal) account = Err refusal

-- what a report is told by, or that no room was left for it
abbrev pub told_of : {X E : Type 0} → (X → AdminReply) → Result X E → Result AdminReply AdminRefusal
told_of as_reply (Ok text) = Ok (as_reply text)
told_of as_reply (Err e) = Err G10

-- a text is added to a report, unless no room was left for it
abbrev pub Adds : {X E : Type 0} → model.Text → String Global → String Global → Result X E → Type 0
Adds text old new result = OnOk result (string_bytes new ≡ string_bytes old ++ text)

-- the lines of a token on a crate, and the line of a crate
abbrev pub grant_lines : model.Registry → model.Text → ℕ × model.Token → model.Text
grant_lines s n t = flat_map (λ e. grant_line (t.0, e) (login_of_token s t.0))
    (filter (is_granted s n t.1) all_endpoints)

abbrev pub line_at : model.Registry → model.Text → model.Text
line_at s n = crate_line (unwrap_or (first s n) []) (length (versions s n))
    (unwrap_or (option_map (λ p. p.version) (top s n)) [])
