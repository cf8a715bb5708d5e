-- Access, decided from the rows of the access texts alone.
use Rattle.std.specs.Prelude.{◌≡◌, if◌then◌else◌, ◌&&◌, ◌||◌, Bool, true, not, is_some, List, [], Option, None}
use Rattle.sqlite.specs.Order.{Row}
use Rattle.sqlite.specs.Tree.{Trees}
use Rattle.reg_names.specs.Names.{canon, is_name}
use Rattle.reg_names.specs.declared.endpoint.Endpoints.{Endpoints}
use Rattle.reg_model.specs.declared.rule.Rule.{Rule}
use Rattle.reg_model.specs.Registry.{Text, holds}
use Rattle.reg_model.specs.Actions.{Action, crate_of}
use Rattle.reg_model.specs.Actions.Action.{Publish}
use Rattle.reg_model.specs.Crates.{is_reserved_always}
use Rattle.reg_model.specs.Facts.{Access, access_facts, lists}
use Rattle.reg_model.specs.Rules.{access, needed}
use Rattle.reg_policy.specs.declared.action.Decision.{Decision}
use Rattle.reg_policy.specs.Views.{decision_of}
use Rattle.reg_tables_sql.specs.Tokens.{tokens_with_accounts}
use Rattle.reg_tables_represent.specs.Calls.{Tells}
use Rattle.reg_access.specs.JoinRows.{crates_seen_by, is_mark_set, is_shown, is_there, last_rows, scopes_over, text_in, value_at}

-- what each text answered; the last is on a version or on a reserved name
pub record JoinRows : Type 0 where
  pub token : List Row
  pub scopes : List Row
  pub of_crate : List Row
  pub last : List Row

-- whether the action needs an endpoint, and with it a scope
abbrev pub needs_scope : Action → Bool
needs_scope a = is_some (needed None a)

-- The rows of the texts that an action asks. Each is asked with parts of the digest and the action,
-- and with what an earlier text answered.
abbrev pub join_rows : Trees → Text → Action → JoinRows
join_rows db digest a =
    let token = tokens_with_accounts digest db in
    let of_crate = lists (λ n. crates_seen_by (canon n) (value_at token 1) db) (crate_of a) in
    record {
      token = token;
      scopes = if needs_scope a
          then lists (λ n. scopes_over (value_at token 0) (canon n) db) (crate_of a)
          else [];
      of_crate = of_crate;
      last = last_rows a of_crate db;
    }

abbrev pub endpoints_in : List Row → Endpoints
endpoints_in rows = record {
  publish_new = is_mark_set (value_at rows 3);
  publish_update = is_mark_set (value_at rows 4);
  yank = is_mark_set (value_at rows 5);
  change_owners = is_mark_set (value_at rows 6);
}

-- whether the crate is there, and is not restricted, or is owned or read
abbrev pub is_seen : List Row → Bool
is_seen rows =
    is_there rows && (not (is_shown rows 3) || (is_shown rows 2 || is_shown rows 4))

-- the names that are reserved always are in no table
abbrev pub is_always_reserved : Action → Bool
is_always_reserved a = holds (λ n. is_reserved_always (canon n)) (crate_of a)

-- what the columns tell: a missing row or a NULL is an absence
abbrev pub facts_in : JoinRows → Action → Access
facts_in r a = record {
  is_known = is_there r.token;
  is_live = is_mark_set (value_at r.token 2);
  is_enabled = is_mark_set (value_at r.token 8);
  endpoints = endpoints_in r.token;
  is_covered = is_there r.scopes;
  first = text_in (value_at r.of_crate 1);
  is_visible = is_seen r.of_crate;
  is_owner = is_shown r.of_crate 2;
  is_reserved = is_always_reserved a || is_there r.last;
  has_version = is_there r.last;
  has_release = is_there r.last;
}

-- the first rule on access that is broken, where these are the rows
abbrev pub verdict_in : JoinRows → Action → Option Rule
verdict_in r a = access (facts_in r a) a

-- what is published has a name
abbrev pub is_fit : Action → Bool
is_fit (Publish n v) = is_name n
is_fit _ = true

-- this is what the rows decide
abbrev pub IsVerdict : Text → Action → Trees → Decision → Type 0
IsVerdict digest a db d = d ≡ decision_of (verdict_in (join_rows db digest a) a)

-- this is what the rules on access decide, where the rows are those of a registry
abbrev pub IsPolicy : Text → Action → Trees → Decision → Type 0
IsPolicy digest a db d =
    Tells (λ ids s. d ≡ decision_of (access (access_facts s digest a) a)) db
