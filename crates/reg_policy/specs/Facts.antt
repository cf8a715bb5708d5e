-- What the facts of programs stand for.
use Rattle.std.specs.Prelude.{◌≡◌, nat_le, Bool, false, true, not, Option}
use Rattle.std.specs.Option.{option_map}
use Rattle.reg_body.specs.declared.limits.Limits.{Limits}
use Rattle.reg_model.specs.declared.rule.Rule.{Rule}
use Rattle.reg_model.specs.declared.rule.Rule.TheVariants as rule
use Rattle.reg_model.specs.Actions.{Action}
use Rattle.reg_model.specs.Facts.{Access, Counts}
use Rattle.reg_model.specs.Registry.{Text}
use Rattle.reg_model.specs.Rules.{breaks}
use Rattle.reg_policy.specs.declared.action.Facts.{Facts}

-- the crate's spelling
abbrev pub spelling_in : Facts → Option Text
spelling_in f = option_map (λ n. n.now) f.first

-- the facts on access
abbrev pub access_in : Facts → Access
access_in f = record {
  is_known = f.is_known;
  is_live = f.is_live;
  is_enabled = f.is_enabled;
  endpoints = f.endpoints;
  is_covered = f.is_covered;
  first = spelling_in f;
  is_visible = f.is_visible;
  is_owner = f.is_owner;
  is_reserved = f.is_reserved;
  has_version = f.has_version;
  has_release = f.has_release;
}

-- whether the action breaks the rule, where these are the facts
abbrev pub is_broken : Facts → Action → Rule → Bool
is_broken f a rule.L1 = f.is_crate_full
is_broken f a rule.L2 = f.is_registry_full
is_broken f a rule.O2 = not f.are_known
is_broken f a rule.O3 = not f.are_owners
is_broken f a rule.O4 = f.are_all_owners
is_broken f a r = breaks (access_in f) a r

-- these are the facts on what is counted, under these limits, and on the logins that are named
pub record AreCounted (limits : Limits) (c : Counts) (f : Facts) : Type 0 where
  pub versions : f.is_crate_full ≡ nat_le limits.versions c.versions
  pub crates : f.is_registry_full ≡ nat_le limits.crates c.crates
  pub known : f.are_known ≡ c.are_known
  pub owners : f.are_owners ≡ c.are_owners
  pub all : f.are_all_owners ≡ c.are_all_owners

-- nothing was counted, and no login looked up: no rule on these is broken
pub record AreUncounted (f : Facts) : Type 0 where
  pub versions : f.is_crate_full ≡ false
  pub crates : f.is_registry_full ≡ false
  pub known : f.are_known ≡ true
  pub owners : f.are_owners ≡ true
  pub all : f.are_all_owners ≡ false
