use Rattle.std.proofs.Common.{◌≡◌, ◌∙◌, ap, refl, string_bytes, sym}
use Rattle.std.specs.List.{list_all, list_any}
use Rattle.std.specs.Option.{option_map}
use Rattle.std.specs.Str.{bytes_eq}
use Rattle.reg_model.specs.Actions.{logins_of, version_of}
use Rattle.reg_model.specs.Crates.{same_release}
use Rattle.reg_model.specs.Facts.{is_named}
use Rattle.reg_model.proofs.Lists.{list_any_map}
use Rattle.reg_policy.specs.Views.{action_of}
use Rattle.reg_policy.proofs.Lists.{list_all_map, list_all_same}
use Rattle.reg_policy.proofs.rows.facts_of.Goals as goal

pub returns-clause-access : goal.returns-clause-access
returns-clause-access c =
    let rows = c.args.rows.now in
    let has_version : c.has_version.result ≡ list_any (λ w. bytes_eq w.now (version_of (action_of c.args.action.now))) rows.versions.now =
    c.has_version.ensures ∙ ap (λ v. list_any (λ w. bytes_eq w.now v) rows.versions.now) c.version_of-version.ensures in
    let has_release : c.has_release.result ≡ list_any (λ w. same_release w.now (version_of (action_of c.args.action.now))) rows.versions.now =
    c.has_release.ensures ∙ ap (λ v. list_any (λ w. same_release w.now v) rows.versions.now) c.version_of-version.ensures in
    λ i. record {
      is_known = c.is_some.ensures i;
      is_live = c.is_live.ensures i;
      is_enabled = rows.enabled;
      endpoints = c.endpoints_of.ensures i;
      is_covered = c.is_crate_covered.ensures i;
      first = option_map (λ n. n.now) rows.first;
      is_visible = c.is_seen.ensures i;
      is_owner = c.is_owned.ensures i;
      is_reserved = rows.reserved;
      has_version = has_version i;
      has_release = has_release i;
    }

pub returns-clause-counts : goal.returns-clause-counts
returns-clause-counts c =
    let owners = c.args.rows.now.owners.now in
    let logins = c.logins_of-logins.result.now in
    record {
      versions = refl;
      crates = refl;
      known = c.are_all.ensures;
      owners =
          c.are_owners.ensures ∙ sym (list_all_map (λ l. list_any (λ o. bytes_eq o.login.now l) owners) string_bytes logins)
          ∙ ap (list_all (λ l. list_any (λ o. bytes_eq o.login.now l) owners)) c.logins_of-logins.ensures;
      all =
          c.are_all_owners.ensures ∙ list_all_same _ _ (λ o. sym (list_any_map (λ l. bytes_eq o.login.now l) string_bytes logins)) owners
          ∙ ap (λ ls. list_all (λ o. is_named ls o.login.now) owners) c.logins_of-logins.ensures;
    }
