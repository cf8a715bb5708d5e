use Rattle.reg_reference.proofs.Words.{◌∙◌, ap, refl, option_map, Registry, holds, versions, lists, spelling, registry_of}
use Rattle.std.specs.Prelude.{map}
use Rattle.reg_model.specs.Registry.{is_enabled, is_known}
use Rattle.reg_model.specs.Crates.{is_reserved, is_restricted, owners, readers}
use Rattle.reg_policy.specs.Rows.{id_and_login, row_view}
use Rattle.reg_policy.specs.Rows.{patterns_held, row_of}
use Rattle.reg_reference.proofs.plain.PlainRegistry.decision.Goals as goal

pub returns : goal.returns
returns c =
    let s : Registry = registry_of c.args.self.now in
    c.decide.ensures.policy c.args.self.now.limits s c.args.digest.now (record {
      token = c.token_facts.ensures ∙ ap (option_map row_of) c.find-token.ensures;
      enabled = c.is_caller_enabled.ensures ∙ ap (holds (λ t. is_enabled s t.account)) c.find-token.ensures;
      patterns = c.patterns_of.ensures ∙ ap patterns_held c.find-token.ensures;
      first = c.first_of.ensures ∙ ap (spelling s) c.crate_of-name.ensures;
      owners = ap (map row_view) c.as_slice.ensures.value ∙ c.in_ok-owners.ensures ∙ ap (λ o. map id_and_login (lists (owners s) o)) c.crate_of-name.ensures;
      versions = ap (map (λ v. v.now)) c.as_slice-2.ensures.value ∙ c.in_ok-versions.ensures ∙ ap (λ o. map (λ p. p.version) (lists (versions s) o)) c.crate_of-name.ensures;
      reserved = c.is_crate_reserved.ensures ∙ ap (holds (is_reserved s)) c.crate_of-name.ensures;
      restricted = c.is_crate_restricted.ensures ∙ ap (holds (is_restricted s)) c.crate_of-name.ensures;
      readers = c.as_slice-3.ensures.value ∙ c.in_ok-readers.ensures ∙ ap (λ o. map (λ r. r.0) (lists (readers s) o)) c.crate_of-name.ensures;
      crates = c.crates.ensures;
      known = c.as_slice-4.ensures.value ∙ c.in_ok-known.ensures ∙ ap (map (is_known s)) c.logins_of.ensures;
      bounds = refl;
    })
