use Rattle.reg_tables_rows.proofs.Words.{Some, archives_tree, readers_tree, AreCratesById, AreOwnerships, AreReserved, AreRestricted}
use Rattle.reg_tables_rows.proofs.Words.{AreVersions, HaveIds, ◌⨾◌, fails, so_far, told_before, was_clean}
use Rattle.std.specs.Prelude.{string_bytes}
use Rattle.sqlite_schema.specs.Rules.{Obeys}
use Rattle.reg_tables_schema.specs.Schema.{ours}
use Rattle.reg_tables_sql.specs.Abouts.{IsBaseOf}
use Rattle.reg_tables_sql.specs.Pairs.{ArePairs}
use Rattle.reg_tables_sql.specs.Summaries.{AreSummaries}
use Rattle.reg_tables_rows.specs.WholeRows.{AreApart}
use Rattle.reg_tables_rows.proofs.all_rows.read.Goals as goal

pub returns-clause-read : goal.returns-clause-read
returns-clause-read g c clean =
    let tokens = c.in_ok-accounts.ensures in
    let crates = c.in_ok-crates.ensures in
    let others = c.in_ok-base.ensures in
    let kept = c.in_ok-summaries.ensures in
    let three = was_clean kept.same clean in
    let two = was_clean others.same three in
    let one = was_clean crates.same two in
    let of_crates = c.in_ok-crates.field-0 in
    let of_kept = c.in_ok-summaries.field-0 in
    record {
      base = told_before (λ db. IsBaseOf db (Some (string_bytes c.in_ok-base.field-0.base))) (tokens.same ⨾ crates.same) others.same three others.base;
      accounts = tokens.accounts one;
      tokens = tokens.tokens one;
      scopes = tokens.scopes one;
      crates = told_before (λ db. AreCratesById db of_crates.crates.items) tokens.same crates.same two crates.crates;
      owners = told_before (λ db. AreOwnerships db of_crates.owners.items) tokens.same crates.same two crates.owners;
      versions = told_before (λ db. AreVersions db of_crates.versions.items) tokens.same crates.same two crates.versions;
      archives = told_before (λ db. HaveIds (db archives_tree)) (tokens.same ⨾ crates.same) others.same three others.archives;
      reserved = told_before (λ db. AreReserved db c.in_ok-base.field-0.reserved.items) (tokens.same ⨾ crates.same) others.same three others.reserved;
      summaries = told_before (λ db. AreSummaries db of_kept.summaries.items) (tokens.same ⨾ crates.same ⨾ others.same) kept.same clean kept.summaries;
      restricted = told_before (λ db. AreRestricted db of_kept.restricted.items) (tokens.same ⨾ crates.same ⨾ others.same) kept.same clean kept.restricted;
      readers = told_before (λ db. ArePairs readers_tree db of_kept.readers.items) (tokens.same ⨾ crates.same ⨾ others.same) kept.same clean kept.readers;
      apart = told_before AreApart tokens.same crates.same two crates.apart;
      obeys = told_before (Obeys ours) tokens.same crates.same two crates.obeys;
    }

pub returns-clause-same : goal.returns-clause-same
returns-clause-same g c = so_far (c.in_ok-accounts.ensures.same ⨾ c.in_ok-crates.ensures.same ⨾ c.in_ok-base.ensures.same ⨾ c.in_ok-summaries.ensures.same)

pub returns-in_err-crates-clause-same : goal.returns-in_err-crates-clause-same
returns-in_err-crates-clause-same g c = fails _ c.from_residual-in_err-crates.ensures.0 (c.in_ok-accounts.ensures.same ⨾ c.in_err-crates.ensures.same)

pub returns-in_err-base-clause-same : goal.returns-in_err-base-clause-same
returns-in_err-base-clause-same g c = fails _ c.from_residual-in_err-base.ensures.0 (c.in_ok-accounts.ensures.same ⨾ c.in_ok-crates.ensures.same ⨾ c.in_err-base.ensures.same)

pub returns-in_err-summaries-clause-same : goal.returns-in_err-summaries-clause-same
returns-in_err-summaries-clause-same g c =
    fails _ c.from_residual-in_err-summaries.ensures.0 (c.in_ok-accounts.ensures.same ⨾ c.in_ok-crates.ensures.same ⨾ c.in_ok-base.ensures.same ⨾ c.in_err-summaries.ensures.same)
