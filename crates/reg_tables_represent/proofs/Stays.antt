-- What a change of some tables leaves of the others.
use Rattle.reg_tables_represent.proofs.Common.{◌≡◌, ◌≢◌, ◌∙◌, ap, drop, enumerate_from, flat_map, IsPermutation, KeepsOthers, List, map, Row, subst, sym, Trees, ℕ}
use Rattle.std.specs.FinSet as finset
use Rattle.reg_model.specs.Registry.{Account, Token, Publication, Registry, text_cmp, owner_cmp, mark_cmp}
use Rattle.reg_tables_sql.specs.Reserved.{reserved_columns}
use Rattle.reg_tables_represent.specs.Summaries.{StandSummaries}
use Rattle.reg_tables_represent.specs.Stands.{row_of_account, row_of_token, row_of_crate, row_of_version, row_of_archive, scopes_of, HaveOwnRowids, StandAccounts, StandTokens, StandReserved, StandCrates, IdAssignment, StoredCrate, StandPairs, StandsBy, StandMarked}

pub accounts_stay : (accounts : List Account) (old new : Trees) → new 1 ≡ old 1 → StandAccounts accounts old → StandAccounts accounts new
accounts_stay accounts old new e h = record { rows = subst (IsPermutation (map row_of_account (enumerate_from 1 accounts))) (sym e) h.rows }

pub tokens_stay : (tokens : List Token) (old new : Trees) → new 3 ≡ old 3 → new 5 ≡ old 5 → StandTokens tokens old → StandTokens tokens new
tokens_stay tokens old new e f h = record {
  rows = subst (IsPermutation (map row_of_token (enumerate_from 1 tokens))) (sym e) h.rows;
  scopes = subst (λ (rs : List Row). IsPermutation (flat_map scopes_of (enumerate_from 1 tokens)) (map (drop 1) rs)) (sym f) h.scopes;
}

pub reserved_stay : (reserved : finset.FinSet text_cmp) (old new : Trees) → new 14 ≡ old 14 → StandReserved reserved old → StandReserved reserved new
reserved_stay reserved old new e h = record {
  texts = h.texts;
  rows = subst (λ (rs : List Row). IsPermutation (map reserved_columns h.texts) (map (drop 1) rs)) (sym e) h.rows;
  apart = subst HaveOwnRowids (sym e) h.apart;
  same = h.same;
}

pub crates_stay : (ids : IdAssignment) (ps : List Publication) (yanked : finset.FinSet mark_cmp) (old new : Trees) → new 7 ≡ old 7 → new 11 ≡ old 11 → new 13 ≡ old 13 → StandCrates ids ps yanked old → StandCrates ids ps yanked new
crates_stay ids ps yanked old new e7 e11 e13 h = record {
  crate_rows = subst (IsPermutation (map row_of_crate ids.crates)) (sym e7) h.crate_rows;
  version_rows = subst (IsPermutation (map (row_of_version yanked) ids.versions)) (sym e11) h.version_rows;
  archive_rows = subst (IsPermutation (map row_of_archive ids.versions)) (sym e13) h.archive_rows;
  canons = h.canons;
  used = h.used;
  of_crates = h.of_crates;
  up = h.up;
  rising = h.rising;
  published = h.published;
}

pub pairs_stay : (crates : List StoredCrate) (held : finset.FinSet owner_cmp) (old new : List Row) → new ≡ old → StandPairs crates held old → StandPairs crates held new
pairs_stay crates held old new e h = subst (StandPairs crates held) (sym e) h

pub marked_stay : (crates : List StoredCrate) (marked : finset.FinSet text_cmp) (old new : List Row) → new ≡ old → StandMarked crates marked old → StandMarked crates marked new
marked_stay crates marked old new e h = subst (StandMarked crates marked) (sym e) h

pub summaries_stay : (ids : IdAssignment) (yanked : finset.FinSet mark_cmp) (old new : List Row) → new ≡ old → StandSummaries ids yanked old → StandSummaries ids yanked new
summaries_stay ids yanked old new e h = subst (StandSummaries ids yanked) (sym e) h

-- the tables, each by its place among them
module _ (tree : ℕ) (old new : Trees) (others : KeepsOthers tree old new) where
  pub same_about : 0 ≢ tree → new 0 ≡ old 0
  same_about h = others.0 h

  pub same_accounts : 1 ≢ tree → new 1 ≡ old 1
  same_accounts h = others.1.0 h

  pub same_tokens : 3 ≢ tree → new 3 ≡ old 3
  same_tokens h = others.1.1.0 h

  pub same_scopes : 5 ≢ tree → new 5 ≡ old 5
  same_scopes h = others.1.1.1.0 h

  pub same_crates : 7 ≢ tree → new 7 ≡ old 7
  same_crates h = others.1.1.1.1.0 h

  pub same_owners : 9 ≢ tree → new 9 ≡ old 9
  same_owners h = others.1.1.1.1.1.0 h

  pub same_versions : 11 ≢ tree → new 11 ≡ old 11
  same_versions h = others.1.1.1.1.1.1.0 h

  pub same_archives : 13 ≢ tree → new 13 ≡ old 13
  same_archives h = others.1.1.1.1.1.1.1.0 h

  pub same_reserved : 14 ≢ tree → new 14 ≡ old 14
  same_reserved h = others.1.1.1.1.1.1.1.1.0 h

  pub same_summaries : 16 ≢ tree → new 16 ≡ old 16
  same_summaries h = others.1.1.1.1.1.1.1.1.1.0 h

  pub same_restricted : 17 ≢ tree → new 17 ≡ old 17
  same_restricted h = others.1.1.1.1.1.1.1.1.1.1.0 h

  pub same_readers : 18 ≢ tree → new 18 ≡ old 18
  same_readers h = others.1.1.1.1.1.1.1.1.1.1.1.0 h

module _ (ids : IdAssignment) (s : Registry) (tree : ℕ) (old new : Trees) (others : KeepsOthers tree old new) (stands : StandsBy ids s old) where
  still_about : 0 ≢ tree → map (drop 1) (new 0) ≡ map (drop 1) (old 0)
  still_about h = ap (map (λ (r : Row). drop 1 r)) (same_about tree old new others h)

  still_accounts : 1 ≢ tree → StandAccounts s.accounts new
  still_accounts h = accounts_stay s.accounts old new (same_accounts tree old new others h) stands.accounts

  still_tokens : 3 ≢ tree → 5 ≢ tree → StandTokens s.tokens new
  still_tokens h k = tokens_stay s.tokens old new (same_tokens tree old new others h) (same_scopes tree old new others k) stands.tokens

  still_crates : 7 ≢ tree → 11 ≢ tree → 13 ≢ tree → StandCrates ids s.publications s.yanked new
  still_crates h k l = crates_stay ids s.publications s.yanked old new (same_crates tree old new others h) (same_versions tree old new others k) (same_archives tree old new others l) stands.crates

  still_owners : 9 ≢ tree → StandPairs ids.crates s.owners (new 9)
  still_owners h = pairs_stay ids.crates s.owners (old 9) (new 9) (same_owners tree old new others h) stands.owners

  still_reserved : 14 ≢ tree → StandReserved s.reserved new
  still_reserved h = reserved_stay s.reserved old new (same_reserved tree old new others h) stands.reserved

  still_readers : 18 ≢ tree → StandPairs ids.crates s.readers (new 18)
  still_readers h = pairs_stay ids.crates s.readers (old 18) (new 18) (same_readers tree old new others h) stands.readers

  still_restricted : 17 ≢ tree → StandMarked ids.crates s.restricted (new 17)
  still_restricted h = marked_stay ids.crates s.restricted (old 17) (new 17) (same_restricted tree old new others h) stands.restricted

  still_summaries : 16 ≢ tree → StandSummaries ids s.yanked (new 16)
  still_summaries h = summaries_stay ids s.yanked (old 16) (new 16) (same_summaries tree old new others h) stands.summaries

-- The registry after a change of one table.
module _ (ids : IdAssignment) (s : Registry) (old new : Trees) (stands : StandsBy ids s old) where
  pub with_accounts : (accounts : List Account) → KeepsOthers 1 old new → StandAccounts accounts new → StandsBy ids (record s { accounts = accounts }) new
  with_accounts accounts others changed = record {
    about = still_about ids s 1 old new others stands (λ e. cc) ∙ stands.about;
    accounts = changed;
    tokens = still_tokens ids s 1 old new others stands (λ e. cc) (λ e. cc);
    crates = still_crates ids s 1 old new others stands (λ e. cc) (λ e. cc) (λ e. cc);
    owners = still_owners ids s 1 old new others stands (λ e. cc);
    reserved = still_reserved ids s 1 old new others stands (λ e. cc);
    readers = still_readers ids s 1 old new others stands (λ e. cc);
    restricted = still_restricted ids s 1 old new others stands (λ e. cc);
    summaries = still_summaries ids s 1 old new others stands (λ e. cc);
  }

  pub with_owners : (owners : finset.FinSet owner_cmp) → KeepsOthers 9 old new → StandPairs ids.crates owners (new 9) → StandsBy ids (record s { owners = owners }) new
  with_owners owners others changed = record {
    about = still_about ids s 9 old new others stands (λ e. cc) ∙ stands.about;
    accounts = still_accounts ids s 9 old new others stands (λ e. cc);
    tokens = still_tokens ids s 9 old new others stands (λ e. cc) (λ e. cc);
    crates = still_crates ids s 9 old new others stands (λ e. cc) (λ e. cc) (λ e. cc);
    owners = changed;
    reserved = still_reserved ids s 9 old new others stands (λ e. cc);
    readers = still_readers ids s 9 old new others stands (λ e. cc);
    restricted = still_restricted ids s 9 old new others stands (λ e. cc);
    summaries = still_summaries ids s 9 old new others stands (λ e. cc);
  }

  pub with_readers : (readers : finset.FinSet owner_cmp) → KeepsOthers 18 old new → StandPairs ids.crates readers (new 18) → StandsBy ids (record s { readers = readers }) new
  with_readers readers others changed = record {
    about = still_about ids s 18 old new others stands (λ e. cc) ∙ stands.about;
    accounts = still_accounts ids s 18 old new others stands (λ e. cc);
    tokens = still_tokens ids s 18 old new others stands (λ e. cc) (λ e. cc);
    crates = still_crates ids s 18 old new others stands (λ e. cc) (λ e. cc) (λ e. cc);
    owners = still_owners ids s 18 old new others stands (λ e. cc);
    reserved = still_reserved ids s 18 old new others stands (λ e. cc);
    readers = changed;
    restricted = still_restricted ids s 18 old new others stands (λ e. cc);
    summaries = still_summaries ids s 18 old new others stands (λ e. cc);
  }

  pub with_restricted : (restricted : finset.FinSet text_cmp) → KeepsOthers 17 old new → StandMarked ids.crates restricted (new 17) → StandsBy ids (record s { restricted = restricted }) new
  with_restricted restricted others changed = record {
    about = still_about ids s 17 old new others stands (λ e. cc) ∙ stands.about;
    accounts = still_accounts ids s 17 old new others stands (λ e. cc);
    tokens = still_tokens ids s 17 old new others stands (λ e. cc) (λ e. cc);
    crates = still_crates ids s 17 old new others stands (λ e. cc) (λ e. cc) (λ e. cc);
    owners = still_owners ids s 17 old new others stands (λ e. cc);
    reserved = still_reserved ids s 17 old new others stands (λ e. cc);
    readers = still_readers ids s 17 old new others stands (λ e. cc);
    restricted = changed;
    summaries = still_summaries ids s 17 old new others stands (λ e. cc);
  }

  pub with_reserved : (reserved : finset.FinSet text_cmp) → KeepsOthers 14 old new → StandReserved reserved new → StandsBy ids (record s { reserved = reserved }) new
  with_reserved reserved others changed = record {
    about = still_about ids s 14 old new others stands (λ e. cc) ∙ stands.about;
    accounts = still_accounts ids s 14 old new others stands (λ e. cc);
    tokens = still_tokens ids s 14 old new others stands (λ e. cc) (λ e. cc);
    crates = still_crates ids s 14 old new others stands (λ e. cc) (λ e. cc) (λ e. cc);
    owners = still_owners ids s 14 old new others stands (λ e. cc);
    reserved = changed;
    readers = still_readers ids s 14 old new others stands (λ e. cc);
    restricted = still_restricted ids s 14 old new others stands (λ e. cc);
    summaries = still_summaries ids s 14 old new others stands (λ e. cc);
  }

  -- both tables of tokens
  pub with_tokens : (tokens : List Token) (tree : ℕ) → ((n : ℕ) → n ≢ 3 → n ≢ 5 → n ≢ tree) → KeepsOthers tree old new → StandTokens tokens new → StandsBy ids (record s { tokens = tokens }) new
  with_tokens tokens tree apart others changed = record {
    about = still_about ids s tree old new others stands (apart 0 (λ e. cc) (λ e. cc)) ∙ stands.about;
    accounts = still_accounts ids s tree old new others stands (apart 1 (λ e. cc) (λ e. cc));
    tokens = changed;
    crates = still_crates ids s tree old new others stands (apart 7 (λ e. cc) (λ e. cc)) (apart 11 (λ e. cc) (λ e. cc)) (apart 13 (λ e. cc) (λ e. cc));
    owners = still_owners ids s tree old new others stands (apart 9 (λ e. cc) (λ e. cc));
    reserved = still_reserved ids s tree old new others stands (apart 14 (λ e. cc) (λ e. cc));
    readers = still_readers ids s tree old new others stands (apart 18 (λ e. cc) (λ e. cc));
    restricted = still_restricted ids s tree old new others stands (apart 17 (λ e. cc) (λ e. cc));
    summaries = still_summaries ids s tree old new others stands (apart 16 (λ e. cc) (λ e. cc));
  }
