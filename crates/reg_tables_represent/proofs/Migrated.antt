-- What the rows stand for after a migration.
use Rattle.reg_tables_represent.proofs.Words.{StandSummaries, in_each, IsUpgrade, IdAssignment, StandMarked, StandPairs, StandsBy, StoredCrate}
use Rattle.reg_tables_represent.proofs.Common.{◌≡◌, [], ◌∷◌, ap, canon, Database, false, List, map, owner_cmp, refl, Registry, Row, shows, subst, sym, text_cmp, ℕ}
use Rattle.reg_tables_represent.proofs.Made.{none_apart, none_are, none_dropped}
use Rattle.reg_tables_represent.proofs.Stays.{accounts_stay, crates_stay, pairs_stay, reserved_stay, tokens_stay}
use Rattle.std.specs.List.{IsDistinct}
use Rattle.reg_tables_represent.specs.Stands.{StandsOld}
use Rattle.std.specs.FinSet as finset

no_pairs : (crates : List StoredCrate) (held : finset.FinSet owner_cmp) (rows : List Row) → held ≡ finset.empty → rows ≡ [] → StandPairs crates held rows
unfolding IsDistinct
no_pairs crates held rows none empty = record {
  pairs = [];
  are = none_dropped rows empty;
  apart = none_apart rows empty;
  of_crates = refl;
  once = tt;
  same = in_each (λ c. (account : ℕ) → finset.contains held (canon c.1, account) ≡ false) crates (λ c i account. subst (λ h. finset.contains h (canon c.1, account) ≡ false) (sym none) (finset.contains-empty owner_cmp (canon c.1, account)));
}

no_marks : (crates : List StoredCrate) (marked : finset.FinSet text_cmp) (rows : List Row) → marked ≡ finset.empty → rows ≡ [] → StandMarked crates marked rows
no_marks crates marked rows none empty = record {
  marks = [];
  are = none_are (map (shows (0 ∷ [])) rows) (ap (map (shows (0 ∷ []))) empty);
  of_crates = refl;
  same = in_each (λ c. finset.contains marked (canon c.1) ≡ false) crates (λ c i. subst (λ h. finset.contains h (canon c.1) ≡ false) (sym none) (finset.contains-empty text_cmp (canon c.1)));
}

pub migrated : (ids : IdAssignment) (s : Registry) (old new : Database) → StandsOld ids s old.trees → IsUpgrade old new → StandsBy ids s new.trees
migrated ids s old new stands upgrade =
    let kept = upgrade.kept.1 in
    let crates = kept.1.1.1 in record {
      about = upgrade.about s.base stands.about;
      accounts = accounts_stay s.accounts old.trees new.trees (kept.0 (λ e. cc)) stands.accounts;
      tokens = tokens_stay s.tokens old.trees new.trees (kept.1.0 (λ e. cc)) (kept.1.1.0 (λ e. cc)) stands.tokens;
      crates = crates_stay ids s.publications s.yanked old.trees new.trees (crates.0 (λ e. cc)) (crates.1.1.0 (λ e. cc)) (crates.1.1.1.0 (λ e. cc)) stands.crates;
      owners = pairs_stay ids.crates s.owners (old.trees 9) (new.trees 9) (crates.1.0 (λ e. cc)) stands.owners;
      readers = no_pairs ids.crates s.readers (new.trees 18) stands.readers upgrade.readers;
      restricted = no_marks ids.crates s.restricted (new.trees 17) stands.restricted upgrade.restricted;
      reserved = reserved_stay s.reserved old.trees new.trees (crates.1.1.1.1.0 (λ e. cc)) stands.reserved;
      summaries = subst (StandSummaries ids s.yanked) (sym (crates.1.1.1.1.1.0 (λ e. cc))) stands.summaries;
    }
