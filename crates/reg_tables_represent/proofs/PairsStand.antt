-- A relation after a change that names a crate by its id.
use Rattle.reg_tables_represent.proofs.Words.{is_owner, is_at_one_of, IdAssignment, StandCrates, StandPairs, spelling_at, ◌≡◌, ℕ, ℤ, pos, Bool, List}
use Rattle.reg_tables_represent.proofs.Words.{◌∷◌, true, false, not, Option, Some, None, refl, sym, ◌∙◌}
use Rattle.reg_tables_represent.proofs.Common.{canon, filter, has_rowid, Int, is_taken, list_any, mark_cmp, owner_cmp, owner_columns, Publication, put_row, Row, Text, Trees, true_not_false}
use Rattle.reg_tables_represent.proofs.Stays.{pairs_stay}
use Rattle.reg_tables_represent.proofs.Removed.{keeps_all, removes_passing}
use Rattle.reg_tables_represent.proofs.PairChanges.{is_there}
use Rattle.reg_tables_represent.specs.Changes.{insert_at, remove_at}
use Rattle.reg_tables_represent.proofs.CrateLemmas.{crate_there, no_row, there_at}
use Rattle.reg_tables_represent.proofs.PairChanges.{adds_pair, held_again, none_passes, removes_pair}
use Rattle.std.specs.FinSet as finset

module _ (ids : IdAssignment) (publications : List Publication) (yanked : finset.FinSet mark_cmp) (db : Trees) (stands : StandCrates ids publications yanked db) (held : finset.FinSet owner_cmp) (rows : List Row) (pairs : StandPairs ids.crates held rows) (id account : ℕ) where
  -- a pair that is there already is not added
  pub again : list_any (is_owner id account) rows ≡ true → held ≡ insert_at (spelling_at ids id) account held
  again is = split (spelling_at ids id) refl
    where
      split : (o : Option Text) → spelling_at ids id ≡ o → held ≡ insert_at o account held
      split None none = refl
      split (Some name) at = held_again held (canon name, account) (sym (is_there ids publications yanked db stands held id name (there_at ids id name at) account rows pairs) ∙ is)

  -- nor is a pair of a crate that is not there
  pub no_crate : list_any (has_rowid (pos id)) (db 7) ≡ false → held ≡ insert_at (spelling_at ids id) account held
  no_crate none = split (spelling_at ids id) refl
    where
      split : (o : Option Text) → spelling_at ids id ≡ o → held ≡ insert_at o account held
      split None at = refl
      split (Some name) at = true_not_false _ (crate_there ids publications yanked db stands id name (there_at ids id name at)) none

  pub added : list_any (has_rowid (pos id)) (db 7) ≡ true → list_any (is_owner id account) rows ≡ false → (rowid : ℤ) → is_taken rows (Int rowid ∷ owner_columns id account) ≡ false
      → StandPairs ids.crates (insert_at (spelling_at ids id) account held) (put_row (Int rowid ∷ owner_columns id account) rows)
  added crate absent rowid free = split (spelling_at ids id) refl
    where
      split : (o : Option Text) → spelling_at ids id ≡ o → StandPairs ids.crates (insert_at o account held) (put_row (Int rowid ∷ owner_columns id account) rows)
      split None none = true_not_false _ crate (no_row ids publications yanked db stands id none)
      split (Some name) at =
          let there = there_at ids id name at in
          adds_pair ids publications yanked db stands held id name there account rows pairs (sym (is_there ids publications yanked db stands held id name there account rows pairs) ∙ absent) rowid free

  pub removed : StandPairs ids.crates (remove_at (spelling_at ids id) account held) (filter (λ r. not (is_owner id account r)) rows)
  removed = split (spelling_at ids id) refl
    where
      split : (o : Option Text) → spelling_at ids id ≡ o → StandPairs ids.crates (remove_at o account held) (filter (λ r. not (is_owner id account r)) rows)
      split None none = pairs_stay ids.crates held rows (filter (λ r. not (is_owner id account r)) rows) (keeps_all (is_owner id account) rows (none_passes ids held rows pairs id none account)) pairs
      split (Some name) at = removes_pair ids publications yanked db stands held id name (there_at ids id name at) account rows pairs

  -- what DELETE leaves
  pub left : (now : List Row) → now ≡ filter (λ row. not (is_at_one_of (filter (is_owner id account) rows) row)) rows → StandPairs ids.crates (remove_at (spelling_at ids id) account held) now
  left now is = pairs_stay ids.crates (remove_at (spelling_at ids id) account held) (filter (λ r. not (is_owner id account r)) rows) now (is ∙ removes_passing (is_owner id account) rows pairs.apart) removed

  -- whether it is there
  pub pair_told : (n : Text) → spelling_at ids id ≡ Some n → (b : Bool) → list_any (is_owner id account) rows ≡ b → finset.contains held (canon n, account) ≡ b
  pair_told n at b is = sym (is_there ids publications yanked db stands held id n (there_at ids id n at) account rows pairs) ∙ is

  -- where no crate is there, none has its id
  pub no_crate_told : list_any (has_rowid (pos id)) (db 7) ≡ false → (n : Text) → spelling_at ids id ≡ Some n → {A : Type 0} → A
  no_crate_told none n at = true_not_false _ (crate_there ids publications yanked db stands id n (there_at ids id n at)) none
