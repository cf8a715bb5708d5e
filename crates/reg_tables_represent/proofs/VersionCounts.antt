-- How many versions of a crate the rows stand for.
use Rattle.reg_tables_represent.proofs.Words.{◌≡◌, ◌==◌, ◌<◌, ◌+◌, ◌-◌, ℕ, false, map, length, nat_le, not, Option, Some, None, refl, sym, ap}
use Rattle.reg_tables_represent.proofs.Words.{arith, ◌∙◌, length-map, versions, IsLastId, next_version, IsNext, StandCrates, row_of_version}
use Rattle.reg_tables_represent.proofs.Words.{spelling_at, its_versions}
use Rattle.reg_tables_represent.proofs.Common.{filter, is_number, Registry, Text, Trees, unwrap_or}
use Rattle.std.proofs.lemmas.List.Filters.{length-filter_both}
use Rattle.reg_tables_sql.specs.Counts.{IsCountOf}
use Rattle.reg_tables_represent.proofs.CrateCounts.{count_is, no_more_than_next, not_le}
use Rattle.reg_tables_represent.proofs.Rising.{next_as}
use Rattle.reg_tables_represent.proofs.SummaryLaws.{published}
use Rattle.reg_tables_represent.proofs.VersionEntries.{its_rows}
use Rattle.reg_tables_represent.specs.Stored.{IdAssignment, StoredVersion}

module _ (ids : IdAssignment) (s : Registry) (db : Trees) (h : StandCrates ids s.publications s.yanked db) (id : ℕ) (name : Text) (at : spelling_at ids id ≡ Some name) where
  counted : (n : ℕ) → n < 9223372036854775807 → IsCountOf 11 2 id db n → n ≡ length (its_versions ids id)
  counted n low count =
      count_is (row_of_version s.yanked) (its_versions ids id) (filter (is_number 2 id) (db 11)) n n (refl, low) (its_rows ids s.publications s.yanked db h id) count

  own : length (its_versions ids id) ≡ length (versions s name)
  own = sym (length-map (its_versions ids id) (λ (v : StoredVersion). v.publication)) ∙ ap (λ ps. length ps) (published ids s db h id name at)

  pub versions_counted : (n : ℕ) → n < 9223372036854775807 → IsCountOf 11 2 id db n → n ≡ length (versions s name)
  versions_counted n low count = counted n low count ∙ own

  -- a crate has no more versions than ids were taken
  pub few_versions : (last : Option ℕ) (number : ℕ) → IsLastId 11 db last → unwrap_or last 0 < number - 1 → nat_le number (length (versions s name)) ≡ false
  few_versions last number greatest low =
      let row = row_of_version s.yanked in
      let next : 1 + unwrap_or last 0 ≡ next_version ids = next_as row (λ (v : StoredVersion). v.id) (λ v. refl) ids.versions (db 11) last (1 + unwrap_or last 0) h.version_rows greatest (taken last) in
      let few = no_more_than_next (map (λ (v : StoredVersion). v.id) ids.versions) h.rising in
      let both = length-filter_both (λ (v : StoredVersion). v.of_crate == id) (λ v. not (v.of_crate == id)) (λ v. refl) ids.versions in
      not_le number (length (versions s name)) (omega (arith, next, few, own, length-map ids.versions (λ (v : StoredVersion). v.id), both, low))
    where
      taken : (last : Option ℕ) → IsNext last (1 + unwrap_or last 0)
      taken None = refl
      taken (Some n) = refl
