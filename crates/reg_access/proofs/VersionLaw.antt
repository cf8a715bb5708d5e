-- Where the rows stand for a registry, a version comes back where the crate has it.
use Rattle.reg_access.proofs.Words.{◌≡◌, ◌==◌, ◌⊎◌, inl, inr, ℕ, pos, List, [], ◌∷◌, map, Bool, true, false, ◌&&◌, is_some, refl, sym, ap}
use Rattle.reg_access.proofs.Words.{ap₂, ◌∙◌, list_any, bytes_eq, list_any-IsPermutation, Value, Null, Int, Text, Binary, Row, column}
use Rattle.reg_access.proofs.Words.{Trees, equal, canon, release_key_of, collides, same_release, versions, any_filter, any_same}
use Rattle.reg_access.proofs.Words.{is_some_find, list_any_map, shows, equals_int, equals_text, IdAssignment, StandCrates, StandsBy, StoredCrate}
use Rattle.reg_access.proofs.Words.{StoredVersion, row_of_version, same_text, bytes_same, same_bytes, same_crate, same_number}
use Rattle.reg_access.proofs.Words.{crates_seen_by, is_release, is_there, is_version, value_at, versions_of_release, versions_with_text}
use Rattle.sqlite_keyed.proofs.SliceLemmas.{list_any_same}
use Rattle.reg_model.specs.Registry as model
use Rattle.reg_model.proofs.Lists.{none_both}
use Rattle.reg_model.proofs.Members.{in_each}
use Rattle.reg_access.proofs.Answered.{there_filtered}
use Rattle.reg_access.proofs.CrateLaw.{IsFound, IsMissing, found_or_missing, id_shown, no_rows}
use Rattle.reg_access.proofs.Nulls.{equals_null, none_any}

-- no version is of NULL
none_passes : (rest : Row → Bool) (rows : List Row) → list_any (λ r. equal Binary (column r 2) Null && rest r) rows ≡ false
none_passes rest rows = any_same (λ r. equal Binary (column r 2) Null && rest r) (λ r. false) (λ r. ap (λ b. b && rest r) (equals_null (column r 2))) rows ∙ none_any rows

pub and_twice : (a b c : Bool) → ((a && b) && c) ≡ (a && (b && c))
and_twice true b c = refl
and_twice false b c = refl

pub no_release_of_null : (text : List ℕ) (db : Trees) → is_there (versions_of_release Null text db) ≡ false
no_release_of_null text db = there_filtered (shows (0 ∷ [])) (is_release Null (release_key_of text)) (db 11) ∙ none_passes (λ r. equal Binary (column r 4) (Text (release_key_of text))) (db 11)

pub no_version_of_null : (text : List ℕ) (db : Trees) → is_there (versions_with_text Null text db) ≡ false
no_version_of_null text db =
    there_filtered (shows (0 ∷ [])) (is_version Null text) (db 11)
    ∙ any_same (is_version Null text) (λ r. equal Binary (column r 2) Null && (equal Binary (column r 4) (Text (release_key_of text)) && equal Binary (column r 3) (Text text))) (λ r. and_twice (equal Binary (column r 2) Null) (equal Binary (column r 4) (Text (release_key_of text))) (equal Binary (column r 3) (Text text))) (db 11)
    ∙ none_passes (λ r. equal Binary (column r 4) (Text (release_key_of text)) && equal Binary (column r 3) (Text text)) (db 11)

-- one text has one release
same_key : (v w : List ℕ) → (same_release v w && bytes_eq v w) ≡ bytes_eq v w
same_key v w = split (bytes_eq v w) refl
  where
    split : (b : Bool) → bytes_eq v w ≡ b → (same_release v w && b) ≡ b
    split true e = ap (λ k. k && true) (bytes_same (release_key_of v) (release_key_of w) (ap release_key_of (same_bytes v w e)))
    split false e = last (same_release v w)
      where
        last : (k : Bool) → (k && false) ≡ false
        last true = refl
        last false = refl

-- what a test of the columns of versions tells, where it is one of the crate and one of the version
module _ (ids : IdAssignment) (s : model.Registry) (db : Trees) (stands : StandsBy ids s db) (n : List ℕ) (rest : Row → Bool) (has : List ℕ → Bool) (reads : (v : StoredVersion) → rest (row_of_version s.yanked v) ≡ has v.publication.version) where
  abbrev h : StandCrates ids s.publications s.yanked db
  h = stands.crates

  abbrev of_it : ℕ → Row → Bool
  of_it id r = equal Binary (column r 2) (Int (pos id)) && rest r

  versions_missing : IsMissing ids s db stands n → list_any (λ p. has p.version) (versions s n) ≡ false
  versions_missing it =
      let gone : list_any (λ p. collides p.name n) s.publications ≡ false = sym (is_some_find (λ p. p.name) (λ p. collides p.name n) s.publications) ∙ ap is_some it.unspelled in
      any_filter (λ p. collides p.name n) (λ p. has p.version) s.publications ∙ none_both (λ p. collides p.name n) (λ p. has p.version) s.publications gone

  versions_found : (x : StoredCrate) → IsFound ids s db stands n x → list_any (of_it x.0) (db 11) ≡ list_any (λ p. has p.version) (versions s n)
  versions_found x it =
      let row = row_of_version s.yanked in
      let mine = λ (v : StoredVersion). (v.of_crate == x.0) && has v.publication.version in
      let named = λ (v : StoredVersion). collides v.publication.name n && has v.publication.version in
      let by_name = list_any_same mine named ids.versions (in_each (λ v. mine v ≡ named v) ids.versions (λ v i. ap (λ b. b && has v.publication.version)
      (same_crate ids s.publications s.yanked db h x.0 x.1 it.stored v i ∙ ap (λ c. bytes_eq (canon v.publication.name) c) it.named_so))) in
      sym (list_any-IsPermutation (of_it x.0) (map row ids.versions) (db 11) h.version_rows) ∙ list_any_map (of_it x.0) row ids.versions
      ∙ any_same _ mine (λ v. ap₂ ◌&&◌ (equals_int (Int (pos v.of_crate)) (pos x.0) ∙ same_number v.of_crate x.0) (reads v)) ids.versions ∙ by_name
      ∙ sym (list_any_map (λ p. collides p.name n && has p.version) (λ v. v.publication) ids.versions) ∙ ap (list_any (λ p. collides p.name n && has p.version)) h.published
      ∙ sym (any_filter (λ p. collides p.name n) (λ p. has p.version) s.publications)

  -- and so of the rows that an id selects, which the rows of the crate showed
  pub versions_told : (rows : Value → List Row) → (is_there (rows Null) ≡ false) → ((id : ℕ) → is_there (rows (Int (pos id))) ≡ list_any (of_it id) (db 11)) → (account : Value)
      → is_there (rows (value_at (crates_seen_by (canon n) account db) 0)) ≡ list_any (λ p. has p.version) (versions s n)
  versions_told rows none some account = either (found_or_missing ids s db stands n)
    where
      either : IsMissing ids s db stands n ⊎ ((x : StoredCrate) × IsFound ids s db stands n x) → is_there (rows (value_at (crates_seen_by (canon n) account db) 0)) ≡ list_any (λ p. has p.version) (versions s n)
      either (inl it) = ap (λ rs. is_there (rows (value_at rs 0))) (no_rows ids s db stands n account it) ∙ none ∙ sym (versions_missing it)
      either (inr it) = ap (λ v. is_there (rows v)) (id_shown ids s db stands n account it.0 it.1) ∙ some it.0.0 ∙ versions_found it.0 it.1

module _ (ids : IdAssignment) (s : model.Registry) (db : Trees) (stands : StandsBy ids s db) (n : List ℕ) (account : Value) (text : List ℕ) where
  abbrev key : List ℕ
  key = release_key_of text

  abbrev pub of_release : Row → Bool
  of_release r = equal Binary (column r 4) (Text key)

  is_of_release : (v : StoredVersion) → of_release (row_of_version s.yanked v) ≡ same_release v.publication.version text
  is_of_release v = equals_text (Text (release_key_of v.publication.version)) key ∙ same_text (release_key_of v.publication.version) key

  pub tells_release : is_there (versions_of_release (value_at (crates_seen_by (canon n) account db) 0) text db) ≡ list_any (λ p. same_release p.version text) (versions s n)
  tells_release =
      versions_told ids s db stands n of_release (λ v. same_release v text) is_of_release (λ v. versions_of_release v text db) (no_release_of_null text db)
      (λ id. there_filtered (shows (0 ∷ [])) (is_release (Int (pos id)) key) (db 11)) account

  abbrev pub of_text : Row → Bool
  of_text r = of_release r && equal Binary (column r 3) (Text text)

  pub is_of_text : (v : StoredVersion) → of_text (row_of_version s.yanked v) ≡ bytes_eq v.publication.version text
  is_of_text v =
      ap₂ ◌&&◌ (is_of_release v) (equals_text (Text v.publication.version) text ∙ same_text v.publication.version text) ∙ same_key v.publication.version text

  pub tells_version : is_there (versions_with_text (value_at (crates_seen_by (canon n) account db) 0) text db) ≡ list_any (λ p. bytes_eq p.version text) (versions s n)
  tells_version =
      versions_told ids s db stands n of_text (λ v. bytes_eq v text) is_of_text (λ v. versions_with_text v text db) (no_version_of_null text db)
      (λ id. there_filtered (shows (0 ∷ [])) (is_version (Int (pos id)) text) (db 11)
      ∙ any_same (is_version (Int (pos id)) text) (λ r. equal Binary (column r 2) (Int (pos id)) && of_text r) (λ r. and_twice (equal Binary (column r 2) (Int (pos id))) (of_release r) (equal Binary (column r 3) (Text text))) (db 11)) account
