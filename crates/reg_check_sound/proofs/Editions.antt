-- Rows of schema 1 are those of a sound registry exactly where those are that they become.
use Rattle.reg_check_sound.proofs.Words.{Obeys, Datatype, NotNull, Publication, owner_cmp, text_cmp, owner_apart, owner_total, text_apart}
use Rattle.reg_check_sound.proofs.Words.{not_true, true_not_false, about_columns, Second, StandsSoundBy, StandsBy, is_paired, StandSummaries}
use Rattle.reg_check_sound.proofs.Words.{same_bytes, AuditLaw, IsWhole}
use Rattle.reg_check_sound.proofs.Common.{◌≡◌, ◌==◌, [], ◌∷◌, ◌∙◌, all_weaker, any_in, ap, bytes_eq, canon, drop, each_in, IdAssignment, in_permuted, inl, IsIn, IsPermutation, List, list_any, map, nat_list_cmp_total, refl, Row, shows, StoredCrate, subst, sym, Trees, true, ℕ}
use Rattle.std.specs.FinSet as finset
use Rattle.sqlite.specs.Effect.{Database}
use Rattle.sqlite.specs.Schema.{Schema}
use Rattle.reg_model.specs.Crates.{has_crate}
use Rattle.reg_model.specs.Registry.{Registry, Text}
use Rattle.reg_tables_schema.specs.Schema as schema
use Rattle.reg_tables_schema.specs.declared.edition.SchemaVersion.TheVariants.{First}
use Rattle.reg_tables_represent.specs.Stands.{StandsOld}
use Rattle.reg_tables_represent.proofs.CrateLemmas.{crate_of, is_stored}
use Rattle.reg_tables_represent.proofs.Stays.{accounts_stay, crates_stay, pairs_stay, reserved_stay, tokens_stay}
use Rattle.reg_tables_represent.specs.Upgrades.{IsUpgrade}
use Rattle.reg_check_sound.specs.Editions.{AreFound, EditionLaw, FoundLaw}
use Rattle.reg_check_sound.proofs.Plain.{told_base}
use Rattle.reg_check_sound.proofs.RowColumns.{whole_rows}
use Rattle.reg_check_sound.proofs.Shapes.{each_is}

-- a migration keeps the registry
abbrev pub MigrateLaw : Type 0
MigrateLaw = (ids : IdAssignment) (s : Registry) (old new : Database) → StandsOld ids s old.trees → IsUpgrade old new → StandsBy ids s new.trees

-- where there are no rows, there is nothing that they are of
none_left : {X : Type 0} (row : X → Row) (xs : List X) (rows : List Row) → rows ≡ [] → IsPermutation (map row xs) rows → xs ≡ []
none_left row [] rows e h = refl
none_left row (x ∷ xs) rows e h = absurd (subst (IsIn (row x)) e (in_permuted (map row (x ∷ xs)) rows (row x) h (inl refl)))

base_is : {a b : Text} → about_columns Second a ∷ [] ≡ about_columns Second b ∷ [] → a ≡ b
base_is e = cc

module _ (ids : IdAssignment) (s : Registry) (db : Trees) (h : StandsSoundBy ids s db) where
  -- a crate that is there is stored
  stored_crate : (c : Text) → has_crate s c ≡ true → (x : StoredCrate) × IsIn x ids.crates × (canon x.1 ≡ c)
  stored_crate c there =
      let crates = h.stands.crates in
      let p = any_in (λ p. bytes_eq (canon p.name) c) s.publications there in
      let v = is_stored ids s.publications s.yanked db crates p.0 p.1 in
      let x = crate_of ids s.publications s.yanked db crates v.0 v.1 in
      (x.0, x.1, ap canon x.3 ∙ ap (λ (q : Publication). canon q.name) v.2 ∙ same_bytes (canon p.0.name) c p.2)

  none_restricted : db 17 ≡ [] → s.restricted ≡ finset.empty
  none_restricted empty = finset.same_set nat_list_cmp_total text_apart s.restricted finset.empty (λ c. not_true (finset.contains s.restricted c) (λ there.
      let stands = h.stands.restricted in
      let x = stored_crate c (h.sound.restricted c there) in
      let none = none_left _ stands.marks (map (shows (0 ∷ [])) (db 17)) (ap (map (shows (0 ∷ []))) empty) stands.are in
      let same = each_in (λ c. finset.contains s.restricted (canon c.1) ≡ list_any (λ i. i == c.0) stands.marks) ids.crates x.0 stands.same x.1 in
      true_not_false (finset.contains s.restricted c) there (ap (finset.contains s.restricted) (sym x.2) ∙ same ∙ ap (list_any (λ i. i == x.0.0)) none)) ∙ sym (finset.contains-empty text_cmp c))

  none_reads : db 18 ≡ [] → s.readers ≡ finset.empty
  none_reads empty = finset.same_set owner_total owner_apart s.readers finset.empty (λ q. not_true (finset.contains s.readers q) (λ there.
      let stands = h.stands.readers in
      let x = stored_crate q.0 (h.sound.readers q.0 q.1 there).0 in
      let none = none_left _ stands.pairs (map (drop 1) (db 18)) (ap (map (drop 1)) empty) stands.are in
      let same = each_in (λ c. (account : ℕ) → finset.contains s.readers (canon c.1, account) ≡ is_paired stands.pairs c.0 account) ids.crates x.0 stands.same x.1 in
      true_not_false (finset.contains s.readers q) there (ap (λ (c : Text). finset.contains s.readers (c, q.1)) (sym x.2) ∙ same q.1 ∙ ap (λ ps. is_paired ps x.0.0 q.1) none)) ∙ sym (finset.contains-empty owner_cmp q))

module _ (old new : Database) (found : AreFound First old) (up : IsUpgrade old new) (ids : IdAssignment) (s : Registry) (h : StandsSoundBy ids s new.trees) where
  -- the row of `about` has no more than it shows
  about_first : map (drop 1) (old.trees 0) ≡ about_columns First found.about.0 ∷ []
  about_first =
      let obeys = subst (λ (s : Schema). Obeys s old.trees) found.schema found.keeps in
      let whole = whole_rows old.trees schema.about 1 refl refl (old.trees 0) (obeys.rules Datatype).0 (obeys.rules NotNull).0 in
      each_is (drop 1) (shows (1 ∷ 2 ∷ [])) (old.trees 0) (all_weaker (IsWhole (0 ∷ 1 ∷ 2 ∷ [])) (λ r. drop 1 r ≡ shows (1 ∷ 2 ∷ []) r) told_base (old.trees 0) whole) ∙ found.about.1

  about_is : map (drop 1) (old.trees 0) ≡ about_columns First s.base ∷ []
  about_is = about_first ∙ ap (λ (base : Text). about_columns First base ∷ []) (base_is (sym (up.about found.about.0 about_first) ∙ h.stands.about))

  old_stands : StandsOld ids s old.trees
  old_stands =
      let kept = up.kept.1 in
      let crates = kept.1.1.1 in record {
        about = about_is;
        accounts = accounts_stay s.accounts new.trees old.trees (sym (kept.0 (λ e. cc))) h.stands.accounts;
        tokens = tokens_stay s.tokens new.trees old.trees (sym (kept.1.0 (λ e. cc))) (sym (kept.1.1.0 (λ e. cc))) h.stands.tokens;
        crates = crates_stay ids s.publications s.yanked new.trees old.trees (sym (crates.0 (λ e. cc))) (sym (crates.1.1.0 (λ e. cc))) (sym (crates.1.1.1.0 (λ e. cc))) h.stands.crates;
        owners = pairs_stay ids.crates s.owners (new.trees 9) (old.trees 9) (sym (crates.1.0 (λ e. cc))) h.stands.owners;
        reserved = reserved_stay s.reserved new.trees old.trees (sym (crates.1.1.1.1.0 (λ e. cc))) h.stands.reserved;
        summaries = subst (StandSummaries ids s.yanked) (crates.1.1.1.1.1.0 (λ e. cc)) h.stands.summaries;
        restricted = none_restricted ids s new.trees h up.restricted;
        readers = none_reads ids s new.trees h up.readers;
      }

pub either_edition : MigrateLaw → EditionLaw
either_edition migrate First now db found (d, up, same) ids s = (
  λ h. subst (StandsSoundBy ids s) (sym same) (record { sound = h.0; stands = migrate ids s now d h.1 up }),
  λ h. let k = subst (StandsSoundBy ids s) same h in (k.sound, old_stands now d found up ids s k),
)
either_edition migrate Second now db found same ids s = (λ h. subst (StandsSoundBy ids s) (sym same) h, λ h. subst (StandsSoundBy ids s) same h)

pub either_found : AuditLaw → EditionLaw → FoundLaw
either_found audited edition e now db are begun it rows found first = (
  λ none. let k = (audited it db rows found first).0 none in (k.0, k.1, (edition e now db are begun k.0 k.1).1 k.2),
  λ k. (audited it db rows found first).1 (k.0, k.1, (edition e now db are begun k.0 k.1).0 k.2),
)
