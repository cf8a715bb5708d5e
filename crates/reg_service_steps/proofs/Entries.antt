-- The lines of an index file, from the rows of versions.
use Rattle.std.proofs.Common.{◌≡◌, List, [], ◌∷◌, Bool, true, false, cond, map, refl, sym, ap, ◌∙◌}
use Rattle.std.specs.FinSet as finset
use Rattle.std.specs.List.{filter}
use Rattle.reg_names.specs.Names.{canon}
use Rattle.reg_model.specs.Crates.{collides, is_yanked, versions}
use Rattle.reg_model.specs.Registry.{Publication, Registry, Text}
use Rattle.reg_tables_schema.proofs.Queries.{maps_twice}
use Rattle.reg_tables_sql.specs.declared.versions.Version.{Version}
use Rattle.reg_tables_represent.specs.Entries.{ShownVersion, shown_version, version_shown}
use Rattle.reg_tables_represent.proofs.CrateLemmas.{same_bytes}
use Rattle.reg_service_steps.specs.Reads.{entry_of_version}

abbrev shown_entry : ShownVersion → Text × Bool
shown_entry v = (v.stem, v.yanked)

-- versions of one crate are marked under one canonical text
entries_are : (s : Registry) (n : Text) (ps : List Publication) → let of_it = filter (λ p. collides p.name n) ps in map shown_entry (map (version_shown s.yanked) of_it) ≡ map (λ p. (p.stem, is_yanked s n p.version)) of_it
entries_are s n [] = refl
entries_are s n (p ∷ ps) = one (collides p.name n) refl (filter (λ p. collides p.name n) ps) (entries_are s n ps)
  where
    entry : Publication → Text × Bool
    entry q = (q.stem, is_yanked s n q.version)

    one : (b : Bool) → collides p.name n ≡ b → (qs : List Publication) → map shown_entry (map (version_shown s.yanked) qs) ≡ map entry qs → map shown_entry (map (version_shown s.yanked) (cond b (p ∷ qs) qs)) ≡ map entry (cond b (p ∷ qs) qs)
    one true is qs h = let same = same_bytes (canon p.name) (canon n) is in λ i. (p.stem, finset.contains s.yanked (same i, p.version)) ∷ h i
    one false is qs h = h

pub entries_told : (s : Registry) (n : Text) (list : List Version) → map shown_version list ≡ map (version_shown s.yanked) (versions s n) → map entry_of_version list ≡ map (λ p. (p.stem, is_yanked s n p.version)) (versions s n)
entries_told s n list lists = sym (maps_twice shown_version shown_entry list) ∙ ap (map shown_entry) lists ∙ entries_are s n s.publications
