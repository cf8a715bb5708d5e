-- Tables that were just made stand for a registry with nothing in it.
use Rattle.reg_tables_represent.proofs.Common.{◌≡◌, [], ◌∷◌, ap, Database, drop, List, map, refl, Row, shows, State, subst, sym, Trees}
use Rattle.std.specs.FinSet as finset
use Rattle.std.specs.List.{IsDistinct}
use Rattle.std.specs.List.Sorted.{IsPermutation, IsStrictlySortedBy}
use Rattle.std.proofs.lemmas.List.Sorted.{IsPermutation-refl}
use Rattle.reg_model.specs.Registry.{Text, text_cmp, empty_at}
use Rattle.reg_tables_schema.specs.States.{IsAtRest, IsMade}
use Rattle.reg_tables_represent.specs.Stands.{HaveOwnRowids, StandCrates, Stands, StandMarked, StandPairs}

pub none_are : (rows : List Row) → rows ≡ [] → IsPermutation [] rows
none_are rows e = subst (IsPermutation []) (sym e) (IsPermutation-refl [])

pub none_dropped : (rows : List Row) → rows ≡ [] → IsPermutation [] (map (drop 1) rows)
none_dropped rows e = none_are (map (drop 1) rows) (ap (map (drop 1)) e)

pub none_apart : (rows : List Row) → rows ≡ [] → HaveOwnRowids rows
unfolding IsDistinct
none_apart rows e = subst HaveOwnRowids (sym e) (tt, tt)

no_crates : (db : Trees) → db 7 ≡ [] → db 11 ≡ [] → db 13 ≡ [] → StandCrates (record { crates = []; versions = [] }) [] finset.empty db
unfolding IsDistinct IsStrictlySortedBy
no_crates db crates versions archives = record {
  crate_rows = none_are (db 7) crates;
  version_rows = none_are (db 11) versions;
  archive_rows = none_are (db 13) archives;
  canons = tt;
  used = refl;
  of_crates = refl;
  up = tt;
  rising = tt;
  published = refl;
}

no_pairs : (rows : List Row) → rows ≡ [] → StandPairs [] finset.empty rows
unfolding IsDistinct
no_pairs rows none = record {
  pairs = [];
  are = none_dropped rows none;
  apart = none_apart rows none;
  of_crates = refl;
  once = tt;
  same = tt;
}

no_marks : (rows : List Row) → rows ≡ [] → StandMarked [] finset.empty rows
no_marks rows none = record { marks = []; are = none_are (map (shows (0 ∷ [])) rows) (ap (map (shows (0 ∷ []))) none); of_crates = refl; same = tt }

stands_empty : (base : Text) (db : Database) → IsMade base db → Stands (empty_at base) db.trees
stands_empty base db made =
    let rows = made.empty.1 in
    let crates = rows.1.1.1 in
    let last = crates.1.1.1.1.1 in (
      record { crates = []; versions = [] },
      record {
        about = made.about;
        accounts = record { rows = none_are (db.trees 1) (rows.0 (λ e. cc)) };
        tokens = record { rows = none_are (db.trees 3) (rows.1.0 (λ e. cc)); scopes = none_dropped (db.trees 5) (rows.1.1.0 (λ e. cc)) };
        crates = no_crates db.trees (crates.0 (λ e. cc)) (crates.1.1.0 (λ e. cc)) (crates.1.1.1.0 (λ e. cc));
        owners = no_pairs (db.trees 9) (crates.1.0 (λ e. cc));
        readers = no_pairs (db.trees 18) (last.1.1.0 (λ e. cc));
        restricted = no_marks (db.trees 17) (last.1.0 (λ e. cc));
        reserved = record {
          texts = [];
          rows = none_dropped (db.trees 14) (crates.1.1.1.1.0 (λ e. cc));
          apart = none_apart (db.trees 14) (crates.1.1.1.1.0 (λ e. cc));
          same = finset.contains-empty text_cmp;
        };
        summaries = record { are = none_are (db.trees 16) (last.0 (λ e. cc)) };
      },
    )

pub made_stands : (base : Text) (s : State) → IsMade base s.committed × IsAtRest s → Stands (empty_at base) s.now.trees
made_stands base s h = subst (λ (db : Database). Stands (empty_at base) db.trees) (sym h.1.settled) (stands_empty base s.committed h.0)
