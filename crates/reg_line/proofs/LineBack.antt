-- Reading a line's value gives what the manifest tells, its description aside.
use Rattle.reg_line.proofs.Words.{◌≡◌, ℕ, Bool, true, List, [], ◌∷◌, map, Option, Some, None, Ok, refl, sym, ap, insert_entry, slice_cmp}
use Rattle.reg_line.proofs.Words.{encode_lower, string, object, items_of, is_name, Features, each, DepData, Metadata, feature_members}
use Rattle.reg_line.proofs.Words.{newer, older, dep_data, dep_named, line_members, text_or_null}
use Rattle.std.specs.Ordering.{nat_cmp}
use Rattle.reg_manifest.specs.Fields.{lists_of, lists_onto, optional, text_of, unless_null}
use Rattle.reg_line.specs.Line.{line_data}
use Rattle.reg_line.specs.LineRead.{about_from, dep_from, features_from, line_from, origin_from}
use Rattle.reg_line.proofs.Back.{ascending}
use Rattle.reg_line.proofs.Maps.{insert_all, merge}

each-texts : (ss : List (List ℕ)) → each text_of (items_of (map string ss)) ≡ Ok ss
each-texts [] = refl
each-texts (s ∷ ss) = rw (each-texts ss) refl

option-back : (o : Option (List ℕ)) → optional text_of (unless_null (text_or_null o)) ≡ Ok o
option-back None = refl
option-back (Some s) = refl

-- ---- dependencies

dep-back : (r : Option (List ℕ)) (d : DepData) → d.rename ≡ r → dep_from (dep_named r d) ≡ Ok d
unfolding dep_from origin_from
dep-back None d h = rw (each-texts d.features, option-back d.registry, option-back d.target) (ap (λ r. Ok (record d { rename = r })) (sym h))
dep-back (Some s) d h = rw (each-texts d.features, option-back d.registry, option-back d.target) (ap (λ r. Ok (record d { rename = r })) (sym h))

deps-back : (ds : List DepData) → each dep_from (items_of (map dep_data ds)) ≡ Ok ds
deps-back [] = refl
deps-back (d ∷ ds) = rw (dep-back d.rename d refl, deps-back ds) refl

-- ---- features

lists-back : (fs : Features) → lists_of (feature_members fs) ≡ Ok fs
lists-back [] = refl
lists-back (f ∷ fs) = rw (each-texts f.1, lists-back fs) refl

onto-back : (fs found : Features) → lists_onto (feature_members fs) found ≡ Ok (insert_all fs found)
onto-back [] found = refl
onto-back (f ∷ fs) found = rw (each-texts f.1) (onto-back fs (insert_entry (slice_cmp nat_cmp) found f.0 f.1))

features-back : (olds news : Features) (m : Metadata) (c : List ℕ) (y : Bool) → features_from (object (line_members olds news m c y)) ≡ Ok (insert_all news olds)
unfolding features_from
features-back olds [] m c y = rw (lists-back olds) refl
features-back olds (f ∷ fs) m c y = rw (lists-back olds) (onto-back (f ∷ fs) olds)

-- ---- the whole

-- what a line tells of a manifest
abbrev pub undescribed : Metadata → Metadata
undescribed m = record m { description = None }

members-back : (olds news : Features) (m : Metadata) (c : List ℕ) (y : Bool) → is_name m.name ≡ true → insert_all news olds ≡ m.features → line_from (object (line_members olds news m c y)) ≡ Ok (undescribed m)
unfolding line_from about_from
members-back olds [] m c y n all =
    rw (deps-back m.deps, features-back olds [] m c y, option-back m.links, n, option-back m.rust_version)
    (ap (λ fs. Ok (record (undescribed m) { features = fs })) all)
members-back olds (f ∷ fs) m c y n all =
    rw (deps-back m.deps, features-back olds (f ∷ fs) m c y, option-back m.links, n, option-back m.rust_version)
    (ap (λ fs. Ok (record (undescribed m) { features = fs })) all)

pub line-back : (m : Metadata) (digest : List ℕ) (y : Bool) → is_name m.name ≡ true → ascending (feature_members m.features) ≡ true → line_from (line_data m digest y) ≡ Ok (undescribed m)
unfolding line_data
line-back m digest y n h = members-back (older m.features) (newer m.features) m (encode_lower digest) y n (merge m.features h)
