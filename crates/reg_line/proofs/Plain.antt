-- The line of a manifest is a plain value, and a shallow one: it can be read back.
use Rattle.reg_line.proofs.Words.{◌≡◌, ◌≤◌, ℕ, Bool, true, false, not, List, [], ◌∷◌, map, filter, Option, Some, None, String, Global}
use Rattle.reg_line.proofs.Words.{string_bytes, option_map, IsUtf8, refl, sym, subst, arith, cond, string_cmp, IsOrdered, encode_lower}
use Rattle.reg_line.proofs.Words.{IsUtf8-are_ascii, Data, unsigned, null, string, object, depth, items_depth, members_depth, max_depth}
use Rattle.reg_line.proofs.Words.{items_of, Features, DepData, Metadata, dep_view, feature_view, manifest_view, Manifest, feature_members}
use Rattle.reg_line.proofs.Words.{is_newer, newer, older, dep_data, dep_named, dep_object, line_members, text_or_null}
use Rattle.std.proofs.lemmas.Fmt.{decimal_digit}
use Rattle.std.proofs.lemmas.Str.{IsUtf8-string_bytes}
use Rattle.std.specs.declared.vec.Vec.{Vec}
use Rattle.json.proofs.Printed.Decimals.{IsNumber-decimal}
use Rattle.serde_json.proofs.Numbers.{number_of-decimal}
use Rattle.reg_manifest.specs.declared.manifest.Dep.{Dep}
use Rattle.reg_line.specs.Line.{line_data}
use Rattle.reg_line.proofs.Back.{IsPlain, IsPlainNumber, ItemsArePlain, MembersArePlain, ascending}
use Rattle.reg_line.proofs.Maps.{Feature, ascending_view, ascending_filter}

-- ---- plain

strings-plain : (ss : List (String Global)) → ItemsArePlain (items_of (map string (map string_bytes ss)))
strings-plain [] = tt
strings-plain (s ∷ ss) = (IsUtf8-string_bytes s, strings-plain ss)

option-plain : (o : Option (String Global)) → IsPlain (text_or_null (option_map string_bytes o))
option-plain None = tt
option-plain (Some s) = IsUtf8-string_bytes s

object-plain : (name : List ℕ) (own : Data) (d : Dep) → IsUtf8 name → IsPlain own → IsPlain (dep_object name own (dep_view d))
object-plain name own d u p = (
  refl,
  (
    IsUtf8-are_ascii _ refl,
    tt,
    (
      IsUtf8-are_ascii _ refl,
      strings-plain d.features.items,
      (
        IsUtf8-are_ascii _ refl,
        IsUtf8-string_bytes d.kind,
        (
          IsUtf8-are_ascii _ refl,
          u,
          (
            IsUtf8-are_ascii _ refl,
            tt,
            (
              IsUtf8-are_ascii _ refl,
              p,
              (
                IsUtf8-are_ascii _ refl,
                option-plain d.registry,
                (
                  IsUtf8-are_ascii _ refl,
                  IsUtf8-string_bytes d.version_req,
                  (IsUtf8-are_ascii _ refl, option-plain d.target, tt),
                ),
              ),
            ),
          ),
        ),
      ),
    ),
  ),
)

dep-plain : (r : Option (String Global)) (d : Dep) → IsPlain (dep_named (option_map string_bytes r) (dep_view d))
dep-plain None d = object-plain (string_bytes d.name) null d (IsUtf8-string_bytes d.name) tt
dep-plain (Some s) d = object-plain (string_bytes s) (string (string_bytes d.name)) d (IsUtf8-string_bytes s) (IsUtf8-string_bytes d.name)

deps-plain : (ds : List Dep) → ItemsArePlain (items_of (map dep_data (map dep_view ds)))
deps-plain [] = tt
deps-plain (d ∷ ds) = (dep-plain d.explicit_name_in_toml d, deps-plain ds)

-- the texts of features are UTF-8
abbrev AreTexts : Features → Type 0
AreTexts fs = MembersArePlain (feature_members fs)

features-plain : (es : List (String Global × Vec (String Global) Global)) → AreTexts (map feature_view es)
features-plain [] = tt
features-plain (e ∷ es) = (IsUtf8-string_bytes e.0, strings-plain e.1.items, features-plain es)

cond-plain : (b : Bool) (f : Feature) (fs gs : Features) → AreTexts (f ∷ fs) → AreTexts gs → AreTexts (cond b (f ∷ gs) gs)
cond-plain true f fs gs h r = (h.0, h.1, r)
cond-plain false f fs gs h r = r

filter-plain : (p : Feature → Bool) (fs : Features) → AreTexts fs → AreTexts (filter p fs)
filter-plain p [] h = tt
filter-plain p (f ∷ fs) h = cond-plain (p f) f fs (filter p fs) h (filter-plain p fs h.2)

two-plain : IsPlainNumber (unsigned 2)
two-plain = (number_of-decimal 2 (omega arith), IsNumber-decimal 2 (omega arith), subst IsUtf8 (sym (decimal_digit 2 (omega arith))) (IsUtf8-are_ascii _ refl))

members-plain : (olds news : Features) (m : Manifest) (c : List ℕ) (y : Bool) → ascending (feature_members olds) ≡ true → ascending (feature_members news) ≡ true → AreTexts olds → AreTexts news
    → IsUtf8 m.name → IsUtf8 c → IsPlain (object (line_members olds news (manifest_view m) c y))
members-plain olds [] m c y a b t u n v = (
  refl,
  (
    IsUtf8-are_ascii _ refl,
    v,
    (
      IsUtf8-are_ascii _ refl,
      deps-plain m.deps.items,
      (
        IsUtf8-are_ascii _ refl,
        (a, t),
        (
          IsUtf8-are_ascii _ refl,
          option-plain m.links,
          (
            IsUtf8-are_ascii _ refl,
            n,
            (
              IsUtf8-are_ascii _ refl,
              option-plain m.rust_version,
              (IsUtf8-are_ascii _ refl, IsUtf8-string_bytes m.vers, (IsUtf8-are_ascii _ refl, tt, tt)),
            ),
          ),
        ),
      ),
    ),
  ),
)
members-plain olds (f ∷ fs) m c y a b t u n v = (
  refl,
  (
    IsUtf8-are_ascii _ refl,
    v,
    (
      IsUtf8-are_ascii _ refl,
      deps-plain m.deps.items,
      (
        IsUtf8-are_ascii _ refl,
        (a, t),
        (
          IsUtf8-are_ascii _ refl,
          (b, u),
          (
            IsUtf8-are_ascii _ refl,
            option-plain m.links,
            (
              IsUtf8-are_ascii _ refl,
              n,
              (
                IsUtf8-are_ascii _ refl,
                option-plain m.rust_version,
                (
                  IsUtf8-are_ascii _ refl,
                  two-plain,
                  (IsUtf8-are_ascii _ refl, IsUtf8-string_bytes m.vers, (IsUtf8-are_ascii _ refl, tt, tt)),
                ),
              ),
            ),
          ),
        ),
      ),
    ),
  ),
)

pub line-plain : (m : Manifest) (digest : List ℕ) (y : Bool) → IsOrdered string_cmp m.features → IsUtf8 m.name → IsUtf8 (encode_lower digest) → IsPlain (line_data (manifest_view m) digest y)
unfolding line_data
line-plain m digest y h n v =
    let fs = map feature_view m.features.entries in
    let a = ascending_view m.features.entries h in
    let t = features-plain m.features.entries in
    members-plain (older fs) (newer fs) m (encode_lower digest) y (ascending_filter (λ f. not (is_newer f)) fs a) (ascending_filter is_newer fs a)
    (filter-plain (λ f. not (is_newer f)) fs t) (filter-plain is_newer fs t) n v

-- ---- shallow

texts-depth : (ss : List (List ℕ)) → items_depth (items_of (map string ss)) ≤ 0
texts-depth [] = omega arith
texts-depth (s ∷ ss) = omega (arith, texts-depth ss)

features-depth : (fs : Features) → members_depth (feature_members fs) ≤ 1
features-depth [] = omega arith
features-depth (f ∷ fs) = omega (arith, texts-depth f.1, features-depth fs)

option-depth : (o : Option (List ℕ)) → depth (text_or_null o) ≤ 0
option-depth None = omega arith
option-depth (Some s) = omega arith

object-depth : (name : List ℕ) (own : Data) (d : DepData) → depth own ≤ 0 → depth (dep_object name own d) ≤ 2
object-depth name own d h = omega (arith, texts-depth d.features, option-depth d.registry, option-depth d.target, h)

dep-depth : (r : Option (List ℕ)) (d : DepData) → depth (dep_named r d) ≤ 2
dep-depth None d = object-depth d.name null d (omega arith)
dep-depth (Some s) d = object-depth s (string d.name) d (omega arith)

deps-depth : (ds : List DepData) → items_depth (items_of (map dep_data ds)) ≤ 2
deps-depth [] = omega arith
deps-depth (d ∷ ds) = omega (arith, dep-depth d.rename d, deps-depth ds)

members-depth : (olds news : Features) (m : Metadata) (c : List ℕ) (y : Bool) → members_depth (line_members olds news m c y) ≤ 3
members-depth olds [] m c y = omega (arith, deps-depth m.deps, features-depth olds, option-depth m.links, option-depth m.rust_version)
members-depth olds (f ∷ fs) m c y = omega (arith, deps-depth m.deps, features-depth olds, features-depth (f ∷ fs), option-depth m.links, option-depth m.rust_version)

pub line-shallow : (m : Metadata) (digest : List ℕ) (y : Bool) → depth (line_data m digest y) ≤ max_depth
unfolding line_data
line-shallow m digest y = omega (arith, members-depth (older m.features) (newer m.features) m (encode_lower digest) y)
