-- No line is shorter than one that tells as little as a line can.
use Rattle.reg_line.proofs.Words.{◌≡◌, ◌≤◌, ◌<◌, ◌/◌, ℕ, Bool, true, false, cond, List, [], ◌∷◌, ◌++◌, length, map, nat_lt, Option, Some}
use Rattle.reg_line.proofs.Words.{None, codes, sym, ap, ◌∙◌, arith, and_parts, encode_lower, lower_digits, quoted, Data, array, boolean}
use Rattle.reg_line.proofs.Words.{number, object, string, unsigned, Items, no_items, item, Members, no_members, member, comma_if}
use Rattle.reg_line.proofs.Words.{compact_text, items_text, members_text, items_of, Features, Metadata, manifest_view, is_name}
use Rattle.reg_line.proofs.Words.{feature_members, newer, older, line_of, dep_data, line_members, text_or_null, shortest_line, IsStemOf}
use Rattle.std.proofs.Common.{◌+◌, ◌%◌, ◌^◌}
use Rattle.std.proofs.lemmas.Fmt.{decimal_nonempty}
use Rattle.std.proofs.lemmas.List.{length-append}
use Rattle.std.specs.Char.{digit_char}
use Rattle.std.specs.Fmt.{decimal}
use Rattle.hex.proofs.HexLemmas.{length-encode_with}
use Rattle.json.specs.Print.{escape, escape_byte, escape_letter}
use Rattle.semver.specs.Identifiers.{marked}
use Rattle.reg_manifest.specs.Metadata.{keeps_rules}
use Rattle.reg_versions.specs.Versions.{is_version}
use Rattle.reg_versions.proofs.Grammar.{version_grammar}
use Rattle.reg_line.specs.Line.{deps_data, line_data, line_json}
use Rattle.reg_line.proofs.Stems.{line-line_of}

-- ---- texts

either : (b : Bool) (x y : List ℕ) → 1 ≤ length x → 1 ≤ length y → 1 ≤ length (cond b x y)
either true x y p q = p
either false x y p q = q

escaped_byte : (b : ℕ) → 1 ≤ length (escape_byte b)
unfolding escape_byte
escaped_byte b =
    either (nat_lt 0 (escape_letter b)) (92 ∷ escape_letter b ∷ []) _ (omega arith)
    (either (nat_lt b 32) (92 ∷ 117 ∷ 48 ∷ 48 ∷ digit_char (b / 16) ∷ digit_char (b % 16) ∷ []) (b ∷ []) (omega arith) (omega arith))

escaped : (s : List ℕ) → length s ≤ length (escape s)
escaped [] = omega arith
escaped (b ∷ s) = omega (arith, escaped_byte b, escaped s, length-append (escape_byte b) (escape s))

-- a string has its characters, and two quotes
string_long : (s : List ℕ) → length s + 2 ≤ length (compact_text (string s))
string_long s = omega (arith, escaped s, length-append (escape s) (34 ∷ []))

told_long : (o : Option (List ℕ)) → 2 ≤ length (compact_text (text_or_null o))
told_long None = omega arith
told_long (Some s) = omega (arith, string_long s)

boolean_long : (b : Bool) → 4 ≤ length (compact_text (boolean b))
boolean_long true = omega arith
boolean_long false = omega arith

-- ---- arrays and objects

after : (a b : List ℕ) → length b ≤ length (a ++ b)
after a b = omega (arith, length-append a b)

items_long : (later : Bool) (ds : Items) → 1 ≤ length (items_text later ds)
items_long later no_items = omega arith
items_long later (item d ds) = omega (arith, items_long true ds, after (compact_text d) (items_text true ds), after (comma_if later) (compact_text d ++ items_text true ds))

-- the first member, and one after others
first_long : (k : List ℕ) (d : Data) (ms : Members) (n m : ℕ) → n ≤ length (compact_text d) → m ≤ length (members_text true ms) → length k + 3 + n + m ≤ length (members_text false (member k d ms))
first_long k d ms n m p q =
    omega (arith, p, q, string_long k, length-append (quoted k) (58 ∷ (compact_text d ++ members_text true ms)), length-append (compact_text d) (members_text true ms))

next_long : (k : List ℕ) (d : Data) (ms : Members) (n m : ℕ) → n ≤ length (compact_text d) → m ≤ length (members_text true ms) → length k + 4 + n + m ≤ length (members_text true (member k d ms))
next_long k d ms n m p q = let e = first_long k d ms n m p q in omega (arith, e)

members_long : (later : Bool) (ms : Members) → 1 ≤ length (members_text later ms)
members_long later no_members = omega arith
members_long true (member k d ms) = let e = next_long k d ms 0 1 (omega arith) (members_long true ms) in omega (arith, e)
members_long false (member k d ms) = let e = first_long k d ms 0 1 (omega arith) (members_long true ms) in omega (arith, e)

array_long : (ds : Items) → 2 ≤ length (compact_text (array ds))
array_long ds = omega (arith, items_long false ds)

object_long : (ms : Members) → 2 ≤ length (compact_text (object ms))
object_long ms = omega (arith, members_long false ms)

-- ---- versions and digests

-- a version has three numbers and two dots
parts_long : (a b c : ℕ) (rest : List ℕ) → a < 2 ^ 64 → b < 2 ^ 64 → c < 2 ^ 64 → 5 ≤ length (decimal a ++ (46 ∷ (decimal b ++ (46 ∷ (decimal c ++ rest)))))
parts_long a b c rest p q r =
    omega (arith, decimal_nonempty a p, decimal_nonempty b q, decimal_nonempty c r, length-append (decimal c) rest, length-append (decimal b) (46 ∷ (decimal c ++ rest)), length-append (decimal a) (46 ∷ (decimal b ++ (46 ∷ (decimal c ++ rest)))))

version_long : (v : List ℕ) → is_version v ≡ true → 5 ≤ length v
version_long v is =
    let (p, (valid, text)) = (version_grammar v).0 is in
    let long = parts_long p.0 p.1 p.2 (marked 45 p.3 ++ marked 43 p.4) valid.0 valid.1 valid.2 in
    omega (arith, long, ap length text)

hex_long : (digest : List ℕ) → length digest ≡ 32 → 66 ≤ length (compact_text (string (encode_lower digest)))
hex_long digest e = omega (arith, e, length-encode_with lower_digits digest, string_long (encode_lower digest))

-- ---- the line

module _ (m : Metadata) (cksum : List ℕ) (y : Bool) (whole : 66 ≤ length (compact_text (string cksum))) (vers : 5 ≤ length m.vers) where
  abbrev rust_on : Members → Members
  rust_on ms = member (codes "rust_version") (text_or_null m.rust_version) ms

  abbrev name_on : Members → Members
  name_on ms = member (codes "name") (string m.name) (rust_on ms)

  abbrev links_on : Members → Members
  links_on ms = member (codes "links") (text_or_null m.links) (name_on ms)

  abbrev yanked : Members
  yanked = member (codes "yanked") (boolean y) no_members

  abbrev last : Members
  last = member (codes "vers") (string m.vers) yanked

  last_long : 30 ≤ length (members_text true last)
  last_long =
      let end = next_long (codes "yanked") (boolean y) no_members 4 1 (boolean_long y) (omega arith) in
      let own : 7 ≤ length (compact_text (string m.vers)) = omega (arith, vers, string_long m.vers) in
      let e = next_long (codes "vers") (string m.vers) yanked 7 15 own (omega (arith, end)) in
      omega (arith, e)

  links_long : (ms : Members) → 30 ≤ length (members_text true ms) → 69 + length m.name ≤ length (members_text true (links_on ms))
  links_long ms h =
      let rust = next_long (codes "rust_version") (text_or_null m.rust_version) ms 2 30 (told_long m.rust_version) h in
      let name = next_long (codes "name") (string m.name) (rust_on ms) (length m.name + 2) 48 (string_long m.name) (omega (arith, rust)) in
      let links = next_long (codes "links") (text_or_null m.links) (name_on ms) 2 (58 + length m.name) (told_long m.links) (omega (arith, name)) in
      omega (arith, links)

  begun_long : (features ms : Members) → 69 + length m.name ≤ length (members_text true ms)
      → 168 + length m.name ≤ length (compact_text (object (member (codes "cksum") (string cksum) (member (codes "deps") (deps_data m.deps) (member (codes "features") (object features) ms)))))
  begun_long features ms h =
      let own = next_long (codes "features") (object features) ms 2 (69 + length m.name) (object_long features) h in
      let deps = next_long (codes "deps") (deps_data m.deps) (member (codes "features") (object features) ms) 2 (83 + length m.name) (array_long (items_of (map dep_data m.deps))) (omega (arith, own)) in
      let e = first_long (codes "cksum") (string cksum) (member (codes "deps") (deps_data m.deps) (member (codes "features") (object features) ms)) 66 (93 + length m.name) whole (omega (arith, deps)) in
      omega (arith, e)

  with_newer : (features2 : Members) → 69 + length m.name ≤ length (members_text true (member (codes "features2") (object features2) (links_on (member (codes "v") (number (unsigned 2)) last))))
  with_newer features2 =
      let v = next_long (codes "v") (number (unsigned 2)) last 0 30 (omega arith) last_long in
      let own = links_long (member (codes "v") (number (unsigned 2)) last) (omega (arith, v)) in
      let e = next_long (codes "features2") (object features2) (links_on (member (codes "v") (number (unsigned 2)) last)) 0 (69 + length m.name) (omega arith) own in
      omega (arith, e)

  members_of_line_long : (olds news : Features) → 168 + length m.name ≤ length (compact_text (object (line_members olds news m cksum y)))
  members_of_line_long olds [] = begun_long (feature_members olds) (links_on last) (links_long last last_long)
  members_of_line_long olds (f ∷ fs) = begun_long (feature_members olds) (member (codes "features2") (object (feature_members (f ∷ fs))) (links_on (member (codes "v") (number (unsigned 2)) last))) (with_newer (feature_members (f ∷ fs)))

json_long : (m : Metadata) (digest : List ℕ) (y : Bool) → length digest ≡ 32 → is_version m.vers ≡ true → 168 + length m.name ≤ length (line_json m digest y)
unfolding line_json line_data
json_long m digest y e v = members_of_line_long m (encode_lower digest) y (hex_long digest e) (version_long m.vers v) (older m.features) (newer m.features)

versioned : (m : Metadata) → keeps_rules m ≡ true → is_version m.vers ≡ true
unfolding keeps_rules
versioned m h = (and_parts (is_version m.vers) _ (and_parts (is_name m.name) _ h).1).0

pub line_long : (s name vers digest : List ℕ) (y : Bool) → length digest ≡ 32 → IsStemOf s name vers digest → shortest_line name ≤ length (line_of (s, y))
line_long s name vers digest y e w =
    let v = manifest_view w.0 in
    let whole = json_long v digest y e (versioned v w.2) in
    let text : length (line_json v digest y) + 1 ≡ length (line_of (s, y)) = sym (length-append (line_json v digest y) (10 ∷ [])) ∙ ap length (line-line_of v digest s y w.5) in
    omega (arith, whole, text, ap length w.3)
