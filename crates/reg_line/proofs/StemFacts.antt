-- The check of a stem is true just where some manifest has that stem.
use Rattle.reg_line.proofs.Words.{◌≡◌, ℕ, Bool, true, false, not, List, [], ◌∷◌, ◌++◌, Ok, string_cmp, codes, refl, sym, ap, ◌∙◌, and_parts}
use Rattle.reg_line.proofs.Words.{false≢true, IsOrdered, encode_lower, Data, object, read, compact_text, is_name, Features, Metadata}
use Rattle.reg_line.proofs.Words.{manifest_view, Parsed, ◌>>=◌, Manifest, newer, older, IsStem, line_members, IsStemOf}
use Rattle.std.proofs.Common.{Err, bytes_eq, if◌then◌else◌}
use Rattle.std.proofs.lemmas.List.{append_cancel_right}
use Rattle.std.proofs.lemmas.Slice.Eq.{bytes_eq-Decides}
use Rattle.std.proofs.lemmas.Str.{is_utf8-from_IsUtf8}
use Rattle.reg_manifest.specs.Fields.{json_of, value_or}
use Rattle.reg_manifest.specs.Metadata.{keeps_rules}
use Rattle.reg_manifest.specs.Parsing.{FailsAs}
use Rattle.reg_manifest.specs.declared.fault.ManifestFault.{ManifestFault}
use Rattle.reg_manifest.specs.declared.fault.ManifestFault.TheVariants as fault
use Rattle.reg_line.specs.Line.{line_data, line_json}
use Rattle.reg_line.specs.LineRead.{bytes_from, line_from}
use Rattle.reg_line.specs.StemCheck.{fits, stem_read}
use Rattle.reg_line.proofs.Back.{IsUtf8-compact_text, read-compact_text}
use Rattle.reg_line.proofs.LineBack.{line-back, undescribed}
use Rattle.reg_line.proofs.Maps.{ascending_view}
use Rattle.reg_line.proofs.Ascii.{hex-utf8, name-utf8}
use Rattle.reg_line.proofs.Plain.{line-plain, line-shallow}
use Rattle.reg_line.proofs.Stems.{line-stem, stem_text}

-- ---- from true

parts_if : (a b c d : Bool) → (if not a then false else if not b then false else if not c then false else d) ≡ true → (a ≡ true) × (b ≡ true) × (c ≡ true) × (d ≡ true)
parts_if false b c d h = absurd (false≢true h)
parts_if true false c d h = absurd (false≢true h)
parts_if true true false d h = absurd (false≢true h)
parts_if true true true d h = (refl, refl, refl, h)

all_if : (a b c d : Bool) → a ≡ true → b ≡ true → c ≡ true → d ≡ true → (if not a then false else if not b then false else if not c then false else d) ≡ true
all_if a b c d p q r s = rw (p, q, r, s) refl

-- the bytes before `false}` of a line are its stem
IsStem-from_line : (m : Metadata) (digest s : List ℕ) → s ++ codes "false}" ≡ line_json m digest false → IsStem m digest s
IsStem-from_line m digest s h =
    let same : s ≡ stem_text m digest = append_cancel_right s (stem_text m digest) (codes "false}") (h ∙ line-stem m digest false) in
    (h, ap (λ (t : List ℕ). t ++ codes "true}") same ∙ sym (line-stem m digest true))

pub IsStemOf-from_fits : (m : Manifest) (s name vers digest : List ℕ) → IsOrdered string_cmp m.features → fits (manifest_view m) (s ++ codes "false}") name vers digest ≡ true → IsStemOf s name vers digest
unfolding fits
IsStemOf-from_fits m s name vers digest ordered h =
    let v = manifest_view m in
    let p = parts_if (bytes_eq v.name name) (bytes_eq v.vers vers) (keeps_rules v) (bytes_eq (line_json v digest false) (s ++ codes "false}")) h in
    (m, ordered, p.2, (bytes_eq-Decides v.name name).0 p.0, (bytes_eq-Decides v.vers vers).0 p.1, IsStem-from_line v digest s (sym ((bytes_eq-Decides (line_json v digest false) (s ++ codes "false}")).0 p.3)))

-- ---- from a manifest

named : (m : Metadata) → keeps_rules m ≡ true → is_name m.name ≡ true
unfolding keeps_rules
named m h = (and_parts (is_name m.name) _ h).0

json-line : (m : Manifest) (digest : List ℕ) → IsOrdered string_cmp m.features → is_name m.name ≡ true → json_of (line_json (manifest_view m) digest false) ≡ Ok (line_data (manifest_view m) digest false)
unfolding line_json
json-line m digest ordered n =
    let d = line_data (manifest_view m) digest false in
    let plain = line-plain m digest false ordered (name-utf8 m.name n) (hex-utf8 digest) in
    ap (λ b. if b then value_or (read (compact_text d)) else Err fault.NotJson) (is_utf8-from_IsUtf8 (compact_text d) (IsUtf8-compact_text d plain))
    ∙ ap value_or (read-compact_text d plain (line-shallow (manifest_view m) digest false))

bytes-back : (m : Manifest) (digest : List ℕ) → IsOrdered string_cmp m.features → is_name m.name ≡ true → bytes_from (line_json (manifest_view m) digest false) ≡ Ok (undescribed (manifest_view m))
unfolding bytes_from
bytes-back m digest ordered n =
    ap (λ (r : Parsed Data). r >>= λ d. line_from d) (json-line m digest ordered n)
    ∙ line-back (manifest_view m) digest false n (ascending_view m.features.entries ordered)

-- the rules, the name and the line do not ask for the description
members-undescribed : (olds news : Features) (m : Metadata) (c : List ℕ) (y : Bool) → line_members olds news (undescribed m) c y ≡ line_members olds news m c y
members-undescribed olds [] m c y = refl
members-undescribed olds (f ∷ fs) m c y = refl

line-undescribed : (m : Metadata) (digest : List ℕ) (y : Bool) → line_json (undescribed m) digest y ≡ line_json m digest y
unfolding line_json line_data
line-undescribed m digest y = ap (λ ms. compact_text (object ms)) (members-undescribed (older m.features) (newer m.features) m (encode_lower digest) y)

rules-undescribed : (m : Metadata) → keeps_rules (undescribed m) ≡ keeps_rules m
unfolding keeps_rules
rules-undescribed m = refl

fits-undescribed : (m : Metadata) (whole name vers digest : List ℕ) → fits (undescribed m) whole name vers digest ≡ fits m whole name vers digest
unfolding fits
fits-undescribed m whole name vers digest = rw (rules-undescribed m, line-undescribed m digest false) refl

pub stem_read-IsStemOf : (s name vers digest : List ℕ) → IsStemOf s name vers digest → stem_read s name vers digest ≡ Ok true
unfolding stem_read fits
stem_read-IsStemOf s name vers digest w =
    let v = manifest_view w.0 in
    let line = line_json v digest false in
    let n = named v w.2 in
    ap (λ t. bytes_from t >>= λ m. Ok (fits m t name vers digest)) w.5.0
    ∙ ap (λ (r : Parsed Metadata). r >>= λ m. Ok (fits m line name vers digest)) (bytes-back w.0 digest w.1 n)
    ∙ ap Ok (fits-undescribed v line name vers digest)
    ∙ ap Ok (all_if (bytes_eq v.name name) (bytes_eq v.vers vers) (keeps_rules v) (bytes_eq line line) ((bytes_eq-Decides v.name name).1 w.3) ((bytes_eq-Decides v.vers vers).1 w.4) w.2 ((bytes_eq-Decides line line).1 refl))

pub same_ok : (a b : Bool) → ◌≡◌ {A = Parsed Bool} (Ok a) (Ok b) → a ≡ b
same_ok a b h = cc

-- what is refused, and not for want of memory, has no answer
pub not_refused : (e : ManifestFault) (r : Parsed Bool) (b : Bool) → (e ≡ fault.Memory → ⊥) → FailsAs e r → r ≡ Ok b → ⊥
not_refused fault.NotJson r b m f h = let e = sym f ∙ h in cc e
not_refused fault.Field r b m f h = let e = sym f ∙ h in cc e
not_refused fault.Name r b m f h = let e = sym f ∙ h in cc e
not_refused fault.Version r b m f h = let e = sym f ∙ h in cc e
not_refused fault.Dependency r b m f h = let e = sym f ∙ h in cc e
not_refused fault.Memory r b m f h = m refl
