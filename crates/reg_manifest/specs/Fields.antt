-- The fields of a JSON object, a null standing for a field that is missing.
use Rattle.std.specs.Prelude.{ℕ, Bool, List, [], ◌∷◌, Option, Some, None, Ok, Err, if◌then◌else◌}
use Rattle.std.specs.BTreeMap.{insert_entry}
use Rattle.std.specs.Cmp.Lexicographic.{slice_cmp}
use Rattle.std.specs.Ordering.{nat_cmp}
use Rattle.std.specs.Str.{is_utf8}
use Rattle.serde_json.specs.Data.{Data, null, boolean, number, string, array, object, Items, no_items, item, Members, no_members, member}
use Rattle.serde_json.specs.Find.{get}
use Rattle.serde_json.specs.Read.{read}
use Rattle.reg_manifest.specs.Parsing.{Parsed, ◌>>=◌}
use Rattle.reg_manifest.specs.declared.fault.ManifestFault.TheVariants as fault

abbrev pub value_or : Option Data → Parsed Data
value_or None = Err fault.NotJson
value_or (Some d) = Ok d

-- the JSON value that bytes are
abbrev pub json_of : List ℕ → Parsed Data
json_of bytes = if is_utf8 bytes then value_or (read bytes) else Err fault.NotJson

-- ---- one field

-- a value that is not null
abbrev pub unless_null : Data → Option Data
unless_null null = None
unless_null (boolean b) = Some (boolean b)
unless_null (number n) = Some (number n)
unless_null (string s) = Some (string s)
unless_null (array ds) = Some (array ds)
unless_null (object ms) = Some (object ms)

abbrev pub present : Option Data → Option Data
present None = None
present (Some d) = unless_null d

-- the field's value, unless it is missing or null
abbrev pub field : List ℕ → Data → Option Data
field k d = present (get k d)

-- a field that has to be there
abbrev pub required : {A : Type 0} → (Data → Parsed A) → Option Data → Parsed A
required f None = Err fault.Field
required f (Some d) = f d

-- a field with a value for null
abbrev pub or_else : {A : Type 0} → A → (Data → Parsed A) → Option Data → Parsed A
or_else a f None = Ok a
or_else a f (Some d) = f d

-- a field that may be null
abbrev pub optional : {A : Type 0} → (Data → Parsed A) → Option Data → Parsed (Option A)
optional f None = Ok None
optional f (Some d) = f d >>= λ a. Ok (Some a)

-- ---- kinds of values

abbrev pub text_of : Data → Parsed (List ℕ)
text_of null = Err fault.Field
text_of (boolean b) = Err fault.Field
text_of (number n) = Err fault.Field
text_of (string s) = Ok s
text_of (array ds) = Err fault.Field
text_of (object ms) = Err fault.Field

abbrev pub flag_of : Data → Parsed Bool
flag_of null = Err fault.Field
flag_of (boolean b) = Ok b
flag_of (number n) = Err fault.Field
flag_of (string s) = Err fault.Field
flag_of (array ds) = Err fault.Field
flag_of (object ms) = Err fault.Field

abbrev pub list_of : Data → Parsed Items
list_of null = Err fault.Field
list_of (boolean b) = Err fault.Field
list_of (number n) = Err fault.Field
list_of (string s) = Err fault.Field
list_of (array ds) = Ok ds
list_of (object ms) = Err fault.Field

abbrev pub members_of : Data → Parsed Members
members_of null = Err fault.Field
members_of (boolean b) = Err fault.Field
members_of (number n) = Err fault.Field
members_of (string s) = Err fault.Field
members_of (array ds) = Err fault.Field
members_of (object ms) = Ok ms

-- each of a list, up to the first fault
abbrev pub each : {A : Type 0} → (Data → Parsed A) → Items → Parsed (List A)
each f no_items = Ok []
each f (item d ds) = f d >>= λ a. each f ds >>= λ rest. Ok (a ∷ rest)

abbrev pub texts_of : Data → Parsed (List (List ℕ))
texts_of d = list_of d >>= λ ds. each text_of ds

-- ---- features: lists of texts under names

-- names in byte order, each with its values
abbrev pub Features : Type 0
Features = List (List ℕ × List (List ℕ))

-- the lists of an object's members; a JSON value has its members in byte order, each name once
abbrev pub lists_of : Members → Parsed Features
lists_of no_members = Ok []
lists_of (member k d ms) = texts_of d >>= λ vs. lists_of ms >>= λ fs. Ok ((k, vs) ∷ fs)

abbrev pub features_of : Data → Parsed Features
features_of d = members_of d >>= λ ms. lists_of ms

-- a list put into others under its name, in place of what stood there
abbrev pub with_list : Features → List ℕ → List (List ℕ) → Features
with_list found name texts = insert_entry (slice_cmp nat_cmp) found name texts

-- the members' lists put into what was found before, one after another
abbrev pub lists_onto : Members → Features → Parsed Features
lists_onto no_members found = Ok found
lists_onto (member k d ms) found = texts_of d >>= λ vs. lists_onto ms (with_list found k vs)
