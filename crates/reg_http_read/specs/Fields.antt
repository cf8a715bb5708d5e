-- What the fields of a head ask for, and the rules on them. A field is its name and its value
-- without the spaces and tabs around it (RFC 9112, section 5).
use Rattle.std.specs.Prelude.{ℕ, ◌==◌, ◌&&◌, ◌||◌, not, nat_le, nat_lt, Bool, if◌then◌else◌, List, [], ◌∷◌, length, codes, Option, Some, None, option_map, Result, Ok, Err}
use Rattle.std.specs.List.{count_by, list_any, list_all, slice_split, find}
use Rattle.std.specs.Char.{is_ascii_digit}
use Rattle.std.specs.Str.{bytes_eq, str_to_ascii_lowercase}
use Rattle.std.specs.Str.Parse.{digits_value}
use Rattle.httparse.specs.Grammar.{trim_ows}
use Rattle.reg_model.specs.Registry.{Text}
use Rattle.reg_model.specs.declared.rule.Rule.{Rule}
use Rattle.reg_model.specs.declared.rule.Rule.TheVariants.{H1, H2, H3, H4, H5}

-- a name and its value
abbrev pub Field : Type 0
Field = Text × Text

-- the same text but for the case of ASCII letters
abbrev pub same_word : Text → Text → Bool
same_word a b = bytes_eq (str_to_ascii_lowercase a) (str_to_ascii_lowercase b)

-- names are compared without regard to case (RFC 9110, section 5.1)
abbrev pub is_named : Text → Field → Bool
is_named name field = same_word field.0 name

abbrev pub count_named : Text → List Field → ℕ
count_named name fields = count_by (is_named name) fields

-- the value of the first field of this name
abbrev pub first_of : Text → List Field → Option Text
first_of name fields = option_map (λ p. p.1) (find (is_named name) fields)

-- the value of the one field of this name
abbrev pub only_of : Text → List Field → Option Text
only_of name fields = if count_named name fields == 1 then first_of name fields else None

-- one or more decimal digits (RFC 9110, section 8.6)
abbrev pub is_number : Text → Bool
is_number text = nat_lt 0 (length text) && list_all is_ascii_digit text

-- the digits from the first that is no zero
abbrev pub without_zeros : Text → Text
without_zeros [] = []
without_zeros (d ∷ ds) = if d == 48 then without_zeros ds else d ∷ ds

-- b is a number, the same as a; numbers of any length are compared
abbrev pub is_same_number : Text → Text → Bool
is_same_number a b = is_number b && bytes_eq (without_zeros b) (without_zeros a)

-- each field of this name has that number (RFC 9112, section 6.3)
abbrev pub agree : Text → List Field → Text → Bool
agree name fields value =
    count_by (λ p. is_named name p && is_same_number value p.1) fields == count_named name fields

abbrev pub length_from : List Field → Option Text → Option ℕ
length_from fields None = Some 0
length_from fields (Some value) =
    if is_number value && agree (codes "content-length") fields value
    then Some (digits_value 10 value) else None

-- how many bytes the body has, 0 where no field says it; none where the fields don't agree
abbrev pub body_length : List Field → Option ℕ
body_length fields = length_from fields (first_of (codes "content-length") fields)

-- an element of the comma-separated list is this word (RFC 9110, section 5.6.1)
abbrev pub lists_word : Text → Text → Bool
lists_word word value =
    list_any (λ part. same_word (trim_ows part) word) (slice_split (λ b. b == 44) value)

-- HTTP/1.1 has one host, HTTP/1.0 at most one (RFC 9112, section 3.2)
abbrev pub hosts_fit : ℕ → ℕ → Bool
hosts_fit minor hosts = if minor == 1 then hosts == 1 else nat_le hosts 1

-- the interim line is waited for (RFC 9110, section 10.1.1)
abbrev pub expects : List Field → Bool
expects fields = nat_lt 0 (count_by
    (λ p. is_named (codes "expect") p && same_word p.1 (codes "100-continue")) fields)

-- the connection is to be closed after the reply (RFC 9112, section 9.6)
abbrev pub closes : List Field → Bool
closes fields = nat_lt 0 (count_by
    (λ p. is_named (codes "connection") p && lists_word (codes "close") p.1) fields)

-- what fields ask for
pub record FieldsAsked : Type 0 where
  pub token : Option Text
  pub body_len : ℕ
  pub interim : Bool
  pub close : Bool

-- what the fields ask for, where the body has n bytes
abbrev pub asked_for : ℕ → List Field → ℕ → FieldsAsked
asked_for minor fields n = record {
  token = only_of (codes "authorization") fields;
  body_len = n;
  interim = minor == 1 && (nat_lt 0 n && expects fields);
  close = not (minor == 1) || closes fields;
}

module _ (most greatest minor : ℕ) (fields : List Field) where
  abbrev pub with_length : Option ℕ → Result FieldsAsked Rule
  with_length None = Err H4
  with_length (Some n) = if nat_lt greatest n then Err H5 else Ok (asked_for minor fields n)

  -- what the fields ask for, or the first rule that they break; they are at most `most`, and their
  -- body has at most `greatest` bytes
  abbrev pub judge_fields : Result FieldsAsked Rule
  judge_fields =
      if nat_lt most (length fields) then Err H2
      else if not (hosts_fit minor (count_named (codes "host") fields)) then Err H1
      else if nat_lt 0 (count_named (codes "transfer-encoding") fields) then Err H3
      else with_length (body_length fields)
