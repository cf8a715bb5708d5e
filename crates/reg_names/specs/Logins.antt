-- Logins of accounts (a rule of this registry's own).
use Rattle.std.specs.Prelude.{ℕ, ◌==◌, ◌&&◌, ◌||◌, nat_le, nat_lt, if◌then◌else◌, Bool, Option, Some, None, List, length, slice_index}
use Rattle.std.specs.List.{list_all}
use Rattle.std.specs.Char.{is_ascii_lowercase, is_ascii_digit}

-- an ASCII lower-case letter, a digit, `-` or `_`
abbrev pub is_login_byte : ℕ → Bool
is_login_byte b = (is_ascii_lowercase b || is_ascii_digit b) || (b == 45 || b == 95)

-- a login: 1 to 32 of these characters, the first a letter
abbrev pub is_login : List ℕ → Bool
is_login t = (nat_lt 0 (length t) && nat_le (length t) 32)
    && (is_ascii_lowercase (slice_index t 0) && list_all is_login_byte t)

-- the login that a text is
abbrev pub login_of : List ℕ → Option (List ℕ)
login_of t = if is_login t then Some t else None
