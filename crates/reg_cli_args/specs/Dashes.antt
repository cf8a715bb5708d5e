-- Values that begin with a dash.
use Rattle.std.specs.Prelude.{◌==◌, ◌&&◌, ◌||◌, Bool, codes, slice_index}
use Rattle.std.specs.List.{after_first}
use Rattle.std.specs.Str.{bytes_eq}
use Rattle.reg_model.specs.Registry.{Text}

abbrev pub begins_with_dash : Text → Bool
begins_with_dash text = slice_index text 0 == 45

-- a value that begins with `-`: that of an option, behind the first `=`, or the word `-`; and the
-- word `--`, behind which such values could stand
abbrev pub is_dashed : Text → Bool
is_dashed word =
    (bytes_eq word (codes "-") || bytes_eq word (codes "--"))
    || (begins_with_dash word && begins_with_dash (after_first (λ b. b == 61) word))
