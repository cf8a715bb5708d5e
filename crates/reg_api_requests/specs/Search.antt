-- How many crates a search asks for (the Cargo Book, "Registry Web API", "Search").
use Rattle.std.specs.Prelude.{ℕ, ◌&&◌, nat_lt, min, Option, Some, None, if◌then◌else◌}
use Rattle.std.specs.Char.{is_ascii_digit}
use Rattle.std.specs.List.{list_all}
use Rattle.std.specs.Str.Parse.{digits_value}
use Rattle.reg_model.specs.Registry.{Text}

-- the number that decimal digits write, where it is more than 0, and at most 100 of it
abbrev pub page_size : Text → Option ℕ
page_size t =
    if list_all is_ascii_digit t && nat_lt 0 (digits_value 10 t)
    then Some (min 100 (digits_value 10 t)) else None

-- how many crates are asked for at most; 10 where the query does not say
abbrev pub page_of : Option Text → Option ℕ
page_of None = Some 10
page_of (Some t) = page_size t
