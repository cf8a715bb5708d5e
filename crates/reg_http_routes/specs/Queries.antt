-- The pairs of a query (the URL Standard, section 5.1), and the two that a search looks at
-- (the Cargo Book, "Registry Web API", "Search").
use Rattle.std.specs.Prelude.{List, [], ◌∷◌, codes, Option, Some, None, if◌then◌else◌}
use Rattle.std.specs.Str.{bytes_eq}
use Rattle.std.specs.Str.Lossy.{utf8_lossy}
use Rattle.form_urlencoded.specs.Form.{decode, raw_pairs}
use Rattle.reg_model.specs.Registry.{Text}
use Rattle.reg_api_requests.specs.Wants.{Wants}
use Rattle.reg_api_requests.specs.Wants.Wants.{Search as to_search}

-- the text that an encoded name or value stands for
abbrev pub decoded : Text → Text
decoded bytes = utf8_lossy (decode bytes)

-- the value of the first pair of this name
abbrev pub first_value : Text → List (Text × Text) → Option Text
first_value name [] = None
first_value name (pair ∷ pairs) =
    if bytes_eq (decoded pair.0) name then Some (decoded pair.1) else first_value name pairs

-- a search, by the first `q` and the first `per_page`
abbrev pub search_wants : Text → Wants
search_wants query =
    to_search (first_value (codes "q") (raw_pairs query))
    (first_value (codes "per_page") (raw_pairs query))
