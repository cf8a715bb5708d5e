-- The parts of a request's target (RFC 3986, section 3).
use Rattle.std.specs.Prelude.{ℕ, ◌==◌, Bool, [], codes, drop, length, slice_get, unwrap_or}
use Rattle.std.specs.List.{after_first, before_first, slice_split}
use Rattle.percent_encoding.specs.Percent.{percent_decode}
use Rattle.reg_model.specs.Registry.{Text}

abbrev pub is_question : ℕ → Bool
is_question b = b == 63

abbrev pub is_slash : ℕ → Bool
is_slash b = b == 47

-- what stands before the first `?`, and what follows it, which is empty where there is none
abbrev pub path_of : Text → Text
path_of target = before_first is_question target

abbrev pub query_of : Text → Text
query_of target = after_first is_question target

-- the part of the path between two slashes, decoded; the first is part 0, before the first slash
abbrev pub part_of : ℕ → Text → Text
part_of n path = percent_decode (unwrap_or (slice_get (slice_split is_slash path) n) [])

-- what follows `/index/`, decoded as a whole
abbrev pub index_rest : Text → Text
index_rest path = percent_decode (drop (length (codes "/index/")) path)
