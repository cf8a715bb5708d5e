-- What a search finds (the Cargo Book, "Registry Web API", "Search").
use Rattle.std.specs.Prelude.{ℕ, ◌&&◌, ◌||◌, Bool, List, [], ◌∷◌, map, length, take, Option, None, unwrap_or, slice_get, nat_eq}
use Rattle.std.specs.List.{filter, starts_with}
use Rattle.std.specs.Option.{option_and_then, option_map}
use Rattle.reg_names.specs.Names.{canon}
use Rattle.reg_versions.specs.Precedence.{Marked, top_place}
use Rattle.reg_versions.specs.Versions.{parts_of}
use Rattle.reg_model.specs.Registry.{Text, Publication, Registry}
use Rattle.reg_model.specs.Crates.{canons, first, is_yanked, sees, versions}
use Rattle.reg_model.specs.Events.{FoundCrates, Hit}

-- whether a text stands somewhere in another: it begins that, or stands in the rest of it
abbrev pub occurs : Text → Text → Bool
occurs q [] = starts_with nat_eq [] q
occurs q (b ∷ rest) = starts_with nat_eq (b ∷ rest) q || occurs q rest

-- a version of a crate, read, with its yanked mark
abbrev pub marked : Registry → Text → Publication → Marked
marked s n p = (parts_of p.version, is_yanked s n p.version)

-- the publication of the highest version of a crate
unfoldable pub top : Registry → Text → Option Publication
top s n = option_and_then (slice_get (versions s n)) (top_place (map (marked s n) (versions s n)))

-- what is shown of the crate with a canonical text
abbrev pub hit : Registry → Text → Hit
hit s c = record {
  name = unwrap_or (first s c) [];
  version = unwrap_or (option_map (λ p. p.version) (top s c)) [];
  description = unwrap_or (option_map (λ p. p.description) (top s c)) None;
}

-- The canonical texts, in their order, of the crates that somebody sees and in whose canonical text
-- that of the query occurs.
unfoldable pub matches : Registry → Option ℕ → Text → List Text
matches s who q = filter (λ c. sees s who c && occurs (canon q) c) (canons s)

-- Their number, and the first of them.
unfoldable pub found : Registry → Option ℕ → Text → ℕ → FoundCrates
found s who q most = record {
  total = length (matches s who q);
  crates = map (hit s) (take most (matches s who q));
}
