-- What a search of the program finds.
use Rattle.std.specs.Prelude.{map, string_bytes}
use Rattle.std.specs.Option.{option_map}
use Rattle.reg_model.specs.Events as events
use Rattle.reg_reference.specs.declared.search.Hit.{Hit}
use Rattle.reg_reference.specs.declared.search.Found.{Found}

abbrev pub hit_of : Hit → events.Hit
hit_of h = record {
  name = string_bytes h.name;
  version = string_bytes h.version;
  description = option_map string_bytes h.description;
}

abbrev pub found_of : Found → events.FoundCrates
found_of f = record { total = f.total; crates = map hit_of f.crates.items }
