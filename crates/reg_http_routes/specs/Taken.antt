-- What the parameters of a match are, in the words of a path's parts.
use Rattle.std.specs.Prelude.{◌≡◌, List, [], codes, unwrap_or}
use Rattle.matchit.specs.Params.{AllText, named, walk}
use Rattle.matchit.specs.declared.params.Params.{Params}
use Rattle.percent_encoding.specs.Percent.{percent_decode}
use Rattle.reg_model.specs.Registry.{Text}
use Rattle.reg_http_routes.specs.Targets.{index_rest, part_of}
use Rattle.reg_http_routes.specs.declared.place.Place.{Place}
use Rattle.reg_http_routes.specs.declared.place.Place.TheVariants.{Index, Crates, New, Owners, Yank, Unyank, Download}

-- each parameter of a match, by its name, with what it took of the path
abbrev pub taken : Params → List (Text × Text)
taken params = walk params.pattern.now params.text.now params.path.now params.names.now 0 0

-- what the parameter of this name took, decoded, and nothing where there is none
abbrev pub param : Text → List (Text × Text) → Text
param name all = percent_decode (unwrap_or (named name all) [])

-- the crate is part 4 of the path, and the version part 5
abbrev pub IsCrate : Text → List (Text × Text) → Type 0
IsCrate path all = param (codes "crate") all ≡ part_of 4 path

abbrev pub IsVersion : Text → List (Text × Text) → Type 0
IsVersion path all = param (codes "version") all ≡ part_of 5 path

-- the parameters of the place's route are parts of the path
abbrev pub AreParts : Place → Text → List (Text × Text) → Type 0
AreParts Index path all = param (codes "rest") all ≡ index_rest path
AreParts Crates path all = Unit {0}
AreParts New path all = Unit {0}
AreParts Owners path all = IsCrate path all
AreParts Yank path all = IsCrate path all × IsVersion path all
AreParts Unyank path all = IsCrate path all × IsVersion path all
AreParts Download path all = IsCrate path all × IsVersion path all

-- what the parameters of a match took of a path that leads to the place
pub record Took (place : Place) (path : Text) (all : List (Text × Text)) : Type 0 where
  pub parts : AreParts place path all
  pub text : AllText all
