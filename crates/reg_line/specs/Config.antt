-- The file `config.json` of the index (the Cargo Book, "Registry Index", "Index configuration").
use Rattle.std.specs.Prelude.{ℕ, true, List, ◌++◌, codes}
use Rattle.serde_json.specs.Data.{Data, boolean, string, object, no_members, member}
use Rattle.serde_json.specs.Written.{compact_text}

-- where archives are downloaded
abbrev pub download_of : List ℕ → List ℕ
download_of base = base ++ codes "/api/v1/crates"

abbrev pub config_data : List ℕ → Data
config_data base = object
    (member (codes "api") (string base)
    (member (codes "auth-required") (boolean true)
    (member (codes "dl") (string (download_of base)) no_members)))

-- the config of a registry under this base
unfoldable pub config_text : List ℕ → List ℕ
config_text base = compact_text (config_data base)
