-- What the records of the program stand for in the registry.
use Rattle.std.specs.Prelude.{map, ℕ, Bool, List, [], ◌∷◌, Option, Some, None, string_bytes}
use Rattle.std.specs.Option.{option_map}
use Rattle.std.specs.FinSet as finset
use Rattle.reg_names.specs.Names.{canon}
use Rattle.reg_versions.specs.Versions.{release_key_of}
use Rattle.sqlite.specs.Order.{Row}
use Rattle.sqlite.specs.declared.types.Value.TheVariants.{Blob}
use Rattle.reg_tables_schema.specs.Rows.{sql_bool}
use Rattle.reg_model.specs.Crates.{is_yanked, versions}
use Rattle.reg_model.specs.Registry as model
use Rattle.reg_model.specs.Registry.{mark_cmp}
use Rattle.reg_tables_sql.specs.declared.accounts.Account.{Account}
use Rattle.reg_tables_sql.specs.declared.crates.Crate.{Crate}
use Rattle.reg_tables_sql.specs.declared.versions.Version.{Version}
use Rattle.reg_tables_represent.specs.Stands.{StoredCrate}

abbrev pub one_of : {X : Type 0} → Option X → List X
one_of None = []
one_of (Some x) = x ∷ []

-- an account behind its id
abbrev pub entry_of_account : Account → ℕ × model.Account
entry_of_account a = (
  a.id,
  record {
    login = string_bytes a.login;
    name = option_map string_bytes a.name;
    enabled = a.enabled;
  },
)

-- a crate's spelling behind its id
abbrev pub entry_of_crate : Crate → StoredCrate
entry_of_crate c = (c.id, string_bytes c.name)

-- what the table of versions shows of a version
pub record ShownVersion : Type 0 where
  pub version : model.Text
  pub release : model.Text
  pub digest : model.Text
  pub stem : model.Text
  pub description : Option model.Text
  pub yanked : Bool

abbrev pub shown_version : Version → ShownVersion
shown_version v =
    record {
      version = string_bytes v.vers;
      release = string_bytes v.release;
      digest = v.digest.items;
      stem = v.stem.items;
      description =
          option_map string_bytes v.description;
      yanked = v.yanked;
    }

-- the same of a publication, where these are the marks of what is yanked
abbrev pub version_shown : finset.FinSet mark_cmp → model.Publication → ShownVersion
version_shown yanked p =
    record {
      version = p.version;
      release = release_key_of p.version;
      digest = p.digest;
      stem = p.stem;
      description = p.description;
      yanked =
          finset.contains yanked (canon p.name, p.version);
    }

-- the entries of a crate's index file, and how one is shown
abbrev pub entries : model.Registry → model.Text → List (model.Text × Bool)
entries s n = map (λ p. (p.stem, is_yanked s n p.version)) (versions s n)

abbrev pub entry_row : model.Text × Bool → Row
entry_row e = Blob e.0 ∷ sql_bool e.1 ∷ []
