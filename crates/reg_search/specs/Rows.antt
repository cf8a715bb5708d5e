-- The rows of a search, and what is found among them.
use Rattle.std.specs.Prelude.{◌≡◌, ◌==◌, ◌&&◌, ⊤, ℕ, pos, Bool, not, List, [], ◌∷◌, Some, map, length, take, string_bytes}
use Rattle.std.specs.List.{AllByRecursion, filter, list_any}
use Rattle.std.specs.Option.{option_map}
use Rattle.sqlite.specs.Order.{Row, column}
use Rattle.sqlite.specs.Tree.{Trees}
use Rattle.sqlite.specs.declared.types.Value.{Value}
use Rattle.sqlite.specs.declared.types.Value.TheVariants.{Int, Text}
use Rattle.reg_model.specs.Crates.{sees}
use Rattle.reg_model.specs.Events as model
use Rattle.reg_model.specs.Lists.{IsIn}
use Rattle.reg_model.specs.Registry.{Registry, Text as Words}
use Rattle.reg_model.specs.Search.{found, hit, matches, occurs}
use Rattle.reg_names.specs.Names.{canon}
use Rattle.reg_tables_schema.specs.Rows.{text_or_null}
use Rattle.reg_tables_represent.specs.Calls.{Tells}
use Rattle.reg_tables_represent.specs.Stands.{IdAssignment, StoredCrate}
use Rattle.reg_search.specs.declared.hit.Found.{Found}
use Rattle.reg_search.specs.declared.hit.Hit.{Hit}
use Rattle.reg_search.specs.declared.numbered.Hits.{Hits}

-- what is found, as the registry tells it
abbrev pub hit_of : Hit → model.Hit
hit_of h = record {
  name = string_bytes h.name;
  version = string_bytes h.max_version;
  description = option_map string_bytes h.description;
}

abbrev pub found_of : Found → model.FoundCrates
found_of f = record { total = f.total; crates = map hit_of f.crates.items }

-- a search finds what it finds in the registry that the rows stand for
abbrev pub FindsCrates : ℕ → Words → ℕ → Trees → Found → Type 0
FindsCrates viewer q most db f = Tells (λ ids s. found_of f ≡ found s (Some viewer) q most) db

-- the same for each query that has this canonical text
abbrev pub FindsNeedle : ℕ → Words → ℕ → Trees → Found → Type 0
FindsNeedle viewer needle most db f =
    (q : Words) → needle ≡ canon q → FindsCrates viewer q most db f

-- what is shown of a crate, as a row
abbrev pub columns_of_model : model.Hit → Row
columns_of_model h = Text h.name ∷ Text h.version ∷ text_or_null h.description ∷ []

abbrev pub columns_of_hit : Hit → Row
columns_of_hit h = columns_of_model (hit_of h)

-- a row of the walk: the canonical text of a crate, and its id
abbrev pub row_of : StoredCrate → Row
row_of x = Text (canon x.1) ∷ Int (pos x.0) ∷ []

abbrev pub text_in : Value → Words
text_in (Text t) = t
text_in v = []

abbrev pub number_in : Value → ℕ
number_in (Int (pos n)) = n
number_in v = 0

abbrev pub id_of : Row → ℕ
id_of row = number_in (column row 1)

-- whether the needle stands in the canonical text of a row
abbrev pub is_match : Words → Row → Bool
is_match needle row = occurs needle (text_in (column row 0))

-- and the crate of the row is not hidden
abbrev pub is_hit : Words → List ℕ → Row → Bool
is_hit needle hidden row = is_match needle row && not (list_any (λ n. n == id_of row) hidden)

-- how many of these rows are hits, and the ids of the first of them
pub record AreHits (needle : Words) (hidden : List ℕ) (most : ℕ) (rows : List Row) (h : Hits)
    : Type 0 where
  pub total : h.total ≡ length (filter (is_hit needle hidden) rows)
  pub first : h.ids.items ≡ map id_of (take most (filter (is_hit needle hidden) rows))

-- whether the needle stands in the canonical text of a crate that an account does not see
abbrev pub is_unseen : ℕ → Words → Registry → StoredCrate → Bool
is_unseen viewer needle s x = occurs needle (canon x.1) && not (sees s (Some viewer) (canon x.1))

-- these are all such crates, by their ids
abbrev pub Hides : ℕ → Words → IdAssignment → Registry → List ℕ → Type 0
Hides viewer needle ids s hidden = AllByRecursion
    (λ x. list_any (λ n. n == x.0) hidden ≡ is_unseen viewer needle s x) ids.crates

abbrev pub HidesFrom : ℕ → Words → Trees → List ℕ → Type 0
HidesFrom viewer needle db hidden = Tells (λ ids s. Hides viewer needle ids s hidden) db

-- these are the ids of the crates with these canonical texts, in turn
pub record AreIdsOf (ids : IdAssignment) (numbers : List ℕ) (texts : List Words) : Type 0 where
  pub crates : List StoredCrate
  pub numbered : numbers ≡ map (λ x. x.0) crates
  pub named : texts ≡ map (λ x. canon x.1) crates
  pub there : AllByRecursion (λ x. IsIn x ids.crates) crates

-- the number of hits, and the ids of the first of them, where those are hidden that the account
-- does not see
abbrev pub FindsIds : Words → List ℕ → ℕ → Trees → Hits → Type 0
FindsIds needle hidden most db h = Tells
    (λ ids s. (viewer : ℕ) (q : Words) → needle ≡ canon q → Hides viewer needle ids s hidden
    → (h.total ≡ length (matches s (Some viewer) q))
    × AreIdsOf ids h.ids.items (take most (matches s (Some viewer) q))) db

-- what is shown of the crate with this id
abbrev pub ShowsCrate : ℕ → Trees → Hit → Type 0
ShowsCrate id db h = Tells
    (λ ids s. (x : StoredCrate) → IsIn x ids.crates → x.0 ≡ id → hit_of h ≡ hit s (canon x.1)) db

-- the same of several, in turn
abbrev pub ShowsCrates : List ℕ → Trees → List Hit → Type 0
ShowsCrates [] db [] = ⊤
ShowsCrates (id ∷ numbers) db (h ∷ hs) = ShowsCrate id db h × ShowsCrates numbers db hs
ShowsCrates _ db _ = ⊥
