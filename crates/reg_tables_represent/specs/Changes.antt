-- What the calls change, by the ids that the rows have. A change of what is not there is none.
use Rattle.std.specs.Prelude.{ℕ, Bool, if◌then◌else◌, [], ◌∷◌, ◌++◌, map, Option, Some, None}
use Rattle.std.specs.FinSet as finset
use Rattle.reg_names.specs.Names.{canon}
use Rattle.reg_model.specs.Changes.{with_yanked}
use Rattle.reg_model.specs.Registry.{Publication, Registry, Text, owner_cmp, text_cmp}
use Rattle.reg_model.specs.Sound.{has_version}
use Rattle.reg_tables_sql.specs.declared.pairs.Relation.{Relation}
use Rattle.reg_tables_sql.specs.declared.pairs.Relation.TheVariants.{Owners}
use Rattle.reg_tables_represent.specs.Relations.{related, with_related}
use Rattle.reg_tables_represent.specs.Stands.{IdAssignment, next_of, spelling_at}

-- the ids that a crate and a version get that are added
abbrev pub next_crate : IdAssignment → ℕ
next_crate ids = next_of (map (λ c. c.0) ids.crates)

abbrev pub next_version : IdAssignment → ℕ
next_version ids = next_of (map (λ v. v.id) ids.versions)

-- one more version of the crate with this id; and a crate with its first version
abbrev pub ids_with_version : ℕ → Publication → IdAssignment → IdAssignment
ids_with_version of_crate p ids = record ids {
  versions = ids.versions ++ record {
    id = next_version ids;
    of_crate = of_crate;
    publication = p;
  } ∷ [];
}

abbrev pub ids_with_crate : Publication → IdAssignment → IdAssignment
ids_with_crate p ids =
    record (ids_with_version (next_crate ids) p ids) {
      crates = ids.crates ++ (next_crate ids, p.name) ∷ [];
    }

-- the change that the crate with this spelling asks for; none where there is no crate
abbrev pub if_there : Option Text → (Text → Registry → Registry) → Registry → Registry
if_there None change s = s
if_there (Some name) change s = change name s

-- the version with this text is yanked or no longer
abbrev pub with_mark : Text → Bool → Text → Registry → Registry
with_mark text yanked name s =
    if has_version s (canon name) text then with_yanked yanked (canon name, text) s else s

abbrev pub mark_at : IdAssignment → ℕ → Text → Bool → Registry → Registry
mark_at ids id text yanked = if_there (spelling_at ids id) (with_mark text yanked)

-- one more pair of the crate with this spelling and an account, or one less; none where there is no
-- crate
abbrev pub insert_at : Option Text → ℕ → finset.FinSet owner_cmp → finset.FinSet owner_cmp
insert_at None account held = held
insert_at (Some name) account held = finset.insert held (canon name, account)

abbrev pub remove_at : Option Text → ℕ → finset.FinSet owner_cmp → finset.FinSet owner_cmp
remove_at None account held = held
remove_at (Some name) account held = finset.remove held (canon name, account)

-- the account is in a relation with the crate of this id, or no longer
abbrev pub pair_at : Relation → IdAssignment → ℕ → ℕ → Registry → Registry
pair_at relation ids id account s =
    with_related relation (insert_at (spelling_at ids id) account (related relation s)) s

abbrev pub no_pair_at : Relation → IdAssignment → ℕ → ℕ → Registry → Registry
no_pair_at relation ids id account s =
    with_related relation (remove_at (spelling_at ids id) account (related relation s)) s

-- it owns the crate, or no longer
abbrev pub owner_at : IdAssignment → ℕ → ℕ → Registry → Registry
owner_at = pair_at Owners

abbrev pub no_owner_at : IdAssignment → ℕ → ℕ → Registry → Registry
no_owner_at = no_pair_at Owners

-- the crate with this spelling is in a set, or no longer; none where there is no crate
abbrev pub mark_in : Option Text → Bool → finset.FinSet text_cmp → finset.FinSet text_cmp
mark_in None marked set = set
mark_in (Some name) marked set =
    if marked then finset.insert set (canon name) else finset.remove set (canon name)

-- the crate with this id is restricted, or open to all
abbrev pub restricted_at : IdAssignment → ℕ → Bool → Registry → Registry
restricted_at ids id restricted s =
    record s { restricted = mark_in (spelling_at ids id) restricted s.restricted }

-- what is told of the crate with this id; nothing where there is none
abbrev pub told_of : {X : Type 0} → Option Text → X → (Text → X) → X
told_of None nothing tell = nothing
told_of (Some name) nothing tell = tell name
