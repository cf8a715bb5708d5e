-- What a state says of one crate. A name stands for each that has its canonical text.
use Rattle.std.specs.Prelude.{ℕ, ◌==◌, ◌&&◌, ◌||◌, Bool, not, List, [], ◌∷◌, map, codes, Option, unwrap_or}
use Rattle.std.specs.Option.{option_map}
use Rattle.std.specs.List.{find, list_any, filter, enumerate_from}
use Rattle.std.specs.Str.{bytes_eq}
use Rattle.std.specs.FinMap as finmap
use Rattle.std.specs.FinSet as finset
use Rattle.reg_names.specs.Names.{canon, path_of}
use Rattle.reg_line.specs.Config.{config_text}
use Rattle.reg_line.specs.File.{file_text}
use Rattle.reg_model.specs.Registry.{Text, Account, Publication, Registry, text_cmp, token_of, holds}
use Rattle.reg_versions.specs.Versions.{release_key_of}

-- two names collide: they are names of one crate
abbrev pub collides : Text → Text → Bool
collides n m = bytes_eq (canon n) (canon m)

-- two versions are one release
abbrev pub same_release : Text → Text → Bool
same_release v w = bytes_eq (release_key_of v) (release_key_of w)

-- the canonical texts that are reserved always
abbrev pub reserved_always : List Text
reserved_always =
    codes "con" ∷ codes "prn" ∷ codes "aux" ∷ codes "nul" ∷
    codes "com1" ∷ codes "com2" ∷ codes "com3" ∷ codes "com4" ∷ codes "com5" ∷ codes "com6"
    ∷ codes "com7" ∷ codes "com8" ∷ codes "com9" ∷
    codes "lpt1" ∷ codes "lpt2" ∷ codes "lpt3" ∷ codes "lpt4" ∷ codes "lpt5" ∷ codes "lpt6"
    ∷ codes "lpt7" ∷ codes "lpt8" ∷ codes "lpt9" ∷ []

unfoldable pub is_reserved_always : Text → Bool
is_reserved_always c = list_any (λ r. bytes_eq r c) reserved_always

-- whether a crate with this canonical text is there
abbrev pub has_crate : Registry → Text → Bool
has_crate s c = list_any (λ p. bytes_eq (canon p.name) c) s.publications

abbrev pub exists : Registry → Text → Bool
exists s n = has_crate s (canon n)

-- the spelling of a crate: that of its first publication
abbrev pub first : Registry → Text → Option Text
first s n = option_map (λ p. p.name) (find (λ p. collides p.name n) s.publications)

-- the publications of a crate, oldest first
abbrev pub versions : Registry → Text → List Publication
versions s n = filter (λ p. collides p.name n) s.publications

-- the publication of this very version
abbrev pub version : Registry → Text → Text → Option Publication
version s n v = find (λ p. bytes_eq p.version v) (versions s n)

-- whether an account owns a crate
abbrev pub owns : Registry → Text → ℕ → Bool
owns s n id = finset.contains s.owners (canon n, id)

-- the accounts that own a crate, each behind its id, by id
abbrev pub owners : Registry → Text → List (ℕ × Account)
owners s n = filter (λ o. owns s n o.0) (enumerate_from 1 s.accounts)

-- whether an account is a reader of a crate, and the accounts that are, by id
abbrev pub reads : Registry → Text → ℕ → Bool
reads s n id = finset.contains s.readers (canon n, id)

abbrev pub readers : Registry → Text → List (ℕ × Account)
readers s n = filter (λ o. reads s n o.0) (enumerate_from 1 s.accounts)

-- whether the account with an id is among these
abbrev pub is_among : List (ℕ × Account) → ℕ → Bool
is_among accounts id = list_any (λ o. o.0 == id) accounts

abbrev pub is_restricted : Registry → Text → Bool
is_restricted s n = finset.contains s.restricted (canon n)

-- Whether an account, or nobody, sees a crate: it is there, and it is not restricted, or the
-- account is among its owners or its readers.
abbrev pub sees : Registry → Option ℕ → Text → Bool
sees s who n = exists s n && (not (is_restricted s n)
    || holds (λ id. is_among (owners s n) id || is_among (readers s n) id) who)

-- the account of the token with a digest
abbrev pub viewer : Registry → Text → Option ℕ
viewer s digest = option_map (λ t. t.account) (token_of s digest)

-- whether a crate is visible to the token with a digest
abbrev pub visible : Registry → Text → Text → Bool
visible s digest n = sees s (viewer s digest) n

abbrev pub is_yanked : Registry → Text → Text → Bool
is_yanked s n v = finset.contains s.yanked (canon n, v)

-- the index file of a crate: a line for each version, in order
abbrev pub file : Registry → Text → Text
file s n = file_text (map (λ p. (p.stem, is_yanked s n p.version)) (versions s n))

-- what a file is but for its yanked marks
abbrev pub stems : Registry → Text → List Text
stems s n = map (λ p. p.stem) (versions s n)

-- how many crates there are
abbrev pub crates : Registry → ℕ
crates s = finset.len (finset.from_list {R = text_cmp} (map (λ p. canon p.name) s.publications))

-- the canonical texts of the crates, in their order
abbrev pub canons : Registry → List Text
canons s = finmap.keys (finmap.from_entries {R = text_cmp}
    (map (λ p. (canon p.name, tt {0})) s.publications))

-- the files of the index, each behind its path: the config, then each crate's in the order of the
-- canonical texts
abbrev pub index_of : Registry → Text → Text × Text
index_of s c = (path_of (unwrap_or (first s c) []), file s c)

abbrev pub exported : Registry → List (Text × Text)
exported s = (codes "config.json", config_text s.base)
    ∷ map (index_of s) (canons s)

abbrev pub is_reserved : Registry → Text → Bool
is_reserved s n = is_reserved_always (canon n) || finset.contains s.reserved (canon n)
