-- What was asked of all crates, one after another, makes up the index.
use Rattle.reg_service_commands.proofs.Words.{◌≡◌, ℕ, ◌+◌, ◌<◌, List, [], ◌∷◌, ◌++◌, map, length, take, get_or, Ok, Err, Result, refl, sym}
use Rattle.reg_service_commands.proofs.Words.{ap, subst, ◌∙◌, string_bytes, String, Vec, Global, Trees, Ghosts, file_text, path_of, Text}
use Rattle.reg_service_commands.proofs.Words.{Crate, Version, ListsCrates, ListsVersions, StoreFault, Work, Queries, asks_after, asks_both}
use Rattle.reg_service_commands.proofs.Words.{asks_failed, asks_made, AddsFiles, file_of, texts_of, entry_of_version}
use Rattle.sqlite_trees.proofs.ListLemmas.{all-get_or}
use Rattle.reg_service_commands.specs.Exported.{AddsFile, Exports, HasConfig, IsCrate}
use Rattle.reg_service_commands.proofs.IndexFiles.{file_told, index_told, next_file}

abbrev Files : Type 0
Files = List (Text × Text)

pub file_added : (db : Trees) (c : Crate) (vs : List Version) (old new : Files) → ListsVersions c.id db vs → new ≡ old ++ (path_of (string_bytes c.name), file_text (map entry_of_version vs)) ∷ [] → AddsFile c old new db
file_added db c vs old new lists told ids s h is = told ∙ ap (λ f. old ++ f ∷ []) (file_told ids s c vs (lists ids s h) is)

more_files : (db : Trees) (all : List Crate) (i : ℕ) (c : Crate) (begun old new : Files) → i < length all → c ≡ get_or all i c → AddsFiles all (take i all) begun old db → AddsFile c old new db → AddsFiles all (take (i + 1) all) begun new db
more_files db all i c begun old new lt is files adds lists ids s h =
    let each = (lists ids s h).0 in
    next_file (file_of s) begun all i c old new lt is (adds ids s h (subst (IsCrate ids s) (sym is) (all-get_or (IsCrate ids s) all i c each lt))) (files lists ids s h)

module _ {S : Type 0} (g : Ghosts S) where
  pub one_asked : (all : List Crate) (i : ℕ) (c : Crate) (begun old new : Files) (u v w : Unit {0}) (x y z : Work S) → i < length all → c ≡ get_or all i c → Queries {E = StoreFault} g x y (Ok u) (λ db _. AddsFiles all (take i all) begun old db)
      → Queries {E = StoreFault} g y z (Ok v) (λ db _. AddsFile c old new db) → Queries {E = StoreFault} g x z (Ok w) (λ db _. AddsFiles all (take (i + 1) all) begun new db)
  one_asked all i c begun old new u v w x y z lt is one two = asks_made g (u, v) w x z (λ h. more_files _ all i c begun old new lt is h.0 h.1) (asks_both g u v x y z one two)

  pub export_asked : (first : Vec (String Global × Vec ℕ Global) Global) (all : Vec Crate Global) (r : Result (Vec (String Global × Vec ℕ Global) Global) StoreFault) (w x y z : Work S) → Queries {E = StoreFault} g w x (Ok first) (λ db files. HasConfig (map texts_of files.items) db)
      → Queries {E = StoreFault} g x y (Ok all) (λ db list. ListsCrates db list.items) → Queries g y z r (λ db files. AddsFiles all.items all.items (map texts_of first.items) (map texts_of files.items) db) → Queries g w z r (λ db files. Exports files.items db)
  export_asked first all (Ok files) w x y z one two three =
      asks_made g ((first, all), files) files w z
      (λ h ids s holds. let told = h.0.1 ids s holds in index_told s all.items (map texts_of first.items) (map texts_of files.items) told.1 told.2 (h.0.0 ids s holds) (h.1 h.0.1 ids s holds))
      (asks_both g (first, all) files w y z (asks_both g first all w x y one two) three)
  export_asked first all (Err e) w x y z one two three = asks_failed g e (Err e) w z refl (asks_after g first (Err e) w x z one (asks_after g {Q = λ db files. AddsFiles all.items all.items (map texts_of first.items) (map texts_of files.items) db} all (Err e) x y z two three))
