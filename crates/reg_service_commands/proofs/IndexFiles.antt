-- The index file of a crate, by the records of its versions and by the registry.
use Rattle.reg_service_commands.proofs.Words.{◌≡◌, ℕ, ◌+◌, ◌<◌, List, [], ◌∷◌, ◌++◌, map, length, take, get_or, refl, sym, ap, ◌∙◌}
use Rattle.reg_service_commands.proofs.Words.{append_assoc, codes, string_bytes, unwrap_or, filter, find, list_any, IsStrictlySortedBy}
use Rattle.reg_service_commands.proofs.Words.{option_map, bytes_eq, take_more, file_text, canon, path_of, first, has_crate, versions}
use Rattle.reg_service_commands.proofs.Words.{Registry, Text, text_cmp, canon-canon, list_any_map, Crate, Version, told_of, shown_version}
use Rattle.reg_service_commands.proofs.Words.{version_shown, IdAssignment, spelling_at, file_of, entry_of_version, canons_listed}
use Rattle.std.specs.FinSet as finset
use Rattle.std.proofs.lemmas.List.{map-append}
use Rattle.reg_line.specs.Config.{config_text}
use Rattle.reg_model.specs.Crates.{exported, index_of}
use Rattle.reg_service_commands.specs.Exported.{IsCrate}
use Rattle.reg_service_steps.proofs.Entries.{entries_told}

pub file_told : (ids : IdAssignment) (s : Registry) (c : Crate) (vs : List Version) → map shown_version vs ≡ told_of (spelling_at ids c.id) [] (λ name. map (version_shown s.yanked) (versions s name)) → IsCrate ids s c
    → (path_of (string_bytes c.name), file_text (map entry_of_version vs)) ≡ file_of s c
file_told ids s c vs lists is =
    let n = string_bytes c.name in
    let name : n ≡ unwrap_or (first s n) [] = ap (λ o. unwrap_or o []) (sym is.0) in
    let entries = entries_told s n vs (lists ∙ ap (λ o. told_of o [] (λ name. map (version_shown s.yanked) (versions s name))) is.1) in
    λ i. (path_of (name i), file_text (entries i))

-- the file of a crate is that of its canonical text
abbrev at_canon : Registry → Text → Text × Text
at_canon s c = (
  path_of (unwrap_or (option_map (λ p. p.name) (find (λ p. bytes_eq (canon p.name) c) s.publications)) []),
  file_text (map (λ p. (p.stem, finset.contains s.yanked (c, p.version))) (filter (λ p. bytes_eq (canon p.name) c) s.publications)),
)

index_canon : (s : Registry) (n : Text) → index_of s (canon n) ≡ index_of s n
index_canon s n = ap (at_canon s) (canon-canon n)

abbrev canon_of : Crate → Text
canon_of c = canon (string_bytes c.name)

each_canon : (s : Registry) (cs : List Crate) → map (file_of s) cs ≡ map (index_of s) (map canon_of cs)
each_canon s [] = refl
each_canon s (c ∷ cs) = λ i. sym (index_canon s (string_bytes c.name)) i ∷ each_canon s cs i

pub index_told : (s : Registry) (all : List Crate) (begun files : List (Text × Text)) → IsStrictlySortedBy text_cmp (map canon_of all) → ((t : Text) → list_any (λ c. bytes_eq (canon_of c) t) all ≡ has_crate s t)
    → begun ≡ (codes "config.json", config_text s.base) ∷ [] → files ≡ begun ++ map (file_of s) all → files ≡ exported s
index_told s all begun files up there config told =
    let names = canons_listed s (map canon_of all) up (λ t. list_any_map (λ u. bytes_eq u t) canon_of all ∙ there t) in
    let crates = each_canon s all ∙ ap (map (index_of s)) names in
    told ∙ (λ i. config i ++ crates i)

pub next_file : {X Y : Type 0} (f : X → Y) (before : List Y) (xs : List X) (i : ℕ) (x : X) (old new : List Y) → i < length xs → x ≡ get_or xs i x → new ≡ old ++ f x ∷ [] → old ≡ before ++ map f (take i xs) → new ≡ before ++ map f (take (i + 1) xs)
next_file f before xs i x old new lt is pushed told =
    pushed ∙ ap (λ l. l ++ f x ∷ []) told ∙ append_assoc before (map f (take i xs)) (f x ∷ [])
    ∙ ap (λ l. before ++ l) (sym (map-append f (take i xs) (x ∷ [])) ∙ ap (map f) (ap (λ y. take i xs ++ y ∷ []) is ∙ sym (take_more xs i x lt)))
