-- What the tables tell of a read is what it is served.
use Rattle.reg_service_requests.proofs.Words.{◌≡◌, List, [], ◌∷◌, ℕ, true, false, length, map, None, Some, refl, sym, ap, ◌∙◌, Vec, Global}
use Rattle.reg_service_requests.proofs.Words.{enumerate_from, filter, option_map, bytes_eq, Trees, Limits, canon, action_of, Download}
use Rattle.reg_service_requests.proofs.Words.{Index, ListOwners, Read, Config, Text, maps_twice, Account, Archive, IsArchiveWithId}
use Rattle.reg_service_requests.proofs.Words.{FindsSummary, ListsOwners, told_of, entry_of_account, IdAssignment, spelling_at, FoundCrate, IsCrate}
use Rattle.reg_service_requests.proofs.Words.{IsAuthorized, IsSpelled, owner_of_account, Serves, ReadOnly, spelled_as}
use Rattle.std.proofs.Common.{unwrap_or}
use Rattle.std.specs.FinSet as finset
use Rattle.reg_line.specs.Config.{config_text}
use Rattle.reg_line.specs.File.{file_text}
use Rattle.reg_names.specs.Names.{name_at}
use Rattle.reg_model.specs.Crates.{file}
use Rattle.reg_model.specs.Effects.{done, owner_entry}
use Rattle.reg_model.specs.Events.Answer.{File}
use Rattle.reg_api_replies.specs.Bodies.{owners_body}
use Rattle.reg_api_replies.specs.declared.head.Kind.TheVariants as kind
use Rattle.reg_api_replies.specs.declared.reply.Reply.TheVariants.{Done}
use Rattle.reg_tables_sql.specs.declared.summaries.Summary.{Summary}
use Rattle.reg_tables_represent.specs.Entries.{entries}
use Rattle.reg_service_requests.specs.Granted.{IsVersion}
use Rattle.reg_service_steps.specs.Reads.{TellsBase}
use Rattle.reg_service_requests.specs.declared.served.Served.TheVariants.{Sends}
use Rattle.reg_service_requests.proofs.Judging.{answered, denied_by_others, told_served}
use Rattle.reg_service_steps.proofs.Names.{spelled_at}
use Rattle.reg_service_requests.proofs.VersionArchives.{archive_at, named_version}

some_same : (a b : ℕ) → Some a ≡ Some b → a ≡ b
some_same a b e = cc

-- what is told of a crate by its canonical text is the same by its id
by_canon : {X : Type 0} (tell : Text → X) (nothing : X) (ids : IdAssignment) (n : Text) (id : ℕ) → IsSpelled ids n id → told_of (spelling_at ids id) nothing (λ name. tell (canon name)) ≡ tell (canon n)
by_canon tell nothing ids n id (m, at, same) = ap (λ o. told_of o nothing (λ name. tell (canon name))) at ∙ ap tell same

pub archive_served : (n v : Text) (id : ℕ) (archive : Archive) (db : Trees) → IsArchiveWithId id db (Some archive)
    → (limits : Limits) (digest : Text) → IsAuthorized digest (action_of (Download n v)) db → IsVersion (action_of (Download n v)) id db → Serves limits (Some digest) (Download n v) db db (ReadOnly (Done kind.Archive archive.bytes))
unfolding done
archive_served n v id archive db found limits digest lets is = told_served limits digest (Download n v) (Done kind.Archive archive.bytes) db db (λ ids s h.
    let same = archive_at ids s.publications s.yanked db h.stands.crates id (Some archive) found ∙ ap (option_map (λ p. p.archive)) (named_version ids s n v id (is ids s h)) in
    (denied_by_others limits digest (Download n v) s (lets ids s h), (refl, refl, ap (λ o. unwrap_or o []) same), refl))

pub owners_served : (n : Text) (c : FoundCrate) (list : List Account) (text : Vec ℕ Global) (db : Trees) → text.items ≡ owners_body (map owner_of_account list) → ListsOwners c.id db list
    → (limits : Limits) (digest : Text) → IsAuthorized digest (action_of (ListOwners n)) db → IsCrate (action_of (ListOwners n)) c db → Serves limits (Some digest) (ListOwners n) db db (ReadOnly (Done kind.Json text))
unfolding done
owners_served n c list text db made lists limits digest lets is = told_served limits digest (ListOwners n) (Done kind.Json text) db db (λ ids s h.
    let owners_by = λ (text : Text). filter (λ o. finset.contains s.owners (text, o.0)) (enumerate_from 1 s.accounts) in
    let same = lists ids s h ∙ by_canon owners_by [] ids n c.id (spelled_as ids s c n (is ids s h)).1 in
    (denied_by_others limits digest (ListOwners n) s (lets ids s h), (refl, refl, made ∙ ap owners_body (sym (maps_twice entry_of_account owner_entry list) ∙ ap (map owner_entry) same)), refl))

pub file_found : (path : Text) (c : FoundCrate) (m : Summary) (db : Trees) → FindsSummary c.id db (Some m)
    → (limits : Limits) (digest : Text) → IsAuthorized digest (action_of (Index path)) db → IsCrate (action_of (Index path)) c db → Serves limits (Some digest) (Index path) db db (Sends (record { crate_id = c.id; length = m.index_length }))
unfolding done
file_found path c m db finds limits digest lets is = (
  (path, refl),
  λ ids s h.
      let n = unwrap_or (name_at path) [] in
      let entries_by = λ (text : Text). map (λ p. (p.stem, finset.contains s.yanked (text, p.version))) (filter (λ p. bytes_eq (canon p.name) text) s.publications) in
      let here = spelled_at ids s c path (is ids s h) in
      let same : file_text (told_of (spelling_at ids c.id) [] (entries s)) ≡ file s n = ap file_text (by_canon entries_by [] ids n c.id here) in
      let long : Some m.index_length ≡ Some (length (file s n)) = (finds ids s h).1 ∙ by_canon (λ text. Some (length (file_text (entries_by text)))) None ids n c.id here in
      (answered limits digest (Index path) s None (denied_by_others limits digest (Index path) s (lets ids s h)) ∙ ap (λ t. (File t, s)) (sym same), some_same m.index_length (length (file s n)) long ∙ ap length (sym same)),
)

pub config_served : (base : Text) (text : Vec ℕ Global) (db : Trees) → text.items ≡ config_text base → TellsBase db base
    → (limits : Limits) (digest : Text) → IsAuthorized digest (action_of (Read Config)) db → Serves limits (Some digest) (Read Config) db db (ReadOnly (Done kind.Json text))
unfolding done
config_served base text db made tells limits digest lets = told_served limits digest (Read Config) (Done kind.Json text) db db (λ ids s h.
    (denied_by_others limits digest (Read Config) s (lets ids s h), (refl, refl, made ∙ ap config_text (tells ids s h)), refl))
