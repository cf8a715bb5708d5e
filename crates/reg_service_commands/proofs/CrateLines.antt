-- The line of a crate, by the records of its versions and by the registry.
use Rattle.reg_service_commands.proofs.Words.{◌≡◌, ℕ, zero, suc, ◌<◌, List, [], ◌∷◌, ◌++◌, map, length, get_or, Option, Some, refl, sym, ap}
use Rattle.reg_service_commands.proofs.Words.{subst, ◌∙◌, arith, slice_get, string_bytes, unwrap_or, filter, find, flat_map, list_any}
use Rattle.reg_service_commands.proofs.Words.{IsStrictlySortedBy, option_and_then, option_map, bytes_eq, flat_map-map, canon, first}
use Rattle.reg_service_commands.proofs.Words.{has_crate, versions, Registry, Text, text_cmp, crate_line, canon-canon, list_any_map}
use Rattle.reg_service_commands.proofs.Words.{maps_twice, Crate, Version, told_of, shown_version, version_shown, IdAssignment, spelling_at, Marked}
use Rattle.reg_service_commands.proofs.Words.{IsCrate, highest_among, line_of_crate, read_version, canons_listed}
use Rattle.std.specs.FinSet as finset
use Rattle.std.specs.List.{AllByRecursion}
use Rattle.std.proofs.lemmas.List.{length-map}
use Rattle.reg_model.specs.Crates.{collides}
use Rattle.reg_model.specs.Registry.{Publication}
use Rattle.reg_model.specs.Reports.{crates_text}
use Rattle.reg_model.specs.Search.{marked, top}
use Rattle.reg_model.proofs.Members.{IsIn, filtered_passes, map_same}
use Rattle.reg_tables_represent.specs.Entries.{ShownVersion}
use Rattle.reg_tables_represent.proofs.CrateLemmas.{same_bytes}
use Rattle.reg_tables_represent.proofs.SummaryRows.{got_at}
use Rattle.reg_versions.specs.Precedence.{top_place}
use Rattle.reg_versions.specs.Versions.{parts_of}
use Rattle.reg_service_commands.specs.ReportedCrates.{line_at}

abbrev read_shown : ShownVersion → Marked
read_shown v = (parts_of v.version, v.yanked)

abbrev top_shown : List ShownVersion → Option Text
top_shown vs = option_map (λ v. v.version) (option_and_then (slice_get vs) (top_place (map read_shown vs)))

module _ (s : Registry) (n : Text) (vs : List Version) (are : map shown_version vs ≡ map (version_shown s.yanked) (versions s n)) where
  count_is : length vs ≡ length (versions s n)
  count_is = sym (length-map vs shown_version) ∙ ap length are ∙ length-map (versions s n) (version_shown s.yanked)

  as_shown : option_map (λ v. string_bytes v.vers) (option_and_then (slice_get vs) (top_place (map read_version vs))) ≡ top_shown (map shown_version vs)
  as_shown =
      ap (λ ms. option_map (λ (v : Version). string_bytes v.vers) (option_and_then (slice_get vs) (top_place ms))) (sym (maps_twice shown_version read_shown vs))
      ∙ sym (got_at (λ v. v.version) shown_version vs (top_place (map read_shown (map shown_version vs))))

  canon_is : (p : Publication) → IsIn p (versions s n) → canon p.name ≡ canon n
  canon_is p i = same_bytes (canon p.name) (canon n) (filtered_passes (λ p. collides p.name n) s.publications p i)

  marks_are : map read_shown (map (version_shown s.yanked) (versions s n)) ≡ map (marked s n) (versions s n)
  marks_are =
      maps_twice (version_shown s.yanked) read_shown (versions s n)
      ∙ map_same (λ p. (parts_of p.version, finset.contains s.yanked (canon p.name, p.version))) (marked s n) (versions s n) (λ p i. ap (λ c. (parts_of p.version, finset.contains s.yanked (c, p.version))) (canon_is p i))

  top_is : top_shown (map (version_shown s.yanked) (versions s n)) ≡ option_map (λ p. p.version) (top s n)
  unfolding top
  top_is =
      got_at (λ v. v.version) (version_shown s.yanked) (versions s n) (top_place (map read_shown (map (version_shown s.yanked) (versions s n))))
      ∙ ap (λ ms. option_map (λ (p : Publication). p.version) (option_and_then (slice_get (versions s n)) (top_place ms))) marks_are

  pub its_line : first s n ≡ Some n → crate_line n (length vs) (highest_among vs) ≡ line_at s n
  its_line spelled =
      let name : n ≡ unwrap_or (first s n) [] = ap (λ o. unwrap_or o []) (sym spelled) in
      let highest : highest_among vs ≡ unwrap_or (option_map (λ p. p.version) (top s n)) [] = ap (λ o. unwrap_or o []) (as_shown ∙ ap top_shown are ∙ top_is) in
      λ i. crate_line (name i) (count_is i) (highest i)

pub line_told : (ids : IdAssignment) (s : Registry) (c : Crate) (vs : List Version) → map shown_version vs ≡ told_of (spelling_at ids c.id) [] (λ name. map (version_shown s.yanked) (versions s name)) → IsCrate ids s c → crate_line (string_bytes c.name) (length vs) (highest_among vs) ≡ line_of_crate s c
line_told ids s c vs lists is = its_line s (string_bytes c.name) vs (lists ∙ ap (λ o. told_of o [] (λ name. map (version_shown s.yanked) (versions s name))) is.1) is.0

-- the line of a crate is that of its canonical text
abbrev at_canon : Registry → Text → Text
at_canon s c =
    let ps = filter (λ p. bytes_eq (canon p.name) c) s.publications in
    crate_line (unwrap_or (option_map (λ p. p.name) (find (λ p. bytes_eq (canon p.name) c) s.publications)) []) (length ps)
    (unwrap_or (option_map (λ p. p.version) (option_and_then (slice_get ps) (top_place (map (λ p. (parts_of p.version, finset.contains s.yanked (c, p.version))) ps)))) [])

line_canon : (s : Registry) (n : Text) → line_at s (canon n) ≡ line_at s n
unfolding top
line_canon s n = ap (at_canon s) (canon-canon n)

abbrev canon_of : Crate → Text
canon_of c = canon (string_bytes c.name)

each_canon : (s : Registry) (cs : List Crate) → flat_map (line_of_crate s) cs ≡ flat_map (λ c. line_at s (canon_of c)) cs
each_canon s [] = refl
each_canon s (c ∷ cs) = λ i. sym (line_canon s (string_bytes c.name)) i ++ each_canon s cs i

pub crates_told : (s : Registry) (all : List Crate) (text : Text) → IsStrictlySortedBy text_cmp (map canon_of all) → ((t : Text) → list_any (λ c. bytes_eq (canon_of c) t) all ≡ has_crate s t) → text ≡ flat_map (line_of_crate s) all → text ≡ crates_text s
unfolding crates_text
crates_told s all text up there told =
    let names = canons_listed s (map canon_of all) up (λ t. list_any_map (λ u. bytes_eq u t) canon_of all ∙ there t) in
    told ∙ each_canon s all ∙ sym (flat_map-map (line_at s) canon_of all) ∙ ap (flat_map (line_at s)) names

pub each_at : {X : Type 0} (P : X → Type 0) (xs : List X) (i : ℕ) (x : X) → AllByRecursion P xs → i < length xs → x ≡ get_or xs i x → P x
each_at P [] i x h lt is = absurd (omega (arith, lt))
each_at P (y ∷ ys) zero x h lt is = subst P (sym is) h.0
each_at P (y ∷ ys) (suc i) x h lt is = each_at P ys i x h.1 (omega (arith, lt)) is
