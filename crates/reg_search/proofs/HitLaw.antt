-- The text of a hit answers what is shown of the crate.
use Rattle.reg_search.proofs.Words.{◌≡◌, ◌==◌, ℕ, pos, Bool, true, false, ◌&&◌, cond, List, [], ◌∷◌, ◌++◌, map, Option, Some, None, refl}
use Rattle.reg_search.proofs.Words.{sym, ap, subst, ◌∙◌, slice_get, filter, flat_map, IsPermutation, option_and_then, option_map, bytes_eq}
use Rattle.reg_search.proofs.Words.{IsPermutation-trans, Binary, Row, column, overlay, IsSureAnswer, inner, eval_all, Trees, Int, equal}
use Rattle.reg_search.proofs.Words.{map-flat_map, canon, top_place, Registry, hit, canon-canon, IsIn, and_true, answers, each_gate, StandsSoundBy}
use Rattle.reg_search.proofs.Words.{IdAssignment, StoredCrate, StoredVersion, row_of_crate, row_of_version, row_of_summary, top_of, columns_of_hit}
use Rattle.reg_search.proofs.Words.{hit_of, Hit}
use Rattle.std.specs.Prelude.{unwrap_or}
use Rattle.std.specs.FinSet as finset
use Rattle.sqlite.proofs.Callers.{one_permutation}
use Rattle.sqlite.specs.Query.{matches}
use Rattle.sqlite_trees.proofs.ListLemmas.{IsPermutation-flat_map, flat_map-map}
use Rattle.reg_versions.specs.Versions.{parts_of}
use Rattle.reg_model.specs.Crates.{first}
use Rattle.reg_model.specs.Events as model
use Rattle.reg_model.specs.Registry.{Publication, Text as Words}
use Rattle.reg_model.specs.Search.{top}
use Rattle.reg_tables_represent.proofs.AccountEntries.{heads, tails, text_is, words_are}
use Rattle.reg_tables_represent.proofs.CrateNames.{first_spelled}
use Rattle.reg_tables_represent.proofs.Selected.{same_one}
use Rattle.reg_search.specs.Rows.{columns_of_model}
use Rattle.reg_search.proofs.CrateFacts.{alone, highest, highest_row, its_row, same_id, top_is}
use Rattle.reg_search.proofs.Joined.{joined}
use Rattle.reg_search.proofs.Texts.{after_crate, hit_query, of_id}

-- the highest version by the canonical text of its crate
abbrev top_at : Registry → Words → Option Publication
top_at s c =
    let ps = filter (λ p. bytes_eq (canon p.name) c) s.publications in
    option_and_then (slice_get ps) (top_place (map (λ p. (parts_of p.version, finset.contains s.yanked (c, p.version))) ps))

top_canon : (s : Registry) (n : Words) → top s (canon n) ≡ top s n
unfolding top
top_canon s n = ap (top_at s) (canon-canon n)

same_hit : (m : model.Hit) (h : Hit) → columns_of_hit h ≡ columns_of_model m → hit_of h ≡ m
same_hit m h e =
    let name = words_are (heads e) in
    let version = words_are (heads (tails e)) in
    let description = text_is _ _ (heads (tails (tails e))) in
    λ i. record { name = name i; version = version i; description = description i }

one_more : {X Y : Type 0} {a b c : X} {xs : List X} → ◌≡◌ {A = List X} (a ∷ b ∷ xs) (c ∷ []) → Y
one_more e = absurd cc

-- the last of a list with one element
pub last_is : (front : List Hit) (h : Hit) (row : Row) → map columns_of_hit (front ++ h ∷ []) ≡ row ∷ [] → columns_of_hit h ≡ row
last_is [] h row e = same_one e
last_is (k ∷ []) h row e = one_more e
last_is (k ∷ l ∷ front) h row e = one_more e

module _ (ids : IdAssignment) (s : Registry) (db : Trees) (h : StandsSoundBy ids s db) (id : ℕ) where
  abbrev params : Row
  params = Int (pos id) ∷ []

  abbrev shown : StoredCrate → Row
  shown x = columns_of_model (hit s (canon x.1))

  abbrev K : Row → List Row
  K r = map (eval_all hit_query.project) (matches db of_id after_crate (params ∷ r ∷ []))

  -- what comes of one crate
  comes : (x : StoredCrate) → IsIn x ids.crates → K (row_of_crate x) ≡ cond (x.0 == id) (shown x ∷ []) []
  comes x i = with_top (highest ids s db h x i)
    where
      with_top : ((v : StoredVersion) × IsIn v ids.versions × (top_of ids s.yanked x.0 ≡ Some v)) → K (row_of_crate x) ≡ cond (x.0 == id) (shown x ∷ []) []
      with_top (v, j, e) =
          let c = row_of_crate x in
          let su = row_of_summary ids s.yanked x in
          let vr = row_of_version s.yanked v in
          let its : unwrap_or (option_map (λ (w : StoredVersion). w.id) (top_of ids s.yanked x.0)) 0 ≡ v.id = ap (λ o. unwrap_or (option_map (λ (w : StoredVersion). w.id) o) 0) e in
          let one = its_row ids s db h x i (λ r. equal Binary (column r 0) (Int (pos x.0)) && true) (λ d. and_true _ ∙ same_id d.0 x.0) in
          let two = highest_row ids s db h x i v j (λ r. equal Binary (column r 0) (column su 2) && true) (λ w. and_true _ ∙ ap (λ n. equal Binary (Int (pos w.id)) (Int (pos n))) its ∙ same_id w.id v.id) in
          ap (map (eval_all hit_query.project)) (joined db params c su vr one two ∙ ap (λ t. cond t ((params ∷ c ∷ su ∷ vr ∷ []) ∷ []) []) (and_true _ ∙ same_id x.0 id)) ∙ split (x.0 == id) v e
        where
          split : (t : Bool) (v : StoredVersion) → top_of ids s.yanked x.0 ≡ Some v
              → map (eval_all hit_query.project) (cond t ((params ∷ row_of_crate x ∷ row_of_summary ids s.yanked x ∷ row_of_version s.yanked v ∷ []) ∷ []) []) ≡ cond t (shown x ∷ []) []
          split false v e = refl
          split true v e =
              let name : Some x.1 ≡ first s (canon x.1) = sym (first_spelled ids s.publications s.yanked db h.stands.crates x i (canon x.1) (canon-canon x.1)) in
              let highest : Some v.publication ≡ top s (canon x.1) = sym (top_canon s x.1 ∙ top_is ids s db h x i v e) in
              λ k. columns_of_model (record {
                name = unwrap_or (name k) [];
                version = unwrap_or (option_map (λ (p : Publication). p.version) (highest k)) [];
                description = unwrap_or (option_map (λ (p : Publication). p.description) (highest k)) None;
              }) ∷ []

  its_rows : (x : StoredCrate) → IsIn x ids.crates → x.0 ≡ id → (rows : List Row) → IsSureAnswer hit_query (overlay db []) params rows → rows ≡ shown x ∷ []
  its_rows x i e rows answer =
      let same = answers (overlay db []) params (inner 7 after_crate) of_id hit_query.project rows answer in
      let all : map (eval_all hit_query.project) (matches db of_id (inner 7 after_crate) (params ∷ [])) ≡ flat_map K (db 7) = map-flat_map (eval_all hit_query.project) (λ r. matches db of_id after_crate (params ∷ r ∷ [])) (db 7) in
      let each : flat_map K (map row_of_crate ids.crates) ≡ shown x ∷ [] =
      flat_map-map K row_of_crate ids.crates ∙ each_gate (λ y. K (row_of_crate y)) (λ y. y.0 == id) shown ids.crates comes ∙ ap (map shown) (subst (λ n. filter (λ (y : StoredCrate). y.0 == n) ids.crates ≡ x ∷ []) e (alone ids s db h x i)) in
      let crates = subst (λ ys. IsPermutation ys (flat_map K (db 7))) each (IsPermutation-flat_map K (map row_of_crate ids.crates) (db 7) h.stands.crates.crate_rows) in
      one_permutation (shown x) rows (IsPermutation-trans (shown x ∷ []) (flat_map K (db 7)) rows crates (subst (λ ys. IsPermutation ys rows) all same))

  -- the hit that is read of it
  pub its_hit : (front : List Hit) (hit_read : Hit) → IsSureAnswer hit_query (overlay db []) params (map columns_of_hit (front ++ hit_read ∷ [])) → (x : StoredCrate) → IsIn x ids.crates → x.0 ≡ id → hit_of hit_read ≡ hit s (canon x.1)
  its_hit front hit_read answer x i e = same_hit (hit s (canon x.1)) hit_read (last_is front hit_read (shown x) (its_rows x i e _ answer))
