-- What is read of our tables, of the registry that the rows stand for.
use Rattle.reg_search.proofs.Words.{◌≡◌, ℕ, pos, List, [], ◌∷◌, ◌++◌, map, length, take, get_or, ◌+◌, ◌<◌, Err, Ok, Result, arith, refl}
use Rattle.reg_search.proofs.Words.{sym, ap, subst, ◌∙◌, AllByRecursion, IsPermutation, Held, state, Row, overlay, IsSureAnswer, Query}
use Rattle.reg_search.proofs.Words.{HasCleanDisk, Blob, Int, Ghosts, canon, Registry, hit, Trees, number_columns, ours, rows_in, Second}
use Rattle.reg_search.proofs.Words.{maps_twice, IsSelection, IdAssignment, StoredCrate, IsRead, HIDDEN_TEXT, HIT_TEXT, WALK_TEXT, AreHits, AreIdsOf}
use Rattle.reg_search.proofs.Words.{FindsIds, ShowsCrate, ShowsCrates, columns_of_hit, hit_of, Hit, Hits}
use Rattle.std.proofs.Common.{IfOk}
use Rattle.std.specs.Prelude.{option_to_list}
use Rattle.std.specs.Result.{result_ok}
use Rattle.std.proofs.lemmas.List.{take_more}
use Rattle.reg_model.specs.Lists.{IsIn}
use Rattle.reg_model.specs.Registry.{Text as Words}
use Rattle.reg_model.specs.Search.{found}
use Rattle.reg_tables_schema.specs.States.{IsOurs}
use Rattle.reg_tables_schema.proofs.Reading.{selected_by}
use Rattle.reg_search.specs.Reads.{AnswersOf}
use Rattle.reg_search.specs.Rows.{FindsNeedle, HidesFrom}
use Rattle.reg_search.specs.declared.hit.Found.{Found}
use Rattle.reg_search.proofs.HiddenLaw.{hides}
use Rattle.reg_search.proofs.HitLaw.{its_hit}
use Rattle.reg_search.proofs.Texts.{hidden_is, hit_is, walk_is}
use Rattle.reg_search.proofs.WalkLaw.{first, total, walked}

module _ {S T E : Type 0} (g : Ghosts S) (old new : Held S) (x : T) (at : IsOurs Second (state g old)) (reads : IsRead {E = E} g (Ok x) old new) (clean : HasCleanDisk (state g new)) where
  answered : {text : List ℕ} {q : Query} {names : List (List ℕ)} → IsSelection ours text q names → (params : Row) (rows : List Row) → AnswersOf g old new text params rows → IsSureAnswer q (overlay (rows_in g old) []) params rows
  answered {text} {q} is params rows h =
      let rests = at (omega (arith, reads.survives.clean, clean)) (reads.same clean).0.was_open in
      let schema = ap (λ d. d.schema) (h.1 ∙ rests.settled) ∙ rests.committed_is in
      subst (λ d. IsSureAnswer q (overlay d.trees []) params rows) h.1 (selected_by is params (state g h.0) (state g new) rows schema h.2)

  pub hidden_told : (viewer : ℕ) (needle : Words) (read list : List ℕ) → IsPermutation read list → (text : List ℕ) → AnswersOf g old new text (Int (pos viewer) ∷ Blob needle ∷ []) (map number_columns read) → text ≡ HIDDEN_TEXT.now → HidesFrom viewer needle (rows_in g old) list
  hidden_told viewer needle read list turned text h is ids s holds = hides ids s (rows_in g old) holds viewer needle list read turned (answered hidden_is (Int (pos viewer) ∷ Blob needle ∷ []) (map number_columns read) (rw is at h))

  hit_told : (id : ℕ) (front : List Hit) (it : Hit) → AnswersOf g old new HIT_TEXT.now (Int (pos id) ∷ []) (map columns_of_hit (front ++ it ∷ [])) → ShowsCrate id (rows_in g old) it
  hit_told id front it h ids s holds = its_hit ids s (rows_in g old) holds id front it (answered hit_is (Int (pos id) ∷ []) (map columns_of_hit (front ++ it ∷ [])) h)

  pub hit_popped : {F : Type 0} (id : ℕ) (list front : List Hit) (r : Result Hit F) → list ≡ front ++ option_to_list (result_ok r) → (text : List ℕ) → AnswersOf g old new text (Int (pos id) ∷ []) (map columns_of_hit list) → text ≡ HIT_TEXT.now → IfOk r (ShowsCrate id (rows_in g old))
  hit_popped id list front (Ok it) is text h same = hit_told id front it (rw (is, same) at h)
  hit_popped id list front (Err e) is text h same = tt

  pub walk_told : (needle : Words) (hidden : List ℕ) (most : ℕ) (rows : List Row) (hits : Hits) → AreHits needle hidden most rows hits → AnswersOf g old new WALK_TEXT.now [] rows → FindsIds needle hidden most (rows_in g old) hits
  walk_told needle hidden most rows hits are h ids s holds viewer q is hides =
      let all = walked ids s (rows_in g old) holds rows (answered walk_is [] rows h) in
      let found = rw is at are in
      let hidden_are = rw is at hides in
      (total ids s (rows_in g old) holds viewer q hidden hidden_are rows all most hits found, first ids s (rows_in g old) holds viewer q hidden hidden_are rows all most hits found)

-- one more that is shown
one_shown : (numbers : List ℕ) (db : Trees) (hs : List Hit) (id : ℕ) (h : Hit) → ShowsCrates numbers db hs → ShowsCrate id db h → ShowsCrates (numbers ++ id ∷ []) db (hs ++ h ∷ [])
one_shown [] db [] id h all one = (one, tt)
one_shown [] db (k ∷ hs) id h all one = absurd all
one_shown (n ∷ numbers) db [] id h all one = absurd all
one_shown (n ∷ numbers) db (k ∷ hs) id h all one = (all.0, one_shown numbers db hs id h all.1 one)

-- the one at an index
pub shown_at : (numbers : List ℕ) (k : ℕ) (db : Trees) (hs : List Hit) (h : Hit) → k < length numbers → ShowsCrates (take k numbers) db hs → ShowsCrate (get_or numbers k 0) db h → ShowsCrates (take (k + 1) numbers) db (hs ++ h ∷ [])
shown_at numbers k db hs h low all one = subst (λ ns. ShowsCrates ns db (hs ++ h ∷ [])) (sym (take_more numbers k 0 low)) (one_shown (take k numbers) db hs (get_or numbers k 0) h all one)

-- all of them
all_shown : (ids : IdAssignment) (s : Registry) (db : Trees) → ((id : ℕ) (h : Hit) → ShowsCrate id db h → (x : StoredCrate) → IsIn x ids.crates → x.0 ≡ id → hit_of h ≡ hit s (canon x.1)) → (xs : List StoredCrate) (hs : List Hit)
    → ShowsCrates (map (λ x. x.0) xs) db hs → AllByRecursion (λ x. IsIn x ids.crates) xs → map hit_of hs ≡ map (λ x. hit s (canon x.1)) xs
all_shown ids s db told [] [] shown there = refl
all_shown ids s db told [] (h ∷ hs) shown there = absurd shown
all_shown ids s db told (x ∷ xs) [] shown there = absurd shown
all_shown ids s db told (x ∷ xs) (h ∷ hs) shown there = λ i. told x.0 h shown.0 x there.0 refl i ∷ all_shown ids s db told xs hs shown.1 there.1 i

-- the three steps together
pub all_found : (db : Trees) (viewer most : ℕ) (needle : Words) (hidden : List ℕ) (hits : Hits) (f : Found) → HidesFrom viewer needle db hidden → FindsIds needle hidden most db hits → ShowsCrates hits.ids.items db f.crates.items → f.total ≡ hits.total → FindsNeedle viewer needle most db f
unfolding found
all_found db viewer most needle hidden hits f hides finds shows same q is ids s h =
    let told = finds ids s h viewer q is (hides ids s h) in
    let are : AreIdsOf ids hits.ids.items _ = told.1 in
    let shown = all_shown ids s db (λ id it one. one ids s h) are.crates f.crates.items (subst (λ numbers. ShowsCrates numbers db f.crates.items) are.numbered shows) are.there in
    let crates = shown ∙ sym (maps_twice (λ (x : StoredCrate). canon x.1) (hit s) are.crates) ∙ ap (map (hit s)) (sym are.named) in
    let total = same ∙ told.0 in
    λ i. record { total = total i; crates = crates i }
