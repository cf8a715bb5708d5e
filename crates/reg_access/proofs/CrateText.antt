-- What the text on a crate, its owner, its mark and its reader means.
use Rattle.reg_access.proofs.Words.{◌≡◌, ℕ, List, [], ◌∷◌, codes, map, ◌&&◌, refl, ap, subst, ◌∙◌, filter, list_all, IsPermutation, Binary}
use Rattle.reg_access.proofs.Words.{Row, column, overlay, Join, Query, IsSureAnswer, inner, left, end, matches, or_nulls, Term, col}
use Rattle.reg_access.proofs.Words.{eval_all, op2, Trees, Value, Text, equal, Compare, Eq, ours, plain, answers, and_true, same_filter}
use Rattle.reg_access.proofs.Words.{IsSelection, beside_all, crates_seen_by, is_mark_of, is_pair_of}
use Rattle.sqlite.specs.Listing.{understood}
use Rattle.sqlite.specs.Term.{holds}
use Rattle.sqlite_tied.specs.Compute.{everything}
use Rattle.reg_access.specs.declared.texts.TheConstants.{FIND_CRATE_TEXT}
use Rattle.reg_access.proofs.Joins.{joined_thrice, same_join}

abbrev eq : Term → Term → Term
eq a b = op2 (Compare Eq Binary) a b

abbrev of_owner : List Term
of_owner = eq (col 2 1) (col 1 0) ∷ eq (col 2 2) (col 0 1) ∷ []

abbrev of_mark : List Term
of_mark = eq (col 3 0) (col 1 0) ∷ []

abbrev of_reader : List Term
of_reader = eq (col 4 1) (col 1 0) ∷ eq (col 4 2) (col 0 1) ∷ []

abbrev crate_join : Join
crate_join = inner 7 (left 9 of_owner (left 17 of_mark (left 18 of_reader end)))

abbrev crate_filter : List Term
crate_filter = eq (col 1 2) (col 0 0) ∷ []

abbrev crate_project : List Term
crate_project = col 1 0 ∷ col 1 3 ∷ col 2 2 ∷ col 3 0 ∷ col 4 2 ∷ []

abbrev pub crate_query : Query
crate_query = plain crate_join crate_filter crate_project

pub crate_is : IsSelection ours FIND_CRATE_TEXT.now crate_query (codes "id" ∷ codes "name" ∷ codes "account" ∷ codes "crate" ∷ codes "account" ∷ [])
unfolding understood everything
crate_is = record { command = refl; unlisted = refl; plain = (refl, refl) }

module _ (db : Trees) (canon : List ℕ) (account : Value) where
  abbrev params : Row
  params = Text canon ∷ account ∷ []

  abbrev owner_on : Row → List Row
  owner_on c = filter (λ o. list_all (holds (params ∷ c ∷ o ∷ [])) of_owner) (db 9)

  abbrev mark_on : Row → List Row
  mark_on c = filter (λ r. list_all (holds (params ∷ c ∷ [] ∷ r ∷ [])) of_mark) (db 17)

  abbrev reader_on : Row → List Row
  reader_on c = filter (λ d. list_all (holds (params ∷ c ∷ [] ∷ [] ∷ d ∷ [])) of_reader) (db 18)

  owners_are : (c : Row) → owner_on c ≡ filter (is_pair_of account c) (db 9)
  owners_are c = same_filter _ (is_pair_of account c) (λ o. ap (λ b. equal Binary (column o 1) (column c 0) && b) (and_true (equal Binary (column o 2) account))) (db 9)

  marks_are : (c : Row) → mark_on c ≡ filter (is_mark_of c) (db 17)
  marks_are c = same_filter _ (is_mark_of c) (λ r. and_true (equal Binary (column r 0) (column c 0))) (db 17)

  readers_are : (c : Row) → reader_on c ≡ filter (is_pair_of account c) (db 18)
  readers_are c = same_filter _ (is_pair_of account c) (λ d. ap (λ b. equal Binary (column d 1) (column c 0) && b) (and_true (equal Binary (column d 2) account))) (db 18)

  crate_rows : map (eval_all crate_project) (matches db crate_filter crate_join (params ∷ [])) ≡ crates_seen_by canon account db
  crate_rows =
      let named = λ (c : Row). equal Binary (column c 2) (Text canon) in
      joined_thrice (λ (c o r d : Row). params ∷ c ∷ o ∷ r ∷ d ∷ []) (eval_all crate_project) (λ c. or_nulls (owner_on c)) (λ c o. or_nulls (mark_on c)) (λ c o r. or_nulls (reader_on c)) named (db 7)
      ∙ same_join _ _ (λ c. λ i. beside_all c (or_nulls (owners_are c i)) (or_nulls (marks_are c i)) (or_nulls (readers_are c i))) (filter named (db 7))

pub crate_gives : (canon : List ℕ) (account : Value) (db : Trees) (rows : List Row) → IsSureAnswer crate_query (overlay db []) (Text canon ∷ account ∷ []) rows → IsPermutation (crates_seen_by canon account db) rows
crate_gives canon account db rows h = subst (λ xs. IsPermutation xs rows) (crate_rows db canon account) (answers (overlay db []) (Text canon ∷ account ∷ []) crate_join crate_filter crate_project rows h)
