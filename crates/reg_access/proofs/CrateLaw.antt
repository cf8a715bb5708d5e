-- Where the rows stand for a registry, the row of a crate shows its spelling, and what an account is to it.
use Rattle.reg_access.proofs.Words.{◌≡◌, ◌==◌, ◌⊎◌, inl, inr, ℕ, pos, List, [], ◌∷◌, Bool, true, false, not, ◌&&◌, ◌||◌, cond, Some, None}
use Rattle.reg_access.proofs.Words.{is_some, refl, sym, ap, ap₂, subst, ◌∙◌, enumerate_from, filter, flat_map, list_any, on, bytes_eq}
use Rattle.reg_access.proofs.Words.{eq-eqb, eqb-true, Value, Int, Text, Binary, Row, column, is_null, or_nulls, Trees, equal, canon}
use Rattle.reg_access.proofs.Words.{with_id, collides, first, is_among, owners, Sound, any_filter, any_same, is_some_find, not_true}
use Rattle.reg_access.proofs.Words.{true_not_false, IsIn, one_passes, one_row, equals_int, equals_text, same_filter, IdAssignment, StandCrates}
use Rattle.reg_access.proofs.Words.{StandsBy, StoredCrate, StoredVersion, same_text, bytes_same, same_bytes, spelled_at, one_at, none_row}
use Rattle.reg_access.proofs.Words.{beside_all, crates_seen_by, is_mark_of, is_pair_of, value_at, TellsCrate}
use Rattle.std.specs.FinSet as finset
use Rattle.std.proofs.lemmas.List.{append-nil}
use Rattle.reg_model.specs.Registry as model
use Rattle.reg_model.specs.Registry.{owner_cmp}
use Rattle.reg_model.specs.Crates.{has_crate, readers}
use Rattle.reg_model.proofs.Members.{any_in, in_any, in_filter, none_pass}
use Rattle.reg_tables_schema.specs.Tests.{is_number, is_owner}
use Rattle.reg_tables_represent.specs.Stands.{StandPairs, row_of_crate}
use Rattle.reg_tables_represent.specs.Changes.{told_of}
use Rattle.reg_tables_represent.proofs.CrateLemmas.{crate_of, one_by_canon, version_of}
use Rattle.reg_tables_represent.proofs.MarkedStand.{is_marked}
use Rattle.reg_tables_represent.proofs.PairChanges as pairs
use Rattle.reg_tables_represent.proofs.CrateNames.{first_of, named, none_first, some_first}
use Rattle.reg_access.proofs.Nulls.{none_any, not_null}
use Rattle.reg_access.proofs.Somes.{the_some}

abbrev Words : Type 0
Words = List ℕ

abbrev has_canon : Words → Row → Bool
has_canon c r = equal Binary (column r 2) (Text c)

no_longer : {X : Type 0} (p : X → Bool) (xs : List X) → list_any p xs ≡ false → (x : X) → IsIn x xs → p x ≡ false
no_longer p xs e x i = not_true _ (λ t. true_not_false (list_any p xs) (in_any p xs x i t) e)

-- the rows of a crate, beside what the account is to it
abbrev owner_rows : Trees → Value → Row → List Row
owner_rows db account c = filter (is_pair_of account c) (db 9)

abbrev mark_rows : Trees → Row → List Row
mark_rows db c = filter (is_mark_of c) (db 17)

abbrev reader_rows : Trees → Value → Row → List Row
reader_rows db account c = filter (is_pair_of account c) (db 18)

abbrev pub its : Trees → Value → Row → List Row
its db account c = beside_all c (or_nulls (owner_rows db account c)) (or_nulls (mark_rows db c)) (or_nulls (reader_rows db account c))

module _ (ids : IdAssignment) (s : model.Registry) (db : Trees) (stands : StandsBy ids s db) where
  abbrev h : StandCrates ids s.publications s.yanked db
  h = stands.crates

  -- the stored crate of a name: its row alone has the canonical text, and its spelling is the first
  pub record IsFound (n : Words) (x : StoredCrate) : Type 0 where
    pub stored : IsIn x ids.crates
    pub row_is : filter (has_canon (canon n)) (db 7) ≡ row_of_crate x ∷ []
    pub spelled : first s n ≡ Some x.1
    pub named_so : canon x.1 ≡ canon n

  pub record IsMissing (n : Words) : Type 0 where
    pub no_row : filter (has_canon (canon n)) (db 7) ≡ []
    pub unspelled : first s n ≡ None

  of_row : (c : Words) (y : StoredCrate) → has_canon c (row_of_crate y) ≡ named c y
  of_row c y = equals_text (Text (canon y.1)) c ∙ same_text (canon y.1) c

  alone : (n : Words) (x : StoredCrate) → IsIn x ids.crates → canon x.1 ≡ canon n → filter (named (canon n)) ids.crates ≡ x ∷ []
  alone n x i at =
      one_passes (on (λ d. canon d.1) bytes_eq) (named (canon n)) ids.crates x h.canons (λ y z j k p q. bytes_same (canon y.1) (canon z.1) (same_bytes (canon y.1) (canon n) p ∙ sym (same_bytes (canon z.1) (canon n) q))) i
      (bytes_same (canon x.1) (canon n) at)

  spells : (n : Words) (x : StoredCrate) → IsIn x ids.crates → canon x.1 ≡ canon n → (v : StoredVersion) → IsIn v ids.versions → collides v.publication.name n ≡ true → v.publication.name ≡ x.1
  spells n x i at v j met =
      let y = crate_of ids s.publications s.yanked db h v j in
      sym y.3 ∙ ap (λ d. d.1) (one_by_canon ids s.publications s.yanked db h y.0 x y.1 i (ap canon y.3 ∙ same_bytes (canon v.publication.name) (canon n) met ∙ sym at))

  found : (n : Words) (x : StoredCrate) → IsIn x ids.crates → canon x.1 ≡ canon n → IsFound n x
  found n x i at =
      let v = version_of ids s.publications s.yanked db h x i in
      let met : collides v.0.publication.name n ≡ true = bytes_same (canon v.0.publication.name) (canon n) (ap canon (sym v.3) ∙ at) in
      record {
        stored = i;
        row_is = one_row row_of_crate (has_canon (canon n)) x ids.crates (db 7) h.crate_rows (same_filter (λ y. has_canon (canon n) (row_of_crate y)) (named (canon n)) (of_row (canon n)) ids.crates ∙ alone n x i at);
        spelled = subst (λ qs. first_of qs n ≡ Some x.1) h.published (some_first n x.1 ids.versions (spells n x i at) v.0 v.1 met);
        named_so = at;
      }

  unmet : (n : Words) → list_any (named (canon n)) ids.crates ≡ false → (v : StoredVersion) → IsIn v ids.versions → collides v.publication.name n ≡ false
  unmet n none v j =
      let y = crate_of ids s.publications s.yanked db h v j in
      not_true _ (λ met. true_not_false (list_any (named (canon n)) ids.crates) (in_any (named (canon n)) ids.crates y.0 y.1 (bytes_same (canon y.0.1) (canon n) (ap canon y.3 ∙ same_bytes (canon v.publication.name) (canon n) met))) none)

  missing : (n : Words) → list_any (named (canon n)) ids.crates ≡ false → IsMissing n
  missing n none =
      let test = has_canon (canon n) in
      record {
        no_row = none_row row_of_crate test ids.crates (db 7) h.crate_rows (same_filter (λ y. test (row_of_crate y)) (named (canon n)) (of_row (canon n)) ids.crates ∙ none_pass (on (λ d. canon d.1) bytes_eq) (named (canon n)) ids.crates (no_longer (named (canon n)) ids.crates none));
        unspelled = subst (λ qs. first_of qs n ≡ None) h.published (none_first n ids.versions (unmet n none));
      }

  pub found_or_missing : (n : Words) → IsMissing n ⊎ ((x : StoredCrate) × IsFound n x)
  found_or_missing n = split (list_any (named (canon n)) ids.crates) refl
    where
      split : (b : Bool) → list_any (named (canon n)) ids.crates ≡ b → IsMissing n ⊎ ((x : StoredCrate) × IsFound n x)
      split true e = let r = any_in (named (canon n)) ids.crates e in inr (r.0, found n r.0 r.1 (same_bytes (canon r.0.1) (canon n) r.2))
      split false e = inl (missing n e)

  pub its_rows : (n : Words) (account : Value) (x : StoredCrate) → IsFound n x → crates_seen_by (canon n) account db ≡ its db account (row_of_crate x)
  its_rows n account x it = ap (flat_map (its db account)) it.row_is ∙ append-nil _

  pub no_rows : (n : Words) (account : Value) → IsMissing n → crates_seen_by (canon n) account db ≡ []
  no_rows n account it = ap (flat_map (its db account)) it.no_row

  -- whether a row of a relation is that of a stored crate and an account, and whether a crate has its mark
  paired_rows : (held : finset.FinSet owner_cmp) (rows : List Row) → StandPairs ids.crates held rows → (account : ℕ) (x : StoredCrate) → IsIn x ids.crates → list_any (is_pair_of (Int (pos account)) (row_of_crate x)) rows ≡ finset.contains held (canon x.1, account)
  paired_rows held rows are account x i =
      any_same (is_pair_of (Int (pos account)) (row_of_crate x)) (is_owner x.0 account) (λ r. ap₂ ◌&&◌ (equals_int (column r 1) (pos x.0)) (equals_int (column r 2) (pos account))) rows
      ∙ pairs.is_there ids s.publications s.yanked db h held x.0 x.1 i account rows are

  marked_rows : (x : StoredCrate) → IsIn x ids.crates → list_any (is_mark_of (row_of_crate x)) (db 17) ≡ finset.contains s.restricted (canon x.1)
  marked_rows x i =
      any_same (is_mark_of (row_of_crate x)) (is_number 0 x.0) (λ r. equals_int (column r 0) (pos x.0)) (db 17)
      ∙ is_marked ids s.publications s.yanked db h s.restricted (db 17) stands.restricted x.0
      ∙ ap (λ o. told_of o false (λ name. finset.contains s.restricted (canon name))) (spelled_at ids s.publications s.yanked db h x.0 x.1 i)

-- the first of some rows, or NULLs, and the others
abbrev first_row : List Row → Row
first_row [] = []
first_row (r ∷ rows) = r

abbrev other_rows : List Row → List Row
other_rows [] = []
other_rows (r ∷ rows) = rows

never_empty : (rows : List Row) → or_nulls rows ≡ first_row rows ∷ other_rows rows
never_empty [] = refl
never_empty (r ∷ rows) = refl

-- so a crate has a row, whose first is made of the first of each
begins : (c : Row) (os ms ds : List Row) → beside_all c (or_nulls os) (or_nulls ms) (or_nulls ds) ≡ beside_all c (first_row os ∷ other_rows os) (first_row ms ∷ other_rows ms) (first_row ds ∷ other_rows ds)
begins c os ms ds = λ i. beside_all c (never_empty os i) (never_empty ms i) (never_empty ds i)

-- LEFT JOIN shows a value where a row passes, and else NULL
left_shows : (place : ℕ) (p : Row → Bool) → ((r : Row) → p r ≡ true → is_null (column r place) ≡ false) → (rows : List Row) → not (is_null (column (first_row (filter p rows)) place)) ≡ list_any p rows
left_shows place p sure [] = refl
left_shows place p sure (r ∷ rows) = split (p r) refl (left_shows place p sure rows)
  where
    split : (b : Bool) → p r ≡ b → not (is_null (column (first_row (filter p rows)) place)) ≡ list_any p rows → not (is_null (column (first_row (cond b (r ∷ filter p rows) (filter p rows))) place)) ≡ (b || list_any p rows)
    split true e rest = ap not (sure r e)
    split false e rest = rest

right : (a b : Bool) → (a && b) ≡ true → b ≡ true
right true b e = e
right false b e = absurd cc

-- an account is among those of a crate where the set holds the pair, and each that it holds is there
module _ (s : model.Registry) (held : finset.FinSet owner_cmp) (n : Words) (account : ℕ) (known : finset.contains held (canon n, account) ≡ true → is_some (with_id s.accounts account) ≡ true) where
  abbrev entries : List (ℕ × model.Account)
  entries = enumerate_from 1 s.accounts

  abbrev has : ℕ → Bool
  has id = finset.contains held (canon n, id)

  it_is_there : has account ≡ true → list_any (λ e. e.0 == account) entries ≡ true
  it_is_there e =
      let a = the_some (with_id s.accounts account) (known e) in
      let it : ℕ × model.Account = (account, a.0) in
      in_any (λ e. e.0 == account) entries it (in_filter (λ e. e.0 == account) entries it (subst (IsIn it) (sym (one_at account s.accounts a.0 a.1)) (inl refl))) (eq-eqb account account refl)

  swapped : (e : ℕ × model.Account) → (has e.0 && (e.0 == account)) ≡ (has account && (e.0 == account))
  swapped e = split (e.0 == account) refl
    where
      split : (b : Bool) → (e.0 == account) ≡ b → (has e.0 && b) ≡ (has account && b)
      split true t = ap (λ k. has k && true) (eqb-true e.0 account t)
      split false t = last (has e.0) ∙ sym (last (has account))
        where
          last : (b : Bool) → (b && false) ≡ false
          last true = refl
          last false = refl

  among : is_among (filter (λ o. has o.0) entries) account ≡ has account
  among = any_filter (λ o. has o.0) (λ o. o.0 == account) entries ∙ any_same _ (λ e. has account && (e.0 == account)) swapped entries ∙ split (has account) refl
    where
      split : (b : Bool) → has account ≡ b → list_any (λ e. b && (e.0 == account)) entries ≡ b
      split true e = it_is_there e
      split false e = none_any entries

module _ (ids : IdAssignment) (s : model.Registry) (db : Trees) (sound : Sound s) (stands : StandsBy ids s db) (n : Words) (account : ℕ) where
  abbrev Told : List Row → Type 0
  Told rows = TellsCrate s n account rows

  owned : is_among (owners s n) account ≡ finset.contains s.owners (canon n, account)
  owned = among s s.owners n account (λ e. (sound.owners (canon n) account e).1)

  read : is_among (readers s n) account ≡ finset.contains s.readers (canon n, account)
  read = among s s.readers n account (λ e. (sound.readers (canon n) account e).1)

  told_missing : IsMissing ids s db stands n → Told (crates_seen_by (canon n) (Int (pos account)) db)
  told_missing it =
      let gone : has_crate s (canon n) ≡ false = sym (is_some_find (λ p. p.name) (λ p. collides p.name n) s.publications) ∙ ap is_some it.unspelled in
      subst Told (sym (no_rows ids s db stands n (Int (pos account)) it)) (record {
        there = sym gone;
        spelled = sym it.unspelled;
        owned = sym (owned ∙ not_true _ (λ e. true_not_false _ (sound.owners (canon n) account e).0 gone));
        restricted = sym (not_true _ (λ e. true_not_false _ (sound.restricted (canon n) e) gone));
        read = sym (read ∙ not_true _ (λ e. true_not_false _ (sound.readers (canon n) account e).0 gone));
      })

  told_found : (x : StoredCrate) → IsFound ids s db stands n x → Told (crates_seen_by (canon n) (Int (pos account)) db)
  told_found x it =
      let c = row_of_crate x in
      let v = Int (pos account) in
      let pair = is_pair_of v c in
      let sure = λ (r : Row) (e : pair r ≡ true). not_null (column r 2) (pos account) (right _ _ e) in
      let there : has_crate s (canon n) ≡ true = sym (is_some_find (λ p. p.name) (λ p. collides p.name n) s.publications) ∙ ap is_some it.spelled in
      subst Told (sym (its_rows ids s db stands n v x it ∙ begins c (owner_rows db v c) (mark_rows db c) (reader_rows db v c))) (record {
        there = sym there;
        spelled = sym it.spelled;
        owned = left_shows 2 pair sure (db 9) ∙ paired_rows ids s db stands s.owners (db 9) stands.owners account x it.stored ∙ ap (λ k. finset.contains s.owners (k, account)) it.named_so ∙ sym owned;
        restricted = left_shows 0 (is_mark_of c) (λ r e. not_null (column r 0) (pos x.0) e) (db 17) ∙ marked_rows ids s db stands x it.stored ∙ ap (finset.contains s.restricted) it.named_so;
        read = left_shows 2 pair sure (db 18) ∙ paired_rows ids s db stands s.readers (db 18) stands.readers account x it.stored ∙ ap (λ k. finset.contains s.readers (k, account)) it.named_so ∙ sym read;
      })

  pub tells_crate : Told (crates_seen_by (canon n) (Int (pos account)) db)
  tells_crate = either (found_or_missing ids s db stands n)
    where
      either : IsMissing ids s db stands n ⊎ ((x : StoredCrate) × IsFound ids s db stands n x) → Told (crates_seen_by (canon n) (Int (pos account)) db)
      either (inl it) = told_missing it
      either (inr it) = told_found it.0 it.1

-- the id that the rows of a stored crate show
pub id_shown : (ids : IdAssignment) (s : model.Registry) (db : Trees) (stands : StandsBy ids s db) (n : Words) (account : Value) (x : StoredCrate) → IsFound ids s db stands n x → value_at (crates_seen_by (canon n) account db) 0 ≡ Int (pos x.0)
id_shown ids s db stands n account x it =
    let c = row_of_crate x in
    ap (λ rows. value_at rows 0) (its_rows ids s db stands n account x it ∙ begins c (owner_rows db account c) (mark_rows db c) (reader_rows db account c))
