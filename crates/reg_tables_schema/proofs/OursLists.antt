-- A list that is told item by item, and the indexes that SQLite makes for our UNIQUE keys.
use Rattle.std.proofs.Common.{◌≡◌, ℕ, zero, suc, ◌<◌, ◌≤◌, List, [], ◌∷◌, length, get_or, codes, true, refl, sym, ap, ◌∙◌, arith, Bool, ◌&&◌}
use Rattle.std.proofs.Math.Seq.{drop-cons}
use Rattle.std.specs.Prelude.{drop, IsTrue}
use Rattle.sqlite_schema.specs.declared.schema.Index.{Index}
use Rattle.sqlite_catalog.specs.Listing.{automatic}
use Rattle.sqlite_value.specs.Keys.{plain}
use Rattle.sqlite_tied.specs.Compute.{everything}
use Rattle.reg_tables_schema.specs.Schema.{accounts, tokens, scopes, crates, owners, versions, reserved, readers}

-- the item at this place, and then the rest
pub item : {X : Type 0} (xs : List X) (k : ℕ) (x d : X) (rest : List X) → k < length xs → x ≡ get_or xs k d → drop (suc k) xs ≡ rest → drop k xs ≡ x ∷ rest
item xs k x d rest low is more = drop-cons xs k d low ∙ ap (λ z. z ∷ drop (suc k) xs) (sym is) ∙ ap (λ r. x ∷ r) more

pub past : {X : Type 0} (xs : List X) (k : ℕ) → length xs ≤ k → drop k xs ≡ []
past [] zero h = refl
past [] (suc k) h = refl
past (x ∷ xs) zero h = absurd (omega (arith, h))
past (x ∷ xs) (suc k) h = past xs k (omega (arith, h))

-- the item at this place, where the list is told whole
pub stands : {X : Type 0} (xs ys : List X) (k : ℕ) (x d : X) → x ≡ get_or xs k d → xs ≡ ys → x ≡ get_or ys k d
stands xs ys k x d is e = is ∙ ap (λ l. get_or l k d) e

pub and_true : (a b : Bool) → IsTrue a → IsTrue b → IsTrue (a && b)
and_true a b is also = rw (is, also)

abbrev unique_index : List ℕ → ℕ → List ℕ → Index
unique_index name table columns = record { name = name; tree = suc table; table = table; columns = columns; order = plain; is_unique = true }

pub accounts_index : unique_index (codes "sqlite_autoindex_accounts_1") 1 (2 ∷ []) ≡ automatic accounts 0 (2 ∷ []) 2
unfolding everything
accounts_index = refl

pub tokens_index : unique_index (codes "sqlite_autoindex_tokens_1") 3 (2 ∷ []) ≡ automatic tokens 0 (2 ∷ []) 4
unfolding everything
tokens_index = refl

pub scopes_index : unique_index (codes "sqlite_autoindex_scopes_1") 5 (1 ∷ 2 ∷ []) ≡ automatic scopes 0 (1 ∷ 2 ∷ []) 6
unfolding everything
scopes_index = refl

pub crates_index : unique_index (codes "sqlite_autoindex_crates_1") 7 (2 ∷ []) ≡ automatic crates 0 (2 ∷ []) 8
unfolding everything
crates_index = refl

pub owners_index : unique_index (codes "sqlite_autoindex_owners_1") 9 (1 ∷ 2 ∷ []) ≡ automatic owners 0 (1 ∷ 2 ∷ []) 10
unfolding everything
owners_index = refl

pub versions_index : unique_index (codes "sqlite_autoindex_versions_1") 11 (2 ∷ 4 ∷ []) ≡ automatic versions 0 (2 ∷ 4 ∷ []) 12
unfolding everything
versions_index = refl

pub reserved_index : unique_index (codes "sqlite_autoindex_reserved_1") 14 (1 ∷ []) ≡ automatic reserved 0 (1 ∷ []) 15
unfolding everything
reserved_index = refl

pub readers_index : unique_index (codes "sqlite_autoindex_readers_1") 18 (1 ∷ 2 ∷ []) ≡ automatic readers 0 (1 ∷ 2 ∷ []) 19
unfolding everything
readers_index = refl
