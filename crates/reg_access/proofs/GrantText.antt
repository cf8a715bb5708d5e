-- What the text on the tokens that may act on a name means.
use Rattle.std.specs.Prelude.{negsuc}
use Rattle.sqlite_value.specs.declared.keys.Collation.{Collation}
use Rattle.reg_access.proofs.Words.{ℕ, pos, true, None, List, [], ◌∷◌, codes, refl, Binary, Join, Query, inner, left, end, Term, col, op2, Int, Compare}
use Rattle.reg_access.proofs.Words.{Eq, Le, Lt, ours, IsSelection, FIND_CANDIDATES_TEXT}
use Rattle.sqlite.specs.Listing.{understood}
use Rattle.sqlite.specs.Term.{lit}
use Rattle.sqlite_tied.specs.Compute.{everything}
use Rattle.sqlite_value.specs.Keys.{ascending}

abbrev pub eq : Term → Term → Term
eq a b = op2 (Compare Eq Binary) a b

abbrev pub on_account : List Term
on_account = eq (col 3 0) (col 2 3) ∷ []

abbrev pub after_token : Join
after_token = left 1 on_account end

abbrev pub from : Join
from = inner 5 (inner 3 after_token)

abbrev pub where_terms : List Term
where_terms = eq (col 1 1) (col 2 0) ∷ eq (col 2 4) (lit (Int (pos 1))) ∷ eq (col 3 4) (lit (Int (pos 1))) ∷ op2 (Compare Le Binary) (col 1 4) (col 0 0) ∷ op2 (Compare Lt Binary) (col 0 0) (col 1 5) ∷ []

abbrev pub project : List Term
project = col 2 0 ∷ col 2 3 ∷ col 2 4 ∷ col 2 5 ∷ col 2 6 ∷ col 2 7 ∷ col 2 8 ∷ col 3 2 ∷ col 3 4 ∷ []

abbrev pub collations : List Collation
collations = Binary ∷ Binary ∷ Binary ∷ Binary ∷ Binary ∷ Binary ∷ Binary ∷ Binary ∷ Binary ∷ []

abbrev pub query : Query
query = record { from = from; filter = where_terms; group = None; project = project; distinct = true; collations = collations; order = (col 2 0, ascending Binary) ∷ []; limit = lit (Int (negsuc 0)); offset = lit (Int (pos 0)) }

abbrev names : List (List ℕ)
names = codes "id" ∷ codes "account" ∷ codes "live" ∷ codes "publish_new" ∷ codes "publish_update" ∷ codes "yank" ∷ codes "change_owners" ∷ codes "login" ∷ codes "enabled" ∷ []

pub grant_is : IsSelection ours FIND_CANDIDATES_TEXT.now query names
unfolding understood everything
grant_is = record { command = refl; unlisted = refl; plain = (refl, refl) }
