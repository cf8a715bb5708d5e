-- What the text on the tokens that may act tells, once it was asked.
use Rattle.reg_access.proofs.Words.{◌≡◌, ℕ, List, [], ◌∷◌, map, Ok, Err, Result, Shown, Text, Ghosts, selected, columns_with_account}
use Rattle.reg_access.proofs.Words.{TokenRow, StoreFault, Work, OnAnswer, IsActive, KeepsFrame, Unmoved, rows_seen, seen, Queries}
use Rattle.reg_access.proofs.Words.{FIND_CANDIDATES_TEXT, AreCandidates}
use Rattle.std.specs.Prelude.{Vec}
use Rattle.std.specs.declared.alloc.Global.{Global}
use Rattle.reg_access.proofs.Calls.{inside}
use Rattle.reg_access.proofs.GrantRows.{candidates_are}
use Rattle.reg_access.proofs.GrantText.{grant_is}

pub candidates_asked : {S : Type 0} (g : Ghosts S) (said text : List ℕ) (old new : Work S) (r : Result (Vec TokenRow Global) StoreFault) → IsActive g old
    → OnAnswer g new r (λ list. Shown said (Text text ∷ []) (seen g old) (seen g new) (map columns_with_account list.items)) → Unmoved g r old new → KeepsFrame g r old new → said ≡ FIND_CANDIDATES_TEXT.now
    → Queries g old new r (λ db list. AreCandidates text db list.items)
candidates_asked g said text old new (Ok list) at told same leaves text_is = record {
  told = λ clean ids s h n name is.
      candidates_are ids s (rows_seen g old) h n name (map columns_with_account list.items)
      (selected grant_is (Text _ ∷ []) (seen g old) (seen g new) (map columns_with_account list.items) (inside g list old new at leaves clean) (rw (text_is, ← is) at (told clean)));
  same = same;
  leaves = leaves;
}
candidates_asked g said text old new (Err e) at told same leaves text_is = record { told = λ clean. tt; same = same; leaves = leaves }
