-- What reading a file leaves of the connection, and of the tables.
use Rattle.reg_service_index.proofs.Words.{◌≡◌, ◌⊎◌, ℕ, zero, List, Ok, Err, Result, inl, inr, sym, subst, Row, Ghosts, Held, state, IsOurs}
use Rattle.reg_service_index.proofs.Words.{HasWalked, walk_ends, Tables, held, IndexFault}
use Rattle.std.proofs.Common.{Option}
use Rattle.std.specs.Prelude.{OnOk, OnErr}
use Rattle.std.specs.Borrow.{Bor}
use Rattle.sqlite.specs.declared.rows.stream.Rows.{Rows}
use Rattle.sqlite.specs.Next.{HasMoved}
use Rattle.sqlite.specs.State.{IsUnchanged}
use Rattle.reg_tables_schema.specs.States.{Refuses}
use Rattle.reg_tables_represent.specs.Walks.{IsRead}
use Rattle.reg_tables.specs.Works.{AreOurs, IsLeft, edition_in, is_stopped, shown}

module _ {S : Type 0} (g : Ghosts S) (text : List ℕ) (params : Row) (first : Held S) (old new : Rows S g) (given : List Row) (w : HasWalked g text params first old.conn.now given) where
  -- where a row or the end was read, and then something failed
  pub left_after : (o : Option (Bor Row)) → HasMoved g old (Ok o) new → (f : IndexFault) → IsRead {T = ℕ} g (Err f) first new.conn.now
  left_after o m f = let it : IsRead {E = IndexFault} g (Ok zero) first new.conn.now = walk_ends g text params first old new given w zero o m in record {
    same = λ _. tt;
    refused = λ clean. inr (inl (it.same clean));
    ours = it.ours;
    survives = it.survives;
  }

same_or_failed : {S T E : Type 0} (g : Ghosts S) (old new : Held S) (r : Result T E) → OnOk r (IsUnchanged (state g old) (state g new)) → OnErr r ((new ≡ old) ⊎ Refuses (state g old) (state g new)) → (new ≡ old) ⊎ Refuses (state g old) (state g new)
same_or_failed g old new (Ok x) same refused = inr (inl same)
same_or_failed g old new (Err e) same refused = refused

-- the tables whose connection was read
pub read_left : {S T E : Type 0} (g : Ghosts S) (old new : Tables S) (r : Result T E) → AreOurs g old → IsRead g r (held old) (held new) → is_stopped new ≡ is_stopped old → edition_in new ≡ edition_in old → IsLeft g old new
read_left g old new r ours reads shut edition = record {
  refused = λ clean. same_or_failed g (held old) (held new) r (reads.same clean) (reads.refused clean);
  ours = subst (λ e. IsOurs e (shown g new)) (sym edition) (reads.ours (edition_in old) ours);
  edition = edition;
  shut = shut;
  survives = reads.survives;
}
