-- Lines that are put behind a text as their rows are read.
use Rattle.reg_service_index.proofs.Words.{◌≡◌, ℕ, pos, ◌+◌, List, [], ◌∷◌, ◌++◌, Bool, false, Ok, Err, inl, inr, refl, sym, ap, subst, ◌∙◌}
use Rattle.reg_service_index.proofs.Words.{arith, append-nil, append_assoc, Row, Held, state, HasCleanDisk, Int, Ghosts, Text, IsOurs}
use Rattle.reg_service_index.proofs.Words.{rows_in, SendFault, Piles, IsStopped, SendsAll, Sink, pile_stopped, piles_behind, AreStemsOf}
use Rattle.reg_service_index.proofs.Words.{entries_text, entry_row, HasWalked, BeginsFile, SendsRows, lines_in, IsBroken, fault_of, Store}
use Rattle.std.proofs.Common.{◌-◌, true, map}
use Rattle.std.proofs.lemmas.List.{map-append}
use Rattle.std.proofs.lemmas.Grind.{flat_map-append}
use Rattle.sqlite.specs.Effect.{Database}
use Rattle.sqlite.proofs.Callers.{given_begin}
use Rattle.reg_line.specs.File.{file_text, line_of}
use Rattle.reg_tables_schema.specs.declared.edition.SchemaVersion.TheVariants.{Second}
use Rattle.reg_tables_schema.specs.Schema.{ours}
use Rattle.reg_body.specs.declared.bytes.SendFault.TheVariants.{Spent, Write}
use Rattle.reg_api_replies.proofs.Joined.{pile_sent, sends_nothing}
use Rattle.reg_tables_sql.proofs.StemQueries.{stems_begun}
use Rattle.reg_service_index.specs.Lines.{entry_in}

-- an entry's row tells it

pub entry_back : (stem : Text) (yanked : Bool) → entry_in (entry_row (stem, yanked)) ≡ (stem, yanked)
entry_back stem true = refl
entry_back stem false = refl

pub lines_told : (es : List (Text × Bool)) → lines_in (map entry_row es) ≡ file_text es
lines_told [] = refl
lines_told ((stem, yanked) ∷ es) = λ i. line_of (entry_back stem yanked i) ++ lines_told es i

pub lines_both : (rows more : List Row) → lines_in (rows ++ more) ≡ lines_in rows ++ lines_in more
lines_both rows more = ap file_text (map-append entry_in rows more) ∙ flat_map-append line_of (map entry_in rows) (map entry_in more)

abbrev line_in : Text × Bool → Text
line_in it = line_of it

lines_more : (rows : List Row) (it : Text × Bool) → lines_in rows ++ line_in it ≡ lines_in (rows ++ entry_row it ∷ [])
lines_more rows it =
    sym (lines_both rows (entry_row it ∷ []) ∙ ap (λ l. lines_in rows ++ l) (append-nil (line_of (entry_in (entry_row it))) ∙ ap line_of (entry_back it.0 it.1)))

-- what a writer's fault leaves, as it is told
pub stop_is_break : (f : SendFault) (text : Text) (writes : ℕ) (s t : Sink) → IsStopped f text writes s t → IsBroken (fault_of f) text writes s t
stop_is_break Write text writes s t h = h
stop_is_break Spent text writes s t h = h

module _ {S : Type 0} (g : Ghosts S) (first : Held S) (id : ℕ) (at : IsOurs Second (state g first)) where
  abbrev params : Row
  params = Int (pos id) ∷ []

  -- the rows so far begin the file
  begins_so : {T E : Type 0} (e : E) (now : Held S) (rows : List Row) → HasWalked g entries_text params first now rows → HasCleanDisk (state g now) → BeginsFile {T = T} g id (Err e) first rows
  begins_so e now rows w clean =
      let same = w.same clean in
      let rests = at (omega (arith, w.survives.clean, clean)) same.0.was_open in
      let schema : (state g now).now.schema ≡ ours = ap (λ (d : Database). d.schema) (same.0.now_is ∙ rests.settled) ∙ rests.committed_is in
      let all = stems_begun (state g now) id schema rows same.0.is_open (given_begin g entries_text params now rows (w.given clean)) in
      record { tail = all.0; is_open = same.0.was_open; are = subst (λ (d : Database). AreStemsOf id d.trees (rows ++ all.0)) same.0.now_is all.1; all = tt }

  module _ (head : Text) (writes : ℕ) (s : Sink) where
    no_rows : head ≡ head ++ lines_in []
    no_rows = sym (append-nil head)

    -- no row is read
    pub rows_none : (left : Held S) → SendsRows g id head (Err Store) writes first left s s
    rows_none left = record {
      rows = [];
      sends = record { front = []; rest = head ++ []; used = 0; whole = refl; sends = sends_nothing writes s; unsent = λ none. absurd (omega (arith, none)) };
      begins = λ clean. inl (refl, refl);
    }

    -- the head is put, or that is stopped
    pub head_put : (t : Sink) (used : ℕ) (rest : Text) → Piles [] head rest writes used s t → Piles [] (head ++ lines_in []) rest writes used s t
    head_put t used rest h = subst (λ l. Piles [] l rest writes used s t) no_rows h

    pub head_stopped : (fault : SendFault) (t : Sink) (now : Held S) → HasWalked g entries_text params first now [] → IsStopped fault head writes s t → SendsRows g id head (Err (fault_of fault)) writes first now s t
    head_stopped fault t now w h = record {
      rows = [];
      sends = subst (λ l. IsBroken (fault_of fault) l writes s t) no_rows (stop_is_break fault head writes s t h);
      begins = λ clean. inr (begins_so (fault_of fault) now [] w clean);
    }

    module _ (t : Sink) (used : ℕ) (now : Held S) (rest : Text) (rows : List Row) (w : HasWalked g entries_text params first now rows) (puts : Piles [] (head ++ lines_in rows) rest writes used s t) where
      -- the store fails
      pub rows_broken : (left : Held S) → (HasCleanDisk (state g left) → HasCleanDisk (state g now)) → SendsRows g id head (Err Store) writes first left s t
      rows_broken left back = record {
        rows = rows;
        sends = record { front = puts.sent; rest = rest; used = used; whole = puts.whole; sends = puts.sends; unsent = puts.waits };
        begins = λ clean. inr (begins_so Store now rows w (back clean));
      }

      -- they come to their end, and what waits is sent, or that is stopped
      pub rows_all : (u : Sink) (last : ℕ) (left : Held S) → (HasCleanDisk (state g left) → AreStemsOf id (rows_in g first) rows) → (HasCleanDisk (state g left) → HasCleanDisk (state g now)) → SendsAll rest (writes - used) last t u → SendsRows g id head (Ok (used + last)) writes first left s u
      rows_all u last left are back h = record {
        rows = rows;
        sends = pile_sent [] (head ++ lines_in rows) rest writes used s t u (Ok last) puts h;
        begins = λ clean. inr (record {
          tail = [];
          is_open = (w.same (back clean)).0.was_open;
          are = subst (λ l. AreStemsOf id (rows_in g first) l) (sym (append-nil rows)) (are clean);
          all = refl;
        });
      }

      pub end_stopped : (fault : SendFault) (u : Sink) (left : Held S) → (HasCleanDisk (state g left) → HasCleanDisk (state g now)) → IsStopped fault rest (writes - used) t u → SendsRows g id head (Err (fault_of fault)) writes first left s u
      end_stopped fault u left back h = record {
        rows = rows;
        sends = stop_is_break fault (head ++ lines_in rows) writes s u (pile_sent [] (head ++ lines_in rows) rest writes used s t u (Err fault) puts h);
        begins = λ clean. inr (begins_so (fault_of fault) now rows w (back clean));
      }

      one_more : (it : Text × Bool) → (head ++ lines_in rows) ++ line_in it ≡ head ++ lines_in (rows ++ entry_row it ∷ [])
      one_more it = append_assoc head (lines_in rows) (line_in it) ∙ ap (λ l. head ++ l) (lines_more rows it)

      -- one line more is put, or that is stopped
      pub rows_more : (it : Text × Bool) (u : Sink) (more : ℕ) (next : Text) → Piles rest (line_in it) next (writes - used) more t u → Piles [] (head ++ lines_in (rows ++ entry_row it ∷ [])) next writes (used + more) s u
      rows_more it u more next h = subst (λ l. Piles [] l next writes (used + more) s u) (one_more it) (piles_behind [] (head ++ lines_in rows) (line_in it) rest next writes used more s t u puts h)

      pub rows_stopped : (fault : SendFault) (it : Text × Bool) (u : Sink) (on : Held S) → IsStopped fault (rest ++ line_in it) (writes - used) t u → HasWalked g entries_text params first on (rows ++ entry_row it ∷ []) → SendsRows g id head (Err (fault_of fault)) writes first on s u
      rows_stopped fault it u on h walked = record {
        rows = rows ++ entry_row it ∷ [];
        sends = subst (λ l. IsBroken (fault_of fault) l writes s u) (one_more it) (stop_is_break fault ((head ++ lines_in rows) ++ line_in it) writes s u (pile_stopped fault [] (head ++ lines_in rows) (line_in it) rest writes used s t u puts h));
        begins = λ clean. inr (begins_so (fault_of fault) on (rows ++ entry_row it ∷ []) walked clean);
      }
