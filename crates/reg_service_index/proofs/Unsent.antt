-- Replies where nothing was sent before, and files that were.
use Rattle.reg_service_index.proofs.Words.{◌≡◌, ◌⊎◌, ℕ, zero, ◌+◌, List, [], ◌∷◌, ◌++◌, Bool, false, Some, Ok, Err, Result, inl, inr, refl}
use Rattle.reg_service_index.proofs.Words.{sym, ap, subst, ◌∙◌, arith, append-nil, append_assoc, Held, state, Row, HasCleanDisk, Ghosts}
use Rattle.reg_service_index.proofs.Words.{Text, IsStopped, SendsAll, Sink, rows_in, AreStemsOf, Tables, held, stopped_first, SendFault}
use Rattle.reg_service_index.proofs.Words.{BeginsFile, SendsRows, rows_text, lines_in, IsBroken, fault_of, IndexFault, Store}
use Rattle.std.proofs.Common.{◌<◌, suc, None, length-append}
use Rattle.std.specs.Io.KnownBytes.{Appends}
use Rattle.std.proofs.KnownBytes.{Appends-trans}
use Rattle.reg_model.specs.declared.rule.Rule.TheVariants.{S1}
use Rattle.reg_body.specs.Sent.{AppendsFront}
use Rattle.reg_api_replies.specs.Texts.{file_head, refusal_text}
use Rattle.reg_api_replies.specs.declared.head.Kind.TheVariants as kind
use Rattle.reg_api_replies.specs.declared.reply.Reply.TheVariants.{Denied}
use Rattle.reg_api_replies.proofs.Some.{head_some, reply_some}
use Rattle.reg_body.specs.declared.bytes.SendFault.TheVariants as send
use Rattle.reg_service_index.specs.Files.{IsFileText, IsUnsent, SendsFile, SendsNoRoom, SendsSome}
use Rattle.reg_service_index.specs.Streams.{BreaksOff, Streams}
use Rattle.reg_service_index.specs.declared.fault.IndexFault.TheVariants.{Spent, Write}
use Rattle.reg_service_index.specs.declared.found.FoundFile.{FoundFile}
use Rattle.reg_service_index.proofs.Rows.{lines_both, stop_is_break}

-- a longer text

pub broken_longer : (f : IndexFault) (a b : Text) (writes : ℕ) (s t : Sink) → IsBroken f a writes s t → IsBroken f (a ++ b) writes s t
broken_longer Write a b writes s t h = stopped_first send.Write a b writes s t h
broken_longer Spent a b writes s t h = stopped_first send.Spent a b writes s t h
broken_longer Store a b writes s t h = record {
  front = h.front;
  rest = h.rest ++ b;
  used = h.used;
  whole = ap (λ x. x ++ b) h.whole ∙ append_assoc h.front h.rest b;
  sends = h.sends;
  unsent = λ some. omega (arith, h.unsent some, length-append h.rest b);
}

-- the writer is as it was
pub record IsSameSink (s t : Sink) : Type 0 where
  pub contents : Appends s.contents t.contents []
  pub calls : t.calls ≡ s.calls
  pub failures : t.failures ≡ s.failures

-- nothing was sent where no call was made
none_sent : (l : List ℕ) (writes used : ℕ) (s t : Sink) → SendsAll l writes used s t → used ≡ 0 → l ≡ []
none_sent [] writes used s t h e = refl
none_sent (x ∷ xs) writes used s t h e = absurd (omega (arith, h.some (omega arith), e))

pub unsent : (text : Text) (writes : ℕ) (s t : Sink) → BreaksOff text writes s t → t.calls ≡ s.calls → IsSameSink s t
unsent text writes s t h same = record {
  contents = subst (λ l. Appends s.contents t.contents l) (none_sent h.front writes h.used s t h.sends (omega (arith, h.sends.calls, same))) h.sends.all;
  calls = same;
  failures = h.sends.failures;
}

-- and what is sent then is sent from the start

all_then : (text : Text) (writes used : ℕ) (s t u : Sink) → IsSameSink s t → SendsAll text writes used t u → SendsAll text writes used s u
all_then text writes used s t u x y = record {
  all = Appends-trans s.contents t.contents u.contents [] text x.contents y.all;
  within = y.within;
  some = y.some;
  sent = y.sent;
  calls = y.calls ∙ ap (λ n. n + used) x.calls;
  failures = y.failures ∙ x.failures;
}

front_then : (text : Text) (s t u : Sink) → IsSameSink s t → AppendsFront text t.contents u.contents → AppendsFront text s.contents u.contents
front_then text s t u x y = record {
  front = y.front;
  rest = y.rest;
  whole = y.whole;
  appends = Appends-trans s.contents t.contents u.contents [] y.front x.contents y.appends;
}

broken_then : (f : IndexFault) (text : Text) (writes : ℕ) (s t u : Sink) → IsSameSink s t → IsBroken f text writes t u → IsBroken f text writes s u
broken_then Write text writes s t u x y = record {
  front = front_then text s t u x y.front;
  begun = omega (arith, x.calls, y.begun);
  within = omega (arith, x.calls, y.within);
  failures = y.failures ∙ ap (λ n. n + 1) x.failures;
}
broken_then Spent text writes s t u x y = record {
  front = front_then text s t u x y.front;
  calls = y.calls ∙ ap (λ n. n + writes) x.calls;
  failures = y.failures ∙ x.failures;
}
broken_then Store text writes s t u x y = record {
  front = y.front;
  rest = y.rest;
  used = y.used;
  whole = y.whole;
  sends = all_then y.front writes y.used s t u x y.sends;
  unsent = y.unsent;
}

pub streams_then : (r : Result ℕ IndexFault) (text : Text) (writes : ℕ) (s t u : Sink) → IsSameSink s t → Streams r text writes t u → Streams r text writes s u
streams_then (Ok used) text writes s t u x y = all_then text writes used s t u x y
streams_then (Err f) text writes s t u x y = broken_then f text writes s t u x y

pub no_room_then : (close : Bool) (r : Result ℕ IndexFault) (writes : ℕ) (s t u : Sink) → IsSameSink s t → SendsNoRoom close r writes t u → SendsNoRoom close r writes s u
no_room_then close r writes s t u x y = record { sends = streams_then r (refusal_text S1 None close false) writes s t u x y.sends; never = y.never }

pub some_then : (r : Result ℕ IndexFault) (writes : ℕ) (s t u : Sink) → IsSameSink s t → SendsSome r writes t u → SendsSome r writes s u
some_then r writes s t u x (text, some, sends) = (text, some, streams_then r text writes s t u x sends)

pub broken_at : (r : Result ℕ IndexFault) (text : Text) (writes : ℕ) (s t : Sink) → r ≡ Err Store → Streams r text writes s t → BreaksOff text writes s t
broken_at r text writes s t e h = subst (λ x. Streams x text writes s t) e h

-- the store fails once something was sent
pub was_begun : (text : Text) (writes : ℕ) (s t : Sink) → BreaksOff text writes s t → ¬ (t.calls ≡ s.calls) → s.calls < t.calls
was_begun text writes s t h other = from h.used refl
  where
    from : (n : ℕ) → n ≡ h.used → s.calls < t.calls
    from zero e = absurd (other (omega (arith, h.sends.calls, e)))
    from (suc n) e = omega (arith, h.sends.calls, e)

module _ {S : Type 0} (g : Ghosts S) (f : FoundFile) (close : Bool) (writes : ℕ) (db : Tables S) (s t : Sink) where
  abbrev head : Text
  head = file_head f.length close

  rows_longer : (rows tail : List Row) → rows_text head rows ++ lines_in tail ≡ rows_text head (rows ++ tail)
  rows_longer rows tail = append_assoc head (lines_in rows) (lines_in tail) ∙ ap (λ l. head ++ l) (sym (lines_both rows tail))

  text_so : (r : Result ℕ IndexFault) (rows : List Row) (b : BeginsFile g f.crate_id r (held db) rows) → Streams r (rows_text head rows) writes s t → Streams r (rows_text head (rows ++ b.tail)) writes s t
  text_so (Ok used) rows b h = subst (λ l. Streams (Ok used) (rows_text head l) writes s t) (sym (ap (λ l. rows ++ l) b.all ∙ append-nil rows)) h
  text_so (Err e) rows b h = subst (λ l. IsBroken e l writes s t) (rows_longer rows b.tail) (broken_longer e (rows_text head rows) (lines_in b.tail) writes s t h)

  pub file_sent : (r : Result ℕ IndexFault) (left : Held S) → SendsRows g f.crate_id head r writes (held db) left s t → HasCleanDisk (state g left) → ¬ (IsUnsent r s t) → SendsFile g f close r writes db s t
  file_sent r left h clean sent = from (h.begins clean)
    where
      from : IsUnsent r s t ⊎ BeginsFile g f.crate_id r (held db) h.rows → SendsFile g f close r writes db s t
      from (inl none) = absurd (sent none)
      from (inr b) = record { rows = h.rows ++ b.tail; of_file = record { is_open = b.is_open; are = b.are }; sends = text_so r h.rows b h.sends }

no_fault : (used : ℕ) → ◌≡◌ {A = Result ℕ IndexFault} (Ok used) (Err Store) → ⊥
no_fault used e = cc

-- all rows were read into memory
pub file_read : {S : Type 0} (g : Ghosts S) (f : FoundFile) (writes : ℕ) (db : Tables S) (s t : Sink) (used : ℕ) (left : Held S) (text : Text) → SendsRows g f.crate_id [] (Ok used) writes (held db) left s t → HasCleanDisk (state g left)
    → s.contents ≡ Some [] → t.contents ≡ Some text → IsFileText g f db text
file_read g f writes db s t used left text h clean none is = from (h.begins clean)
  where
    from : IsUnsent (Ok used) s t ⊎ BeginsFile {E = IndexFault} g f.crate_id (Ok used) (held db) h.rows → IsFileText g f db text
    from (inl unsent) = absurd (no_fault used unsent.0)
    from (inr b) = (
      h.rows,
      record { is_open = b.is_open; are = subst (λ l. AreStemsOf f.crate_id (rows_in g (held db)) l) (ap (λ l. h.rows ++ l) b.all ∙ append-nil h.rows) b.are },
      subst (λ o. Appends (Some []) o (lines_in h.rows)) is (subst (λ o. Appends o t.contents (lines_in h.rows)) none h.sends.all),
    )

-- a writer's fault is none of the store
pub writer_fault : (f : SendFault) → let r : Result ℕ IndexFault = Err (fault_of f) in ¬ (r ≡ Err Store)
writer_fault send.Write e = cc
writer_fault send.Spent e = cc

-- the reply where the store failed is stopped by the writer alone
pub no_room_stopped : (close : Bool) (f : SendFault) (writes : ℕ) (s t : Sink) → IsStopped f (refusal_text S1 None close false) writes s t → SendsNoRoom close (Err (fault_of f)) writes s t
no_room_stopped close f writes s t h = record { sends = stop_is_break f (refusal_text S1 None close false) writes s t h; never = writer_fault f }

pub no_room_whole : (close : Bool) (used writes : ℕ) (s t : Sink) → SendsAll (refusal_text S1 None close false) writes used s t → SendsNoRoom close (Ok used) writes s t
no_room_whole close used writes s t h = record { sends = h; never = no_fault used }

-- it is not empty, and no file with its head is
pub no_room_some : (close : Bool) (r : Result ℕ IndexFault) (writes : ℕ) (s t : Sink) → SendsNoRoom close r writes s t → SendsSome r writes s t
no_room_some close r writes s t h = (refusal_text S1 None close false, reply_some (Denied S1) close false, h.sends)

pub rows_some : (f : FoundFile) (close : Bool) (r : Result ℕ IndexFault) (writes : ℕ) (rows : List Row) (s t : Sink) → Streams r (rows_text (file_head f.length close) rows) writes s t → SendsSome r writes s t
rows_some f close r writes rows s t h = (rows_text (file_head f.length close) rows, head_some 200 kind.Text None f.length close (lines_in rows), h)
