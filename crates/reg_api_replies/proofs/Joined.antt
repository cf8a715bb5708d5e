-- Texts that are sent one after another.
use Rattle.std.proofs.Common.{subst, [], refl, append-nil, ◌≡◌, ℕ, zero, suc, ◌+◌, ◌-◌, ◌<◌, List, ◌++◌, length, Option, Result, Ok, Err, sym, ap, ◌∙◌, append_assoc, length-append, arith}
use Rattle.std.specs.Io.KnownBytes.{Appends}
use Rattle.std.proofs.KnownBytes.{Appends-nil, Appends-trans}
use Rattle.reg_body.specs.declared.bytes.SendFault.{SendFault}
use Rattle.reg_body.specs.declared.bytes.SendFault.TheVariants.{Spent, Write}
use Rattle.reg_api_replies.specs.Piled.{Piles}
use Rattle.reg_body.specs.Sent.{AppendsFront, IsStopped, Sends, SendsAll, Sink, after}

-- a front of the first text, and all of it and a front of the second, are fronts of both together
front_first : (a b : List ℕ) (s t : Option (List ℕ)) → AppendsFront a s t → AppendsFront (a ++ b) s t
front_first a b s t f = record {
  front = f.front;
  rest = f.rest ++ b;
  whole = ap (λ x. x ++ b) f.whole ∙ append_assoc f.front f.rest b;
  appends = f.appends;
}

front_behind : (a b : List ℕ) (s t u : Option (List ℕ)) → Appends s t a → AppendsFront b t u
    → AppendsFront (a ++ b) s u
front_behind a b s t u before f = record {
  front = a ++ f.front;
  rest = f.rest;
  whole = ap (λ x. a ++ x) f.whole ∙ sym (append_assoc a f.front f.rest);
  appends = Appends-trans s t u a f.front before f.appends;
}

pub stopped_first : (f : SendFault) (a b : List ℕ) (writes : ℕ) (s t : Sink)
    → IsStopped f a writes s t → IsStopped f (a ++ b) writes s t
stopped_first Write a b writes s t h = record {
  front = front_first a b s.contents t.contents h.front;
  begun = h.begun;
  within = h.within;
  failures = h.failures;
}
stopped_first Spent a b writes s t h = record {
  front = front_first a b s.contents t.contents h.front;
  calls = h.calls;
  failures = h.failures;
}

pub stopped_behind : (f : SendFault) (a b : List ℕ) (writes used : ℕ) (s t u : Sink)
    → SendsAll a writes used s t → IsStopped f b (writes - used) t u
    → IsStopped f (a ++ b) writes s u
stopped_behind Write a b writes used s t u x h = record {
  front = front_behind a b s.contents t.contents u.contents x.all h.front;
  begun = omega (arith, x.calls, h.begun);
  within = omega (arith, x.calls, x.within, h.within);
  failures = h.failures ∙ ap (λ n. n + 1) x.failures;
}
stopped_behind Spent a b writes used s t u x h = record {
  front = front_behind a b s.contents t.contents u.contents x.all h.front;
  calls = omega (arith, x.calls, x.within, h.calls);
  failures = h.failures ∙ x.failures;
}

some_behind : (m n used more : ℕ) → (0 < m → 0 < used) → (0 < n → 0 < more) → 0 < m + n
    → 0 < used + more
some_behind zero n used more x y h = omega (arith, y (omega arith))
some_behind (suc m) n used more x y h = omega (arith, x (omega arith))

sent_behind : (m n used more : ℕ) → (0 < used → 0 < m) → (0 < more → 0 < n) → 0 < used + more
    → 0 < m + n
sent_behind m n zero more x y h = omega (arith, y (omega arith))
sent_behind m n (suc used) more x y h = omega (arith, x (omega arith))

pub all_behind : (a b : List ℕ) (writes used more : ℕ) (s t u : Sink) → SendsAll a writes used s t
    → SendsAll b (writes - used) more t u → SendsAll (a ++ b) writes (used + more) s u
all_behind a b writes used more s t u x y = record {
  all = Appends-trans s.contents t.contents u.contents a b x.all y.all;
  within = omega (arith, x.within, y.within);
  some = λ h. some_behind (length a) (length b) used more x.some y.some
      (rw (length-append a b) at h);
  sent = λ h. rw (length-append a b)
      (sent_behind (length a) (length b) used more x.sent y.sent h);
  calls = omega (arith, x.calls, y.calls);
  failures = y.failures ∙ x.failures;
}

pub sends_behind : (a b : List ℕ) (writes used : ℕ) (s t u : Sink) (r : Result ℕ SendFault)
    → SendsAll a writes used s t → Sends r b (writes - used) t u
    → Sends (after used r) (a ++ b) writes s u
sends_behind a b writes used s t u (Ok more) x y = all_behind a b writes used more s t u x y
sends_behind a b writes used s t u (Err f) x y = stopped_behind f a b writes used s t u x y

-- a text is put behind one that waits

pub sends_nothing : (writes : ℕ) (s : Sink) → SendsAll [] writes 0 s s
sends_nothing writes s = record {
  all = Appends-nil s.contents;
  within = omega arith;
  some = λ h. absurd (omega (arith, h));
  sent = λ h. absurd (omega (arith, h));
  calls = omega arith;
  failures = refl;
}

-- a text that was sent but for its end, which waits
pub piles_last : (waiting text front last : List ℕ) (writes used more : ℕ) (s t u : Sink)
    → text ≡ front ++ last → 0 < length last
    → SendsAll waiting writes used s t → SendsAll front (writes - used) more t u
    → Piles waiting text last writes (used + more) s u
piles_last waiting text front last writes used more s t u is some x y = record {
  sent = waiting ++ front;
  whole = ap (λ l. waiting ++ l) is ∙ sym (append_assoc waiting front last);
  sends = all_behind waiting front writes used more s t u x y;
  waits = λ _. some;
}

-- a text that waits, behind one that was sent
pub piles_next : (waiting text : List ℕ) (writes used : ℕ) (s t : Sink) → 0 < length text
    → SendsAll waiting writes used s t → Piles waiting text text writes used s t
piles_next waiting text writes used s t some x =
    record { sent = waiting; whole = refl; sends = x; waits = λ _. some }

-- two texts are put one after another

puts_whole : (waiting a b sent between rest more : List ℕ) → waiting ++ a ≡ sent ++ between
    → between ++ b ≡ more ++ rest → waiting ++ (a ++ b) ≡ (sent ++ more) ++ rest
puts_whole waiting a b sent between rest more x y =
    sym (append_assoc waiting a b) ∙ ap (λ l. l ++ b) x ∙ append_assoc sent between b
    ∙ ap (λ l. sent ++ l) y ∙ sym (append_assoc sent more rest)

-- what is put later waits too
still_waits : (m n sent rest used more : ℕ) → m + n ≡ sent + rest → (0 < used → 0 < m)
    → (0 < more → 0 < rest) → (0 < sent → 0 < more) → 0 < used + more → 0 < rest
still_waits m n sent rest used zero is x y z h =
    let none : sent ≡ 0 = nothing sent (λ s. absurd (omega (arith, z s))) in
    omega (arith, is, none, x (omega (arith, h)))
  where
    nothing : (k : ℕ) → (0 < k → ⊥) → k ≡ 0
    nothing zero never = refl
    nothing (suc k) never = absurd (never (omega arith))
still_waits m n sent rest used (suc more) is x y z h = y (omega arith)

lengths : (a b c d : List ℕ) → a ++ b ≡ c ++ d → length a + length b ≡ length c + length d
lengths a b c d is = sym (length-append a b) ∙ ap length is ∙ length-append c d

pub piles_behind : (waiting a b between rest : List ℕ) (writes used more : ℕ) (s t u : Sink)
    → Piles waiting a between writes used s t → Piles between b rest (writes - used) more t u
    → Piles waiting (a ++ b) rest writes (used + more) s u
piles_behind waiting a b between rest writes used more s t u x y = record {
  sent = x.sent ++ y.sent;
  whole = puts_whole waiting a b x.sent between rest y.sent x.whole y.whole;
  sends = all_behind x.sent y.sent writes used more s t u x.sends y.sends;
  waits = still_waits (length between) (length b) (length y.sent) (length rest) used more
      (lengths between b y.sent rest y.whole) x.waits y.waits y.sends.some;
}

pub pile_stopped : (f : SendFault) (waiting a b between : List ℕ) (writes used : ℕ) (s t u : Sink)
    → Piles waiting a between writes used s t → IsStopped f (between ++ b) (writes - used) t u
    → IsStopped f (waiting ++ (a ++ b)) writes s u
pile_stopped f waiting a b between writes used s t u x h =
    let same : x.sent ++ (between ++ b) ≡ waiting ++ (a ++ b) = sym (append_assoc x.sent between b)
    ∙ ap (λ l. l ++ b) (sym x.whole) ∙ append_assoc waiting a b in
    subst (λ l. IsStopped f l writes s u) same
    (stopped_behind f x.sent (between ++ b) writes used s t u x.sends h)

-- what waits is sent at last
pub pile_sent : (waiting text rest : List ℕ) (writes used : ℕ) (s t u : Sink)
    (r : Result ℕ SendFault) → Piles waiting text rest writes used s t
    → Sends r rest (writes - used) t u → Sends (after used r) (waiting ++ text) writes s u
pile_sent waiting text rest writes used s t u r x h =
    subst (λ l. Sends (after used r) l writes s u) (sym x.whole)
    (sends_behind x.sent rest writes used s t u r x.sends h)
