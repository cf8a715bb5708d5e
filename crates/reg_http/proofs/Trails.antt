-- What was told after what was told.
use Rattle.reg_http.proofs.Words.{◌≡◌, ◌⊎◌, ◌+◌, ◌-◌, ◌<◌, ◌++◌, ◌∙◌, ℕ, [], ◌∷◌, inl, inr, refl, sym, ap, subst, arith, nat_lt, true}
use Rattle.reg_http.proofs.Words.{append_assoc, append-nil, length, Appends, Appends-nil, Appends-trans, Text, Sink, IsTrailed, Tail}
use Rattle.reg_http.proofs.Words.{Trails}
use Rattle.std.proofs.Common.{zero, suc}
use Rattle.std.proofs.lemmas.Bool.Decides.{nat_tests}
use Rattle.reg_body.specs.Sent.{SendsAll}

-- the writer of a trail
abbrev pub sink_of : Tail → Sink
sink_of k = record { contents = k.contents; calls = k.calls; failures = k.failures }

-- nothing is told
pub trails_nothing : (k : Tail) → Trails k k []
trails_nothing k = record {
  front = [];
  rest = [];
  whole = refl;
  appends = Appends-nil k.contents;
  some = λ some. absurd (omega (arith, some));
  calls = omega arith;
  turns = omega arith;
  failures = omega arith;
  ends = inl refl;
  cause = inl refl;
}

-- a text was sent whole
pub trails_all : (old new : Tail) (text : Text) (used : ℕ) → SendsAll text old.left used (sink_of old) (sink_of new) → new.left ≡ old.left - used → Trails old new text
trails_all old new text used it left = record {
  front = text;
  rest = [];
  whole = sym (append-nil text);
  appends = it.all;
  some = λ some. omega (arith, it.calls, it.some some);
  calls = omega (arith, it.calls);
  turns = omega (arith, it.calls, it.within, left);
  failures = omega (arith, it.failures);
  ends = inl refl;
  cause = inl (omega (arith, it.calls, it.within, left));
}

-- where no call is left, nothing was written
none_left : (old new : Tail) (text : Text) → old.left ≡ 0 → (it : Trails old new text) → it.front ≡ []
none_left old new text none it = by it.front it.some
  where
    by : (l : Text) → (0 < length l → old.calls < new.calls) → l ≡ []
    by [] some = refl
    by (b ∷ bs) some = absurd (omega (arith, none, it.turns, some (omega arith)))

-- and so it may be any text
pub trails_other : (old new : Tail) (text other : Text) → old.left ≡ 0 → Trails old new text → Trails old new other
trails_other old new text other none it = record {
  front = [];
  rest = other;
  whole = refl;
  appends = subst (Appends old.contents new.contents) (none_left old new text none it) it.appends;
  some = λ some. absurd (omega (arith, some));
  calls = it.calls;
  turns = it.turns;
  failures = it.failures;
  ends = inr (omega (arith, none, it.turns, it.calls));
  cause = it.cause;
}

pub trails_spent : (k : Tail) (text : Text) → k.left ≡ 0 → Trails k k text
trails_spent k text none = trails_other k k [] text none (trails_nothing k)

-- the text is what is to be told wherever a call is left
pub trails_if : (old new : Tail) (text other : Text) → (nat_lt 0 old.left ≡ true → text ≡ other) → Trails old new text → Trails old new other
trails_if old new text other is it = by old.left refl
  where
    by : (n : ℕ) → old.left ≡ n → Trails old new other
    by zero e = trails_other old new text other e it
    by (suc n) e = subst (Trails old new) (is (grind (arith, nat_tests, e))) it

module _ (a b c : Tail) (one two : Text) (first : Trails a b one) (second : Trails b c two) where
  begun : (l m : Text) → (0 < length l → a.calls < b.calls) → (0 < length m → b.calls < c.calls) → 0 < length (l ++ m) → a.calls < c.calls
  begun [] m f g some = omega (arith, first.calls, g some)
  begun (x ∷ xs) m f g some = omega (arith, second.calls, f (omega arith))

  left_whole : (first.rest ≡ []) ⊎ (b.left ≡ 0) → (rest : Text) × (one ++ two ≡ (first.front ++ second.front) ++ rest) × ((rest ≡ []) ⊎ (c.left ≡ 0))
  left_whole (inl none) = (
    second.rest,
    ap (λ l. l ++ two) (first.whole ∙ ap (λ l. first.front ++ l) none ∙ append-nil first.front) ∙ ap (λ l. first.front ++ l) second.whole ∙ sym (append_assoc first.front second.front second.rest),
    second.ends,
  )
  left_whole (inr spent) = (
    first.rest ++ two,
    ap (λ l. l ++ two) first.whole ∙ append_assoc first.front first.rest two ∙ ap (λ l. l ++ (first.rest ++ two)) (sym (append-nil first.front)) ∙ ap (λ l. (first.front ++ l) ++ (first.rest ++ two)) (sym (none_left b c two spent second)),
    inr (omega (arith, spent, second.turns, second.calls)),
  )

  both : (b.calls + b.left ≡ a.calls + a.left) ⊎ ((b.left ≡ 0) × (a.failures < b.failures)) → (c.calls + c.left ≡ b.calls + b.left) ⊎ ((c.left ≡ 0) × (b.failures < c.failures)) → (c.calls + c.left ≡ a.calls + a.left) ⊎ ((c.left ≡ 0) × (a.failures < c.failures))
  both (inl p) (inl q) = inl (q ∙ p)
  both (inl p) (inr (none, more)) = inr (none, omega (arith, first.failures, more))
  both (inr (none, more)) q = inr (omega (arith, none, second.turns, second.calls), omega (arith, more, second.failures))

  -- one text was told, and then another
  pub trails_both : Trails a c (one ++ two)
  trails_both =
      let (rest, whole, ends) = left_whole first.ends in record {
        front = first.front ++ second.front;
        rest = rest;
        whole = whole;
        appends = Appends-trans a.contents b.contents c.contents first.front second.front first.appends second.appends;
        some = begun first.front second.front first.some second.some;
        calls = omega (arith, first.calls, second.calls);
        turns = omega (arith, first.turns, second.turns);
        failures = omega (arith, first.failures, second.failures);
        ends = ends;
        cause = both first.cause second.cause;
      }

pub trailed_nothing : (k : Tail) → IsTrailed k k
trailed_nothing k = ([], trails_nothing k)

pub trailed_on : (a b c : Tail) → IsTrailed a b → IsTrailed b c → IsTrailed a c
trailed_on a b c (one, first) (two, second) = (one ++ two, trails_both a b c one two first second)
