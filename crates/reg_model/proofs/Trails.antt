-- A trail, done again, leads to where its run ends.
use Rattle.reg_model.proofs.Words.{◌≡◌, ◌≤◌, ◌+◌, ◌-◌, ◌==◌, ℕ, zero, suc, List, [], ◌∷◌, ◌++◌, Bool, true, false, cond, Option, Some, None}
use Rattle.reg_model.proofs.Words.{inl, inr, refl, sym, ◌∙◌, ap, map, subst, arith, length, unwrap_or, All, AllByRecursion, join_with_byte}
use Rattle.reg_model.proofs.Words.{list_all, option_map, and_parts, nat_tests, append_assoc, length-append, All-from_recursion}
use Rattle.reg_model.proofs.Words.{slice_split_at, Limits, Rule, AdminRefusal, canon, with_reserved, is_reserved_always, Text, Registry}
use Rattle.reg_model.proofs.Words.{Token, change_at, change_place, caller, replied, served, Answer, Asked, Command, Event, Denied, Refused}
use Rattle.reg_model.proofs.Words.{Found, File, Archive, Owners, Malformed, Read, Index, Download, ListOwners, Publish, Yank, Unyank}
use Rattle.reg_model.proofs.Words.{AddOwners, RemoveOwners, UserAdd, UserDisable, UserEnable, TokenAdd, TokenRevoke, Reserve, Unreserve}
use Rattle.reg_model.proofs.Words.{OwnerAdd, Access, Users, Tokens, Crates, CrateRestrict, CrateOpen, ReaderAdd, ReaderRemove, Ask, Order}
use Rattle.reg_model.proofs.Words.{Sound, IsFit, Run, Step, unavailable, outcome, unless_denied, unless_refused, event_words, has_no_room}
use Rattle.reg_model.proofs.Words.{line_of, or_nothing, trail, with_asker, words_in, HasIds, are_words, is_printed, AreAlike, lines_in}
use Rattle.reg_model.proofs.Words.{replay, replayed}
use Rattle.std.proofs.lemmas.List.{append-nil}
use Rattle.reg_model.specs.Effects.{commanded, done}
use Rattle.reg_model.specs.Events.Answer.{Granted, Config, Done, Id, Report}
use Rattle.reg_model.specs.Refusals.{denied, refused}
use Rattle.reg_model.proofs.Runs.{denials_keep, refusals_keep}
use Rattle.reg_model.proofs.Soundness.{steps_keep_sound}
use Rattle.reg_model.specs.Trail.{line}
use Rattle.reg_model.specs.TrailLaws.{TrailOfOne, TrailsJoin}
use Rattle.reg_model.proofs.TrailAlike.{alike_back, alike_on, alike_self, replayed_alike}
use Rattle.reg_model.proofs.TrailPlain.{event_plain}
use Rattle.reg_model.proofs.TrailReplayed.{event_again}
use Rattle.reg_model.proofs.TrailUntold.{untold_keep}
use Rattle.reg_model.proofs.TrailWords.{line_printed, words_read}

-- ---- steps

pub no_room_kept : (limits : Limits) (s m : Registry) (e : Event) (a : Answer) → Step limits s e a m → has_no_room a ≡ true → m ≡ s
no_room_kept limits s m e (Denied r) step h = denials_keep limits s m e r step
no_room_kept limits s m e (Refused g) step h = refusals_keep limits s m e g step
no_room_kept limits s m e Granted step h = cc
no_room_kept limits s m e (Config t) step h = cc
no_room_kept limits s m e (Found f) step h = cc
no_room_kept limits s m e (File t) step h = cc
no_room_kept limits s m e (Archive t) step h = cc
no_room_kept limits s m e (Owners o) step h = cc
no_room_kept limits s m e Done step h = cc
no_room_kept limits s m e (Id n) step h = cc
no_room_kept limits s m e (Report t) step h = cc

told_no_room : (e : Event) → has_no_room (unavailable e) ≡ true
told_no_room (Ask digest asked) = refl
told_no_room (Order c) = refl

pub room_done : (limits : Limits) (s m : Registry) (e : Event) (a : Answer) → Step limits s e a m → has_no_room a ≡ false → m ≡ (outcome limits s e).1
room_done limits s m e a (inl (p, q)) h = q
room_done limits s m e a (inr (p, q)) h = absurd (cc (sym (ap has_no_room p) ∙ h, told_no_room e))

-- ---- trails join

joined : (limits : Limits) (s m : Registry) (es fs : List Event) (xs ys : List Answer) → Run limits s es xs m → trail limits s (es ++ fs) (xs ++ ys) ≡ trail limits s es xs ++ trail limits m fs ys
joined limits s m [] fs [] ys run = ap (λ r. trail limits r fs ys) (sym run)
joined limits s m [] fs (x ∷ xs) ys run = absurd run
joined limits s m (e ∷ es) fs [] ys run = absurd run
joined limits s m (e ∷ es) fs (a ∷ xs) ys (fit, (k, step, rest)) = by (has_no_room a) refl (λ q run. joined limits q m es fs xs ys run)
  where
    by : (b : Bool) → has_no_room a ≡ b → ((q : Registry) → Run limits q es xs m → trail limits q (es ++ fs) (xs ++ ys) ≡ trail limits q es xs ++ trail limits m fs ys)
        → cond b (trail limits s (es ++ fs) (xs ++ ys)) (or_nothing (line limits s e) ++ trail limits (outcome limits s e).1 (es ++ fs) (xs ++ ys))
        ≡ cond b (trail limits s es xs) (or_nothing (line limits s e) ++ trail limits (outcome limits s e).1 es xs) ++ trail limits m fs ys
    by true h again = again s (subst (λ q. Run limits q es xs m) (no_room_kept limits s k e a step h) rest)
    by false h again =
        ap (λ t. or_nothing (line limits s e) ++ t) (again (outcome limits s e).1 (subst (λ q. Run limits q es xs m) (room_done limits s k e a step h) rest))
        ∙ sym (append_assoc (or_nothing (line limits s e)) (trail limits (outcome limits s e).1 es xs) (trail limits m fs ys))

pub trails_join : TrailsJoin
trails_join limits s m es fs xs ys run = joined limits s m es fs xs ys run

pub trail_of_one : TrailOfOne
trail_of_one limits s e a = by (has_no_room a)
  where
    by : (b : Bool) → cond b [] (or_nothing (line limits s e) ++ []) ≡ cond b [] (or_nothing (line limits s e))
    by true = refl
    by false = append-nil (or_nothing (line limits s e))

-- ---- tokens only come

revoked_length : (id : ℕ) (xs : List Token) → length (change_at (λ (x : Token). record x { live = false }) id xs) ≡ length xs
revoked_length id xs = by (id == 0)
  where
    place : (k : ℕ) (xs : List Token) → length (change_place (λ (x : Token). record x { live = false }) k xs) ≡ length xs
    place k [] = refl
    place zero (x ∷ xs) = refl
    place (suc k) (x ∷ xs) = ap (λ n. suc n) (place k xs)

    by : (b : Bool) → length (cond b xs (change_place (λ (x : Token). record x { live = false }) (id - 1) xs)) ≡ length xs
    by true = refl
    by false = place (id - 1) xs

done_tokens : (s : Registry) (id : ℕ) (asked : Asked) → length s.tokens ≤ length (done s id asked).tokens
unfolding done
done_tokens s id (Publish p) = omega arith
done_tokens s id (Yank n v) = omega arith
done_tokens s id (Unyank n v) = omega arith
done_tokens s id (AddOwners n logins) = omega arith
done_tokens s id (RemoveOwners n logins) = omega arith
done_tokens s id (Malformed r) = omega arith
done_tokens s id (Read what) = omega arith
done_tokens s id (Index p) = omega arith
done_tokens s id (Download n v) = omega arith
done_tokens s id (ListOwners n) = omega arith

commanded_tokens : (s : Registry) (c : Command) → length s.tokens ≤ length (commanded s c).tokens
unfolding commanded
commanded_tokens s (UserAdd login name) = omega arith
commanded_tokens s (UserDisable login) = omega arith
commanded_tokens s (UserEnable login) = omega arith
commanded_tokens s (TokenAdd login words patterns digest) = more s.tokens _
  where
    more : (xs : List Token) (x : Token) → length xs ≤ length (xs ++ x ∷ [])
    more xs x = omega (arith, length-append xs (x ∷ []))
commanded_tokens s (TokenRevoke id) = omega (arith, revoked_length id s.tokens)
commanded_tokens s (Reserve n) = by (is_reserved_always (canon n))
  where
    by : (b : Bool) → length s.tokens ≤ length (cond b s (with_reserved (canon n) s)).tokens
    by true = omega arith
    by false = omega arith
commanded_tokens s (Unreserve n) = omega arith
commanded_tokens s (OwnerAdd n login) = omega arith
commanded_tokens s (CrateRestrict n) = omega arith
commanded_tokens s (CrateOpen n) = omega arith
commanded_tokens s (ReaderAdd n login) = omega arith
commanded_tokens s (ReaderRemove n login) = omega arith
commanded_tokens s (Access n) = omega arith
commanded_tokens s Users = omega arith
commanded_tokens s Tokens = omega arith
commanded_tokens s Crates = omega arith

outcome_tokens : (limits : Limits) (s : Registry) (e : Event) → length s.tokens ≤ length (outcome limits s e).1.tokens
outcome_tokens limits s (Ask digest asked) = by (denied limits s digest asked)
  where
    by : (o : Option Rule) → length s.tokens ≤ length (unless_denied s o (served s (caller s digest) asked, done s (unwrap_or (caller s digest) 0) asked)).1.tokens
    by (Some r) = omega arith
    by None = done_tokens s (unwrap_or (caller s digest) 0) asked
outcome_tokens limits s (Order c) = by (refused limits s c)
  where
    by : (o : Option AdminRefusal) → length s.tokens ≤ length (unless_refused s o (replied s c, commanded s c)).1.tokens
    by (Some g) = omega arith
    by None = commanded_tokens s c

step_tokens : (limits : Limits) (s m : Registry) (e : Event) (a : Answer) → Step limits s e a m → length s.tokens ≤ length m.tokens
step_tokens limits s m e a (inl (p, q)) = let h = outcome_tokens limits s e in subst (λ (r : Registry). length s.tokens ≤ length r.tokens) (sym q) h
step_tokens limits s m e a (inr (p, q)) = subst (λ (r : Registry). length s.tokens ≤ length r.tokens) (sym q) (omega arith)

pub run_ids : (limits : Limits) (s t : Registry) (es : List Event) (xs : List Answer) → HasIds t → Run limits s es xs t → HasIds s
run_ids limits s t [] [] ids run = subst HasIds run ids
run_ids limits s t [] (x ∷ xs) ids run = absurd run
run_ids limits s t (e ∷ es) [] ids run = absurd run
run_ids limits s t (e ∷ es) (a ∷ xs) ids (fit, (m, step, rest)) = let h = step_tokens limits s m e a step in let k = run_ids limits m t es xs ids rest in omega (arith, h, k)

-- ---- lines

printed_is_no_feed : (t : Text) → list_all is_printed t ≡ true → All (λ b. (b == 10) ≡ false) t
printed_is_no_feed t h = All-from_recursion (λ b. (b == 10) ≡ false) t (each t h)
  where
    no : (b : ℕ) → is_printed b ≡ true → (b == 10) ≡ false
    no b e = grind (arith, nat_tests)

    each : (t : Text) → list_all is_printed t ≡ true → AllByRecursion (λ b. (b == 10) ≡ false) t
    each [] h = tt
    each (b ∷ t) h = let k = and_parts _ _ h in (no b k.0, each t k.1)

-- a line, and what follows it
pub first_line : (w : Text) (ws : List Text) (rest : Text) → are_words (w ∷ ws) ≡ true → lines_in (line_of (w ∷ ws) ++ rest) ≡ (w ∷ ws) ∷ lines_in rest
first_line w ws rest h =
    ap lines_in (append_assoc (join_with_byte 32 (w ∷ ws)) (10 ∷ []) rest)
    ∙ ap (map words_in) (slice_split_at (λ b. b == 10) (join_with_byte 32 (w ∷ ws)) 10 rest (printed_is_no_feed (join_with_byte 32 (w ∷ ws)) (line_printed (w ∷ ws) h)) refl)
    ∙ ap (λ l. l ∷ lines_in rest) (words_read w ws h)

-- ---- runs

-- one event: with its line, if it has one, what was alike is alike after it
line_again : (limits : Limits) (s r : Registry) (e : Event) (rest : Text) → Sound s → HasIds s → IsFit e → AreAlike r s → (p : Registry) × AreAlike p (outcome limits s e).1 × (replay r (lines_in (or_nothing (line limits s e) ++ rest)) ≡ replay p (lines_in rest))
unfolding line
line_again limits s r e rest sound ids fit alike = by (event_words limits s e) refl
  where
    by : (o : Option (List Text)) → event_words limits s e ≡ o → (p : Registry) × AreAlike p (outcome limits s e).1 × (replay r (lines_in (or_nothing (option_map (λ words. line_of (with_asker s e words)) o) ++ rest)) ≡ replay p (lines_in rest))
    by None h = (r, subst (AreAlike r) (sym (untold_keep limits s e (ap (option_map (λ words. line_of (with_asker s e words))) h))) alike, refl)
    by (Some ws) h =
        let k = event_plain limits s e ws sound ids fit h in (
          replayed r (with_asker s e ws),
          alike_on _ (replayed s (with_asker s e ws)) _ (replayed_alike r s alike (with_asker s e ws)) (event_again limits s e ws sound ids h),
          subst (λ all. replay r (lines_in (line_of all ++ rest)) ≡ replay (replayed r all) (lines_in rest)) (sym k.2) (ap (replay r) (first_line k.0 k.1 rest k.3)),
        )

-- the lines of a run, and then more
pub trails_then : (limits : Limits) (s t r : Registry) (es : List Event) (xs : List Answer) (more : Text) → Sound s → HasIds t → AreAlike r s → Run limits s es xs t
    → (p : Registry) × AreAlike p t × (replay r (lines_in (trail limits s es xs ++ more)) ≡ replay p (lines_in more))
trails_then limits s t r [] [] more sound ids alike run = (r, subst (AreAlike r) (sym run) alike, refl)
trails_then limits s t r [] (x ∷ xs) more sound ids alike run = absurd run
trails_then limits s t r (e ∷ es) [] more sound ids alike run = absurd run
trails_then limits s t r (e ∷ es) (a ∷ xs) more sound ids alike (fit, (m, step, rest)) =
    by (has_no_room a) refl (λ q p sd al run. trails_then limits q t p es xs more sd ids al run)
  where
    by : (b : Bool) → has_no_room a ≡ b
        → ((q p : Registry) → Sound q → AreAlike p q → Run limits q es xs t → (k : Registry) × AreAlike k t × (replay p (lines_in (trail limits q es xs ++ more)) ≡ replay k (lines_in more)))
        → (k : Registry) × AreAlike k t × (replay r (lines_in (cond b (trail limits s es xs) (or_nothing (line limits s e) ++ trail limits (outcome limits s e).1 es xs) ++ more)) ≡ replay k (lines_in more))
    by true h again = again s r sound alike (subst (λ q. Run limits q es xs t) (no_room_kept limits s m e a step h) rest)
    by false h again =
        let same = room_done limits s m e a step h in
        let next = (outcome limits s e).1 in
        let l = line_again limits s r e (trail limits next es xs ++ more) sound (run_ids limits s t (e ∷ es) (a ∷ xs) ids (fit, (m, step, rest))) fit alike in
        let k = again next l.0 (subst Sound same (steps_keep_sound limits s m e a fit sound step)) l.1 (subst (λ q. Run limits q es xs t) same rest) in
        (k.0, k.1, ap (λ text. replay r (lines_in text)) (append_assoc (or_nothing (line limits s e)) (trail limits next es xs) more) ∙ l.2 ∙ k.2)

pub trails_replay : (limits : Limits) (s t r : Registry) (es : List Event) (xs : List Answer) → Sound s → HasIds t → AreAlike r s → Run limits s es xs t → AreAlike (replay r (lines_in (trail limits s es xs))) t
trails_replay limits s t r es xs sound ids alike run =
    let k = trails_then limits s t r es xs [] sound ids alike run in
    subst (λ q. AreAlike q t) (sym (ap (λ text. replay r (lines_in text)) (sym (append-nil (trail limits s es xs))) ∙ k.2)) k.1

pub trail_replays : (limits : Limits) (s t : Registry) (es : List Event) (xs : List Answer) → Sound s → HasIds t → Run limits s es xs t → AreAlike (replay s (lines_in (trail limits s es xs))) t
trail_replays limits s t es xs sound ids run = trails_replay limits s t s es xs sound ids (alike_self s) run

pub same_trails : (limits : Limits) (s t u : Registry) (es fs : List Event) (xs ys : List Answer) → Sound s → HasIds t → HasIds u → Run limits s es xs t → Run limits s fs ys u → trail limits s es xs ≡ trail limits s fs ys → AreAlike t u
same_trails limits s t u es fs xs ys sound ids ids' run run' e =
    alike_on t _ u (alike_back _ t (trail_replays limits s t es xs sound ids run)) (subst (λ tr. AreAlike (replay s (lines_in tr)) u) (sym e) (trail_replays limits s u fs ys sound ids' run'))
