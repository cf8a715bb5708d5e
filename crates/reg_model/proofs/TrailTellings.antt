-- Each publication, mark and owner that a run brings has its line.
use Rattle.reg_model.proofs.Words.{◌≡◌, ◌⊎◌, ℕ, List, [], ◌∷◌, ◌++◌, Bool, true, false, cond, Option, Some, None, inl, inr, refl, sym, ◌∙◌}
use Rattle.reg_model.proofs.Words.{subst, option_map, Limits, Text, Publication, Registry, Answer, Event, IsIn, Sound, IsFit, Run, Step}
use Rattle.reg_model.proofs.Words.{outcome, event_words, has_no_room, line_of, or_nothing, trail, with_asker, GivesOwner, HasIds, Publishes}
use Rattle.reg_model.proofs.Words.{Yanks, lines_in}
use Rattle.std.specs.FinSet as set
use Rattle.reg_model.proofs.Soundness.{steps_keep_sound}
use Rattle.reg_model.specs.Trail.{line}
use Rattle.reg_model.specs.TrailLaws.{HasLine}
use Rattle.reg_model.proofs.TrailBrought.{brings_mark, brings_owner, brings_publication, gives_stays}
use Rattle.reg_model.proofs.TrailPlain.{event_plain}
use Rattle.reg_model.proofs.Trails.{first_line, no_room_kept, room_done, run_ids}

-- the lines of a trail that begins with the line of an event, if it has one
abbrev told_first : Option (List Text) → List (List Text) → List (List Text)
told_first None more = more
told_first (Some ws) more = ws ∷ more

line_lines : (limits : Limits) (s : Registry) (e : Event) (rest : Text) → Sound s → HasIds s → IsFit e → lines_in (or_nothing (line limits s e) ++ rest) ≡ told_first (option_map (with_asker s e) (event_words limits s e)) (lines_in rest)
unfolding line
line_lines limits s e rest sound ids fit = by (event_words limits s e) refl
  where
    by : (o : Option (List Text)) → event_words limits s e ≡ o → lines_in (or_nothing (option_map (λ words. line_of (with_asker s e words)) o) ++ rest) ≡ told_first (option_map (with_asker s e) o) (lines_in rest)
    by None h = refl
    by (Some ws) h =
        let k = event_plain limits s e ws sound ids fit h in
        subst (λ all. lines_in (line_of all ++ rest) ≡ all ∷ lines_in rest) (sym k.2) (first_line k.0 k.1 rest k.3)

later : {G : List Text → Type 0} (o : Option (List Text)) (more : List (List Text)) → (ws : List Text) × IsIn ws more × G ws → (ws : List Text) × IsIn ws (told_first o more) × G ws
later None more h = h
later (Some ws) more h = (h.0, inr h.1, h.2)

-- What one event brings is told by its line; so what a run brings has a line.
module _ (limits : Limits) (P : Registry → Type 0) (G : Registry → List Text → Type 0)
    (stays : (s m : Registry) (e : Event) (a : Answer) (ws : List Text) → Step limits s e a m → G s ws → G m ws)
    (told : (s : Registry) (e : Event) → Sound s → P (outcome limits s e).1 → P s ⊎ ((ws : List Text) × (event_words limits s e ≡ Some ws) × G s (with_asker s e ws))) where
  stays_on : (s t : Registry) (es : List Event) (xs : List Answer) (ws : List Text) → Run limits s es xs t → G s ws → G t ws
  stays_on s t [] [] ws run g = subst (λ r. G r ws) (sym run) g
  stays_on s t [] (x ∷ xs) ws run g = absurd run
  stays_on s t (e ∷ es) [] ws run g = absurd run
  stays_on s t (e ∷ es) (a ∷ xs) ws (fit, (m, step, rest)) g = stays_on m t es xs ws rest (stays s m e a ws step g)

  pub told_over : (s t : Registry) (es : List Event) (xs : List Answer) → Sound s → HasIds t → Run limits s es xs t → P t → P s ⊎ HasLine (trail limits s es xs) (G t)
  told_over s t [] [] sound ids run p = inl (subst P run p)
  told_over s t [] (x ∷ xs) sound ids run p = absurd run
  told_over s t (e ∷ es) [] sound ids run p = absurd run
  told_over s t (e ∷ es) (a ∷ xs) sound ids (fit, (m, step, rest)) p =
      by (has_no_room a) refl (λ q sd run. told_over q t es xs sd ids run p)
    where
      here : HasIds s
      here = run_ids limits s t (e ∷ es) (a ∷ xs) ids (fit, (m, step, rest))

      by : (b : Bool) → has_no_room a ≡ b → ((q : Registry) → Sound q → Run limits q es xs t → P q ⊎ HasLine (trail limits q es xs) (G t))
          → P s ⊎ HasLine (cond b (trail limits s es xs) (or_nothing (line limits s e) ++ trail limits (outcome limits s e).1 es xs)) (G t)
      by true h again = again s sound (subst (λ q. Run limits q es xs t) (no_room_kept limits s m e a step h) rest)
      by false h again =
          let same = room_done limits s m e a step h in
          let lines = line_lines limits s e (trail limits (outcome limits s e).1 es xs) sound (run_ids limits s t (e ∷ es) (a ∷ xs) ids (fit, (m, step, rest))) fit in
          subst (λ l. P s ⊎ ((ws : List Text) × IsIn ws l × G t ws)) (sym lines)
          (decide (again (outcome limits s e).1 (subst Sound same (steps_keep_sound limits s m e a fit sound step)) (subst (λ q. Run limits q es xs t) same rest)))
        where
          decide : P (outcome limits s e).1 ⊎ HasLine (trail limits (outcome limits s e).1 es xs) (G t) → P s ⊎ ((ws : List Text) × IsIn ws (told_first (option_map (with_asker s e) (event_words limits s e)) (lines_in (trail limits (outcome limits s e).1 es xs))) × G t ws)
          decide (inr there) = inr (later (option_map (with_asker s e) (event_words limits s e)) _ there)
          decide (inl p) = first (told s e sound p)
            where
              first : P s ⊎ ((ws : List Text) × (event_words limits s e ≡ Some ws) × G s (with_asker s e ws)) → P s ⊎ ((ws : List Text) × IsIn ws (told_first (option_map (with_asker s e) (event_words limits s e)) (lines_in (trail limits (outcome limits s e).1 es xs))) × G t ws)
              first (inl q) = inl q
              first (inr (ws, h, g)) = inr (with_asker s e ws, subst (λ o. IsIn (with_asker s e ws) (told_first (option_map (with_asker s e) o) (lines_in (trail limits (outcome limits s e).1 es xs)))) (sym h) (inl refl), stays_on s t (e ∷ es) (a ∷ xs) (with_asker s e ws) (fit, (m, step, rest)) g)

pub publications_are_told : (limits : Limits) (s t : Registry) (es : List Event) (xs : List Answer) → Sound s → HasIds t → Run limits s es xs t → (p : Publication) → IsIn p t.publications → IsIn p s.publications ⊎ HasLine (trail limits s es xs) (Publishes p)
publications_are_told limits s t es xs sound ids run p i =
    told_over limits (λ r. IsIn p r.publications) (λ r. Publishes p) (λ s m e a ws step g. g) (λ s e sound h. brings_publication limits p s e h) s t es xs sound ids run i

pub yanks_are_told : (limits : Limits) (s t : Registry) (es : List Event) (xs : List Answer) → Sound s → HasIds t → Run limits s es xs t → (c v : Text) → set.contains t.yanked (c, v) ≡ true → (set.contains s.yanked (c, v) ≡ true) ⊎ HasLine (trail limits s es xs) (Yanks c v)
yanks_are_told limits s t es xs sound ids run c v h =
    told_over limits (λ r. set.contains r.yanked (c, v) ≡ true) (λ r. Yanks c v) (λ s m e a ws step g. g) (λ s e sound k. brings_mark c v limits s e k) s t es xs sound ids run h

pub owners_are_told : (limits : Limits) (s t : Registry) (es : List Event) (xs : List Answer) → Sound s → HasIds t → Run limits s es xs t → (c : Text) (id : ℕ) → set.contains t.owners (c, id) ≡ true → (set.contains s.owners (c, id) ≡ true) ⊎ HasLine (trail limits s es xs) (GivesOwner t c id)
owners_are_told limits s t es xs sound ids run c id h =
    told_over limits (λ r. set.contains r.owners (c, id) ≡ true) (λ r. GivesOwner r c id) (λ s m e a ws step g. gives_stays c id limits s m e a ws step g) (λ s e sound k. brings_owner c id limits s e sound k) s t es xs sound ids run h
