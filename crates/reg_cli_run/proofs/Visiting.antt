-- Callers behind those that were served: still one run.
use Rattle.std.proofs.Common.{◌≡◌, ◌∙◌, ◌++◌, ◌+◌, ℕ, false, List, [], ◌∷◌, Option, None, Some, arith, refl, sym, ap, ap₂, subst}
use Rattle.std.proofs.lemmas.Grind.{flat_map-append}
use Rattle.std.proofs.lemmas.List.{append_assoc, append-nil, length-append, map-append}
use Rattle.std.specs.List.{flat_map}
use Rattle.sqlite.specs.State.{HasCleanDisk}
use Rattle.sqlite_trees.specs.declared.store.Store.{Ghosts}
use Rattle.reg_body.specs.declared.limits.Limits.{Limits}
use Rattle.reg_model.specs.Events.{Answer, Event}
use Rattle.reg_model.specs.Registry.{Registry, Text}
use Rattle.reg_model.specs.Trail.{trail}
use Rattle.reg_model.specs.TrailLaws.{TrailsJoin}
use Rattle.reg_tables.specs.declared.tables.Tables.{Tables}
use Rattle.reg_tables.specs.Works.{is_stopped, shown}
use Rattle.reg_service.specs.Answered.{StandsIn}
use Rattle.reg_service.specs.Looked.{WasTried}
use Rattle.reg_service.specs.Registries.{Running, limits_of, tables_of}
use Rattle.reg_service.specs.Sequences.{Ran}
use Rattle.reg_http.specs.Answering.{GoesOn}
use Rattle.reg_http.specs.Trails.{Tail, Trails}
use Rattle.reg_http.proofs.Trails.{trails_both, trails_nothing}
use Rattle.reg_cli_run.specs.declared.door.Caller.{Caller}
use Rattle.reg_cli_run.specs.Visits.{AreVisited, Logs, Passing, ServesAll, ServesThenTries, ServesVisit, ServesVisits, Visit, passings}
use Rattle.reg_cli_run.specs.Steps.{Step, answers_of, events_of}
use Rattle.reg_cli_run.specs.Visits.Passing.{Came, Missed, Went}

-- what passed, and then more
logs_then : (a b c : Option (List Passing)) (xs ys : List Passing) → Logs a b xs → Logs b c ys → Logs a c (xs ++ ys)
logs_then None b c xs ys one two = tt
logs_then (Some a) None c xs ys one two = absurd one
logs_then (Some a) (Some b) None xs ys one two = absurd two
logs_then (Some a) (Some b) (Some c) xs ys one two = two ∙ ap (λ l. l ++ ys) one ∙ append_assoc a xs ys

logs_nothing : (a : Option (List Passing)) → Logs a a []
logs_nothing None = tt
logs_nothing (Some a) = sym (append-nil a)

visited_then : (limits : Limits) (vs ws : List (Option Visit)) (xs ys : List Step) → AreVisited limits vs xs → AreVisited limits ws ys → AreVisited limits (vs ++ ws) (xs ++ ys)
visited_then limits [] ws xs ys is rest = subst (λ l. AreVisited limits ws (l ++ ys)) (sym is) rest
visited_then limits (v ∷ vs) ws xs ys (mine, others, all, it, more) rest = (mine, others ++ ys, ap (λ l. l ++ ys) all ∙ append_assoc mine others ys, it, visited_then limits vs ws others ys more rest)

events_then : (xs ys : List Step) → events_of (xs ++ ys) ≡ events_of xs ++ events_of ys
events_then xs ys = map-append (λ p. p.0) xs ys

answers_then : (xs ys : List Step) → answers_of (xs ++ ys) ≡ answers_of xs ++ answers_of ys
answers_then xs ys = map-append (λ p. p.1) xs ys

-- a run without events
abbrev pub Begins : {S : Type 0} → Ghosts S → Type 0
Begins {S} g = (limits : Limits) (s : Registry) (t : Tables S) → StandsIn s (shown g t) → Ran g limits s t [] [] s t

-- two runs are one, and so are their trails
pub record Joins {S : Type 0} (g : Ghosts S) : Type 0 where
  pub join : (limits : Limits) (s t u : Registry) (entry mid new : Tables S) (es fs : List Event) (xs ys : List Answer) → Ran g limits s entry es xs t mid → Ran g limits t mid fs ys u new → Ran g limits s entry (es ++ fs) (xs ++ ys) u new
  pub tells : TrailsJoin

module _ {S : Type 0} (g : Ghosts S) where
  all_nothing : Begins g → (limits : Limits) (s : Registry) (t : Tables S) (k : Tail) (vs : List (Option Visit)) → AreVisited limits vs [] → StandsIn s (shown g t) → ServesAll g limits s t t k k vs
  all_nothing begins limits s t k vs visited h = record { steps = []; after = s; run = begins limits s t h; said = visited; told = trails_nothing k }

  goes_nowhere : (old : Running S) → GoesOn g old old
  goes_nowhere old = record { clean = λ clean. clean; limits = refl }

  -- none came yet
  pub visits_nothing : Begins g → (log : Option (List Passing)) (old : Running S) (k : Tail) → ServesVisits g 0 log log old old k k
  visits_nothing begins log old k = record {
    visits = [];
    count = refl;
    logged = logs_nothing log;
    serves = λ clean s h. all_nothing begins (limits_of old) s (tables_of old) k [] refl h;
    keeps = goes_nowhere old;
  }

  -- a client had hung up before
  pub visit_missed : Begins g → (log0 log1 : Option (List Passing)) (old : Running S) (k : Tail) → Logs log0 log1 (Missed ∷ []) → ServesVisits g 1 log0 log1 old old k k
  visit_missed begins log0 log1 old k logs = record {
    visits = None ∷ [];
    count = refl;
    logged = logs;
    serves = λ clean s h. all_nothing begins (limits_of old) s (tables_of old) k (None ∷ []) ([], [], refl, refl, refl) h;
    keeps = goes_nowhere old;
  }

  -- a caller was served
  pub visit_served : (caller : Caller) (came before : Option Text) (log0 log1 log2 : Option (List Passing)) (old new : Running S) (k0 k1 : Tail) → Logs log0 log1 (Came caller came before ∷ []) → ServesVisit g caller came before log1 log2 old new k0 k1 → ServesVisits g 1 log0 log2 old new k0 k1
  visit_served caller came before log0 log1 log2 old new k0 k1 logs v = record {
    visits = Some (record { caller = caller; came = came; left = v.left; before = before; after = v.after; failed_reads = v.failed_reads; failed_writes = v.failed_writes }) ∷ [];
    count = refl;
    logged = logs_then log0 log1 log2 (Came caller came before ∷ []) (Went v.left v.after v.failed_reads v.failed_writes ∷ []) logs v.logged;
    serves = λ clean s h.
        let it = v.serves clean s h in
        record { steps = it.steps; after = it.after; run = it.run; said = (it.steps, [], sym (append-nil it.steps), it.said, refl); told = it.told };
    keeps = v.keeps;
  }

  -- and more after those
  pub visits_then : Joins g → (n m : ℕ) (log0 log1 log2 : Option (List Passing)) (old mid new : Running S) (k0 k1 k2 : Tail) → ServesVisits g n log0 log1 old mid k0 k1 → ServesVisits g m log1 log2 mid new k1 k2 → ServesVisits g (n + m) log0 log2 old new k0 k2
  visits_then laws n m log0 log1 log2 old mid new k0 k1 k2 a b = record {
    visits = a.visits ++ b.visits;
    count = omega (arith, length-append a.visits b.visits, a.count, b.count);
    logged = subst (Logs log0 log2) (sym (flat_map-append passings a.visits b.visits)) (logs_then log0 log1 log2 (flat_map passings a.visits) (flat_map passings b.visits) a.logged b.logged);
    serves = serves;
    keeps = record { clean = λ clean. a.keeps.clean (b.keeps.clean clean); limits = b.keeps.limits ∙ a.keeps.limits };
  }
    where
      serves : HasCleanDisk (shown g (tables_of new)) → (s : Registry) → StandsIn s (shown g (tables_of old)) → ServesAll g (limits_of old) s (tables_of old) (tables_of new) k0 k2 (a.visits ++ b.visits)
      serves clean s h =
          let limits = limits_of old in
          let one = a.serves (b.keeps.clean clean) s h in
          let t = one.after in
          let two = subst (λ l. ServesAll g l t (tables_of mid) (tables_of new) k1 k2 b.visits) a.keeps.limits (b.serves clean t one.run.shows) in
          let es = events_of one.steps in
          let fs = events_of two.steps in
          let xs = answers_of one.steps in
          let ys = answers_of two.steps in
          let ran = laws.join limits s t two.after (tables_of old) (tables_of mid) (tables_of new) es fs xs ys one.run two.run in
          let these = sym (events_then one.steps two.steps) in
          let those = sym (answers_then one.steps two.steps) in
          record {
            steps = one.steps ++ two.steps;
            after = two.after;
            run = subst (λ e. Ran g limits s (tables_of old) e (answers_of (one.steps ++ two.steps)) two.after (tables_of new)) these (subst (λ x. Ran g limits s (tables_of old) (es ++ fs) x two.after (tables_of new)) those ran);
            said = visited_then limits a.visits b.visits one.steps two.steps one.said two.said;
            told = subst (Trails k0 k2) (sym (ap₂ (trail limits s) (events_then one.steps two.steps) (answers_then one.steps two.steps) ∙ laws.tells limits s t es fs xs ys one.run.run)) (trails_both k0 k1 k2 (trail limits s es xs) (trail limits t fs ys) one.told two.told);
          }

  -- and then it was tried whether the store answers
  pub tries_then : Joins g → (n m : ℕ) (log0 log1 log2 : Option (List Passing)) (old mid new : Running S) (k0 k1 k2 : Tail) → ServesVisits g n log0 log1 old mid k0 k1 → ServesThenTries g m log1 log2 mid new k1 k2 → ServesThenTries g (n + m) log0 log2 old new k0 k2
  tries_then laws n m log0 log1 log2 old mid new k0 k1 k2 a b = record {
    last = b.last;
    visits = visits_then laws n m log0 log1 log2 old mid b.last k0 k1 k2 a b.visits;
    tried = b.tried;
    limits = b.limits;
  }

  -- where it does, the run goes on
  pub tried_on : ((limits : Limits) (s : Registry) (entry : Tables S) (es : List Event) (xs : List Answer) (t : Registry) (mid new : Tables S) → Ran g limits s entry es xs t mid → WasTried g mid new → HasCleanDisk (shown g new) → is_stopped new ≡ false → Ran g limits s entry es xs t new)
      → (n : ℕ) (log0 log1 : Option (List Passing)) (old new : Running S) (k0 k1 : Tail) → ServesThenTries g n log0 log1 old new k0 k1 → is_stopped (tables_of new) ≡ false → ServesVisits g n log0 log1 old new k0 k1
  tried_on law n log0 log1 old new k0 k1 it goes_on = record {
    visits = it.visits.visits;
    count = it.visits.count;
    logged = it.visits.logged;
    serves = λ clean s h.
        let all = it.visits.serves (it.tried.clean clean) s h in
        let limits = limits_of old in
        record {
          steps = all.steps;
          after = all.after;
          run = law limits s (tables_of old) (events_of all.steps) (answers_of all.steps) all.after (tables_of it.last) (tables_of new) all.run it.tried clean goes_on;
          said = all.said;
          told = all.told;
        };
    keeps = record { clean = λ clean. it.visits.keeps.clean (it.tried.clean clean); limits = it.limits ∙ it.visits.keeps.limits };
  }
