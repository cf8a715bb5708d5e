-- What a query leaves of the state, whatever it answers.
use Rattle.reg_tables_schema.proofs.Words.{◌⊎◌, inl, inr, ℕ, List, subst, Row, Error, timed, State, IsUnchanged, Refuses}
use Rattle.sqlite.specs.Given.{IsPlain}
use Rattle.sqlite.specs.Listing.{understood}
use Rattle.sqlite.specs.State.{Shown, ShowsRows, FailsToQuery, FailsToShow, IsTooLate, IsNotRun}

module _ (sql : List ℕ) (params : Row) (old new : State) (plain : IsPlain (understood old.now.schema sql)) where
  pub shown_unchanged : (rows : List Row) → Shown sql params old new rows → IsUnchanged old new
  unfolding Shown
  shown_unchanged rows h =
      let none = (subst IsPlain h.1.is plain).0 in
      (subst (ShowsRows old new sql h.0 (timed params h.0.formats h.1.now) rows) none h.2).3

  not_run : (e : Error) → IsNotRun old new sql params e → Refuses old new
  unfolding IsNotRun
  not_run e (inl h) = inl h.1
  not_run e (inr h) = inr h.3

  pub query_refused : (e : Error) → FailsToQuery sql params old new e ⊎ IsTooLate sql params old new e → Refuses old new
  unfolding FailsToQuery
  query_refused e (inl (inl h)) = not_run e h
  query_refused e (inl (inr h)) =
      let none = (subst IsPlain h.1.is plain).0 in
      inl ((subst (FailsToShow old new sql h.0 (timed params h.0.formats h.1.now) e) none h.2).3)
  query_refused e (inr h) = inl h.5
