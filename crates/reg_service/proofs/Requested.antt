-- What each end of a transaction makes of a request, and what it leaves.
use Rattle.reg_service.proofs.Words.{◌≡◌, ◌∙◌, arith, Bool, Option, None, Result, sym, subst, IsTrue, ℕ, false≢true, option_map}
use Rattle.reg_service.proofs.Words.{string_bytes, HasCleanDisk, Ghosts, Limits, Asked, Ask, StepsKeepSound, Registry, Text, IsFit, Reply}
use Rattle.reg_service.proofs.Words.{Denied, FilesAreRows, FoundFile, Serves, line_with, Done, Seeks, Sends, ReadOnly, TracedReply, Tables, Work}
use Rattle.reg_service.proofs.Words.{Begins, IsCommitted, IsDropped, IsEnded, IsRefused, SeesAll, Looks, IsLeft, is_stopped, rows_seen, seen}
use Rattle.reg_service.proofs.Words.{shown, LeavesCommit, ActsTo, IsActed, AreUpToDate, Halts, StandsIn, WasClean, RepliesTo, Sought, Looked}
use Rattle.reg_model.specs.declared.rule.Rule.TheVariants as rule
use Rattle.reg_service_requests.specs.Telling.{ServesTold}
use Rattle.reg_service_requests.specs.declared.served.Served.{Served}
use Rattle.reg_service_requests.specs.declared.told.TracedServed.{TracedServed}
use Rattle.reg_service.specs.Traced.{SaysNoRoom}
use Rattle.reg_service.specs.declared.answered.Answered.{Answered}
use Rattle.reg_service.specs.declared.answered.Answered.TheVariants.{Found, Replied}
use Rattle.reg_service.proofs.Replied as replied
use Rattle.reg_service.proofs.Rests.{dropped_halts, dropped_looked, committed_halts, committed_tables, ended_clean, goes_on, refused_tables, still_ours}
use Rattle.reg_service.proofs.Traced.{acts, tells_line, untold}

abbrev pub Does : {S : Type 0} → Ghosts S → Limits → Bool → Option Text → Asked → Answered → Tables S → Tables S → Type 0
Does g limits traced digest asked r old new = record {
  replies : IsActed g limits traced digest asked r old new;
  tables : AreUpToDate g new;
  clean : WasClean g old new;
  halts : Halts (is_stopped old) (is_stopped new) (SaysNoRoom r);
}

module _ {S : Type 0} (g : Ghosts S) (limits : Limits) (traced : Bool) (digest : Option Text) (asked : Asked) (old : Tables S) (at : AreUpToDate g old) (it : TracedReply) where
  -- no transaction was begun
  pub unbegun : (new : Tables S) → it.reply ≡ Denied rule.S1 → it.line ≡ None → IsLeft g old new → Does g limits traced digest asked (Replied it) old new
  unbegun new reply line is = record {
    replies = replies;
    tables = record { ours = is.ours; second = is.edition ∙ at.second; left = still_ours (shown g old) (shown g new) is.survives at.left };
    clean = first;
    halts = record { stopped = λ _. reply; stays = λ was. is.shut ∙ was; stops = λ _. reply };
  }
    where
      first : WasClean g old new
      first clean = omega (arith, clean, is.survives.clean)

      replies : IsActed g limits traced digest asked (Replied it) old new
      replies clean s h = untold g limits s traced digest asked old new it (replied.not_begun g limits s digest asked old new at.ours h clean is) reply line

  module _ (begun done : Work S) (b : Begins g SeesAll old begun) (looks : Looks g begun done) where
    -- a call within it failed
    pub failed : (new there : Tables S) → new ≡ there → it.reply ≡ Denied rule.S1 → it.line ≡ None → IsDropped g done there
        → (IsTrue (shown g old).is_open → LeavesCommit (shown g old)) → Does g limits traced digest asked (Replied it) old new
    failed new there same_end reply line end alone = subst (λ t. Does g limits traced digest asked (Replied it) old t) (sym same_end) (record {
      replies = replies;
      tables = rest.tables;
      clean = rest.clean;
      halts = dropped_halts g old begun done b looks there end;
    })
      where
        rest : Looked g old there
        rest = dropped_looked g old begun done b looks there at end

        replies : IsActed g limits traced digest asked (Replied it) old there
        replies clean s h =
            let mid : HasCleanDisk (seen g done) = omega (arith, clean, end.survives.clean) in
            untold g limits s traced digest asked old there it (replied.failed g limits s digest asked old there at.ours h clean begun done b looks mid end alone) reply line

    -- it was served
    module _ (told : TracedServed) (serves : HasCleanDisk (seen g done) → ServesTold traced limits digest asked (rows_seen g begun) (rows_seen g done) told) where
      served_as : (x : Served) → told.served ≡ x → HasCleanDisk (seen g done) → Serves limits digest asked (rows_seen g begun) (rows_seen g done) x
      served_as x is mid = subst (Serves limits digest asked (rows_seen g begun) (rows_seen g done)) is (serves mid).0

      -- the line that goes with the reply
      lined : (there new : Tables S) (s : Registry) (h : StandsIn s (shown g old)) (clean : HasCleanDisk (shown g there)) (mid : HasCleanDisk (seen g done)) (reply : Reply) → it.reply ≡ reply
          → option_map string_bytes it.line ≡ line_with reply told.line → RepliesTo g limits s digest asked reply old new
          → ActsTo g limits s traced digest asked it old new
      lined there new s h clean mid reply is line replies =
          acts g limits s traced digest asked old new reply it told.line replies is line
          (tells_line limits s (Ask digest asked) traced (rows_seen g begun) told.line (serves mid).1 (replied.sees g limits s digest asked old there at.ours h clean begun done b looks mid))

      pub committed : {T E : Type 0} (r : Result T E) (reply : Reply) (new there : Tables S) → new ≡ there → told.served ≡ Done reply → it.reply ≡ reply
          → option_map string_bytes it.line ≡ line_with reply told.line → IsEnded g r done there → IsCommitted g done there
          → StepsKeepSound → IsFit (Ask digest asked) → Does g limits traced digest asked (Replied it) old new
      committed r reply new there same_end as_done is line ended end law fit = subst (λ t. Does g limits traced digest asked (Replied it) old t) (sym same_end) (record {
        replies = replies;
        tables = committed_tables g old begun done b looks there r at ended end;
        clean = ended_clean g old begun done b looks there r ended;
        halts = committed_halts g old begun done b looks there end;
      })
        where
          mids : HasCleanDisk (shown g there) → HasCleanDisk (seen g done)
          mids clean = omega (arith, clean, ended.survives.clean)

          replies : IsActed g limits traced digest asked (Replied it) old there
          replies clean s h =
              let mid = mids clean in
              lined there there s h clean mid reply is line (replied.committed g limits s digest asked old there at.ours h clean begun done b looks mid law fit reply (served_as (Done reply) as_done mid) end)

      -- its commit was refused
      pub not_committed : {T E : Type 0} (r : Result T E) (reply : Reply) (new there : Tables S) → new ≡ there → told.served ≡ Done reply → it.reply ≡ Denied rule.S1 → it.line ≡ None
          → IsEnded g r done there → IsRefused g done there → Does g limits traced digest asked (Replied it) old new
      not_committed r reply new there same_end as_done is line ended end = subst (λ t. Does g limits traced digest asked (Replied it) old t) (sym same_end) (record {
        replies = replies;
        tables = refused_tables g old begun done b looks there r at ended end;
        clean = ended_clean g old begun done b looks there r ended;
        halts = goes_on g old begun done b looks there (λ _. is);
      })
        where
          mids : HasCleanDisk (shown g there) → HasCleanDisk (seen g done)
          mids clean = omega (arith, clean, ended.survives.clean)

          replies : IsActed g limits traced digest asked (Replied it) old there
          replies clean s h =
              let mid = mids clean in
              untold g limits s traced digest asked old there it
              (replied.not_committed g limits s digest asked old there at.ours h clean begun done b looks mid reply (served_as (Done reply) as_done mid) end ended.survives) is line

      -- nothing was changed
      pub only_told : (reply : Reply) (new there : Tables S) → new ≡ there → told.served ≡ ReadOnly reply → it.reply ≡ reply → option_map string_bytes it.line ≡ line_with reply told.line
          → IsDropped g done there → (IsTrue (shown g old).is_open → LeavesCommit (shown g old)) → Does g limits traced digest asked (Replied it) old new
      only_told reply new there same_end as_told is line end alone = subst (λ t. Does g limits traced digest asked (Replied it) old t) (sym same_end) (record {
        replies = replies;
        tables = rest.tables;
        clean = rest.clean;
        halts = dropped_halts g old begun done b looks there end;
      })
        where
          rest : Looked g old there
          rest = dropped_looked g old begun done b looks there at end

          mids : HasCleanDisk (shown g there) → HasCleanDisk (seen g done)
          mids clean = omega (arith, clean, end.survives.clean)

          replies : IsActed g limits traced digest asked (Replied it) old there
          replies clean s h =
              let mid = mids clean in
              lined there there s h clean mid reply is line (replied.told g limits s digest asked old there at.ours h clean begun done b looks mid reply (served_as (ReadOnly reply) as_told mid) end alone)

      -- a search, behind the transaction
      pub sought : (account : ℕ) (reply : Reply) (there new : Tables S) → told.served ≡ Seeks account → it.reply ≡ reply → option_map string_bytes it.line ≡ line_with reply told.line
          → IsDropped g done there → (IsTrue (shown g old).is_open → LeavesCommit (shown g old))
          → IsLeft g there new → (HasCleanDisk (shown g new) → (s : Registry) → StandsIn s (shown g there) → Sought account asked s reply) → Does g limits traced digest asked (Replied it) old new
      sought account reply there new as_search is line end alone left seeks = record {
        replies = replies;
        tables = record {
          ours = left.ours;
          second = left.edition ∙ end.edition ∙ looks.same_edition ∙ b.edition ∙ at.second;
          left = still_ours (shown g there) (shown g new) left.survives (dropped_looked g old begun done b looks there at end).tables.left;
        };
        clean = λ clean. omega (arith, clean, left.survives.clean, end.survives.clean, looks.survives.clean, b.survives.clean);
        halts = goes_on g old begun done b looks new (λ stopped. absurd (false≢true (sym (left.shut ∙ end.same_mode ∙ looks.same_mode ∙ b.still_open) ∙ stopped)));
      }
        where
          still : HasCleanDisk (shown g new) → HasCleanDisk (shown g there)
          still clean = omega (arith, clean, left.survives.clean)

          mids : HasCleanDisk (shown g there) → HasCleanDisk (seen g done)
          mids clean = omega (arith, clean, end.survives.clean)

          replies : IsActed g limits traced digest asked (Replied it) old new
          replies clean s h =
              let early = still clean in
              let mid = mids early in
              lined there new s h early mid reply is line
              (replied.sought g limits s digest asked old there new at.ours h clean early begun done b looks mid account reply (served_as (Seeks account) as_search mid) end alone
              (end.ours looks.at_work.back) left (seeks clean s))

-- an index file was found
pub found : {S : Type 0} (g : Ghosts S) (limits : Limits) (traced : Bool) (digest : Option Text) (asked : Asked) (old : Tables S) → AreUpToDate g old → (begun done : Work S) → Begins g SeesAll old begun → Looks g begun done
    → (told : TracedServed) → (HasCleanDisk (seen g done) → ServesTold traced limits digest asked (rows_seen g begun) (rows_seen g done) told) → FilesAreRows
    → (f : FoundFile) (new there : Tables S) → new ≡ there → told.served ≡ Sends f → IsDropped g done there → (IsTrue (shown g old).is_open → LeavesCommit (shown g old)) → Does g limits traced digest asked (Found f) old new
found g limits traced digest asked old at begun done b looks told serves law f new there same_end as_found end alone = subst (λ t. Does g limits traced digest asked (Found f) old t) (sym same_end) (record {
  replies = λ clean s h.
      let mid : HasCleanDisk (seen g done) = omega (arith, clean, end.survives.clean) in
      replied.found g limits s digest asked old there at.ours h clean begun done b looks mid law f (subst (Serves limits digest asked (rows_seen g begun) (rows_seen g done)) as_found (serves mid).0) end alone;
  tables = rest.tables;
  clean = rest.clean;
  halts = dropped_halts g old begun done b looks there end;
})
  where
    rest : Looked g old there
    rest = dropped_looked g old begun done b looks there at end
