-- Each end of a statement keeps our tables, of either edition.
use Rattle.reg_tables_schema.proofs.Words.{◌≡◌, inl, inr, true, false, Ok, Err, Result, OnOk, OnErr, ℕ, sym, ap, ◌∙◌, Database, Error}
use Rattle.reg_tables_schema.proofs.Words.{State, HasCleanDisk, Shows, IsUndone, Refuses}
use Rattle.reg_tables_schema.specs.declared.edition.SchemaVersion.{SchemaVersion}
use Rattle.reg_tables_schema.specs.Schema.{schema_of}
use Rattle.reg_tables_schema.specs.States.{GoesBack, IsReadyOf, IsOurs, Rests}

module _ (e : SchemaVersion) (old new : State) where
  pub as_before : Shows old new old.now old.committed old.in_transaction → Rests e old → Rests e new
  as_before h at = record {
    committed_is = ap (λ (d : Database). d.schema) h.committed_is ∙ at.committed_is;
    autocommit = h.mode ∙ at.autocommit;
    settled = h.now_is ∙ at.settled ∙ sym h.committed_is;
  }

  gone_back : (new.now ≡ old.committed) × (new.committed ≡ old.committed) → new.in_transaction ≡ false → old.committed.schema ≡ schema_of e → Rests e new
  gone_back h off is = record { committed_is = ap (λ (d : Database). d.schema) h.1 ∙ is; autocommit = off; settled = h.0 ∙ sym h.1 }

  module _ (early : HasCleanDisk new → HasCleanDisk old) where
    pub ours_refused : (HasCleanDisk new → Refuses old new) → IsOurs e old → IsOurs e new
    ours_refused h at clean up = elim (h clean) [
      | inl same ↦ as_before same.0 (at (early clean) same.0.was_open)
      | inr rolled ↦ gone_back (rolled.undone up) rolled.autocommit (at (early clean) (rolled.was_open up)).committed_is
    ]

    pub ours_undone : (HasCleanDisk new → IsUndone old new) → GoesBack e old → IsOurs e new
    ours_undone h at clean up = let it = h clean in gone_back (it.undone up) it.autocommit (at (early clean) (it.was_open up))

    pub ready_begun : (r : Result ℕ Error) → (HasCleanDisk new → OnOk r (Shows old new old.now old.committed true)) → IsOurs e old → OnOk r (IsReadyOf e new)
    ready_begun (Ok n) shows at = λ clean.
        let h = shows clean in
        let it = at (early clean) h.was_open in
        record { schema_is = ap (λ (d : Database). d.schema) (h.now_is ∙ it.settled) ∙ it.committed_is; is_open = h.is_open; inside = h.mode }
    ready_begun (Err f) shows at = tt

    pub back_begun : (r : Result ℕ Error) → (HasCleanDisk new → OnOk r (Shows old new old.now old.committed true)) → IsOurs e old → OnOk r (GoesBack e new)
    back_begun (Ok n) shows at = λ clean up. let h = shows clean in ap (λ (d : Database). d.schema) h.committed_is ∙ (at (early clean) h.was_open).committed_is
    back_begun (Err f) shows at = tt

    pub ours_unbegun : (r : Result ℕ Error) → (HasCleanDisk new → OnErr r (Refuses old new)) → IsOurs e old → OnErr r (IsOurs e new)
    ours_unbegun (Ok n) other at = tt
    ours_unbegun (Err f) other at = ours_refused other at

    pub ours_finished : (r : Result ℕ Error) → (HasCleanDisk new → OnOk r (Shows old new old.now old.now false)) → IsReadyOf e old → OnOk r (IsOurs e new)
    ours_finished (Ok n) shows at = λ clean up.
        let h = shows clean in
        record { committed_is = ap (λ (d : Database). d.schema) h.committed_is ∙ (at (early clean)).schema_is; autocommit = h.mode; settled = h.now_is ∙ sym h.committed_is }
    ours_finished (Err f) shows at = tt

    pub ours_unfinished : (r : Result ℕ Error) → (HasCleanDisk new → OnErr r (IsUndone old new)) → GoesBack e old → OnErr r (IsOurs e new)
    ours_unfinished (Ok n) other at = tt
    ours_unfinished (Err f) other at = ours_undone other at

pub then_ok : {T E A B : Type 0} (r : Result T E) → (A → B) → OnOk r A → OnOk r B
then_ok (Ok x) f a = f a
then_ok (Err e) f a = tt
