-- A transaction in which tables of schema 1 become tables of schema 2.
use Rattle.reg_tables_represent.proofs.Words.{◌≡◌, ◌≢◌, ℕ, List, [], ◌∷◌, map, true, false, Ok, Err, Result, OnOk, refl, sym, ap, subst, ◌∙◌}
use Rattle.reg_tables_represent.proofs.Words.{arith, State, HasCleanDisk, Survives, survives_then, Table, SchemaVersion, Second, our_tables}
use Rattle.reg_tables_represent.proofs.Words.{schema_of, IsOurs, IsReady, begun_keeps, IsUpgrade}
use Rattle.reg_tables_represent.proofs.Common.{AllByRecursion, Database, drop, Trees}
use Rattle.sqlite.specs.State.{KeepsCommit, Shows}
use Rattle.reg_tables_schema.specs.States.{IsUndone}
use Rattle.reg_tables_schema.specs.declared.edition.SchemaVersion.TheVariants.{First}
use Rattle.reg_tables_schema.specs.Schema.{old_tables}
use Rattle.reg_tables_schema.specs.States.{Extends, GoesBack}
use Rattle.reg_tables_schema.proofs.MakeLemmas.{all_taken, kept_keeps}
use Rattle.reg_tables_sql.specs.Abouts.{BecomesSecond}
use Rattle.reg_tables_represent.specs.Upgrades.{BeginsSecond, IsUpgraded, Upgrades}

kept_through : (tables : List Table) (a b c : Trees) → AllByRecursion (λ t. b t.tree ≡ a t.tree) tables → AllByRecursion (λ t. t.tree ≢ 0 → c t.tree ≡ b t.tree) tables
    → AllByRecursion (λ t. t.tree ≢ 0 → c t.tree ≡ a t.tree) tables
kept_through [] a b c one two = tt
kept_through (t ∷ more) a b c one two = ((λ other. two.0 other ∙ one.0), kept_through more a b c one.1 two.1)

upgrade_from : (was : Database) (mid last new : State) → Shows mid mid was mid.committed true → Extends mid last → BecomesSecond last new → IsUpgrade was new.now
upgrade_from was mid last new begun grown made =
    let from : (t : ℕ) → mid.now.trees t ≡ was.trees t = λ t. ap (λ (d : Database). d.trees t) begun.now_is in
    record {
      schema_is = made.touches.inside.schema_is;
      kept = subst (λ (d : Database). AllByRecursion (λ t. t.tree ≢ 0 → new.now.trees t.tree ≡ d.trees t.tree) old_tables) begun.now_is
          (kept_through old_tables mid.now.trees last.now.trees new.now.trees grown.kept (all_taken (λ t. t.tree ≢ 0 → new.now.trees t.tree ≡ last.now.trees t.tree) 10 our_tables made.touches.others));
      restricted = made.touches.others.1.1.1.1.1.1.1.1.1.1.0 (λ e. cc) ∙ grown.restricted;
      readers = made.touches.others.1.1.1.1.1.1.1.1.1.1.1.0 (λ e. cc) ∙ grown.readers;
      about = λ base is. made.second base (ap (map (drop 1)) (grown.kept.0 ∙ from 0) ∙ is);
    }

pub upgrades : (old mid last new : State) → Shows old mid old.now old.committed true → Extends mid last → BecomesSecond last new → Upgrades old new
upgrades old mid last new begun grown made = record {
  made = upgrade_from old.now mid last new (record { was_open = begun.is_open; is_open = begun.is_open; now_is = begun.now_is; committed_is = refl; mode = begun.mode }) grown made;
  shows = record { was_open = begun.was_open; is_open = made.touches.inside.is_open; now_is = refl; committed_is = made.touches.committed ∙ grown.committed ∙ begun.committed_is; mode = made.touches.inside.inside };
}

-- no crash in either commits
pub silent_then : (a b c : State) → Survives a b (λ _. ⊥) → Survives b c (λ _. ⊥) → Survives a c (λ _. ⊥)
silent_then a b c one two = survives_then a b c _ _ _ (λ _ _ h. h) (λ _ _ h. h) one two

-- the tables that were added are committed no more than the transaction
pub extends_keeps : (old mid last new : State) → Shows old mid old.now old.committed true → Extends mid last → KeepsCommit last new → KeepsCommit old new
extends_keeps old mid last new begun grown kept = begun_keeps old mid new begun (kept_keeps mid last new (record { was_open = λ up. begun.is_open; committed = λ up. grown.committed }) kept)

begun_shows : (e : SchemaVersion) (old new : State) → BeginsSecond e old new → Shows old new new.now old.committed true
begun_shows First old new h = h.shows
begun_shows Second old new h = record { was_open = h.was_open; is_open = h.is_open; now_is = refl; committed_is = h.committed_is; mode = h.mode }

begun_schema : (e : SchemaVersion) (old new : State) → BeginsSecond e old new → old.now.schema ≡ schema_of e → new.now.schema ≡ schema_of Second
begun_schema First old new h is = h.made.schema_is
begun_schema Second old new h is = ap (λ (d : Database). d.schema) h.now_is ∙ is

module _ (e : SchemaVersion) (old new : State) (early : HasCleanDisk new → HasCleanDisk old) (at : IsOurs e old) where
  pub back_second : {T E : Type 0} (r : Result T E) → (HasCleanDisk new → OnOk r (BeginsSecond e old new)) → OnOk r (GoesBack e new)
  back_second (Ok x) h = λ clean up. let s = begun_shows e old new (h clean) in ap (λ (d : Database). d.schema) s.committed_is ∙ (at (early clean) s.was_open).committed_is
  back_second (Err f) h = tt

  pub ready_second : {T E : Type 0} (r : Result T E) → (HasCleanDisk new → OnOk r (BeginsSecond e old new)) → OnOk r (IsReady new)
  ready_second (Ok x) h = λ clean.
      let s = begun_shows e old new (h clean) in
      let it = at (early clean) s.was_open in
      record { schema_is = begun_schema e old new (h clean) (ap (λ (d : Database). d.schema) it.settled ∙ it.committed_is); is_open = s.is_open; inside = s.mode }
  ready_second (Err f) h = tt

  pub kept_back : (HasCleanDisk new → KeepsCommit old new) → GoesBack e new
  kept_back h clean up = let k = h clean in ap (λ (d : Database). d.schema) (k.committed up) ∙ (at (early clean) (k.was_open up)).committed_is

pub upgraded : (e : SchemaVersion) (old mid new : State) → e ≡ First → BeginsSecond e old mid → Shows mid new mid.now mid.now false → IsUpgraded old new
upgraded First old mid new is h s = record { was_open = h.shows.was_open; made = subst (IsUpgrade old.now) (sym s.now_is) h.made; settled = s.committed_is ∙ sym s.now_is }
upgraded Second old mid new is h s = absurd cc

pub commit_undone : (e : SchemaVersion) (old mid new : State) → BeginsSecond e old mid → IsUndone mid new → IsUndone old new
commit_undone e old mid new h k =
    let s = begun_shows e old mid h in
    record { was_open = λ _. s.was_open; undone = λ up. ((k.undone up).0 ∙ s.committed_is, (k.undone up).1 ∙ s.committed_is); autocommit = k.autocommit }
