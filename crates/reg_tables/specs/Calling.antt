-- What calls leave of a transaction of our tables: those that only ask, and those that change.
use Rattle.std.specs.Prelude.{Result}
use Rattle.sqlite.specs.Tree.{Trees}
use Rattle.sqlite_trees.specs.declared.store.Store.{Ghosts}
use Rattle.reg_tables.specs.declared.work.Work.{Work}
use Rattle.reg_tables.specs.Works.{OnAnswer, KeepsFrame, Unmoved, rows_seen}

-- this is true of the rows that it sees and of what it answers, all is as it was, and a fault ends
-- the transaction
pub record Queries {S T E : Type 0} (g : Ghosts S) (old new : Work S) (r : Result T E)
    (tells : Trees → T → Type 0) : Type 0 where
  pub told : OnAnswer g new r (tells (rows_seen g old))
  pub same : Unmoved g r old new
  pub leaves : KeepsFrame g r old new

-- this is true of the rows before and after and of what it answers, nothing is committed, and a
-- fault ends the transaction
pub record Updates {S T E : Type 0} (g : Ghosts S) (old new : Work S) (r : Result T E)
    (tells : Trees → Trees → T → Type 0) : Type 0 where
  pub told : OnAnswer g new r (tells (rows_seen g old) (rows_seen g new))
  pub leaves : KeepsFrame g r old new

-- the same of a change whose answer tells nothing
abbrev pub UpdatesBy : {S T E : Type 0} → Ghosts S → Work S → Work S → Result T E
    → (Trees → Trees → Type 0) → Type 0
UpdatesBy g old new r change = Updates g old new r (λ a b done. change a b)

-- the same of a change whose answer tells this of the rows before
abbrev pub Sets : {S T E : Type 0} → Ghosts S → Work S → Work S → Result T E
    → (Trees → Trees → Type 0) → (Trees → T → Type 0) → Type 0
Sets g old new r change tells = Updates g old new r (λ a b it. change a b × tells a it)
