-- What a query answers that is read to its end.
use Rattle.std.specs.Prelude.{◌≡◌, ℕ, List}
use Rattle.sqlite.specs.Held.{Held, state}
use Rattle.sqlite.specs.Order.{Row}
use Rattle.sqlite.specs.State.{Shown}
use Rattle.sqlite_trees.specs.declared.store.Store.{Ghosts}

-- these rows are what the text answers of the tables that were there before
abbrev pub AnswersOf : {S : Type 0} → Ghosts S → Held S → Held S → List ℕ → Row → List Row → Type 0
AnswersOf {S} g old new text params rows =
    (at : Held S) × ((state g at).now ≡ (state g old).now)
    × Shown text params (state g at) (state g new) rows
