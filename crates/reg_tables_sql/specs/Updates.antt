-- What an UPDATE leaves where it finds no row.
use Rattle.std.specs.Prelude.{◌≡◌, ℕ, Bool, [], filter}
use Rattle.sqlite.specs.Order.{Row}
use Rattle.sqlite.specs.State.{State}

-- where no row passes the test, the table keeps its rows
abbrev pub KeepsWhereNone : ℕ → (Row → Bool) → State → State → Type 0
KeepsWhereNone tree test old new =
    filter test (old.now.trees tree) ≡ [] → new.now.trees tree ≡ old.now.trees tree
