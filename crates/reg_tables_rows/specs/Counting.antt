-- How much the registry has, by the rows.
use Rattle.std.specs.Prelude.{◌≡◌, length}
use Rattle.sqlite.specs.Tree.{Trees}
use Rattle.reg_model.specs.Crates as model
use Rattle.reg_tables_represent.specs.Calls.{Tells}
use Rattle.reg_tables_rows.specs.declared.counts.Counts.{Counts}

-- the numbers of accounts, tokens, crates and publications
abbrev pub CountsAll : Trees → Counts → Type 0
CountsAll db n = Tells
    (λ ids s. (n.accounts ≡ length s.accounts) × (n.tokens ≡ length s.tokens)
    × (n.crates ≡ model.crates s) × (n.publications ≡ length s.publications)) db
