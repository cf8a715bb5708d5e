use Rattle.reg_tables_represent.proofs.Words.{GivesPatterns, Within}
use Rattle.reg_tables_represent.proofs.Common.{HasCleanDisk, state, Survives, take}
use Rattle.reg_tables_represent.proofs.tokens.add_scopes.Given as goal

-- the patterns before the index are given
abbrev pub invariant-loop-index : goal.invariant-loop-index
invariant-loop-index g l =
    let old = state g.S.Store l.initial.conn in
    let new = state g.S.Store l.conn in
    (HasCleanDisk new → GivesPatterns l.token (take l.index l.patterns) old.now.trees new.now.trees)
    × (HasCleanDisk new → Within old new)
    × Survives old new (λ _. ⊥)
