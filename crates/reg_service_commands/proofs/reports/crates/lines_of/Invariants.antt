use Rattle.reg_service_commands.proofs.Words.{Ok, take, string_bytes, StoreFault, Queries, HasLines}
use Rattle.reg_service_commands.proofs.reports.crates.lines_of.Given as goal

-- the crates so far have their lines
abbrev pub invariant-loop-listed : goal.invariant-loop-listed
invariant-loop-listed g l = Queries {T = Unit {0}} {E = StoreFault} g.S.Store l.fn.work l.work (Ok tt) (λ db _. HasLines l.crates (take l.listed-index l.crates) (string_bytes l.report) db)
