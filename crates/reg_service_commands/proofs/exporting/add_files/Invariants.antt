use Rattle.reg_service_commands.proofs.Words.{Ok, map, take, StoreFault, Queries, AddsFiles, texts_of}
use Rattle.reg_service_commands.proofs.exporting.add_files.Given as goal

-- the crates so far have their files
abbrev pub invariant-loop-listed : goal.invariant-loop-listed
invariant-loop-listed g l = Queries {T = Unit {0}} {E = StoreFault} g.S.Store l.fn.work l.work (Ok tt)
    (λ db _. AddsFiles l.crates (take l.listed-index l.crates) (map texts_of l.fn.first.items) (map texts_of l.files.items) db)
