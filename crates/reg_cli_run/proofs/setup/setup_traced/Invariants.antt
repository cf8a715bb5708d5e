use Rattle.sqlite.specs.State.{HasCleanDisk}
use Rattle.reg_model.specs.Registry as model
use Rattle.reg_tables.specs.Works.{shown}
use Rattle.reg_service.specs.Answered.{StandsIn}
use Rattle.reg_service.specs.Registries.{limits_of, tables_of}
use Rattle.reg_http.specs.Answering.{GoesOn}
use Rattle.reg_http.specs.Trails.{IsTrailed, tail}
use Rattle.reg_cli_run.specs.Lines.{lines_in}
use Rattle.reg_cli_run.specs.Setups.{HasDoneTold}
use Rattle.reg_cli_run.proofs.setup.setup_traced.Given as goal

-- the lines so far were done
abbrev pub invariant-loop-line : goal.invariant-loop-line
invariant-loop-line g l = record {
  keeps : GoesOn g.S.Store l.fn.registry l.registry;
  told : IsTrailed (tail (g.T.Write.contents l.fn.trail.end.inner) l.fn.trail) (tail (g.T.Write.contents l.trail.end.inner) l.trail);
  held : HasCleanDisk (shown g.S.Store (tables_of l.registry)) → (s : model.Registry) → StandsIn s (shown g.S.Store (tables_of l.fn.registry))
      → HasDoneTold g.S.Store (limits_of l.fn.registry) s (tables_of l.fn.registry) (lines_in l.fn.setup) (tables_of l.registry) (tail (g.T.Write.contents l.fn.trail.end.inner) l.fn.trail) (tail (g.T.Write.contents l.trail.end.inner) l.trail) l.line-index;
}
