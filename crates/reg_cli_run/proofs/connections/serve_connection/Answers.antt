use Rattle.std.proofs.Common.{refl}
use Rattle.reg_http.specs.Exchanges.{steps_in}
use Rattle.reg_service.specs.Registries.{limits_of}
use Rattle.reg_cli_run.proofs.connections.serve_connection.Goals as goal

pub returns-clause-serves : goal.returns-clause-serves
returns-clause-serves g c =
    let served = rw (c.new-reader.ensures, c.new-writer.ensures) at c.serve_traced.ensures.serves in
    let spends = rw (c.new-reader.ensures, c.new-writer.ensures) at c.serve_traced.ensures.spends in
    record {
      left = g.D.Reader.Read.remaining c.serve_traced.new.r.inner;
      after = g.D.Writer.Write.contents c.serve_traced.new.w.inner;
      failed_reads = c.serve_traced.new.r.failures;
      failed_writes = c.serve_traced.new.w.failures;
      logged = c.leave.ensures.went;
      serves = λ clean s h.
          let (xs, run, replied, told) = served clean s h in
          record {
            steps = steps_in (limits_of c.args.registry.now) xs;
            after = run.0;
            run = run.1;
            said = (xs, refl {a = steps_in (limits_of c.args.registry.now) xs}, c.serve_traced.result, (spends.0, c.serve_traced.new.r.calls, c.serve_traced.new.w.calls, spends.1), replied);
            told = told;
          };
      keeps = c.serve_traced.ensures.keeps;
    }
