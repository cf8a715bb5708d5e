use Rattle.std.proofs.lemmas.Result.{err_from_is_err_and}
use Rattle.reg_service.specs.Registries.{limits_of, tables_of}
use Rattle.reg_http.specs.Trails.{tail}
use Rattle.reg_http.proofs.Exchanged.{EventsGoOn}
use Rattle.reg_http.proofs.Kept.{still}
use Rattle.reg_cli_run.proofs.Heard.{heard, unheard}
use Rattle.reg_cli_run.proofs.message.hear_message.Goals as goal

pub returns-in_err-bytes : goal.returns-in_err-bytes
returns-in_err-bytes g c =
    let law : EventsGoOn g.S.Store = record { run = c.history_law.ensures.goes_on; one = c.telling_law.ensures.one; join = c.telling_law.ensures.join } in
    let p = err_from_is_err_and c.from_residual.result c.from_residual.ensures.1 in
    let (read, consumes, cut) = c.in_err-bytes.ensures in
    rw (p.1, p.2) (record {
      read = read;
      reads = consumes;
      heard = λ clean s h. unheard g.S.Store c.history_law.ensures.begins law (limits_of c.args.registry.now) s (tables_of c.args.registry.now) h (tail (g.T.Write.contents c.args.trail.now.end.inner) c.args.trail.now)
          read (g.R.Read.remaining c.read_bytes.new.reader.inner) c.read_bytes.new.reader.failures c.args.reader.now.failures c.requires.fresh c.in_err-bytes.field-0.0 cut;
      keeps = still;
    })

pub returns : goal.returns
returns g c =
    let law : EventsGoOn g.S.Store = record { run = c.history_law.ensures.goes_on; one = c.telling_law.ensures.one; join = c.telling_law.ensures.join } in
    let (read, consumes, (same, whole)) = c.in_ok-bytes.ensures in
    record {
      read = read;
      reads = consumes;
      heard = λ clean s h. heard g.S.Store c.history_law.ensures.begins law (limits_of c.args.registry.now) s (tables_of c.args.registry.now) h (tail (g.T.Write.contents c.args.trail.now.end.inner) c.args.trail.now)
          read (g.R.Read.remaining c.read_bytes.new.reader.inner) c.read_bytes.new.reader.failures
          (tables_of c.answer_message.new.registry) (tail (g.T.Write.contents c.answer_message.new.trail.end.inner) c.answer_message.new.trail) clean
          (rw c.requires.fresh at whole) c.answer_message.result (rw (c.deref.ensures.value, same) at c.answer_message.ensures.answered);
      keeps = c.answer_message.ensures.keeps;
    }
