use Rattle.reg_cli_run.specs.Messages.{reply_to}
use Rattle.reg_cli_run.proofs.connections.serve_message.Goals as goal

pub returns-clause-serves : goal.returns-clause-serves
returns-clause-serves g c =
    let heard = rw c.new-reader.ensures at c.hear_message-reply.ensures in
    let sent = rw c.new-writer.ensures at c.send_reply.ensures in
    record {
      left = g.D.Reader.Read.remaining c.hear_message-reply.new.reader.inner;
      after = g.D.Writer.Write.contents c.send_reply.new.w.inner;
      failed_reads = c.hear_message-reply.new.reader.failures;
      failed_writes = c.send_reply.new.w.failures;
      logged = rw c.hold_if_paused.ensures.stays at c.leave.ensures.went;
      serves = λ clean s h.
          let it = heard.heard clean s h in
          record {
            steps = it.steps;
            after = it.after;
            run = it.run;
            said = record { read = heard.read; reads = heard.reads; text = reply_to c.hear_message-reply.result; heard = it.said; sent = (c.send_reply.result, c.send_reply.new.w.calls, sent) };
            told = it.told;
          };
      keeps = heard.keeps;
    }
