use Rattle.reg_tables_schema.proofs.Words.{arith, state}
use Rattle.reg_tables_schema.proofs.TableTexts.{about_step}
use Rattle.reg_tables_schema.proofs.Creates.{makes, create_survives}
use Rattle.reg_tables_schema.proofs.WriteLemmas.{refused}
use Rattle.reg_tables_schema.proofs.texts.create_about.Goals as goal

pub returns : goal.returns
returns g c = record {
  changes = λ clean. makes _ _ _ _ about_step (state g.S.Store c.args.conn.now) (state g.S.Store c.execute.new.self) c.execute.result (c.requires (omega (arith, c.execute.ensures.survives.clean))) (c.execute.ensures.runs clean);
  refused = λ clean. refused _ _ (state g.S.Store c.args.conn.now) (state g.S.Store c.execute.new.self) c.execute.result (c.execute.ensures.runs clean);
  survives = create_survives _ _ _ _ about_step (state g.S.Store c.args.conn.now) (state g.S.Store c.execute.new.self) c.requires c.execute.ensures.survives;
}
