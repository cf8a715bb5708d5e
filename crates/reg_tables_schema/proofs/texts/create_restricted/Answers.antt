use Rattle.reg_tables_schema.proofs.Words.{arith, state}
use Rattle.reg_tables_schema.proofs.TableTexts.{restricted_step, restricted_next}
use Rattle.reg_tables_schema.proofs.Creates.{grows, grow_survives}
use Rattle.reg_tables_schema.proofs.WriteLemmas.{refused}
use Rattle.reg_tables_schema.proofs.texts.create_restricted.Goals as goal

pub returns : goal.returns
returns g c = record {
  changes = λ clean. grows _ _ _ _ restricted_step (state g.S.Store c.args.conn.now) (state g.S.Store c.execute.new.self) 17 restricted_next c.execute.result (c.requires (omega (arith, c.execute.ensures.survives.clean))) (c.execute.ensures.runs clean);
  refused = λ clean. refused _ _ (state g.S.Store c.args.conn.now) (state g.S.Store c.execute.new.self) c.execute.result (c.execute.ensures.runs clean);
  survives = grow_survives _ _ _ _ restricted_step (state g.S.Store c.args.conn.now) (state g.S.Store c.execute.new.self) c.requires c.execute.ensures.survives;
}
