use Rattle.std.proofs.Common.{◌++◌, true, replicate, refl, ap, arith}
use Rattle.std.proofs.lemmas.Grind.{put_two}
use Rattle.std.proofs.lemmas.List.{replicate_more}
use Rattle.reg_policy.proofs.report_lines.LeftDisplay.fmt.Goals as goal

pub loop-space-preserved : goal.loop-space-preserved
loop-space-preserved g c = λ plain.
    let before = c.loop-space.invariant plain in
    put_two g.W.Write.write_str_gives _ _ _ _ _ _ before (c.in_ok-write.ensures.writes before.plain (refl {a = true})) (replicate_more c.loop-space._space 32)

pub returns : goal.returns
returns g c = record {
  writes = λ plain _.
      let text = c.in_ok-write_str.ensures.writes plain (refl {a = true}) in
      put_two g.W.Write.write_str_gives _ _ _ _ _ _ text (c.loop-space.invariant text.plain) (ap (λ n. c.args.self.now.1.now ++ replicate n 32) (omega arith));
  styled = tt;
}
