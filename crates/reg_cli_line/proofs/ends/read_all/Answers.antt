use Rattle.std.proofs.Common.{◌≡◌, arith, ◌∙◌, rules}
use Rattle.std.proofs.lemmas.Grind.{common_steps}
use Rattle.std.specs.Io.KnownBytes.{IsAtEnd}
use Rattle.std.proofs.KnownBytes.{Consumes-trans}
use Rattle.reg_cli_line.proofs.EndFacts.{read_none, read_whole}
use Rattle.reg_cli_line.proofs.ends.read_all.Goals as goal

pub loop-turn-preserved : goal.loop-turn-preserved
loop-turn-preserved g c =
    let i = c.loop-turn.invariant in
    let e = c.in_ok-count.ensures in
    let same : c.deref.result.now ≡ c.read.new.buf = grind (arith, common_steps, c.deref.ensures.value) in
    record {
      calls = omega (arith, i.calls, e.calls);
      failures = e.failures ∙ i.failures;
      room = search rules;
      bytes = rw (c.in_ok-extend_from_slice.ensures.items, same) (Consumes-trans _ _ _ _ _ i.bytes e.bytes.0);
    }

pub returns-then-count-eq0-clause-all : goal.returns-then-count-eq0-clause-all
returns-then-count-eq0-clause-all g c =
    let got = c.in_ok-count.ensures.bytes in
    let ended : IsAtEnd (g.R.Read.remaining c.read.new.self.inner) = got.1 c.if-count-eq0.true (search rules) in
    read_whole _ _ _ (read_none _ _ _ _ _ _ c.if-count-eq0.true c.loop-turn.invariant.bytes got.0) ended
