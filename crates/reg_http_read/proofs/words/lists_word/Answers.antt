use Rattle.reg_http_read.proofs.Common.{◌≡◌, ◌∙◌, sym, ap, true, false, ◌||◌, take, drop, same_word, lists_word}
use Rattle.httparse.specs.Grammar.{trim_ows}
use Rattle.reg_http_read.proofs.Lists.{lists_more, lists_last}
use Rattle.reg_http_read.proofs.words.lists_word.Goals as goal

pub loop-at-preserved : goal.loop-at-preserved
loop-at-preserved c =
    let i = c.loop-at.invariant in
    let more = lists_more c.args.word.now c.loop-at.rest.now c.loop-at.at i.at_is c.loop-at-test.true in
    let other = c.if-is_listed.ensures in
    let front = c.split_at.ensures.front in
    let no : same_word (trim_ows (take c.loop-at.at c.loop-at.rest.now)) c.args.word.now ≡ false =
    ap (λ p. same_word (trim_ows p) c.args.word.now) (sym front) ∙ sym other in
    record {
      at_is = c.to_comma-at-in-loop-at.ensures;
      same =
          rw (c.split_at-in-loop-at.ensures.back, c.split_at.ensures.back)
          (sym (more ∙ ap (λ b. b || lists_word c.args.word.now (drop 1 (drop c.loop-at.at c.loop-at.rest.now))) no) ∙ i.same);
    }

pub returns-then-is_listed : goal.returns-then-is_listed
returns-then-is_listed c =
    let i = c.loop-at.invariant in
    let more = lists_more c.args.word.now c.loop-at.rest.now c.loop-at.at i.at_is c.loop-at-test.true in
    let yes : true ≡ same_word (trim_ows (take c.loop-at.at c.loop-at.rest.now)) c.args.word.now =
    c.if-is_listed.ensures ∙ ap (λ p. same_word (trim_ows p) c.args.word.now) c.split_at.ensures.front in
    ap (λ b. b || lists_word c.args.word.now (drop 1 (drop c.loop-at.at c.loop-at.rest.now))) yes ∙ sym more ∙ i.same

pub returns : goal.returns
returns c =
    let i = c.loop-at.invariant in
    c.is_listed-2.ensures ∙ sym (lists_last c.args.word.now c.loop-at.rest.now c.loop-at.at i.at_is c.loop-at-test.false) ∙ i.same
