use Rattle.reg_http_read.proofs.Common.{◌≡◌, length, position_or_len, lists_word}
use Rattle.reg_http_read.proofs.Lists.{is_comma}
use Rattle.reg_http_read.proofs.words.lists_word.Given as goal

abbrev pub invariant-loop-at : goal.invariant-loop-at
invariant-loop-at l = record {
  at_is : l.at ≡ position_or_len is_comma l.rest;
  same : lists_word l.word l.rest ≡ lists_word l.word l.value;
}

abbrev pub decreases-loop-at : goal.decreases-loop-at
decreases-loop-at l = length l.rest
