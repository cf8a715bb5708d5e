-- The token that a record of the program stands for.
use Rattle.reg_model.specs.Registry as model
use Rattle.reg_reference_lists.specs.declared.tokens.PlainToken.{PlainToken}

abbrev pub token_of : PlainToken → model.Token
token_of t = record {
  digest = t.digest;
  account = t.account;
  live = t.live;
  endpoints = t.endpoints;
  patterns = t.patterns.items;
}
