-- What a head tells that owns it.
use Rattle.std.specs.Prelude.{option_map, string_bytes}
use Rattle.reg_http_read.specs.Heads.{Facts}
use Rattle.reg_http_read.specs.declared.owned.OwnedHead.{OwnedHead}

abbrev pub facts_owned : OwnedHead → Facts
facts_owned it = record {
  method = string_bytes it.method;
  target = string_bytes it.target;
  token = option_map (λ t. t.items) it.token;
  len = it.len;
  body_len = it.body_len;
  interim = it.interim;
  close = it.close;
}
