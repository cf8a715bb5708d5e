use Rattle.reg_reference_lists.proofs.Words.{bytes_eq, token_of}
use Rattle.reg_reference_lists.proofs.Listed.{found_map}
use Rattle.reg_reference_lists.proofs.tokens.Tokens.find.Goals as goal

pub returns : goal.returns
returns c = rw (← c.self.view_is, ← c.deref.ensures.value) (found_map (λ t. bytes_eq t.digest c.args.digest.now) token_of (λ t. t.now) c.find_in.result c.deref.result.now c.find_in.ensures)
