use Rattle.reg_reference_lists.proofs.Words.{false, ap, token_of}
use Rattle.reg_reference_lists.proofs.Listed.{changed_at, unchanged_at}
use Rattle.reg_reference_lists.proofs.tokens.Tokens.revoke.Goals as goal
use Rattle.reg_reference_lists.proofs.tokens.Tokens.revoke.Goals.{in-Some, in_default}

pub returns : goal.returns
returns c =
    elim c.match-get_mut.branch [
      | in-Some w ↦ rw (w.self-inside-is, ← c.self.view_is) (changed_at token_of (λ x. record x { live = false }) c.args.id c.self.inside.list.items _ _ c.if-id-eq0.false w.in-Some.ensures.item.3.0 (ap (λ x. record (token_of x) { live = false }) w.in-Some.ensures.value))
      | in_default w ↦ rw (w.self-inside-is, ← c.self.view_is) (unchanged_at token_of (λ x. record x { live = false }) c.args.id c.self.inside.list.items c.if-id-eq0.false w.in_default.ensures.item.0)
    ]
