use Rattle.reg_reference_lists.proofs.Words.{ap, account_of}
use Rattle.reg_reference_lists.proofs.Listed.{changed_at, unchanged_at}
use Rattle.reg_reference_lists.proofs.accounts.Accounts.enable.Goals as goal
use Rattle.reg_reference_lists.proofs.accounts.Accounts.enable.Goals.{in-Some, in_default}

pub returns : goal.returns
returns c =
    elim c.match-get_mut.branch [
      | in-Some w ↦ rw (w.self-inside-is, ← c.self.view_is) (changed_at account_of (λ x. record x { enabled = c.args.enabled }) c.args.id c.self.inside.list.items _ _ c.if-id-eq0.false w.in-Some.ensures.item.3.0 (ap (λ x. record (account_of x) { enabled = c.args.enabled }) w.in-Some.ensures.value))
      | in_default w ↦ rw (w.self-inside-is, ← c.self.view_is) (unchanged_at account_of (λ x. record x { enabled = c.args.enabled }) c.args.id c.self.inside.list.items c.if-id-eq0.false w.in_default.ensures.item.0)
    ]
