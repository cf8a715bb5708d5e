-- An account's id is one more than its place.
use Rattle.reg_reference_lists.proofs.Words.{◌+◌, ◌∙◌, ap, sym, option_map, bytes_eq, account_of}
use Rattle.reg_reference_lists.proofs.Listed.{place_map}
use Rattle.reg_reference_lists.proofs.accounts.Accounts.id_of.Goals as goal

pub returns-in-Some : goal.returns-in-Some
returns-in-Some c = rw (← c.self.view_is, ← c.deref.ensures.value) (ap (option_map (λ i. i + 1)) c.in-Some.ensures ∙ sym (place_map (λ a. bytes_eq a.login c.args.login.now) account_of c.deref.result.now))

pub returns-in-None : goal.returns-in-None
returns-in-None c = rw (← c.self.view_is, ← c.deref.ensures.value) (ap (option_map (λ i. i + 1)) c.in-None.ensures ∙ sym (place_map (λ a. bytes_eq a.login c.args.login.now) account_of c.deref.result.now))
