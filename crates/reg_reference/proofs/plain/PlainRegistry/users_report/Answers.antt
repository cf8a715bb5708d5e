use Rattle.reg_reference.proofs.Words.{map, ap, ◌∙◌, ◌++◌, enumerate_from, flat_map}
use Rattle.reg_model.specs.Reports.{user_line, users_text}
use Rattle.reg_reference_lists.specs.Accounts.{account_of}
use Rattle.reg_reference.proofs.plain.PlainRegistry.users_report.Goals as goal

pub returns : goal.returns
unfolding users_text
returns c =
    c.in_ok-push_users.ensures ∙ ap (λ t. t ++ flat_map user_line (enumerate_from 1 (map account_of c.as_slice.result.now))) c.new-report.ensures.bytes ∙ ap (λ accounts. flat_map user_line (enumerate_from 1 accounts)) c.as_slice.ensures.accounts
