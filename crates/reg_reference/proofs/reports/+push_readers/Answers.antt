use Rattle.reg_reference.proofs.Words.{◌+◌, ◌++◌, map, sym, ap, ◌∙◌, enumerate_from, filter, flat_map, string_bytes, reader_line}
use Rattle.std.specs.FinSet as set
use Rattle.reg_reference_lists.specs.Accounts.{account_of}
use Rattle.reg_reference.proofs.ReportTexts.{more_lines, on_ok}
use Rattle.reg_reference.proofs.reports.+push_readers.Goals as goal

pub returns-in_ok-push_if_reader-in-Some : goal.returns-in_ok-push_if_reader-in-Some
returns-in_ok-push_if_reader-in-Some t c =
    on_ok c.push_readers.result c.push_readers.ensures (λ e.
    more_lines (λ r. reader_line r.1.login) (λ o. set.contains c.args.readers.now (c.args.crate_text.now, o.0)) (c.args.before + 1, account_of c.in-Some.account.now) (enumerate_from (c.args.before + 1 + 1) (map account_of c.in-Some.more.now)) _ _ _ c.in_ok-push_if_reader-in-Some.ensures e
    ∙ ap (λ l. string_bytes c.args.report.now ++ flat_map (λ r. reader_line r.1.login) (filter (λ o. set.contains c.args.readers.now (c.args.crate_text.now, o.0)) (enumerate_from (c.args.before + 1) (map account_of l)))) (sym c.in-Some.ensures.cases.0))
