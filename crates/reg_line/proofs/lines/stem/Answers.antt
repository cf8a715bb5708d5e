use Rattle.reg_line.proofs.Words.{◌≡◌, ◌++◌, codes, sym, ◌∙◌, subst, false, length, rules, ◌-◌, manifest_view, IsStem}
use Rattle.reg_line.proofs.Stems.{line-stem, stem_text, stem_text-IsStem, cut_end}
use Rattle.reg_line.proofs.lines.stem.Goals as goal

pub returns-clause-stem : goal.returns-clause-stem
returns-clause-stem c =
    let m = manifest_view c.args.manifest.now in
    let k = c.args.digest.now in
    let whole : c.in_ok-text.text.items ≡ stem_text m k ++ codes "false}" = c.in_ok-text.ensures.text ∙ line-stem m k false in
    let end : c.saturating_sub-end.result ≡ length c.in_ok-text.text.items - 6 = search rules in
    let kept : c.truncate.new.self.items ≡ stem_text m k = c.truncate.ensures.items ∙ cut_end (stem_text m k) c.in_ok-text.text.items (codes "false}") c.saturating_sub-end.result whole end in
    subst (IsStem m k) (sym kept) (stem_text-IsStem m k)
