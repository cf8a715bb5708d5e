-- A path is that of the name in lower case.
use Rattle.reg_names.proofs.Words.{◌≡◌, ◌++◌, ap, ◌∙◌, rules, sym, true, folder_of, is_name, lower, path_of}
use Rattle.reg_names.proofs.NameFacts.{lower-lower}
use Rattle.reg_names.proofs.path.index_path.Goals as goal

pub invariant_of-result : goal.invariant_of-result
invariant_of-result c =
    let n = c.args.name.now in
    let name : is_name (lower n) ≡ true = ap is_name (sym c.lower-name.ensures ∙ sym c.as_str.ensures.value) ∙ c.as_str.ensures.name in
    let path : c.push_str-2.new.self.bytes ≡ path_of n = search rules in
    (lower n, name, ap (λ t. folder_of t ++ t) (lower-lower n) ∙ sym path)
