use Rattle.reg_names.proofs.Words.{◌≡◌, ◌∙◌, List, ℕ, sym, ap, subst, true, rules, is_name, lower, name_of, path_of}
use Rattle.reg_names.proofs.NameFacts.{name_of-name}
use Rattle.reg_names.proofs.path.named_by.Goals as goal

pub returns-then-is_its_path : goal.returns-then-is_its_path
returns-then-is_its_path c = λ n. (
  (λ e.
      let same : c.in_ok-name.name ≡ n = cc in
      let IsOf : List ℕ → Type 0 = λ t. (is_name t ≡ true) × (lower t ≡ t) × (path_of t ≡ c.args.path.now) in
      let is : is_name c.in_ok-name.name ≡ true = search rules in
      let low : lower c.in_ok-name.name ≡ c.in_ok-name.name = search rules in
      let path : path_of c.in_ok-name.name ≡ c.args.path.now = search rules in
      subst IsOf same (is, low, path)),
  λ p.
      let name : c.file_name.result.now ≡ n = c.file_name.ensures n p.0 p.2 ∙ p.1 in
      sym c.in_ok-name.was ∙ c.parse_name.ensures ∙ ap name_of name ∙ name_of-name n p.0,
)
