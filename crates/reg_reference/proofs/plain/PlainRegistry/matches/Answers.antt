use Rattle.reg_reference.proofs.Words.{◌≡◌, ℕ, ◌+◌, List, [], ◌∷◌, ◌++◌, Bool, true, false, cond, length, map, take, sym, ◌∙◌, ap, arith}
use Rattle.reg_reference.proofs.Words.{Bor, ◌&&◌, filter, canon, Text, sees, occurs, registry_of}
use Rattle.std.proofs.Common.{◌<◌, get_or}
use Rattle.std.proofs.lemmas.List.{append-nil, map-append, take_more}
use Rattle.std.proofs.lemmas.List.Elements.{filter-append}
use Rattle.reg_reference.proofs.plain.PlainRegistry.matches.Goals as goal
use Rattle.reg_reference.proofs.plain.PlainRegistry.matches.Goals.{then-is_match+in_ok-push, else-is_match}

-- one more name, which matches or not
module _ (P : Text → Bool) (ns ms : List (Bor Text)) (k : ℕ) (n : Bor Text) (h : k < length ns) (here : n ≡ get_or ns k n) (was : map (λ n. n.now) ms ≡ filter P (map (λ n. n.now) (take k ns))) where
  abbrev before : List Text
  before = map (λ n. n.now) (take k ns)

  more : filter P before ++ cond (P n.now) (n.now ∷ []) [] ≡ filter P (map (λ n. n.now) (take (k + 1) ns))
  more =
      sym (filter-append P before (n.now ∷ []))
      ∙ ap (filter P) (sym (map-append (λ n. n.now) (take k ns) (n ∷ [])))
      ∙ ap (λ x. filter P (map (λ n. n.now) (take k ns ++ x ∷ []))) here
      ∙ ap (λ l. filter P (map (λ n. n.now) l)) (sym (take_more ns k n h))

  matched : P n.now ≡ true → map (λ n. n.now) (ms ++ n ∷ []) ≡ filter P (map (λ n. n.now) (take (k + 1) ns))
  matched is = map-append (λ n. n.now) ms (n ∷ []) ∙ (λ i. was i ++ cond (sym is i) (n.now ∷ []) []) ∙ more

  missed : P n.now ≡ false → map (λ n. n.now) ms ≡ filter P (map (λ n. n.now) (take (k + 1) ns))
  missed isnt = was ∙ sym (append-nil (filter P before)) ∙ (λ i. filter P before ++ cond (sym isnt i) (n.now ∷ []) []) ∙ more

pub loop-name-preserved : goal.loop-name-preserved
loop-name-preserved c =
    let P : Text → Bool = λ n. sees (registry_of c.args.self.now) c.args.viewer n && occurs c.args.query.now (canon n) in
    let h : c.loop-name.name-index < length c.args.names.now = omega arith in
    elim c.if-is_match.branch [
      | then-is_match+in_ok-push w ↦ (λ i. map (λ n. n.now) (w.matching-is i).items) ∙ ap (map (λ n. n.now)) w.in_ok-push.ensures.items ∙ matched P c.args.names.now _ c.loop-name.name-index c.name-item.result h c.name-item.is c.loop-name.invariant (sym c.is_match.ensures ∙ w.if-is_match.true)
      | else-is_match w ↦ (λ i. map (λ n. n.now) (w.matching-is i).items) ∙ missed P c.args.names.now _ c.loop-name.name-index c.name-item.result h c.name-item.is c.loop-name.invariant (sym c.is_match.ensures ∙ w.if-is_match.false)
    ]
