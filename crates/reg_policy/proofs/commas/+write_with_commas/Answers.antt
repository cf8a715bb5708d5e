use Rattle.std.proofs.Common.{◌≡◌, ℕ, ◌-◌, ◌≤◌, ◌++◌, ◌∙◌, List, [], ◌∷◌, length, get_or, map, drop, take, true, refl, ap, arith, append_assoc}
use Rattle.std.proofs.lemmas.Grind.{put_two}
use Rattle.std.proofs.lemmas.List.{take_all}
use Rattle.reg_model.specs.Reports.{with_commas}
use Rattle.reg_policy.proofs.commas.+write_with_commas.Goals as goal

before_more : {X : Type 0} (text : X → List ℕ) (words : List X) (x : X) → 2 ≤ length words → x ≡ get_or words 0 x
    → (text x ++ 44 ∷ []) ++ with_commas (map text (take (length words - 1) (drop 1 words))) ≡ with_commas (map text words)
before_more text [] x h e = absurd (omega arith)
before_more text (w ∷ []) x h e = absurd (omega arith)
before_more text (w ∷ v ∷ more) x h e =
    ap (λ rest. (text x ++ 44 ∷ []) ++ with_commas (map text rest)) (take_all (length (w ∷ v ∷ more) - 1) (v ∷ more) (omega arith))
    ∙ rw e (append_assoc (text w) (44 ∷ []) (with_commas (map text (v ∷ more))))

pub returns-in_ok-write-in-len1-up : goal.returns-in_ok-write-in-len1-up
returns-in_ok-write-in-len1-up g t c = λ plain ok.
    let first = c.in_ok-write-in-len1-up.ensures.writes plain (refl {a = true}) in
    put_two g.W.Write.write_str_gives _ _ _ _ _ _ first (c.write_with_commas.ensures first.plain ok)
    (rw c.text-in-len1-up.ensures (before_more g.T.Word.text c.args.words.now c.word-item.result c.in-len1-up.len_at_least c.word-item.is))
