use Rattle.std.proofs.Common.{◌≡◌, ℕ, ◌+◌, ◌<◌, List, [], ◌∷◌, ◌++◌, length, take, get_or, arith, sym, ap, append-nil, ◌∙◌}
use Rattle.std.specs.List.{flat_map}
use Rattle.std.proofs.lemmas.Grind.{flat_map-append}
use Rattle.std.proofs.lemmas.List.{take_more}
use Rattle.reg_access.specs.Grants.{told_by}
use Rattle.reg_access.proofs.grants.grants_of.Goals as goal

one_more : {X Y : Type 0} (f : X → List Y) (xs : List X) (i : ℕ) (x : X) → i < length xs → x ≡ get_or xs i x → flat_map f (take i xs) ++ f x ≡ flat_map f (take (i + 1) xs)
one_more f xs i x lt is = sym (
    ap (flat_map f) (take_more xs i x lt) ∙ flat_map-append f (take i xs) (get_or xs i x ∷ [])
    ∙ ap (λ l. flat_map f (take i xs) ++ l) (append-nil (f (get_or xs i x)) ∙ ap f (sym is))
    )

pub loop-row-preserved : goal.loop-row-preserved
loop-row-preserved c =
    let of = told_by c.args.owners.now c.args.free in
    c.in_ok-add_of.ensures ∙ ap (λ l. l ++ of c.row-item.result) c.loop-row.invariant
    ∙ one_more of c.args.rows.now c.loop-row.row-index c.row-item.result (omega arith) c.row-item.is
