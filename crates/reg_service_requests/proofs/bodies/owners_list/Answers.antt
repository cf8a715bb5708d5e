use Rattle.std.proofs.Common.{◌≡◌, ℕ, ◌+◌, ◌<◌, List, [], ◌∷◌, ◌++◌, map, length, take, get_or, arith, sym, ap, ◌∙◌}
use Rattle.std.proofs.lemmas.List.{map-append, take_more}
use Rattle.reg_service_steps.specs.Reads.{owner_of_account}
use Rattle.reg_service_requests.proofs.bodies.owners_list.Goals as goal

one_more : {X Y : Type 0} (f : X → Y) (xs : List X) (i : ℕ) (x : X) → i < length xs → x ≡ get_or xs i x → map f (take i xs) ++ f x ∷ [] ≡ map f (take (i + 1) xs)
one_more f xs i x lt is = sym (map-append f (take i xs) (x ∷ [])) ∙ ap (map f) (ap (λ y. take i xs ++ y ∷ []) is ∙ sym (take_more xs i x lt))

pub loop-owner-preserved : goal.loop-owner-preserved
loop-owner-preserved c =
    c.in_ok-push_owner.ensures ∙ ap (λ l. l ++ owner_of_account c.owner-item.result ∷ []) c.loop-owner.invariant
    ∙ one_more owner_of_account c.args.owners.now c.loop-owner.owner-index c.owner-item.result (omega arith) c.owner-item.is
