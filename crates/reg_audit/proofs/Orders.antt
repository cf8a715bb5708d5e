-- The first check of a list that fails.
use Rattle.reg_audit.proofs.Words.{◌≡◌, List, [], ◌∷◌, ◌++◌, Option, None, Some, true, inl, inr, is_some, AllRows, IsFirstOf}
use Rattle.sqlite.specs.Tree.{Trees}
use Rattle.reg_audit.specs.declared.check.Check.{Check}

pub first_in : (cs ds : List Check) (it : AllRows) (db : Trees) (c : Check) → IsFirstOf cs it db (Some c) → IsFirstOf (cs ++ ds) it db (Some c)
first_in [] ds it db c h = absurd cc
first_in (d ∷ rest) ds it db c (inl (passes, h)) = inl (passes, first_in rest ds it db c h)
first_in (d ∷ rest) ds it db c (inr h) = inr h

pub first_then : (cs ds : List Check) (it : AllRows) (db : Trees) (found : Option Check) → IsFirstOf cs it db None → IsFirstOf ds it db found → IsFirstOf (cs ++ ds) it db found
first_then [] ds it db found none h = h
first_then (d ∷ rest) ds it db found (inl (passes, none)) h = inl (passes, first_then rest ds it db found none h)
first_then (d ∷ rest) ds it db found (inr (fails, none)) h = absurd cc

pub first_in_some : (cs ds : List Check) (it : AllRows) (db : Trees) (found : Option Check) → is_some found ≡ true → IsFirstOf cs it db found → IsFirstOf (cs ++ ds) it db found
first_in_some cs ds it db None there h = absurd cc
first_in_some cs ds it db (Some c) there h = first_in cs ds it db c h
