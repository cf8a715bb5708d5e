-- What a SELECT on our tables answers and leaves, from its text and its query alone.
use Rattle.reg_tables_schema.proofs.Words.{◌≡◌, inl, arith, ℕ, List, [], ◌∷◌, ◌++◌, map, Bool, true, false, cond, Ok, Err, Result, IfOk}
use Rattle.reg_tables_schema.proofs.Words.{refl, sym, ap, subst, ◌∙◌, flat_map, filter, IsPermutation, Row, Term, eval_all, Trees, inner}
use Rattle.reg_tables_schema.proofs.Words.{end, matches, IsSureAnswer, State, Survives, Error, IsPlain, survives_weaker, IsInsideWith}
use Rattle.reg_tables_schema.proofs.Words.{OnlyReads, Schema, HasCleanDisk}
use Rattle.std.proofs.Common.{IfErr}
use Rattle.std.specs.Prelude.{Vec}
use Rattle.std.specs.declared.alloc.Global.{Global}
use Rattle.sqlite.specs.Listing.{understood}
use Rattle.sqlite.specs.State.{CommitsShowing, Shown, FailsToQuery}
use Rattle.sqlite.proofs.Callers.{never_commits}
use Rattle.reg_tables_schema.specs.Statements.{IsReadable, MayRead}
use Rattle.reg_tables_schema.proofs.Queries.{plain, answers, maps_twice}
use Rattle.reg_tables_schema.proofs.ReadLemmas.{shown_unchanged, query_refused}

cons_one : {A B : Type 0} (b : Bool) (f : A → B) (x : A) (more : List B) (rest : List A) → more ≡ map f rest → cond b (f x ∷ []) [] ++ more ≡ map f (cond b (x ∷ rest) rest)
cons_one true f x more rest h = ap (λ ys. f x ∷ ys) h
cons_one false f x more rest h = h

-- the matches of one table are the rows that pass
pub matched : {A B : Type 0} (p : A → Bool) (f : A → B) (xs : List A) → flat_map (λ x. cond (p x) (f x ∷ []) []) xs ≡ map f (filter p xs)
matched p f [] = refl
matched p f (x ∷ xs) = cons_one (p x) f x (flat_map (λ y. cond (p y) (f y ∷ []) []) xs) (filter p xs) (matched p f xs)

-- the rows of one table that pass, in some order
pub of_table : (db : Trees) (params : Row) (tree : ℕ) (filters project : List Term) (rows : List Row) (test : Row → Bool) → matches db filters (inner tree end) (params ∷ []) ≡ map (λ r. params ∷ r ∷ []) (filter test (db tree))
    → IsSureAnswer (plain (inner tree end) filters project) db params rows → IsPermutation (map (λ r. eval_all project (params ∷ r ∷ [])) (filter test (db tree))) rows
of_table db params tree filters project rows test met h =
    let env = λ (r : Row). params ∷ r ∷ [] in
    subst (λ xs. IsPermutation xs rows) (ap (map (eval_all project)) met ∙ maps_twice env (eval_all project) (filter test (db tree))) (answers db params (inner tree end) filters project rows h)

-- a text that is understood by a schema may be read in a transaction of that schema
pub may_read : {schema : Schema} (text : List ℕ) → IsPlain (understood schema text) → (s : State) → (HasCleanDisk s → IsInsideWith schema s) → MayRead text s
may_read text bare s ready clean = let at = ready clean in record { is_open = at.is_open; inside = at.inside; plain = subst (λ k. IsPlain (understood k text)) (sym at.schema_is) bare }

module _ (text : List ℕ) (params : Row) (old new : State) where
  pub only_reads : (r : Result (Vec Row Global) Error) → IsReadable text old → IfOk r (λ rows. Shown text params old new rows.items) → IfErr r (FailsToQuery text params old new) → OnlyReads r old new
  only_reads (Err e) at ok err = (tt, query_refused text params old new at.plain e (inl err))
  only_reads (Ok rows) at ok err = (shown_unchanged text params old new at.plain rows.items ok, tt)

  pub reading_survives : MayRead text old → Survives old new (CommitsShowing text params old) → Survives old new (λ _. ⊥)
  reading_survives at s = survives_weaker old new _ _ (λ clean db. never_commits text params old db (at (omega (arith, s.clean))).plain) s
