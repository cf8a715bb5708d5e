-- Publications only grow, and so do the stems of each crate.
use Rattle.reg_model.proofs.Words.{◌≡◌, List, [], ◌∷◌, ◌++◌, refl, ◌∙◌, ap, cond, Bool, true, false, filter, Limits, Text, Registry}
use Rattle.reg_model.proofs.Words.{Publication, collides, is_reserved_always, Asked, Command, Event, Answer, Malformed, Read, Index, Download}
use Rattle.reg_model.proofs.Words.{ListOwners, Publish, Yank, Unyank, AddOwners, RemoveOwners, UserAdd, UserDisable, UserEnable, TokenAdd}
use Rattle.reg_model.proofs.Words.{TokenRevoke, Reserve, Unreserve, OwnerAdd, Access, Users, Tokens, Crates, CrateRestrict, CrateOpen}
use Rattle.reg_model.proofs.Words.{ReaderAdd, ReaderRemove, Run}
use Rattle.std.proofs.Common.{append_assoc}
use Rattle.std.specs.Prelude.{map}
use Rattle.reg_model.specs.Crates.{stems}
use Rattle.reg_model.specs.Effects.{done, commanded}
use Rattle.reg_model.specs.Laws.{IsPrefix}
use Rattle.reg_model.proofs.Kept.{Kept, run_keeps}

nil_end : {X : Type 0} (xs : List X) → xs ≡ xs ++ []
nil_end [] = refl
nil_end (x ∷ xs) = ap (λ l. x ∷ l) (nil_end xs)

same_prefix : {X : Type 0} (xs : List X) → IsPrefix xs xs
same_prefix xs = ([], nil_end xs)

through : {X : Type 0} (xs ys zs : List X) → IsPrefix xs ys → IsPrefix ys zs → IsPrefix xs zs
through xs ys zs (r, e) (q, f) = (r ++ q, f ∙ ap (λ l. l ++ q) e ∙ append_assoc xs r q)

-- what is published in t begins with what is in s
abbrev Grows : Registry → Registry → Type 0
Grows s t = IsPrefix s.publications t.publications

done_grows : (s : Registry) (id : _) (asked : Asked) → Grows s (done s id asked)
unfolding done
done_grows s id (Publish p) = (_, refl)
done_grows s id (Yank n v) = same_prefix s.publications
done_grows s id (Unyank n v) = same_prefix s.publications
done_grows s id (AddOwners n l) = same_prefix s.publications
done_grows s id (RemoveOwners n l) = same_prefix s.publications
done_grows s id (Malformed q) = same_prefix s.publications
done_grows s id (Read w) = same_prefix s.publications
done_grows s id (Index p) = same_prefix s.publications
done_grows s id (Download n v) = same_prefix s.publications
done_grows s id (ListOwners n) = same_prefix s.publications

reserve_grows : (s t : Registry) (b : Bool) → Grows s t → Grows s (cond b s t)
reserve_grows s t true h = same_prefix s.publications
reserve_grows s t false h = h

commanded_grows : (s : Registry) (c : Command) → Grows s (commanded s c)
unfolding commanded
commanded_grows s (UserAdd l n) = same_prefix s.publications
commanded_grows s (UserDisable l) = same_prefix s.publications
commanded_grows s (UserEnable l) = same_prefix s.publications
commanded_grows s (TokenAdd l w p d) = same_prefix s.publications
commanded_grows s (TokenRevoke i) = same_prefix s.publications
commanded_grows s (Reserve n) = reserve_grows s _ (is_reserved_always _) (same_prefix s.publications)
commanded_grows s (Unreserve n) = same_prefix s.publications
commanded_grows s (OwnerAdd n l) = same_prefix s.publications
commanded_grows s (Access n) = same_prefix s.publications
commanded_grows s Users = same_prefix s.publications
commanded_grows s Tokens = same_prefix s.publications
commanded_grows s Crates = same_prefix s.publications
commanded_grows s (CrateRestrict n) = same_prefix s.publications
commanded_grows s (CrateOpen n) = same_prefix s.publications
commanded_grows s (ReaderAdd n l) = same_prefix s.publications
commanded_grows s (ReaderRemove n l) = same_prefix s.publications

kept : (limits : Limits) → Kept limits Grows
kept limits = record {
  same = λ s. same_prefix s.publications;
  through = λ s m t. through s.publications m.publications t.publications;
  by_request = λ s d asked fit allowed. done_grows s _ asked;
  by_command = λ s c fit allowed. commanded_grows s c;
}

filter-append : {X : Type 0} (p : X → Bool) (xs ys : List X) → filter p (xs ++ ys) ≡ filter p xs ++ filter p ys
filter-append p [] ys = refl
filter-append p (x ∷ xs) ys = elim (p x) as (λ b. cond b (x ∷ filter p (xs ++ ys)) (filter p (xs ++ ys)) ≡ cond b (x ∷ filter p xs) (filter p xs) ++ filter p ys) [ true ↦ ap (λ l. x ∷ l) (filter-append p xs ys) | false ↦ filter-append p xs ys ]

map-append : {X Y : Type 0} (f : X → Y) (xs ys : List X) → map f (xs ++ ys) ≡ map f xs ++ map f ys
map-append f [] ys = refl
map-append f (x ∷ xs) ys = ap (λ l. f x ∷ l) (map-append f xs ys)

stems_grow_by : (n : Text) (xs ys : List Publication) → IsPrefix xs ys → IsPrefix (map (λ p. p.stem) (filter (λ p. collides p.name n) xs)) (map (λ p. p.stem) (filter (λ p. collides p.name n) ys))
stems_grow_by n xs ys (r, e) = (map (λ p. p.stem) (filter (λ p. collides p.name n) r), ap (λ l. map (λ p. p.stem) (filter (λ p. collides p.name n) l)) e ∙ ap (map (λ p. p.stem)) (filter-append _ xs r) ∙ map-append _ _ _)

pub stems_grow : (limits : Limits) (s t : Registry) (es : List Event) (xs : List Answer) → Run limits s es xs t → (n : Text) → IsPrefix (stems s n) (stems t n)
stems_grow limits s t es xs run n = stems_grow_by n s.publications t.publications (run_keeps (kept limits) s t es xs run)
