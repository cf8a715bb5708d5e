-- The owners of a crate, with some accounts or without them, one after another.
use Rattle.reg_service_requests.proofs.Words.{◌≡◌, ℕ, ◌+◌, ◌<◌, List, [], ◌∷◌, ◌++◌, Bool, true, false, Some, length, take, drop, get_or}
use Rattle.reg_service_requests.proofs.Words.{refl, sym, ap, subst, ◌∙◌, and_parts, take_more, ◌||◌, ◌&&◌, list_any, Trees, canon, Registry}
use Rattle.reg_service_requests.proofs.Words.{Text, Sound, list_any_map, not_true, true_not_false, StandsSoundBy, IdAssignment, StandsBy, spelling_at}
use Rattle.reg_service_requests.proofs.Words.{SetsOwner, SetsSome, with_owners}
use Rattle.std.proofs.lemmas.Bool.{and_from}
use Rattle.std.proofs.lemmas.List.{take-append-drop}
use Rattle.std.proofs.lemmas.List.Folds.{list_any-append}
use Rattle.std.specs.Prelude.{not, map}
use Rattle.std.specs.FinSet as finset
use Rattle.std.specs.FinSet.{FinSet}
use Rattle.std.specs.Ordering.{eq_by_cmp}
use Rattle.reg_model.specs.Effects.{owners_of}
use Rattle.reg_model.specs.Registry.{Owner, owner_cmp}
use Rattle.reg_model.proofs.Keys.{owner_apart, owner_total}
use Rattle.reg_model.proofs.Lists.{or_left, or_right, or_split}
use Rattle.reg_model.proofs.SoundParts as parts
use Rattle.reg_tables_represent.specs.Changes.{insert_at, remove_at}
use Rattle.reg_service_requests.specs.Owning.{owner_set_at, owners_set}

abbrev is_among : Text → List ℕ → Owner → Bool
is_among c accounts q = list_any (λ a. eq_by_cmp owner_cmp q (c, a)) accounts

abbrev in_set : Bool → Bool → Bool → Bool
in_set true held named = held || named
in_set false held named = held && not named

contains_set : (are : Bool) (n : Text) (accounts : List ℕ) (held : FinSet owner_cmp) (q : Owner) → finset.contains (owners_set are n accounts held) q ≡ in_set are (finset.contains held q) (is_among (canon n) accounts q)
contains_set are n accounts held q = by are
  where
    listed : finset.contains (owners_of n accounts) q ≡ is_among (canon n) accounts q
    listed = finset.contains-from_list owner_total (map (λ id. (canon n, id)) accounts) q ∙ list_any_map (eq_by_cmp owner_cmp q) (λ id. (canon n, id)) accounts

    by : (b : Bool) → finset.contains (owners_set b n accounts held) q ≡ in_set b (finset.contains held q) (is_among (canon n) accounts q)
    by true = finset.contains-union owner_total held (owners_of n accounts) q ∙ ap (λ b. finset.contains held q || b) listed
    by false = finset.contains-difference owner_total held (owners_of n accounts) q ∙ ap (λ b. finset.contains held q && not b) listed

set_none : (are : Bool) (n : Text) (held : FinSet owner_cmp) → owners_set are n [] held ≡ held
set_none are n held = finset.same_set owner_total owner_apart _ held (λ q. contains_set are n [] held q ∙ none are (finset.contains held q))
  where
    none : (b c : Bool) → in_set b c false ≡ c
    none true true = refl
    none true false = refl
    none false true = refl
    none false false = refl

-- one more
abbrev one_set : Bool → Owner → FinSet owner_cmp → FinSet owner_cmp
one_set true o held = finset.insert held o
one_set false o held = finset.remove held o

abbrev one_in : Bool → Bool → Bool → Bool
one_in true tied held = tied || held
one_in false tied held = not tied && held

contains_one : (are : Bool) (o : Owner) (held : FinSet owner_cmp) (q : Owner) → finset.contains (one_set are o held) q ≡ one_in are (eq_by_cmp owner_cmp q o) (finset.contains held q)
contains_one true o held q = finset.contains-insert owner_total held o q
contains_one false o held q = finset.contains-remove owner_total held o q

one_after : (are e h a : Bool) → one_in are e (in_set are h a) ≡ in_set are h (a || (e || false))
one_after true true true a = refl
one_after true true false true = refl
one_after true true false false = refl
one_after true false true a = refl
one_after true false false true = refl
one_after true false false false = refl
one_after false true true true = refl
one_after false true true false = refl
one_after false true false a = refl
one_after false false true true = refl
one_after false false true false = refl
one_after false false false a = refl

one_more : (are : Bool) (n : Text) (xs : List ℕ) (x : ℕ) (held : FinSet owner_cmp) → one_set are (canon n, x) (owners_set are n xs held) ≡ owners_set are n (xs ++ x ∷ []) held
one_more are n xs x held = finset.same_set owner_total owner_apart _ _ (λ q.
    contains_one are (canon n, x) (owners_set are n xs held) q ∙ ap (one_in are (eq_by_cmp owner_cmp q (canon n, x))) (contains_set are n xs held q)
    ∙ one_after are (eq_by_cmp owner_cmp q (canon n, x)) (finset.contains held q) (is_among (canon n) xs q)
    ∙ ap (in_set are (finset.contains held q)) (sym (list_any-append (λ a. eq_by_cmp owner_cmp q (canon n, a)) xs (x ∷ []))) ∙ sym (contains_set are n (xs ++ x ∷ []) held q))

owner_more : (are : Bool) (ids : IdAssignment) (id x : ℕ) (s : Registry) (n : Text) (xs : List ℕ) → spelling_at ids id ≡ Some n → owner_set_at are ids id x (with_owners are n xs s) ≡ with_owners are n (xs ++ x ∷ []) s
owner_more true ids id x s n xs at =
    ap (λ o. record s { owners = insert_at o x (owners_set true n xs s.owners) }) at ∙ ap (λ set. record s { owners = set }) (one_more true n xs x s.owners)
owner_more false ids id x s n xs at =
    ap (λ o. record s { owners = remove_at o x (owners_set false n xs s.owners) }) at ∙ ap (λ set. record s { owners = set }) (one_more false n xs x s.owners)

-- a registry that is sound before and after is so in between
some_sound : (are : Bool) (s : Registry) (n : Text) (all : List ℕ) (i : ℕ) → Sound s → Sound (with_owners are n all s) → Sound (with_owners are n (take i all) s)
some_sound are s n all i sound done = by are done
  where
    more : (q : Owner) → is_among (canon n) (take i all) q ≡ true → is_among (canon n) all q ≡ true
    more q h = let p : ℕ → Bool = λ a. eq_by_cmp owner_cmp q (canon n, a) in
        ap (list_any p) (sym (take-append-drop i all)) ∙ list_any-append p (take i all) (drop i all) ∙ or_left _ _ h

    is_not : (b : Bool) → not b ≡ true → b ≡ false
    is_not true h = cc
    is_not false h = refl

    by : (b : Bool) → Sound (with_owners b n all s) → Sound (with_owners b n (take i all) s)
    by true end = parts.with_owners s sound (owners_set true n (take i all) s.owners)
        (λ c h. let o = sound.owned c h in (o.0, contains_set true n (take i all) s.owners (c, o.0) ∙ or_left _ _ o.1))
        (λ c id h. end.owners c id (contains_set true n all s.owners (c, id) ∙ or_split _ _ (sym (contains_set true n (take i all) s.owners (c, id)) ∙ h) (λ k. or_left _ _ k) (λ k. or_right _ _ (more (c, id) k))))
    by false end = parts.with_owners s sound (owners_set false n (take i all) s.owners)
        (λ c h. let o = end.owned c h in
        let both = and_parts _ _ (sym (contains_set false n all s.owners (c, o.0)) ∙ o.1) in
        (o.0, contains_set false n (take i all) s.owners (c, o.0) ∙ and_from _ _ both.0 (ap not (not_true _ (λ k. true_not_false _ (more (c, o.0) k) (is_not _ both.1))))))
        (λ c id h. sound.owners c id (and_parts _ _ (sym (contains_set false n (take i all) s.owners (c, id)) ∙ h)).0)

pub sets_none : (are : Bool) (id : ℕ) (all : List ℕ) (db : Trees) → SetsSome are id all [] db db
sets_none are id all db ids s n h at sound = subst (λ t. StandsBy ids t db) (ap (λ set. record s { owners = set }) (sym (set_none are n s.owners))) h.stands

pub sets_more : (are : Bool) (id : ℕ) (all : List ℕ) (i : ℕ) (old mid new : Trees) → i < length all → SetsSome are id all (take i all) old mid → SetsOwner are id (get_or all i 0) mid new → SetsSome are id all (take (i + 1) all) old new
sets_more are id all i old mid new below some one ids s n h at sound =
    let held : StandsSoundBy ids (with_owners are n (take i all) s) mid = record { sound = some_sound are s n all i h.sound sound; stands = some ids s n h at sound } in
    subst (λ t. StandsBy ids t new) (owner_more are ids id (get_or all i 0) s n (take i all) at ∙ ap (λ xs. with_owners are n xs s) (sym (take_more all i 0 below))) (one ids (with_owners are n (take i all) s) held)
