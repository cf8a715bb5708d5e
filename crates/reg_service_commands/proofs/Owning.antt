-- Owners, readers and restrictions of a crate that was found, changed by a command.
use Rattle.reg_service_commands.proofs.Words.{◌≡◌, ◌∷◌, [], ◌||◌, ◌&&◌, not, ℕ, Bool, true, false, Option, Some, None, refl, sym, ap, subst}
use Rattle.reg_service_commands.proofs.Words.{◌∙◌, Trees, Limits, canon, is_name, AdminRefusal, exists, replied, Done, Refused, OwnerAdd}
use Rattle.reg_service_commands.proofs.Words.{ReaderAdd, ReaderRemove, Order, Registry, Text, id_of_login, Crate, Stands, unwrap_or}
use Rattle.reg_service_commands.proofs.Words.{cons_option, FindsNamed, named_there, FindsPair, HasOutcome, first_ground, restricting}
use Rattle.std.specs.FinSet as finset
use Rattle.std.specs.FinSet.{FinSet}
use Rattle.std.specs.Ordering.{eq_by_cmp}
use Rattle.reg_model.specs.declared.rule.AdminRefusal.TheVariants as refusal
use Rattle.reg_model.specs.Effects.{commanded, owners_of}
use Rattle.reg_model.specs.Refusals.{refused}
use Rattle.reg_model.specs.Registry.{Owner, owner_cmp}
use Rattle.reg_model.proofs.Keys.{owner_apart, owner_total}
use Rattle.reg_tables_represent.specs.Calls.{AddsOwner, AddsReader, RemovesReader, Restricts}
use Rattle.reg_tables_represent.specs.Changes.{insert_at, mark_in, remove_at}
use Rattle.std.specs.Prelude.{Ok, Err}
use Rattle.reg_service_commands.proofs.Named.{paired}
use Rattle.reg_service_commands.proofs.Outcomes.{done_so, refused_so}

or_none : (a b : Bool) → (a || b) ≡ (b || (a || false))
or_none true true = refl
or_none true false = refl
or_none false true = refl
or_none false false = refl

-- one more in a set is the union with a set of one
union_one : (held : FinSet owner_cmp) (o : Owner) → finset.union held (finset.from_list (o ∷ [])) ≡ finset.insert held o
union_one held o = finset.same_set owner_total owner_apart (finset.union held (finset.from_list (o ∷ []))) (finset.insert held o) (λ q.
    finset.contains-union owner_total held (finset.from_list (o ∷ [])) q
    ∙ ap (λ b. finset.contains held q || b) (finset.contains-insert owner_total (finset.from_list []) o q ∙ ap (λ b. eq_by_cmp owner_cmp q o || b) (finset.contains-empty owner_cmp q))
    ∙ sym (or_none (eq_by_cmp owner_cmp q o) (finset.contains held q)) ∙ sym (finset.contains-insert owner_total held o q))

owner_added : (s : Registry) (name login n : Text) (account : ℕ) (o : Option Text) → o ≡ Some n → canon n ≡ canon name → id_of_login s login ≡ Some account → record s { owners = insert_at o account s.owners } ≡ commanded s (OwnerAdd name login)
unfolding commanded
owner_added s name login n account o at same has =
    ap (λ it. record s { owners = insert_at it account s.owners }) at
    ∙ ap (λ c. record s { owners = finset.insert s.owners (c, account) }) same
    ∙ ap (λ set. record s { owners = set }) (sym (union_one s.owners (canon name, account)))
    ∙ ap (λ it. record s { owners = finset.union s.owners (owners_of name (cons_option it [])) }) (sym has)

reader_added : (s : Registry) (name login n : Text) (account : ℕ) (o : Option Text) → o ≡ Some n → canon n ≡ canon name → id_of_login s login ≡ Some account → record s { readers = insert_at o account s.readers } ≡ commanded s (ReaderAdd name login)
unfolding commanded
reader_added s name login n account o at same has =
    ap (λ it. record s { readers = insert_at it account s.readers }) at
    ∙ ap (λ c. record s { readers = finset.insert s.readers (c, account) }) same
    ∙ ap (λ it. record s { readers = finset.insert s.readers (canon name, unwrap_or it 0) }) (sym has)

reader_removed : (s : Registry) (name login n : Text) (account : ℕ) (o : Option Text) → o ≡ Some n → canon n ≡ canon name → id_of_login s login ≡ Some account → record s { readers = remove_at o account s.readers } ≡ commanded s (ReaderRemove name login)
unfolding commanded
reader_removed s name login n account o at same has =
    ap (λ it. record s { readers = remove_at it account s.readers }) at
    ∙ ap (λ c. record s { readers = finset.remove s.readers (c, account) }) same
    ∙ ap (λ it. record s { readers = finset.remove s.readers (canon name, unwrap_or it 0) }) (sym has)

module _ (limits : Limits) (name login : Text) where
  -- a pair that is not found refuses each of the three
  pub owner_refused : (g : AdminRefusal) (db : Trees) → FindsPair name login db (Err g) → HasOutcome limits (Order (OwnerAdd name login)) (Refused g) db db
  unfolding refused
  owner_refused g db why = refused_so limits (OwnerAdd name login) g db (λ ids s h. why ids s h)

  pub add_refused : (g : AdminRefusal) (db : Trees) → FindsPair name login db (Err g) → HasOutcome limits (Order (ReaderAdd name login)) (Refused g) db db
  unfolding refused
  add_refused g db why = refused_so limits (ReaderAdd name login) g db (λ ids s h. why ids s h)

  pub remove_refused : (g : AdminRefusal) (db : Trees) → FindsPair name login db (Err g) → HasOutcome limits (Order (ReaderRemove name login)) (Refused g) db db
  unfolding refused
  remove_refused g db why = refused_so limits (ReaderRemove name login) g db (λ ids s h. why ids s h)

  module _ (c : Crate) (account : ℕ) (old new : Trees) (finds : FindsPair name login old (Ok (c, account))) where
    pub owner_done : AddsOwner c.id account old new → HasOutcome limits (Order (OwnerAdd name login)) Done old new
    unfolding refused
    owner_done adds = done_so limits (OwnerAdd name login) Done old new (λ ids s h.
        let it = finds ids s h in
        let (n, at, same) = it.0.1 in
        (paired s name login account it.0.0 it.1, refl, subst (λ t. Stands t new) (owner_added s name login n account _ at same it.1) (ids, adds ids s h)))

    pub reader_done : AddsReader c.id account old new → HasOutcome limits (Order (ReaderAdd name login)) Done old new
    unfolding refused
    reader_done adds = done_so limits (ReaderAdd name login) Done old new (λ ids s h.
        let it = finds ids s h in
        let (n, at, same) = it.0.1 in
        (paired s name login account it.0.0 it.1, refl, subst (λ t. Stands t new) (reader_added s name login n account _ at same it.1) (ids, adds ids s h)))

    pub unreader_done : RemovesReader c.id account old new → HasOutcome limits (Order (ReaderRemove name login)) Done old new
    unfolding refused
    unreader_done removes = done_so limits (ReaderRemove name login) Done old new (λ ids s h.
        let it = finds ids s h in
        let (n, at, same) = it.0.1 in
        (paired s name login account it.0.0 it.1, refl, subst (λ t. Stands t new) (reader_removed s name login n account _ at same it.1) (ids, removes ids s h)))

-- a crate is restricted or opened
ground_of : (limits : Limits) (b : Bool) (s : Registry) (name : Text) → refused limits s (restricting b name) ≡ first_ground ((refusal.G8, not (is_name name && exists s name)) ∷ [])
unfolding refused
ground_of limits true s name = refl
ground_of limits false s name = refl

told_done : (b : Bool) (s : Registry) (name : Text) → Done ≡ replied s (restricting b name)
told_done true s name = refl
told_done false s name = refl

restricted_so : (b : Bool) (s : Registry) (name n : Text) (o : Option Text) → o ≡ Some n → canon n ≡ canon name → record s { restricted = mark_in o b s.restricted } ≡ commanded s (restricting b name)
unfolding commanded
restricted_so true s name n o at same =
    ap (λ it. record s { restricted = mark_in it true s.restricted }) at ∙ ap (λ c. record s { restricted = finset.insert s.restricted c }) same
restricted_so false s name n o at same =
    ap (λ it. record s { restricted = mark_in it false s.restricted }) at ∙ ap (λ c. record s { restricted = finset.remove s.restricted c }) same

pub restrict_refused : (limits : Limits) (b : Bool) (name : Text) (db : Trees) → FindsNamed name db None → HasOutcome limits (Order (restricting b name)) (Refused refusal.G8) db db
restrict_refused limits b name db none = refused_so limits (restricting b name) refusal.G8 db (λ ids s h. ground_of limits b s name ∙ ap (λ it. first_ground ((refusal.G8, not it) ∷ [])) (none ids s h))

pub restrict_done : (limits : Limits) (b : Bool) (name : Text) (c : Crate) (old new : Trees) → FindsNamed name old (Some c) → Restricts b c.id old new → HasOutcome limits (Order (restricting b name)) Done old new
restrict_done limits b name c old new is sets = done_so limits (restricting b name) Done old new (λ ids s h.
    let it = named_there name old c is ids s h in
    let (n, at, same) = it.1 in
    (ground_of limits b s name ∙ ap (λ there. first_ground ((refusal.G8, not there) ∷ [])) it.0, told_done b s name, subst (λ t. Stands t new) (restricted_so b s name n _ at same) (ids, sets ids s h)))
