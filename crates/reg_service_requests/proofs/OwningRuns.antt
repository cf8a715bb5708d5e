-- Owners that are changed one after another, and logins that are asked for so, within a transaction.
use Rattle.reg_service_requests.proofs.Words.{◌≡◌, ℕ, ◌+◌, ◌<◌, ◌++◌, ◌∷◌, [], List, Bool, false, arith, Some, None, Ok, Err, Result}
use Rattle.reg_service_requests.proofs.Words.{length, take, drop, get_or, subst, Vec, Global, Trees, Ghosts, Text, id_of_login}
use Rattle.reg_service_requests.proofs.Words.{is_known, Tells, StoreFault, Work, rows_seen, called_ok, asks_made, asks_nothing}
use Rattle.reg_service_requests.proofs.Words.{FindsAllKnown, FindsKnown, SetsOwner, SetsSome, Updates, runs_failed, runs_nothing}
use Rattle.std.proofs.Common.{IsErr, String, string_bytes}
use Rattle.sqlite.specs.State.{HasCleanDisk}
use Rattle.reg_tables.specs.Works.{IsActive, KeepsFrame, has_failed, seen}
use Rattle.reg_tables.specs.Calling.{Queries}
use Rattle.reg_access.proofs.Calls.{then_called}
use Rattle.reg_access.proofs.Questions.{asks_after, asks_both, asks_failed, asks_refused}
use Rattle.reg_service_requests.specs.Owning.{SetsOwners}
use Rattle.reg_service_requests.proofs.OwningIds.{IsSoFar, so_far_all, so_far_ends, so_far_more, so_far_none, texts_of}
use Rattle.reg_service_requests.proofs.OwningSets.{sets_more, sets_none}

module _ {S : Type 0} (g : Ghosts S) where
  -- the first so many are owners, or no longer
  abbrev pub AreSet : Bool → ℕ → List ℕ → ℕ → Work S → Work S → Type 0
  AreSet are id all i old new = Updates {T = Unit {0}} {E = StoreFault} g old new (Ok tt) (λ before after it. SetsSome are id all (take i all) before after)

  module _ (are : Bool) (id : ℕ) (all : List ℕ) (a : Work S) where
    pub none_set : has_failed a ≡ false → IsActive g a → AreSet are id all 0 a a
    none_set on at = runs_nothing g tt a on at (sets_none are id all (rows_seen g a))

    module _ (i : ℕ) (b c : Work S) (so : AreSet are id all i a b) where
      pub more_set : {T E : Type 0} (x : T) → i < length all → KeepsFrame {E = E} g (Ok x) b c → (HasCleanDisk (seen g c) → SetsOwner are id (get_or all i 0) (rows_seen g b) (rows_seen g c)) → AreSet are id all (i + 1) a c
      more_set x below call one = record {
        told = λ clean. let early : HasCleanDisk (seen g b) = omega (arith, clean, call.survives.clean) in sets_more are id all i (rows_seen g a) (rows_seen g b) (rows_seen g c) below (so.told early) (one clean);
        leaves = called_ok g x tt a c (then_called g tt (Ok x) a b c so.leaves call);
      }

      pub set_fails : {T U E F : Type 0} {Q : Trees → Trees → U → Type 0} (e : E) (r : Result U F) → IsErr r → KeepsFrame {T = T} g (Err e) b c → Updates g a c r Q
      set_fails e r is call = runs_failed g e r a c is (then_called g tt (Err e) a b c so.leaves call)

    pub all_set : (i : ℕ) (b : Work S) → take i all ≡ all → AreSet are id all i a b → Updates {T = Unit {0}} {E = StoreFault} g a b (Ok tt) (λ before after it. SetsOwners are id all before after)
    all_set i b is so = subst (λ some. Updates {T = Unit {0}} {E = StoreFault} g a b (Ok tt) (λ before after it. SetsSome are id all some before after)) is so

  -- ids were found for the logins before these
  abbrev pub AreFound : List Text → List Text → List ℕ → Work S → Work S → Type 0
  AreFound all rest ids old new = Queries {T = List ℕ} {E = StoreFault} g old new (Ok ids) (λ db found. Tells (λ _ s. IsSoFar (is_known s) (id_of_login s) all rest found) db)

  module _ (texts : List (String Global)) (a : Work S) where
    pub none_found : has_failed a ≡ false → IsActive g a → AreFound (texts_of texts) (texts_of texts) [] a a
    none_found on at = asks_nothing g [] a on at (λ ids s h. so_far_none (is_known s) (id_of_login s) (texts_of texts))

    module _ (i : ℕ) (d : String Global) (found : List ℕ) (b c : Work S) (below : i < length texts) (so : AreFound (texts_of texts) (texts_of (drop i texts)) found a b) where
      pub more_found : {E : Type 0} (id : ℕ) → Queries {E = E} g b c (Ok (Some id)) (FindsKnown (string_bytes (get_or texts i d))) → AreFound (texts_of texts) (texts_of (drop (i + 1) texts)) (found ++ id ∷ []) a c
      more_found id one = asks_made g (found, Some id) (found ++ id ∷ []) a c
          (λ both ids s h. so_far_more (is_known s) (id_of_login s) texts i d below found (both.0 ids s h) id (both.1 ids s h))
          (asks_both g {Q = FindsKnown (string_bytes (get_or texts i d))} found (Some id) a b c so one)

      pub one_unknown : {E F : Type 0} → Queries {E = E} g b c (Ok None) (FindsKnown (string_bytes (get_or texts i d))) → Queries {E = F} g a c (Ok None) (FindsAllKnown (texts_of texts))
      one_unknown one = asks_made g (found, None) None a c
          (λ both ids s h. so_far_ends (is_known s) (id_of_login s) texts i d below found (both.0 ids s h) (both.1 ids s h))
          (asks_both g {Q = FindsKnown (string_bytes (get_or texts i d))} found None a b c so one)

    module _ (i : ℕ) (found : List ℕ) (b c : Work S) (so : AreFound (texts_of texts) (texts_of (drop i texts)) found a b) where
      pub finding_fails : {T U E F : Type 0} {P : Trees → T → Type 0} {Q : Trees → U → Type 0} (e : E) (r : Result U F) → IsErr r → Queries g b c (Err e) P → Queries g a c r Q
      finding_fails {P} {Q} e r is one = asks_after g {Q = Q} found r a b c so (asks_failed g {P = P} e r b c is one)

      pub room_fails : {T U E F : Type 0} {P : Trees → T → Type 0} {Q : Trees → U → Type 0} (x : T) (d : Work S) (r : Result U F) → IsErr r → Queries {E = E} g b c (Ok x) P → KeepsFrame g r c d → Queries g a d r Q
      room_fails {Q} x d r is one call = asks_after g {Q = Q} found r a b d so (asks_refused g {Q = Q} x r b c d is one call)

    pub all_found : {F : Type 0} (ids : Vec ℕ Global) (b : Work S) (rest : List (String Global)) → rest ≡ [] → AreFound (texts_of texts) (texts_of rest) ids.items a b → Queries {E = F} g a b (Ok (Some ids)) (FindsAllKnown (texts_of texts))
    all_found ids b rest is so = asks_made g ids.items (Some ids) a b (λ found it s h. so_far_all (is_known s) (id_of_login s) (texts_of texts) ids.items (subst (λ r. IsSoFar (is_known s) (id_of_login s) (texts_of texts) (texts_of r) ids.items) is (found it s h))) so
