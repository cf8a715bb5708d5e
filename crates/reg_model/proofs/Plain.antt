-- Where no crate is restricted, visibility changes nothing.
use Rattle.reg_model.proofs.Words.{◌≡◌, ℕ, Bool, true, false, Option, Some, None, refl, ◌∙◌, ap, not, ◌&&◌, ◌||◌, filter, canon, Text}
use Rattle.reg_model.proofs.Words.{Registry, holds, canons, exists, has_crate, is_among, is_restricted, owners, readers, sees, viewer}
use Rattle.reg_model.proofs.Words.{visible, Action, crate_of, occurs, Limits, Asked, AddOwners, Download, Malformed, Index, ListOwners, Publish}
use Rattle.reg_model.proofs.Words.{Read, RemoveOwners, Unyank, Yank, Config, Search, Ask, Found, action_of, fault_of, caller, served, or_else}
use Rattle.reg_model.proofs.Words.{outcome, unless_denied, length, map, take, unwrap_or}
use Rattle.reg_model.specs.Effects.{done}
use Rattle.reg_model.specs.Facts.{access_facts, counts}
use Rattle.reg_model.specs.Refusals.{denied}
use Rattle.reg_model.specs.Rules.{verdict}
use Rattle.reg_model.specs.Search.{found, hit, matches}
use Rattle.reg_model.specs.Plain.{plain_denied, plain_facts, plain_found, plain_matches, plain_outcome, plain_served}
use Rattle.reg_model.proofs.Canons.{filter_in, listed_there}

and_true : (b : Bool) → (b && true) ≡ b
and_true true = refl
and_true false = refl

module _ (s : Registry) (unrestricted : (n : Text) → is_restricted s n ≡ false) where
  pub sees_all : (who : Option ℕ) (n : Text) → sees s who n ≡ exists s n
  sees_all who n = ap (λ b. exists s n && (not b || holds (λ id. is_among (owners s n) id || is_among (readers s n) id) who)) (unrestricted n) ∙ and_true (exists s n)

  seen : (digest : Text) (o : Option Text) → holds (visible s digest) o ≡ holds (exists s) o
  seen digest None = refl
  seen digest (Some n) = sees_all (viewer s digest) n

  plain_facts_are : (digest : Text) (a : Action) → access_facts s digest a ≡ plain_facts s digest a
  unfolding access_facts
  plain_facts_are digest a = λ i. record (access_facts s digest a) { is_visible = seen digest (crate_of a) i }

  pub plain_denials : (limits : Limits) (digest : Option Text) (asked : Asked) → denied limits s digest asked ≡ plain_denied limits s digest asked
  unfolding denied
  plain_denials limits None asked = refl
  plain_denials limits (Some digest) asked = ap (λ f. or_else (verdict limits f (counts s (action_of asked)) (action_of asked)) (fault_of asked)) (plain_facts_are digest (action_of asked))

  plain_matches_are : (who : Option ℕ) (q : Text) → matches s who q ≡ plain_matches s q
  unfolding matches
  plain_matches_are who q = filter_in _ _ (canons s) (λ c i.
      let h = listed_there s c i in
      ap (λ b. b && occurs (canon q) c) (sees_all who c ∙ ap (has_crate s) h.1 ∙ h.0))

  pub plain_finds : (who : Option ℕ) (q : Text) (most : ℕ) → found s who q most ≡ plain_found s q most
  unfolding found
  plain_finds who q most = λ i. record {
    total = length (plain_matches_are who q i);
    crates = map (hit s) (take most (plain_matches_are who q i));
  }

  plain_serves : (who : Option ℕ) (asked : Asked) → served s who asked ≡ plain_served s asked
  plain_serves who (Malformed r) = refl
  plain_serves who (Read Config) = refl
  plain_serves who (Read (Search q most)) = ap Found (plain_finds who q most)
  plain_serves who (Index path) = refl
  plain_serves who (Download n v) = refl
  plain_serves who (ListOwners n) = refl
  plain_serves who (Publish p) = refl
  plain_serves who (Yank n v) = refl
  plain_serves who (Unyank n v) = refl
  plain_serves who (AddOwners n logins) = refl
  plain_serves who (RemoveOwners n logins) = refl

  pub plain_outcomes : (limits : Limits) (digest : Option Text) (asked : Asked) → outcome limits s (Ask digest asked) ≡ plain_outcome limits s digest asked
  plain_outcomes limits digest asked = λ i.
      unless_denied s (plain_denials limits digest asked i) (plain_serves (caller s digest) asked i, done s (unwrap_or (caller s digest) 0) asked)
