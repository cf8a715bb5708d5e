-- A verdict on a request but publishing and adding owners looks at what is visible alone.
use Rattle.reg_model.proofs.Words.{◌≡◌, Bool, true, false, cond, None, refl, Limits, Action, Counts}
use Rattle.reg_model.specs.Actions.Action.{Read, Index, Download, ListOwners, Publish, Yank, Unyank, AddOwners, RemoveOwners}
use Rattle.reg_model.specs.Facts.{Access}
use Rattle.reg_model.specs.Rules.{verdict}

-- the facts of a crate that is visible; of another one none
abbrev pub masked : Access → Access
masked f = record f {
  first = cond f.is_visible f.first None;
  is_owner = cond f.is_visible f.is_owner false;
  is_reserved = false;
  has_version = cond f.is_visible f.has_version false;
  has_release = false;
}

abbrev pub masked_counts : Bool → Counts → Counts
masked_counts visible c = record {
  versions = 0;
  crates = 0;
  are_known = false;
  are_owners = cond visible c.are_owners false;
  are_all_owners = cond visible c.are_all_owners false;
}

abbrev pub LooksAtOne : Action → Type 0
LooksAtOne (Publish n v) = ⊥
LooksAtOne (AddOwners n logins) = ⊥
LooksAtOne _ = Unit {0}

module _ (limits : Limits) (f : Access) (c : Counts) where
  abbrev Same : Action → Bool → Type 0
  Same a b = verdict limits (record f { is_visible = b }) c a ≡ verdict limits (masked (record f { is_visible = b })) (masked_counts b c) a

  pub same_verdict : (a : Action) → LooksAtOne a → verdict limits f c a ≡ verdict limits (masked f) (masked_counts f.is_visible c) a
  unfolding verdict
  same_verdict Read ok = refl
  same_verdict (Index p) ok = elim f.is_visible as (Same (Index p)) [ true ↦ refl | false ↦ refl ]
  same_verdict (Download n v) ok = elim f.is_visible as (Same (Download n v)) [ true ↦ refl | false ↦ refl ]
  same_verdict (ListOwners n) ok = elim f.is_visible as (Same (ListOwners n)) [ true ↦ refl | false ↦ refl ]
  same_verdict (Publish n v) ok = absurd ok
  same_verdict (Yank n v) ok = elim f.is_visible as (Same (Yank n v)) [ true ↦ refl | false ↦ refl ]
  same_verdict (Unyank n v) ok = elim f.is_visible as (Same (Unyank n v)) [ true ↦ refl | false ↦ refl ]
  same_verdict (AddOwners n l) ok = absurd ok
  same_verdict (RemoveOwners n l) ok = elim f.is_visible as (Same (RemoveOwners n l)) [ true ↦ refl | false ↦ refl ]
