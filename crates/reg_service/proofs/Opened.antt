-- A registry that was opened is the one that the store held.
use Rattle.reg_service.proofs.Words.{◌≡◌, ◌∙◌, arith, ℕ, inl, inr, false, length, refl, None, Some, Ok, Err, Result, IsTrue, ap, sym, subst}
use Rattle.reg_service.proofs.Words.{Database, Held, state, State, HasCleanDisk, Survives, Trees, survives_weaker, Ghosts, SchemaVersion, First}
use Rattle.reg_service.proofs.Words.{HasSchema, Second, Check, IsOurs, IsUndone, LeavesCommit, AreBegun, Tables, AreOurs, edition_in, shown, StandsIn}
use Rattle.reg_service.proofs.Words.{AreChecked, IsFirstFailing, MayBeUpgraded, tables_of, OpenFault, BadBase, Damaged, Storage, UnknownSchema}
use Rattle.std.proofs.Common.{IfErr, IfOk, List, [], ◌∷◌, drop, map}
use Rattle.sqlite.specs.Order.{Row}
use Rattle.sqlite.specs.declared.types.Value.{Value}
use Rattle.reg_tables_schema.specs.Tests.{shows}
use Rattle.reg_tables_sql.specs.Abouts.{about_places}
use Rattle.sqlite.specs.Schema.{Schema}
use Rattle.sqlite.specs.State.{IsLive, KeepsCommit}
use Rattle.sqlite.specs.Effect.{IsDatabase}
use Rattle.sqlite.proofs.StateLemmas.{survives_then}
use Rattle.reg_model.specs.Registry as model
use Rattle.reg_tables_schema.specs.Schema.{schema_of}
use Rattle.reg_tables_schema.proofs.MakeLemmas.{undone_keeps}
use Rattle.reg_tables_sql.specs.Abouts.{HasBase, LacksBase}
use Rattle.reg_check_sound.specs.Editions.{AreFound, EditionLaw, FoundLaw, StandsSoundAsBy, KeepsSchema}
use Rattle.reg_tables_represent.specs.Upgrades.{AreUpgraded, IsUpgraded}
use Rattle.reg_tables.proofs.Stopping.{leaves_last, one_schema}
use Rattle.reg_tables.specs.Ends.{LeavesLast}
use Rattle.reg_tables.specs.Works as works
use Rattle.reg_tables.specs.Works.{IsSame}
use Rattle.reg_service.specs.Registries.{Running}
use Rattle.reg_service.specs.Answered.{HoldsRegistry, StandsSoundAs}
use Rattle.reg_service.specs.Registries.{AreDamaged, AreOne, IsBrought, LeavesOpened, MayBecome}

-- tables of schema 2 are held as they are, and those of schema 1 upgraded
pub still_brought : (e : SchemaVersion) (old new : State) → e ≡ Second → new ≡ old → IsBrought e old new
still_brought First old new is same = absurd cc
still_brought Second old new is same = record {
  was_open = λ up. subst (λ (s : State). IsTrue s.is_open) same up;
  begun = λ up. ap (λ (s : State). s.now.trees) same;
  left = λ db l. inl (is, subst (λ (s : State). s.may_leave db) same l);
}

pub upgrade_brought : (e : SchemaVersion) (old new : State) → e ≡ First → IsUpgraded old new → LeavesCommit new → IsBrought e old new
upgrade_brought Second old new is up alone = absurd cc
upgrade_brought First old new is up alone = record {
  was_open = λ _. up.was_open;
  begun = λ _. (new.now, up.made, refl);
  left = λ db l. inr (refl, alone db l ∙ ap (λ (d : Database). d.trees) up.settled);
}

-- the checks change nothing
still_now : (e : SchemaVersion) (old mid : State) → HasCleanDisk old → HasCleanDisk mid → IsOurs e old → IsOurs e mid → KeepsCommit old mid → IsTrue mid.is_open → mid.now ≡ old.now
still_now e old mid early clean rests_old rests_mid kept was = (rests_mid clean was).settled ∙ kept.committed was ∙ sym (rests_old early (kept.was_open was)).settled

-- and so are those of before the checks
pub brought_before : (e : SchemaVersion) (old mid new : State) → HasCleanDisk mid → HasCleanDisk old → IsOurs e old → IsOurs e mid → KeepsCommit old mid → Survives old mid (λ _. ⊥) → IsBrought e mid new → IsBrought e old new
brought_before e old mid new clean early rests_old rests_mid kept survives b = record {
  was_open = λ up. kept.was_open (b.was_open up);
  begun = λ up.
      let was = b.was_open up in
      subst (λ (d : Database). AreBegun e d new.now.trees) (still_now e old mid early clean rests_old rests_mid kept was) (b.begun up);
  left = λ db l. elim (b.left db l) [
    | inl m ↦ elim (survives.crash clean db m.1) [ inl o ↦ inl (m.0, o) | inr none ↦ absurd none ]
    | inr last ↦ inr last
  ];
}

pub examined_brought : {S E : Type 0} (g : Ghosts S) (old mid : Tables S) (r : Result (Running S) E) → AreOurs g old → AreOurs g mid → edition_in mid ≡ edition_in old
    → (HasCleanDisk (shown g mid) → KeepsCommit (shown g old) (shown g mid)) → Survives (shown g old) (shown g mid) (λ _. ⊥)
    → IfOk r (λ x. HasCleanDisk (shown g (tables_of x)) → HasCleanDisk (shown g mid)) → IfOk r (λ x. HasCleanDisk (shown g (tables_of x)) → IsBrought (edition_in mid) (shown g mid) (shown g (tables_of x)))
    → IfOk r (λ x. HasCleanDisk (shown g (tables_of x)) → IsBrought (edition_in old) (shown g old) (shown g (tables_of x)))
examined_brought g old mid (Err f) rests_old rests_mid same kept survives early brought = tt
examined_brought g old mid (Ok x) rests_old rests_mid same kept survives early brought = λ clean.
    let still = early clean in
    let start : HasCleanDisk (shown g old) = omega (arith, still, survives.clean) in
    brought_before (edition_in old) (shown g old) (shown g mid) (shown g (tables_of x)) still start rests_old (subst (λ e. IsOurs e (shown g mid)) same rests_mid) (kept still) survives (subst (λ e. IsBrought e (shown g mid) (shown g (tables_of x))) same (brought clean))

then_undone : (a b c : State) → IsUndone a b → IsUndone b c → IsUndone a c
then_undone a b c one two = record {
  was_open = λ up. one.was_open (two.was_open up);
  undone = λ up. let was = (one.undone (two.was_open up)).1 in ((two.undone up).0 ∙ was, (two.undone up).1 ∙ was);
  autocommit = two.autocommit;
}

-- where nothing is in a transaction, a connection shows what was committed
still_undone : (e : SchemaVersion) (s : State) → IsOurs e s → s.in_transaction ≡ false → HasCleanDisk s → IsUndone s s
still_undone e s ours auto clean = record { was_open = λ up. up; undone = λ up. ((ours clean up).settled, refl); autocommit = auto }

-- an upgrade that failed leaves it so
pub upgrade_undone : {S : Type 0} (g : Ghosts S) (old new : Tables S) (back : Held S) → AreOurs g old → back ≡ works.held new → (HasCleanDisk (shown g new) → IsSame g old new)
    → (shown g old).in_transaction ≡ false → HasCleanDisk (state g back) → IsUndone (shown g old) (state g back)
upgrade_undone g old new back ours is same auto clean =
    let now = subst (λ h. HasCleanDisk (state g h)) is clean in
    subst (λ h. IsUndone (shown g old) (state g h)) (sym is) (elim (same now) [
      | inl kept ↦ subst (λ h. IsUndone (shown g old) (state g h)) (sym kept) (still_undone (edition_in old) (shown g old) ours auto (subst (λ h. HasCleanDisk (state g h)) kept now))
      | inr done ↦ done
    ])

-- and a stop what it could leave before, or the upgrade
pub upgrade_left : {S : Type 0} (g : Ghosts S) (old new : Tables S) (back : Held S) → edition_in old ≡ First → back ≡ works.held new → Survives (shown g old) (shown g new) (λ db. IsTrue (shown g old).is_open × AreUpgraded (shown g old).now db × HasSchema Second db)
    → Survives (shown g old) (state g back) (MayBecome (edition_in old) (shown g old))
upgrade_left g old new back first is survives =
    subst (λ h. Survives (shown g old) (state g h) (MayBecome (edition_in old) (shown g old))) (sym is) (survives_weaker (shown g old) (shown g new) _ _ (λ _ db it. (first, it.0, it.1, it.2)) survives)

-- what the checks and then the upgrade leave, where it failed
pub examined_undone : {S R : Type 0} (g : Ghosts S) (old mid : Tables S) (r : Result R (Held S × OpenFault))
    → (HasCleanDisk (shown g mid) → (shown g old).in_transaction ≡ false → IsUndone (shown g old) (shown g mid))
    → IfErr r (λ e. Survives (shown g mid) (state g e.0) (MayBecome (edition_in mid) (shown g mid)))
    → ((shown g mid).in_transaction ≡ false → IfErr r (λ e. HasCleanDisk (state g e.0) → IsUndone (shown g mid) (state g e.0)))
    → (shown g old).in_transaction ≡ false → IfErr r (λ e. HasCleanDisk (state g e.0) → IsUndone (shown g old) (state g e.0))
examined_undone g old mid (Ok x) rests survives undone auto = tt
examined_undone g old mid (Err e) rests survives undone auto = λ clean.
    let first = rests (omega (arith, clean, survives.clean)) auto in
    then_undone (shown g old) (shown g mid) (state g e.0) first (undone first.autocommit clean)

pub examined_left : {S R : Type 0} (g : Ghosts S) (old mid : Tables S) (r : Result R (Held S × OpenFault)) → AreOurs g old → AreOurs g mid → edition_in mid ≡ edition_in old
    → (HasCleanDisk (shown g mid) → KeepsCommit (shown g old) (shown g mid)) → Survives (shown g old) (shown g mid) (λ _. ⊥)
    → IfErr r (λ e. e.1 ≡ Storage) → IfErr r (λ e. Survives (shown g mid) (state g e.0) (MayBecome (edition_in mid) (shown g mid)))
    → IfErr r (λ e. Survives (shown g old) (state g e.0) (λ db. (e.1 ≡ Storage) × MayBecome (edition_in old) (shown g old) db))
examined_left g old mid (Ok x) rests_old rests_mid same kept one storage two = tt
examined_left g old mid (Err e) rests_old rests_mid same kept one storage two =
    survives_then (shown g old) (shown g mid) (state g e.0) _ _ (λ db. (e.1 ≡ Storage) × MayBecome (edition_in old) (shown g old) db) (λ _ db none. absurd none)
    (λ clean db it.
    let (first, was, made, has) = it in
    let still : HasCleanDisk (shown g mid) = omega (arith, clean, two.clean) in
    let start : HasCleanDisk (shown g old) = omega (arith, still, one.clean) in
    let now = still_now (edition_in old) (shown g old) (shown g mid) start still rests_old (subst (λ f. IsOurs f (shown g mid)) same rests_mid) (kept still) was in
    (storage, (sym same ∙ first, (kept still).was_open was, subst (λ (d : Database). AreUpgraded d db) now made, has)))
    one two

-- a crash leaves nothing new of what is handed back as it was
pub returned_left : {S : Type 0} (g : Ghosts S) (old : State) (new back : Held S) (P : Trees → Type 0) → back ≡ new → Survives old (state g new) (λ _. ⊥) → Survives old (state g back) P
returned_left g old new back P is survives =
    subst (λ h. Survives old (state g h) P) (sym is) (survives_weaker old (state g new) _ P (λ _ db none. absurd none) survives)

pub returned_undone : {S : Type 0} (g : Ghosts S) (old : State) (new back : Held S) → back ≡ new → (HasCleanDisk (state g new) → old.in_transaction ≡ false → IsUndone old (state g new)) → old.in_transaction ≡ false → HasCleanDisk (state g back) → IsUndone old (state g back)
returned_undone g old new back is undone auto clean = subst (λ h. IsUndone old (state g h)) (sym is) (undone (subst (λ h. HasCleanDisk (state g h)) is clean) auto)

-- while a connection is open, a crash leaves its last commit alone
abbrev pub Settles : {S : Type 0} → Ghosts S → Type 0
Settles {S} g = (h : Held S) → IsTrue (state g h).is_open → LeavesCommit (state g h)

pub itself_last : {S : Type 0} (g : Ghosts S) (conn : Held S) → Settles g → LeavesLast (state g conn) (state g conn)
itself_last g conn law up = inl (law conn up)

-- and so what is handed back leaves that commit alone, or the disk failed
pub handed_last : {S : Type 0} (g : Ghosts S) (conn back : Held S) (P : Trees → Type 0) → Settles g → IsUndone (state g conn) (state g back) → Survives (state g conn) (state g back) P
    → HasCleanDisk (state g back) → LeavesLast (state g conn) (state g back)
handed_last g conn back P law undone survives clean = leaves_last (state g conn) (state g back) P (law back) (undone_keeps (state g conn) (state g back) undone) survives clean

-- the schemas differ
fewer : ◌≡◌ {A = ℕ} 10 12 → ⊥
fewer e = absurd cc

abbrev tables_in : Schema → ℕ
tables_in s = length s.tables

one_edition : (e f : SchemaVersion) → schema_of e ≡ schema_of f → e ≡ f
one_edition First First h = refl
one_edition Second Second h = refl
one_edition First Second h = absurd (fewer (ap tables_in h))
one_edition Second First h = absurd (fewer (sym (ap tables_in h)))

-- a row of two columns behind its rowid shows both
two_shown : (rows : List Row) (a b : Value) → map (drop 1) rows ≡ (a ∷ b ∷ []) ∷ [] → map (shows about_places) rows ≡ (a ∷ b ∷ []) ∷ []
two_shown [] a b is = absurd cc
two_shown ([] ∷ more) a b is = absurd cc
two_shown ((x ∷ []) ∷ more) a b is = absurd cc
two_shown ((x ∷ y ∷ []) ∷ more) a b is = absurd cc
two_shown ((x ∷ y ∷ z ∷ w ∷ row) ∷ more) a b is = absurd cc
two_shown ((x ∷ y ∷ z ∷ []) ∷ r ∷ more) a b is = absurd cc
two_shown ((x ∷ y ∷ z ∷ []) ∷ []) a b is = is

-- so the rows of a registry tell their schema
has_base : (e : SchemaVersion) (s : model.Registry) (db : Trees) → StandsSoundAs e s db → LacksBase e db → ⊥
has_base First s db are lacks = lacks s.base (two_shown _ _ _ are.1.1.about)
has_base Second s db are lacks = lacks s.base (two_shown _ _ _ are.1.stands.about)

not_none : {c : Check} → Some c ≡ None → ⊥
not_none e = absurd cc

-- the tables that were taken over, and what they were found to be
pub record IsTaken {S : Type 0} (g : Ghosts S) (conn : Held S) (t : Tables S) : Type 0 where
  pub schema : (state g conn).now.schema ≡ schema_of (edition_in t)
  pub found : HasCleanDisk (shown g t) → IsTrue (shown g t).is_open → (shown g t).now ≡ (state g conn).now
  pub about : HasCleanDisk (shown g t) → HasBase (edition_in t) (state g conn).now.trees
  pub rests : HasCleanDisk (shown g t) → IsUndone (state g conn) (shown g t)
  pub keeps : IsTrue (state g conn).is_open → KeepsSchema (state g conn).now

pub is_taken : {S : Type 0} (g : Ghosts S) (conn : Held S) (t : Tables S) → (state g conn).now.schema ≡ schema_of (edition_in t) → (HasCleanDisk (shown g t) → IsTrue (shown g t).is_open → (shown g t).now ≡ (state g conn).now)
    → (HasCleanDisk (shown g t) → HasBase (edition_in t) (state g conn).now.trees) → (HasCleanDisk (shown g t) → IsUndone (state g conn) (shown g t)) → (IsTrue (state g conn).is_open → KeepsSchema (state g conn).now) → IsTaken g conn t
is_taken g conn t schema found about rests keeps = record { schema = schema; found = found; about = about; rests = rests; keeps = keeps }

module _ {S : Type 0} (g : Ghosts S) (conn : Held S) (t : Tables S) (k : IsTaken g conn t) where
  abbrev now : Database
  now = (state g conn).now

  are_found : HasCleanDisk (shown g t) → IsTrue (shown g t).is_open → AreFound (edition_in t) now
  are_found clean up = record {
    schema = k.schema;
    keeps = k.keeps ((k.rests clean).was_open up);
    about = k.about clean;
  }

  -- what is held are the rows that a transaction on what was found begins with
  module _ (law : EditionLaw) (x : Running S) (early : HasCleanDisk (shown g (tables_of x)) → HasCleanDisk (shown g t)) (brought : HasCleanDisk (shown g (tables_of x)) → IsBrought (edition_in t) (shown g t) (shown g (tables_of x))) where
    abbrev held : State
    held = shown g (tables_of x)

    held_by : HasCleanDisk held → IsTrue held.is_open → (ids : _) (s : model.Registry) → StandsSoundAsBy (edition_in t) ids s now.trees → StandsSoundAsBy Second ids s held.now.trees
    held_by clean up ids s =
        let b = brought clean in
        let was = b.was_open up in
        let begun = subst (λ (d : Database). AreBegun (edition_in t) d held.now.trees) (k.found (early clean) was) (b.begun up) in
        (law (edition_in t) now held.now.trees (are_found (early clean) was) begun ids s).0

    held_same : IsLive (state g conn) → HasCleanDisk held → (s : model.Registry) → HoldsRegistry s now.trees → StandsIn s held
    held_same live clean s (e, has, are) up =
        let is = one_schema e now has (live ((k.rests (early clean)).was_open ((brought clean).was_open up))).0 in
        let same = one_edition e (edition_in t) (sym is ∙ k.schema) in
        (are.0, held_by clean up are.0 s (subst (λ f. StandsSoundAsBy f are.0 s now.trees) same are.1))

    held_sound : FoundLaw → (HasCleanDisk held → AreChecked (edition_in t) (shown g t) None) → HasCleanDisk held → AreOne now held
    held_sound audited passed clean =
        let (was, none) = passed clean in
        let first = subst (λ (d : Database). IsFirstFailing (edition_in t) d None) (k.found (early clean) was) none in
        let s = (audited (edition_in t) now first.0 (are_found (early clean) was) first.1 first.2 first.3 None first.4).0 refl in
        record { edition = edition_in t; schema = k.schema; registry = s.1; before = (s.0, s.2); after = λ up. (s.0, held_by clean up s.0 s.1 s.2) }

    held_left : Survives (state g conn) (shown g t) (λ _. ⊥) → HasCleanDisk held → LeavesOpened (state g conn) held
    held_left survives clean db l = elim ((brought clean).left db l) [
      | inl m ↦ elim (survives.crash (early clean) db m.1) [ inl o ↦ inl (k.schema ∙ ap schema_of m.0, o) | inr none ↦ absurd none ]
      | inr last ↦ inr (k.schema ∙ ap schema_of last.0, last.1)
    ]

  module _ {E : Type 0} (r : Result (Running S) E) where
    abbrev Early : Type 0
    Early = IfOk r (λ x. HasCleanDisk (shown g (tables_of x)) → HasCleanDisk (shown g t))

    abbrev Brought : Type 0
    Brought = IfOk r (λ x. HasCleanDisk (shown g (tables_of x)) → IsBrought (edition_in t) (shown g t) (shown g (tables_of x)))

  pub opened_same : {E : Type 0} (r : Result (Running S) E) → EditionLaw → Early r → Brought r → IsLive (state g conn)
      → IfOk r (λ x. HasCleanDisk (shown g (tables_of x)) → (s : model.Registry) → HoldsRegistry s now.trees → StandsIn s (shown g (tables_of x)))
  opened_same (Err f) law early brought live = tt
  opened_same (Ok x) law early brought live = held_same law x early brought live

  pub opened_sound : {E : Type 0} (r : Result (Running S) E) → EditionLaw → FoundLaw → Early r → Brought r
      → IfOk r (λ x. HasCleanDisk (shown g (tables_of x)) → AreChecked (edition_in t) (shown g t) None)
      → IfOk r (λ x. HasCleanDisk (shown g (tables_of x)) → AreOne now (shown g (tables_of x)))
  opened_sound (Err f) law audited early brought passed = tt
  opened_sound (Ok x) law audited early brought passed = held_sound law x early brought audited passed

  pub opened_left : {E : Type 0} (r : Result (Running S) E) → EditionLaw → Early r → Brought r → Survives (state g conn) (shown g t) (λ _. ⊥)
      → IfOk r (λ x. HasCleanDisk (shown g (tables_of x)) → LeavesOpened (state g conn) (shown g (tables_of x)))
  opened_left (Err f) law early brought survives = tt
  opened_left (Ok x) law early brought survives = held_left law x early brought survives

  -- it is refused, and the store is as it was
  module _ {R : Type 0} (r : Result R (Held S × OpenFault)) where
    abbrev Returned : Type 0
    Returned = IfErr r (λ e. Survives (shown g t) (state g e.0) (λ db. (e.1 ≡ Storage) × MayBecome (edition_in t) (shown g t) db))

    abbrev Undone : Type 0
    Undone = (shown g t).in_transaction ≡ false → IfErr r (λ e. HasCleanDisk (state g e.0) → IsUndone (shown g t) (state g e.0))

  pub refused_undone : {R : Type 0} (r : Result R (Held S × OpenFault)) → Returned r → Undone r
      → IfErr r (λ e. HasCleanDisk (state g e.0) → IsUndone (state g conn) (state g e.0))
  refused_undone (Ok x) returned undone = tt
  refused_undone (Err e) returned undone = λ clean.
      let first = k.rests (omega (arith, clean, returned.clean)) in
      then_undone (state g conn) (shown g t) (state g e.0) first (undone first.autocommit clean)

  pub refused_left : {R : Type 0} (r : Result R (Held S × OpenFault)) → Survives (state g conn) (shown g t) (λ _. ⊥) → Returned r
      → IfErr r (λ e. Survives (state g conn) (state g e.0) (MayBeUpgraded e.1 now))
  refused_left (Ok x) survives returned = tt
  refused_left (Err e) survives returned =
      survives_then (state g conn) (shown g t) (state g e.0) _ _ (MayBeUpgraded e.1 now) (λ _ db none. absurd none)
      (λ clean db it.
      let (first, was, made, has) = it.1 in
      let mid : HasCleanDisk (shown g t) = omega (arith, clean, returned.clean) in
      (it.0, k.schema ∙ ap schema_of first, subst (λ (d : Database). AreUpgraded d db) (k.found mid was) made, has))
      survives returned

  pub refused_last : {R : Type 0} (r : Result R (Held S × OpenFault)) → Settles g → Survives (state g conn) (shown g t) (λ _. ⊥) → Returned r → Undone r
      → IfErr r (λ e. HasCleanDisk (state g e.0) → LeavesLast (state g conn) (state g e.0))
  refused_last {R} (Ok x) law survives returned undone = tt
  refused_last {R} (Err e) law survives returned undone = λ clean.
      handed_last g conn e.0 (MayBeUpgraded e.1 now) law (refused_undone {R = R} (Err e) returned undone clean) (refused_left {R = R} (Err e) survives returned) clean

  -- where a check fails there is no registry
  pub refused_damaged : {R : Type 0} (r : Result R (Held S × OpenFault)) → FoundLaw → Returned r
      → IfErr r (λ e. HasCleanDisk (state g e.0) → (check : Check) → e.1 ≡ Damaged check → AreChecked (edition_in t) (shown g t) (Some check))
      → IfErr r (λ e. HasCleanDisk (state g e.0) → (check : Check) → e.1 ≡ Damaged check → AreDamaged now check)
  refused_damaged (Ok x) audited returned checked = tt
  refused_damaged (Err e) audited returned checked = λ clean check is.
      let mid : HasCleanDisk (shown g t) = omega (arith, clean, returned.clean) in
      let (was, first) = checked clean check is in
      let failing = subst (λ (d : Database). IsFirstFailing (edition_in t) d (Some check)) (k.found mid was) first in
      record {
        edition = edition_in t;
        schema = k.schema;
        about = k.about mid;
        first = failing;
        no_registry = λ s are. not_none ((audited (edition_in t) now failing.0 (are_found mid was) failing.1 failing.2 failing.3 (Some check) failing.4).1 (are.0, s, are.1));
      }

-- our tables with a sound registry are refused for the store alone
pub only_storage : (f : OpenFault) (d : Database) (s : model.Registry) → HoldsRegistry s d.trees → IsDatabase d → (f ≡ BadBase → ⊥) → (f ≡ UnknownSchema → (e : SchemaVersion) → d.schema ≡ schema_of e → LacksBase e d.trees)
    → ((check : Check) → f ≡ Damaged check → AreDamaged d check) → f ≡ Storage
only_storage Storage d s holds is known unknown damaged = refl
only_storage BadBase d s holds is known unknown damaged = absurd (known refl)
only_storage UnknownSchema d s (e, has, are) is known unknown damaged = absurd (has_base e s d.trees are (unknown refl e (one_schema e d has is)))
only_storage (Damaged check) d s (e, has, are) is known unknown damaged =
    let bad = damaged check refl in
    absurd (bad.no_registry s (subst (λ f. StandsSoundAs f s d.trees) (one_edition e bad.edition (sym (one_schema e d has is) ∙ bad.schema)) are))

pub refused_storage : {S R : Type 0} (g : Ghosts S) (conn : Held S) (r : Result R (Held S × OpenFault)) → IsLive (state g conn) → IfErr r (λ e. e.1 ≡ BadBase → ⊥)
    → IfErr r (λ e. HasCleanDisk (state g e.0) → e.1 ≡ UnknownSchema → (e : SchemaVersion) → (state g conn).now.schema ≡ schema_of e → LacksBase e (state g conn).now.trees)
    → IfErr r (λ e. HasCleanDisk (state g e.0) → (check : Check) → e.1 ≡ Damaged check → AreDamaged (state g conn).now check)
    → IfErr r (λ e. HasCleanDisk (state g e.0) → IsTrue (state g conn).is_open → (s : model.Registry) → HoldsRegistry s (state g conn).now.trees → e.1 ≡ Storage)
refused_storage g conn (Ok x) live known unknown damaged = tt
refused_storage g conn (Err e) live known unknown damaged = λ clean up s holds. only_storage e.1 (state g conn).now s holds (live up).0 known (unknown clean) (damaged clean)

-- what is said of why it is refused, in other words
pub if_refused : {T E : Type 0} (r : Result T E) {A B : E → Type 0} → ((e : E) → A e → B e) → IfErr r A → IfErr r B
if_refused (Ok x) f a = tt
if_refused (Err e) f a = f e a
