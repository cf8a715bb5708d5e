-- The law of opening, by its two halves.
use Rattle.reg_check_sound.proofs.Words.{◌≡◌, List, [], ◌∷◌, Option, None, Some, inl, inr, subst, C1, C2, C3, C4, C5, C6, C7, C8, AuditLaw}
use Rattle.reg_check_sound.proofs.Words.{PassAll, ids_from, registry_from}
use Rattle.reg_check_sound.proofs.Common.{AllByRecursion, AllRows, IdAssignment, Registry, Trees}
use Rattle.reg_audit.specs.Checks.{IsFirst, IsFirstOf, Passes}
use Rattle.reg_audit.specs.declared.check.Check.{Check}
use Rattle.reg_check_sound.specs.Opening.{HoldingPasses, OpeningLaw, PassingHolds, SchemaKeeps}
use Rattle.reg_check_sound.proofs.AccountsPass.{accounts_pass_so}
use Rattle.reg_check_sound.proofs.CratesPass.{crates_pass_so}
use Rattle.reg_check_sound.proofs.KeptRules.{keeps_rules}
use Rattle.reg_check_sound.proofs.Passing.{accounts_of, tokens_of}
use Rattle.reg_check_sound.proofs.ReadersPass.{readers_pass_so}
use Rattle.reg_check_sound.proofs.ReservedPass.{reserved_pass_so}
use Rattle.reg_check_sound.proofs.Rows.{passing_holds}
use Rattle.reg_check_sound.proofs.Standing.{Standing}
use Rattle.reg_check_sound.proofs.SummariesPass.{summaries_pass_so}
use Rattle.reg_check_sound.proofs.TokensPass.{tokens_pass_so}
use Rattle.reg_check_sound.proofs.VersionsPass.{archives_pass_so, versions_pass_so}

pass_each : (it : AllRows) (db : Trees) (ids : IdAssignment) (s : Registry) → Standing it db ids s → (c : Check) → Passes it db c
pass_each it db ids s h C1 = accounts_pass_so it db ids s h
pass_each it db ids s h C2 = tokens_pass_so it db ids s h
pass_each it db ids s h C3 = crates_pass_so it db ids s h
pass_each it db ids s h C4 = archives_pass_so it db ids s h
pass_each it db ids s h C5 = versions_pass_so it db ids s h
pass_each it db ids s h C6 = reserved_pass_so it db ids s h
pass_each it db ids s h C7 = summaries_pass_so it db ids s h
pass_each it db ids s h C8 = readers_pass_so it db ids s h

pub holding_passes : HoldingPasses
holding_passes it db are ids s holds = pass_each it db ids s (record { are = are; holds = holds })

pub schema_keeps : SchemaKeeps
schema_keeps it db are all = keeps_rules db are.obeys it are (accounts_of it (all C1)).counted (tokens_of it (all C2)).counted

pub passing : PassingHolds
passing it db are all = passing_holds it db are (schema_keeps it db are all) all

pub opening : OpeningLaw
opening it db are = (
  λ all. (ids_from it db, registry_from it db, passing it db are all),
  λ h. holding_passes it db are h.0 h.1 h.2,
)

-- where all pass, none is found
none_found : (cs : List Check) (it : AllRows) (db : Trees) (found : Option Check) → PassAll it db → IsFirstOf cs it db found → found ≡ None
none_found [] it db found all h = h
none_found (c ∷ cs) it db found all (inl h) = none_found cs it db found all h.1
none_found (c ∷ cs) it db found all (inr h) = absurd (h.0 (all c))

same_none : {c : Check} → None ≡ Some c → ⊥
same_none e = absurd cc

-- and where none is found, all pass
abbrev All : List Check → AllRows → Trees → Type 0
All cs it db = AllByRecursion (λ c. Passes it db c) cs

each_of : (cs : List Check) (it : AllRows) (db : Trees) → IsFirstOf cs it db None → All cs it db
each_of [] it db h = tt
each_of (c ∷ cs) it db (inl h) = (h.0, each_of cs it db h.1)
each_of (c ∷ cs) it db (inr h) = absurd (same_none h.1)

all_found : (it : AllRows) (db : Trees) → IsFirst it db None → PassAll it db
all_found it db h =
    let each = each_of (C1 ∷ C2 ∷ C3 ∷ C4 ∷ C5 ∷ C6 ∷ C7 ∷ C8 ∷ []) it db h in
    by_check it db each
  where
    by_check : (it : AllRows) (db : Trees) → All (C1 ∷ C2 ∷ C3 ∷ C4 ∷ C5 ∷ C6 ∷ C7 ∷ C8 ∷ []) it db → (c : Check) → Passes it db c
    by_check it db e C1 = e.0
    by_check it db e C2 = e.1.0
    by_check it db e C3 = e.1.1.0
    by_check it db e C4 = e.1.1.1.0
    by_check it db e C5 = e.1.1.1.1.0
    by_check it db e C6 = e.1.1.1.1.1.0
    by_check it db e C7 = e.1.1.1.1.1.1.0
    by_check it db e C8 = e.1.1.1.1.1.1.1.0

pub audited : AuditLaw
audited it db are found first = (
  λ none. (opening it db are).0 (all_found it db (subst (IsFirst it db) none first)),
  λ h. none_found (C1 ∷ C2 ∷ C3 ∷ C4 ∷ C5 ∷ C6 ∷ C7 ∷ C8 ∷ []) it db found ((opening it db are).1 h) first,
)
