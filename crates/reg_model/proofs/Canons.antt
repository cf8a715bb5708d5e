-- The canonical texts of the crates in their order, and which of them pass a test.
use Rattle.reg_model.proofs.Words.{◌≡◌, ℕ, List, [], ◌∷◌, Bool, true, cond, inl, inr, refl, sym, ◌∙◌, ap, arith, is_some, list_any, filter}
use Rattle.reg_model.proofs.Words.{eq_by_cmp, is_eq, bytes_eq, Equal-is, tied_itself, nat_list_cmp_total, bytes_eq-Decides, canon}
use Rattle.reg_model.proofs.Words.{canon_byte, Text, Registry, text_cmp, canons, has_crate}
use Rattle.std.specs.Prelude.{map}
use Rattle.std.specs.Cmp.{both_ways}
use Rattle.std.specs.FinMap as finmap
use Rattle.std.specs.FinMap.Entries as entries
use Rattle.reg_model.proofs.Keys.{text_apart}
use Rattle.reg_model.proofs.Lists.{list_any_map, any_same}
use Rattle.reg_model.proofs.Members.{IsIn, any_in, in_any}

canon_once : (b : ℕ) → canon_byte (canon_byte b) ≡ canon_byte b
canon_once b = grind arith

pub canon-canon : (t : Text) → canon (canon t) ≡ canon t
canon-canon [] = refl
canon-canon (b ∷ t) = λ i. canon_once b i ∷ canon-canon t i

pub text_agrees : (q m : Text) → bytes_eq m q ≡ eq_by_cmp text_cmp q m
text_agrees q m = both_ways _ _
    (λ same. let e : q ≡ m = sym ((bytes_eq-Decides m q).0 same) in ap (eq_by_cmp text_cmp q) (sym e) ∙ ap is_eq (tied_itself nat_list_cmp_total q))
    (λ tied. let e = text_apart q m ((Equal-is _).0 tied) in (bytes_eq-Decides m q).1 (sym e))

abbrev pub Keyed : Type 0
Keyed = Text × Unit {0}

abbrev pub keyed : Registry → List Keyed
keyed s = map (λ p. (canon p.name, tt {0})) s.publications

abbrev pub by_canon : Registry → finmap.FinMap text_cmp (Unit {0})
by_canon s = finmap.from_entries (keyed s)

-- a canonical text is a key exactly where the crate is there
pub key_there : (s : Registry) (c : Text) → list_any (eq_by_cmp text_cmp c) (canons s) ≡ has_crate s c
key_there s c =
    sym (finmap.contains_key-keys (by_canon s) c)
    ∙ ap is_some (finmap.get-from_entries nat_list_cmp_total (keyed s) c)
    ∙ entries.is_some-find text_cmp c (keyed s)
    ∙ list_any_map (eq_by_cmp text_cmp c) (λ e. e.0) (keyed s)
    ∙ list_any_map (λ e. eq_by_cmp text_cmp c e.0) (λ p. (canon p.name, tt {0})) s.publications
    ∙ any_same _ _ (λ p. sym (text_agrees c (canon p.name))) s.publications

-- a crate that is there has its canonical text from a name
pub canonical : (s : Registry) (c : Text) → has_crate s c ≡ true → canon c ≡ c
canonical s c h =
    let p = any_in (λ p. bytes_eq (canon p.name) c) s.publications h in
    let e = (bytes_eq-Decides (canon p.0.name) c).0 p.2 in
    ap canon (sym e) ∙ canon-canon p.0.name ∙ e

pub filter_in : {X : Type 0} (p q : X → Bool) (xs : List X) → ((x : X) → IsIn x xs → p x ≡ q x) → filter p xs ≡ filter q xs
filter_in p q [] h = refl
filter_in p q (x ∷ xs) h = λ i. cond (h x (inl refl) i) (x ∷ filter_in p q xs (λ y j. h y (inr j)) i) (filter_in p q xs (λ y j. h y (inr j)) i)

-- each is the canonical text of a crate that is there
pub listed_there : (s : Registry) (c : Text) → IsIn c (canons s) → (has_crate s c ≡ true) × (canon c ≡ c)
listed_there s c i =
    let there = sym (key_there s c) ∙ in_any (eq_by_cmp text_cmp c) (canons s) c i (ap is_eq (tied_itself nat_list_cmp_total c)) in
    (there, canonical s c there)
