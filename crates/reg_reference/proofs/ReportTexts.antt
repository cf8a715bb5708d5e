-- The texts of the reports, as they are laid out.
use Rattle.reg_reference.proofs.Words.{◌≡◌, List, [], ◌∷◌, ◌++◌, Bool, true, false, cond, inr, refl, sym, ◌∙◌, ap, append_assoc}
use Rattle.reg_reference.proofs.Words.{slice_get, unwrap_or, OnOk, Ok, Err, Result, Limits, AdminRefusal, Command, Order, Report}
use Rattle.reg_reference.proofs.Words.{grounds, replied, Step, AdminReply, reply_of, enumerate_from, filter, find, flat_map}
use Rattle.reg_reference.proofs.Words.{option_and_then, option_map, canon, Bor, bytes_eq, top_place, parts_of, canon-canon, Text}
use Rattle.reg_reference.proofs.Words.{Registry, canons, crate_line, grant_lines, line_at}
use Rattle.std.specs.Prelude.{map, length, IfOk, String, string_bytes}
use Rattle.std.specs.declared.alloc.Global.{Global}
use Rattle.reg_model.specs.Effects.{commanded}
use Rattle.reg_policy.specs.declared.event.AdminReply.TheVariants.{Text as Told}
use Rattle.reg_reference.proofs.Joined.{Free, done_step}
use Rattle.std.specs.FinSet as finset
use Rattle.reg_model.specs.Search.{top}
use Rattle.reg_model.specs.Grants.{all_endpoints, grants, is_granted}
use Rattle.reg_model.specs.Reports.{crates_text, grant_line, login_of_token}
use Rattle.reg_reference.specs.Plain.{told_of}

flat_map-append : {X Y : Type 0} (f : X → List Y) (xs ys : List X) → flat_map f (xs ++ ys) ≡ flat_map f xs ++ flat_map f ys
flat_map-append f [] ys = refl
flat_map-append f (x ∷ xs) ys = ap (λ l. f x ++ l) (flat_map-append f xs ys) ∙ sym (append_assoc (f x) (flat_map f xs) (flat_map f ys))

flat_flat : {X Y Z : Type 0} (g : Y → List Z) (f : X → List Y) (xs : List X) → flat_map g (flat_map f xs) ≡ flat_map (λ x. flat_map g (f x)) xs
flat_flat g f [] = refl
flat_flat g f (x ∷ xs) = flat_map-append g (f x) (flat_map f xs) ∙ ap (λ l. flat_map g (f x) ++ l) (flat_flat g f xs)

flat_mapped : {X Y Z : Type 0} (g : Y → List Z) (f : X → Y) (xs : List X) → flat_map g (map f xs) ≡ flat_map (λ x. g (f x)) xs
flat_mapped g f [] = refl
flat_mapped g f (x ∷ xs) = ap (λ l. g (f x) ++ l) (flat_mapped g f xs)

flat_same : {X Y : Type 0} (f g : X → List Y) → ((x : X) → f x ≡ g x) → (xs : List X) → flat_map f xs ≡ flat_map g xs
flat_same f g same [] = refl
flat_same f g same (x ∷ xs) = λ i. same x i ++ flat_same f g same xs i

-- the grants of a crate, token by token
pub grants_told : (s : Registry) (n : Text) → flat_map (λ g. grant_line g (login_of_token s g.0)) (grants s n) ≡ flat_map (grant_lines s n) (enumerate_from 1 s.tokens)
unfolding grants
grants_told s n =
    flat_flat (λ g. grant_line g (login_of_token s g.0)) (λ t. map (λ e. (t.0, e)) (filter (is_granted s n t.1) all_endpoints)) (enumerate_from 1 s.tokens)
    ∙ flat_same _ (grant_lines s n) (λ t. flat_mapped (λ g. grant_line g (login_of_token s g.0)) (λ e. (t.0, e)) (filter (is_granted s n t.1) all_endpoints)) (enumerate_from 1 s.tokens)

-- the line of a crate is that of its canonical text
abbrev at_canon : Registry → Text → Text
at_canon s c =
    let ps = filter (λ p. bytes_eq (canon p.name) c) s.publications in
    crate_line (unwrap_or (option_map (λ p. p.name) (find (λ p. bytes_eq (canon p.name) c) s.publications)) []) (length ps)
    (unwrap_or (option_map (λ p. p.version) (option_and_then (slice_get ps) (top_place (map (λ p. (parts_of p.version, finset.contains s.yanked (c, p.version))) ps)))) [])

line_canon : (s : Registry) (n : Text) → line_at s (canon n) ≡ line_at s n
unfolding top
line_canon s n = ap (at_canon s) (canon-canon n)

pub crates_told : (s : Registry) (ns : List (Bor Text)) → map (λ n. canon n.now) ns ≡ canons s → flat_map (λ n. line_at s n.now) ns ≡ crates_text s
unfolding crates_text
crates_told s ns e = sym (ap (flat_map (line_at s)) (sym e) ∙ flat_mapped (line_at s) (λ n. canon n.now) ns ∙ flat_same _ (λ n. line_at s n.now) (λ n. line_canon s n.now) ns)

-- one more item, and what it adds where it passes
pub more_lines : {X Y : Type 0} (f : X → List Y) (p : X → Bool) (x : X) (xs : List X) (old mid new : List Y) → mid ≡ old ++ cond (p x) (f x) [] → new ≡ mid ++ flat_map f (filter p xs) → new ≡ old ++ flat_map f (filter p (x ∷ xs))
more_lines f p x xs old mid new e g = g ∙ ap (λ l. l ++ flat_map f (filter p xs)) e ∙ append_assoc old (cond (p x) (f x) []) (flat_map f (filter p xs)) ∙ ap (λ l. old ++ l) (by (p x))
  where
    by : (b : Bool) → cond b (f x) [] ++ flat_map f (filter p xs) ≡ flat_map f (cond b (x ∷ filter p xs) (filter p xs))
    by true = refl
    by false = refl

pub on_ok : {X E P Q : Type 0} (r : Result X E) → OnOk r P → (P → Q) → OnOk r Q
on_ok (Ok x) p f = f p
on_ok (Err e) p f = tt

-- a report is told, or there was no room for it
pub told_step : {E : Type 0} (limits : Limits) (s : Registry) (c : Command) (text : Text) (r : Result (String Global) E) (reply : Result AdminReply AdminRefusal) → Free (grounds limits s c) → replied s c ≡ Report text → commanded s c ≡ s → IfOk r (λ t. string_bytes t ≡ text) → reply ≡ told_of Told r → Step limits s (Order c) (reply_of reply) s
told_step limits s c text (Ok t) reply free tells keeps is e = done_step limits s s c (reply_of reply) free (ap reply_of e ∙ ap Report is ∙ sym tells) (sym keeps)
told_step limits s c text (Err f) reply free tells keeps is e = inr (ap reply_of e, refl)
