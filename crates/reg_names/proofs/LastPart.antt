-- A name stands after the last slash of its path.
use Rattle.reg_names.proofs.Words.{◌≡◌, ◌-◌, ◌==◌, ◌&&◌, ◌<◌, ℕ, suc, Bool, true, false, List, [], ◌∷◌, ◌++◌, length, drop, cond, Some}
use Rattle.reg_names.proofs.Words.{refl, sym, ◌∙◌, ap, arith, list_all, drop-append_seam, and_parts, and_from, length-append}
use Rattle.reg_names.proofs.Words.{list_all-append, bytes_eq-Decides, folder_of, is_name, is_name_byte, lower, path_of}
use Rattle.std.proofs.Common.{◌+◌, Option, None}
use Rattle.std.specs.Prelude.{not, nat_lt, nat_le}
use Rattle.std.specs.List.{prefix_len}
use Rattle.std.specs.Prelude.{reverse}
use Rattle.std.proofs.lemmas.List.{length-reverse, reverse-append}
use Rattle.reg_names.specs.Names.{is_path_of, last_part, name_at}
use Rattle.reg_names.proofs.NameFacts.{some_bytes}

abbrev is_slash : ℕ → Bool
is_slash b = b == 47

-- a folder ends with a slash
folder_end : (m : List ℕ) → 0 < length m → (front : List ℕ) × (folder_of m ≡ front ++ 47 ∷ [])
folder_end [] h = absurd (omega arith)
folder_end (a ∷ []) h = (49 ∷ [], refl)
folder_end (a ∷ b ∷ []) h = (50 ∷ [], refl)
folder_end (a ∷ b ∷ c ∷ []) h = (51 ∷ 47 ∷ a ∷ [], refl)
folder_end (a ∷ b ∷ c ∷ d ∷ rest) h = (a ∷ b ∷ 47 ∷ c ∷ d ∷ [], refl)

not_slash : (b : ℕ) → is_name_byte b ≡ true → not (is_slash b) ≡ true
not_slash b e = grind arith

no_slash : (t : List ℕ) → list_all is_name_byte t ≡ true → list_all (λ b. not (is_slash b)) t ≡ true
no_slash [] e = refl
no_slash (b ∷ t) e = and_from _ _ (not_slash b (and_parts _ _ e).0) (no_slash t (and_parts _ _ e).1)

both : (a b : Bool) → (a && b) ≡ true → (b && (a && true)) ≡ true
both true b e = ap (λ c. c && true) e
both false b e = cc

backwards : (p : ℕ → Bool) (xs : List ℕ) → list_all p xs ≡ true → list_all p (reverse xs) ≡ true
backwards p [] e = refl
backwards p (x ∷ xs) e =
    let h = and_parts (p x) (list_all p xs) e in
    ap (list_all p) (reverse-append (x ∷ []) xs) ∙ list_all-append p (reverse xs) (x ∷ []) ∙ and_from _ _ (backwards p xs h.1) (and_from _ _ h.0 refl)

stops : (p : ℕ → Bool) (xs ys : List ℕ) (y : ℕ) → list_all p xs ≡ true → p y ≡ false → prefix_len p (xs ++ y ∷ ys) ≡ length xs
stops p [] ys y e f = ap (λ b. cond b (1 + prefix_len p ys) 0) f
stops p (x ∷ xs) ys y e f =
    let h = and_parts (p x) (list_all p xs) e in
    ap (λ b. cond b (1 + prefix_len p (xs ++ y ∷ ys)) 0) h.0 ∙ ap (λ n. 1 + n) (stops p xs ys y h.1 f) ∙ one_more (length xs)
  where
    one_more : (n : ℕ) → 1 + n ≡ suc n
    one_more n = omega arith

-- what stands after the last slash, where none is behind it
after_slash : (front t : List ℕ) → list_all (λ b. not (is_slash b)) t ≡ true → last_part ((front ++ 47 ∷ []) ++ t) ≡ t
after_slash front t e =
    let f = front ++ 47 ∷ [] in
    let tail : reverse (f ++ t) ≡ reverse t ++ 47 ∷ reverse front = reverse-append f t ∙ ap (λ l. reverse t ++ l) (reverse-append front (47 ∷ [])) in
    let len : prefix_len (λ b. not (is_slash b)) (reverse (f ++ t)) ≡ length t = ap (prefix_len (λ b. not (is_slash b))) tail ∙ stops (λ b. not (is_slash b)) (reverse t) (reverse front) 47 (backwards (λ b. not (is_slash b)) t e) refl ∙ length-reverse t in
    ap (λ n. drop (length (f ++ t) - n) (f ++ t)) len ∙ ap (λ n. drop n (f ++ t)) (rest (length (f ++ t)) (length f) (length t) (length-append f t)) ∙ drop-append_seam f t
  where
    rest : (a b c : ℕ) → a ≡ b + c → a - c ≡ b
    rest a b c e = omega arith

last_of_path : (n : List ℕ) → is_name n ≡ true → lower n ≡ n → last_part (path_of n) ≡ n
last_of_path n name low =
    let d = folder_end n (some_bytes n name) in
    let all : list_all is_name_byte n ≡ true = (and_parts _ _ (and_parts (nat_lt 0 (length n) && nat_le (length n) 64) _ name).1).1 in
    ap (λ m. last_part (folder_of m ++ m)) low ∙ ap (λ f. last_part (f ++ n)) d.1 ∙ after_slash d.0 n (no_slash n all)

-- what is a path's name exactly where it is one is the name that is defined
pub named_at : (r : Option (List ℕ)) (path : List ℕ) → ((n : List ℕ) → (r ≡ Some n → (is_name n ≡ true) × (lower n ≡ n) × (path_of n ≡ path)) × ((is_name n ≡ true) × (lower n ≡ n) × (path_of n ≡ path) → r ≡ Some n)) → r ≡ name_at path
named_at r path says = by (is_path_of (last_part path) path) refl
  where
    is_path : (n : List ℕ) → is_name n ≡ true → lower n ≡ n → path_of n ≡ path → is_path_of n path ≡ true
    is_path n name low at = and_from _ _ (and_from _ _ name ((bytes_eq-Decides (lower n) n).1 low)) ((bytes_eq-Decides (path_of n) path).1 at)

    none : (o : Option (List ℕ)) → o ≡ r → is_path_of (last_part path) path ≡ false → o ≡ None
    none None e f = refl
    none (Some n) e f =
        let h = (says n).0 (sym e) in
        let same : last_part path ≡ n = ap last_part (sym h.2) ∙ last_of_path n h.0 h.1 in
        let here : is_path_of (last_part path) path ≡ true = ap (λ m. is_path_of m path) same ∙ is_path n h.0 h.1 h.2 in
        absurd (cc (f, here))

    by : (b : Bool) → is_path_of (last_part path) path ≡ b → r ≡ cond b (Some (last_part path)) None
    by true e =
        let h = and_parts (is_name (last_part path) && _) _ e in
        let k = and_parts (is_name (last_part path)) _ h.0 in
        (says (last_part path)).1 (k.0, (bytes_eq-Decides _ _).0 k.1, (bytes_eq-Decides _ _).0 h.1)
    by false e = none r refl e

the_some : {X : Type 0} {x y : X} → Some x ≡ Some y → x ≡ y
the_some e = cc

-- a path's name is the lower-case name whose path it is
pub at_path : (n path : List ℕ) → is_name n ≡ true → lower n ≡ n → path_of n ≡ path → name_at path ≡ Some n
at_path n path name low at =
    let same : last_part path ≡ n = ap last_part (sym at) ∙ last_of_path n name low in
    let here : is_path_of (last_part path) path ≡ true = ap (λ m. is_path_of m path) same ∙ and_from _ _ (and_from _ _ name ((bytes_eq-Decides (lower n) n).1 low)) ((bytes_eq-Decides (path_of n) path).1 at) in
    ap (λ b. cond b (Some (last_part path)) None) here ∙ ap Some same

pub path_at : (n path : List ℕ) → name_at path ≡ Some n → (is_name n ≡ true) × (lower n ≡ n) × (path_of n ≡ path)
path_at n path e = by (is_path_of (last_part path) path) refl e
  where
    parts : (m : List ℕ) → is_path_of m path ≡ true → (is_name m ≡ true) × (lower m ≡ m) × (path_of m ≡ path)
    parts m t =
        let h = and_parts (is_name m && _) _ t in
        let k = and_parts (is_name m) _ h.0 in
        (k.0, (bytes_eq-Decides _ _).0 k.1, (bytes_eq-Decides _ _).0 h.1)

    by : (b : Bool) → is_path_of (last_part path) path ≡ b → cond b (Some (last_part path)) None ≡ Some n → (is_name n ≡ true) × (lower n ≡ n) × (path_of n ≡ path)
    by true t f = let same : last_part path ≡ n = the_some f in parts n (ap (λ m. is_path_of m path) (sym same) ∙ t)
    by false t f = cc
