-- What a token may use, endpoint after endpoint, and what the tokens that may act are granted.
use Rattle.reg_access.proofs.Words.{◌≡◌, ◌==◌, ℕ, Bool, true, false, ◌&&◌, cond, List, [], ◌∷◌, ◌++◌, map, refl, sym, ap, ◌∙◌, append-nil}
use Rattle.reg_access.proofs.Words.{enumerate_from, filter, flat_map, list_any, flat_map-map, map-flat_map, covers, Endpoint, is_among}
use Rattle.reg_access.proofs.Words.{Registry, Token, is_enabled, has_endpoint, maps_twice, same_filter, columns_with_account, TokenRow}
use Rattle.reg_access.proofs.Words.{Told, granted, is_candidate, is_free, is_right, row_of_candidate, told_by}
use Rattle.std.proofs.lemmas.List.{append_assoc}
use Rattle.reg_names.specs.declared.endpoint.Endpoint.TheVariants as endpoint
use Rattle.reg_model.specs.Crates.{owners as owners_in}
use Rattle.reg_model.specs.Grants.{all_endpoints, grants, has_right, is_granted}
use Rattle.reg_model.specs.Registry.{Text as Words}
use Rattle.reg_tables_sql.specs.declared.accounts.Account.{Account}
use Rattle.reg_tables_represent.proofs.AccountEntries.{heads, mark_is, number_is, tails, words_are}
use Rattle.reg_tables_represent.proofs.Selected.{each_part}
use Rattle.reg_access.specs.Grants.{login_at}

one_more : {X Y : Type 0} (b : Bool) (f : X → Y) (x : X) (xs : List X) → map f (cond b (x ∷ xs) xs) ≡ cond b (f x ∷ []) [] ++ map f xs
one_more true f x xs = refl
one_more false f x xs = refl

-- four elements that pass or not, each added behind what was there
pub four : {X Y : Type 0} (p : X → Bool) (f : X → Y) (a b c d : X) (ys : List Y)
    → (((ys ++ cond (p a) (f a ∷ []) []) ++ cond (p b) (f b ∷ []) []) ++ cond (p c) (f c ∷ []) []) ++ cond (p d) (f d ∷ []) [] ≡ ys ++ map f (filter p (a ∷ b ∷ c ∷ d ∷ []))
four {Y = Y} p f a b c d ys =
    let A : List Y = cond (p a) (f a ∷ []) [] in
    let B : List Y = cond (p b) (f b ∷ []) [] in
    let C : List Y = cond (p c) (f c ∷ []) [] in
    let D : List Y = cond (p d) (f d ∷ []) [] in
    append_assoc ((ys ++ A) ++ B) C D ∙ append_assoc (ys ++ A) B (C ++ D) ∙ append_assoc ys A (B ++ (C ++ D))
    ∙ ap (λ zs. ys ++ zs) (sym
    (one_more (p a) f a (filter p (b ∷ c ∷ d ∷ []))
    ∙ ap (λ zs. A ++ zs) (one_more (p b) f b (filter p (c ∷ d ∷ []))
    ∙ ap (λ zs. B ++ zs) (one_more (p c) f c (filter p (d ∷ []))
    ∙ ap (λ zs. C ++ zs) (one_more (p d) f d [] ∙ append-nil D)))))

-- what comes of those that pass, where nothing comes of the others
of_passing : {A B : Type 0} (p : A → Bool) (f g : A → List B) → ((x : A) → p x ≡ false → g x ≡ []) → ((x : A) → p x ≡ true → f x ≡ g x) → (xs : List A) → flat_map f (filter p xs) ≡ flat_map g xs
of_passing p f g none same [] = refl
of_passing p f g none same (x ∷ xs) = by (p x) refl (of_passing p f g none same xs)
  where
    by : (b : Bool) → p x ≡ b → flat_map f (filter p xs) ≡ flat_map g xs → flat_map f (cond b (x ∷ filter p xs) (filter p xs)) ≡ g x ++ flat_map g xs
    by true e rest = λ i. same x e i ++ rest i
    by false e rest = rest ∙ ap (λ ys. ys ++ flat_map g xs) (sym (none x e))

none_pass : {X : Type 0} (p : X → Bool) → ((x : X) → p x ≡ false) → (xs : List X) → filter p xs ≡ []
none_pass p h [] = refl
none_pass p h (x ∷ xs) = rw (h x) (none_pass p h xs)

-- what a token is granted by its row
abbrev told_at : Registry → List Account → Bool → ℕ × Token → List Told
told_at s owners free e =
    map (λ k. (e.0, k, login_at s e.1.account)) (filter (λ k. has_endpoint e.1.endpoints k && is_right free (list_any (λ o. o.id == e.1.account) owners) k) all_endpoints)

module _ (s : Registry) (n : Words) (owners : List Account) (free : Bool) (are : (id : ℕ) → list_any (λ o. o.id == id) owners ≡ is_among (owners_in s n) id) (is : free ≡ is_free s n) where
  row_told : (e : ℕ × Token) (r : TokenRow) → row_of_candidate s e ≡ columns_with_account r → told_at s owners free e ≡ told_by owners free r
  row_told e r h =
      let id = number_is (heads h) in
      let account = number_is (heads (tails h)) in
      let rest = tails (tails (tails h)) in
      let new = mark_is _ _ (heads rest) in
      let update = mark_is _ _ (heads (tails rest)) in
      let yank = mark_is _ _ (heads (tails (tails rest))) in
      let change = mark_is _ _ (heads (tails (tails (tails rest)))) in
      let login = words_are (heads (tails (tails (tails (tails rest))))) in
      λ i. map (λ k. (id i, k, login i)) (filter (λ k. has_endpoint (record { publish_new = new i; publish_update = update i; yank = yank i; change_owners = change i }) k && is_right free (list_any (λ o. o.id == account i) owners) k) all_endpoints)

  right_is : (t : Token) (k : Endpoint) → is_right free (list_any (λ o. o.id == t.account) owners) k ≡ has_right s n t.account k
  right_is t endpoint.PublishNew = is
  right_is t endpoint.PublishUpdate = are t.account
  right_is t endpoint.Yank = are t.account
  right_is t endpoint.ChangeOwners = are t.account

  gate_open : (a b h r : Bool) → (a && b) ≡ true → (h && r) ≡ (a && (h && (b && r)))
  gate_open true true h r e = refl
  gate_open true false h r e = cc e
  gate_open false b h r e = cc e

  gate_shut : (a b h r : Bool) → (a && b) ≡ false → (a && (h && (b && r))) ≡ false
  gate_shut true true h r e = cc e
  gate_shut true false true r e = refl
  gate_shut true false false r e = refl
  gate_shut false b h r e = refl

  abbrev may : Token → Bool
  may t = t.live && is_enabled s t.account

  abbrev over : Token → Bool
  over t = list_any (λ p. covers p n) t.patterns

  pub all_told : (rows : List TokenRow) → map columns_with_account rows ≡ map (row_of_candidate s) (filter (λ e. is_candidate s n e.1) (enumerate_from 1 s.tokens)) → flat_map (told_by owners free) rows ≡ granted s n
  all_told rows h =
      let xs = filter (λ (e : ℕ × Token). is_candidate s n e.1) (enumerate_from 1 s.tokens) in
      let each = each_part (row_of_candidate s) columns_with_account (told_at s owners free) (told_by owners free) row_told xs rows h in
      sym (flat_map-map (λ (l : List Told). l) (told_by owners free) rows)
      ∙ ap (flat_map (λ (l : List Told). l)) each
      ∙ flat_map-map (λ (l : List Told). l) (told_at s owners free) xs
      ∙ of_passing (λ e. is_candidate s n e.1) (told_at s owners free) (λ e. map (λ k. (e.0, k, login_at s e.1.account)) (filter (is_granted s n e.1) all_endpoints))
      (λ e shut. ap (map (λ k. (e.0, k, login_at s e.1.account))) (none_pass (is_granted s n e.1) (λ k. gate_shut (may e.1) (over e.1) (has_endpoint e.1.endpoints k) (has_right s n e.1.account k) shut) all_endpoints))
      (λ e granted_to. ap (map (λ k. (e.0, k, login_at s e.1.account))) (same_filter _ (is_granted s n e.1) (λ k. ap (λ r. has_endpoint e.1.endpoints k && r) (right_is e.1 k) ∙ gate_open (may e.1) (over e.1) (has_endpoint e.1.endpoints k) (has_right s n e.1.account k) granted_to) all_endpoints))
      (enumerate_from 1 s.tokens)

-- without the logins
pub pairs_told : (s : Registry) (n : Words) → map {A = Told} {B = ℕ × Endpoint} (λ t. (t.0, t.1)) (granted s n) ≡ grants s n
unfolding grants
pairs_told s n =
    map-flat_map (λ (t : Told). (t.0, t.1)) (λ (e : ℕ × Token). map (λ k. (e.0, k, login_at s e.1.account)) (filter (is_granted s n e.1) all_endpoints)) (enumerate_from 1 s.tokens)
    ∙ each_same (enumerate_from 1 s.tokens)
  where
    each_same : (es : List (ℕ × Token)) → flat_map (λ (e : ℕ × Token). map {A = Told} {B = ℕ × Endpoint} (λ t. (t.0, t.1)) (map (λ k. (e.0, k, login_at s e.1.account)) (filter (is_granted s n e.1) all_endpoints))) es ≡ flat_map (λ (e : ℕ × Token). map {A = Endpoint} {B = ℕ × Endpoint} (λ k. (e.0, k)) (filter (is_granted s n e.1) all_endpoints)) es
    each_same [] = refl
    each_same (e ∷ es) = λ i. maps_twice (λ (k : Endpoint). (e.0, k, login_at s e.1.account)) (λ (t : Told). (t.0, t.1)) (filter (is_granted s n e.1) all_endpoints) i ++ each_same es i
