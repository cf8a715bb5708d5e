-- What is asked of publications is asked of the records that stand for them.
use Rattle.reg_reference_lists.proofs.Words.{◌≡◌, ℕ, ◌+◌, List, [], ◌∷◌, Bool, true, false, cond, Option, Some, length, refl, sym, ◌∙◌, ap}
use Rattle.reg_reference_lists.proofs.Words.{◌&&◌, string_bytes, filter, find, list_any, option_map, bytes_eq, nat_list_cmp_total, canon, Text}
use Rattle.reg_reference_lists.proofs.Words.{mark_cmp, text_cmp, collides, Publication, marked_in, publication_of, versions_in, list_any_map}
use Rattle.std.specs.Prelude.{map}
use Rattle.std.specs.FinSet as set
use Rattle.reg_reference_lists.proofs.SetViews.{has_text}

pub map_map : {X Y Z : Type 0} (g : Y → Z) (f : X → Y) (xs : List X) → map g (map f xs) ≡ map (λ x. g (f x)) xs
map_map g f [] = refl
map_map g f (x ∷ xs) = ap (λ l. g (f x) ∷ l) (map_map g f xs)

pub find_of_map : {X Y : Type 0} (q : Y → Bool) (f : X → Y) (xs : List X) → find q (map f xs) ≡ option_map f (find (λ x. q (f x)) xs)
find_of_map q f [] = refl
find_of_map q f (x ∷ xs) = elim (q (f x)) as (λ b. cond b (Some (f x)) (find q (map f xs)) ≡ option_map f (cond b (Some x) (find (λ x. q (f x)) xs))) [ true ↦ refl | false ↦ find_of_map q f xs ]

pub filter_of_map : {X Y : Type 0} (q : Y → Bool) (f : X → Y) (xs : List X) → filter q (map f xs) ≡ map f (filter (λ x. q (f x)) xs)
filter_of_map q f [] = refl
filter_of_map q f (x ∷ xs) = elim (q (f x)) as (λ b. cond b (f x ∷ filter q (map f xs)) (filter q (map f xs)) ≡ map f (cond b (x ∷ filter (λ x. q (f x)) xs) (filter (λ x. q (f x)) xs))) [ true ↦ ap (λ l. f x ∷ l) (filter_of_map q f xs) | false ↦ filter_of_map q f xs ]

pub find_of_filter : {X : Type 0} (r q : X → Bool) (xs : List X) → find r (filter q xs) ≡ find (λ x. q x && r x) xs
find_of_filter r q [] = refl
find_of_filter r q (x ∷ xs) = elim (q x) as (λ b. find r (cond b (x ∷ filter q xs) (filter q xs)) ≡ cond (b && r x) (Some x) (find (λ x. q x && r x) xs)) [ true ↦ ap (λ o. cond (r x) (Some x) o) (find_of_filter r q xs) | false ↦ find_of_filter r q xs ]

module _ (ps : List Publication) (n : Text) where
  pub first_view : (o : Option Publication) → o ≡ find (λ p. collides p.name n) ps → option_map (λ p. p.name) (option_map publication_of o) ≡ option_map (λ p. p.name) (find (λ p. collides p.name n) (map publication_of ps))
  first_view o e = ap (λ o. option_map (λ p. p.name) (option_map publication_of o)) e ∙ ap (option_map (λ p. p.name)) (sym (find_of_map (λ p. collides p.name n) publication_of ps))

  pub archive_view : (v : Text) (o : Option Publication) → o ≡ find (λ p. collides p.name n && bytes_eq (string_bytes p.version) v) ps → option_map (λ p. p.archive) (option_map publication_of o) ≡ option_map (λ p. p.archive) (find (λ p. bytes_eq p.version v) (versions_in (map publication_of ps) n))
  archive_view v o e =
      ap (λ o. option_map (λ p. p.archive) (option_map publication_of o)) e
      ∙ ap (option_map (λ p. p.archive)) (sym (find_of_map (λ p. collides p.name n && bytes_eq p.version v) publication_of ps) ∙ sym (find_of_filter (λ p. bytes_eq p.version v) (λ p. collides p.name n) (map publication_of ps)))

  pub versions_view : map (λ p. string_bytes p.version) (filter (λ p. collides p.name n) ps) ≡ map (λ p. p.version) (versions_in (map publication_of ps) n)
  versions_view = sym (map_map (λ p. p.version) publication_of (filter (λ p. collides p.name n) ps)) ∙ ap (map (λ p. p.version)) (sym (filter_of_map (λ p. collides p.name n) publication_of ps))

  pub entries_view : (yanked : set.FinSet mark_cmp) → map (λ p. marked_in yanked (canon n) (publication_of p)) (filter (λ p. collides p.name n) ps) ≡ map (marked_in yanked (canon n)) (versions_in (map publication_of ps) n)
  entries_view yanked = sym (map_map (marked_in yanked (canon n)) publication_of (filter (λ p. collides p.name n) ps)) ∙ ap (map (marked_in yanked (canon n))) (sym (filter_of_map (λ p. collides p.name n) publication_of ps))

abbrev pub crates_of : List Publication → ℕ
crates_of ps = set.len (set.from_list {R = text_cmp} (map (λ p. canon p.name) ps))

-- one more publication is one more crate where no other has its name
pub count_known : (p : Publication) (ps : List Publication) → list_any (λ q. collides q.name p.name) ps ≡ true → crates_of ps ≡ crates_of (p ∷ ps)
count_known p ps known =
    let known_text = sym (has_text (canon p.name) (map (λ p. canon p.name) ps)) ∙ list_any_map (λ t. bytes_eq t (canon p.name)) (λ p. canon p.name) ps ∙ known in
    sym (set.len-insert nat_list_cmp_total _ (canon p.name) ∙ ap (λ b. cond b (crates_of ps) (crates_of ps + 1)) known_text)

pub count_new : (p : Publication) (ps : List Publication) → list_any (λ q. collides q.name p.name) ps ≡ false → crates_of ps + 1 ≡ crates_of (p ∷ ps)
count_new p ps fresh =
    let fresh_text = sym (has_text (canon p.name) (map (λ p. canon p.name) ps)) ∙ list_any_map (λ t. bytes_eq t (canon p.name)) (λ p. canon p.name) ps ∙ fresh in
    sym (set.len-insert nat_list_cmp_total _ (canon p.name) ∙ ap (λ b. cond b (crates_of ps) (crates_of ps + 1)) fresh_text)

pub count_none : (ps : List Publication) → length ps ≡ 0 → 0 ≡ crates_of ps
count_none [] e = sym (set.len-empty text_cmp)
count_none (p ∷ ps) e = cc

pub crates_view : (ps : List Publication) → crates_of ps ≡ set.len (set.from_list {R = text_cmp} (map (λ p. canon p.name) (map publication_of ps)))
crates_view ps = ap (λ l. set.len (set.from_list {R = text_cmp} l)) (sym (map_map (λ p. canon p.name) publication_of ps))
