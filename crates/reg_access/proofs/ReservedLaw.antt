-- Where the rows stand for a registry, a reserved name comes back where the administrator reserved it.
use Rattle.reg_access.proofs.Words.{◌≡◌, List, [], ◌∷◌, ℕ, map, Bool, refl, sym, ◌∙◌, drop, bytes_eq, list_any-IsPermutation, Text, Binary}
use Rattle.reg_access.proofs.Words.{Row, column, Trees, equal, any_same, list_any_map, shows, equals_text, IdAssignment, StandsBy, same_text}
use Rattle.reg_access.proofs.Words.{is_there, reserved_as}
use Rattle.std.specs.FinSet as finset
use Rattle.reg_model.specs.Registry as model
use Rattle.reg_tables_sql.specs.Reserved.{reserved_columns}
use Rattle.reg_access.proofs.Answered.{there_filtered}

abbrev is_it : List ℕ → Row → Bool
is_it canon r = equal Binary (column r 1) (Text canon)

first_column : (c : List ℕ) (r : Row) → is_it c r ≡ equal Binary (column (drop 1 r) 0) (Text c)
first_column c [] = refl
first_column c (v ∷ r) = refl

pub tells_reserved : (ids : IdAssignment) (s : model.Registry) (db : Trees) → StandsBy ids s db → (c : List ℕ) → is_there (reserved_as c db) ≡ finset.contains s.reserved c
tells_reserved ids s db stands c =
    let it = stands.reserved in
    let q = λ (r : Row). equal Binary (column r 0) (Text c) in
    there_filtered (shows (1 ∷ [])) (is_it c) (db 14) ∙ any_same (is_it c) (λ r. q (drop 1 r)) (first_column c) (db 14) ∙ sym (list_any_map q (λ r. drop 1 r) (db 14))
    ∙ sym (list_any-IsPermutation q (map reserved_columns it.texts) (map (λ r. drop 1 r) (db 14)) it.rows) ∙ list_any_map q reserved_columns it.texts
    ∙ any_same _ (λ t. bytes_eq t c) (λ t. equals_text (Text t) c ∙ same_text t c) it.texts ∙ sym (it.same c)
