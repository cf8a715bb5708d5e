-- A crate has few versions where its summary tells of a short index file.
use Rattle.reg_tables_represent.proofs.Words.{◌≡◌, ◌<◌, ◌≤◌, ℕ, true, false, length, nat_le, nat_lt, Option, Some, None, ap, subst, ◌∙◌}
use Rattle.reg_tables_represent.proofs.Words.{arith, ltb-true, file, versions, Sound, Summary, told_of}
use Rattle.std.proofs.Common.{◌*◌}
use Rattle.reg_tables_represent.proofs.Common.{option_map, Registry, Text, unwrap_or}
use Rattle.std.proofs.Math.Nat.{lt_of_mul-lt-mul_right}
use Rattle.std.proofs.lemmas.Bool.{false≢true}
use Rattle.reg_line.specs.Shortest.{shortest_line}
use Rattle.reg_model.proofs.Room.{files_have_room}
use Rattle.reg_tables_represent.proofs.CrateCounts.{not_le}

fewer : (line n number file : ℕ) → n * line ≤ file → file < number * line → n < number
fewer line n number file p q = lt_of_mul-lt-mul_right line (omega (arith, p, q))

-- what the summary tells of the file
told : (found : Option Summary) (o : Option Text) (name : Text) (long : Text → ℕ) (bound : ℕ) → o ≡ Some name → option_map (λ m. m.index_length) found ≡ told_of o None (λ n. Some (long n))
    → unwrap_or (option_map (λ m. nat_lt m.index_length bound) found) false ≡ true → long name < bound
told None o name long bound at e short = absurd (false≢true short)
told (Some m) o name long bound at e short =
    let is : Some m.index_length ≡ Some (long name) = e ∙ ap (λ o. told_of o None (λ n. Some (long n))) at in
    let same : m.index_length ≡ long name = cc in
    subst (λ k. k < bound) same (ltb-true _ _ short)

pub few_lines : (s : Registry) (name : Text) (number : ℕ) (o : Option Text) (found : Option Summary) → Sound s → o ≡ Some name
    → option_map (λ m. m.index_length) found ≡ told_of o None (λ n. Some (length (file s n)))
    → unwrap_or (option_map (λ m. nat_lt m.index_length (number * shortest_line name)) found) false ≡ true → nat_le number (length (versions s name)) ≡ false
few_lines s name number o found sound at e short =
    let line = shortest_line name in
    let low = told found o name (λ n. length (file s n)) (number * line) at e short in
    not_le number (length (versions s name)) (fewer line (length (versions s name)) number (length (file s name)) (files_have_room s name sound) low)
