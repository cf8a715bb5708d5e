-- Which version gets another mark, told of the row that was found.
use Rattle.reg_tables_represent.proofs.Words.{Value, sql_bool, is_version, columns_of_mark, shows_mark, VersionMark, IsOtherwise, id_unless}
use Rattle.reg_tables_represent.proofs.Common.{◌≡◌, [], ◌∷◌, ◌∙◌, ap, Bool, false, filter, Int, List, map, None, not, Option, option_and_then, pos, refl, release_key_of, shown_of, Some, sym, Trees, true, version_row, ℕ}
use Rattle.reg_tables_represent.proofs.AccountEntries.{heads, mark_is, number_is, tails}
use Rattle.reg_tables_represent.proofs.Selected.{same_one}
use Rattle.reg_tables_represent.proofs.Numbered.{same_some}

abbrev id_of : Bool → Option VersionMark → Option ℕ
id_of b found = option_and_then (λ (m : VersionMark). id_unless m.yanked b m.id) found

nothing_shown : (b : Bool) (found : Option VersionMark) → [] ≡ shown_of columns_of_mark found → id_of b found ≡ None
nothing_shown b None e = refl
nothing_shown b (Some m) e = absurd cc

one_shown : (b : Bool) (found : Option VersionMark) (n : ℕ) (text length : Value) (was : Bool) → (Int (pos n) ∷ text ∷ length ∷ sql_bool was ∷ []) ∷ [] ≡ shown_of columns_of_mark found → id_of b found ≡ id_unless was b n
one_shown b None n text length was e = absurd cc
one_shown b (Some m) n text length was e =
    let row = same_one e in
    let id = number_is (heads row) in
    let yanked = mark_is _ _ (heads (tails (tails (tails row)))) in
    λ i. id_unless (sym yanked i) b (sym id i)

pub no_id : (of_crate : ℕ) (text : List ℕ) (b : Bool) (db : Trees) (id : Option ℕ) → IsOtherwise of_crate text b db id → filter (is_version of_crate (release_key_of text) text) (db 11) ≡ [] → id ≡ None
no_id of_crate text b db id told none = told.2 ∙ nothing_shown b told.0 (sym (ap (map shows_mark) none) ∙ told.1)

pub one_id : (of_crate : ℕ) (text : List ℕ) (b : Bool) (db : Trees) (id : Option ℕ) → IsOtherwise of_crate text b db id → (n : ℕ) (digest stem : List ℕ) (description : Option (List ℕ)) (was : Bool)
    → filter (is_version of_crate (release_key_of text) text) (db 11) ≡ version_row n of_crate text (release_key_of text) digest stem description was ∷ [] → id ≡ id_unless was b n
one_id of_crate text b db id told n digest stem description was one = told.2 ∙ one_shown b told.0 n _ _ was (sym (ap (map shows_mark) one) ∙ told.1)

pub unless_none : (was b : Bool) (n : ℕ) → None ≡ id_unless was b n → was ≡ b
unless_none true true n e = refl
unless_none false false n e = refl
unless_none true false n e = absurd cc
unless_none false true n e = absurd cc

pub unless_some : (was b : Bool) (n id : ℕ) → Some id ≡ id_unless was b n → (was ≡ not b) × (n ≡ id)
unless_some true true n id e = absurd cc
unless_some false false n id e = absurd cc
unless_some true false n id e = (refl, sym (same_some e))
unless_some false true n id e = (refl, sym (same_some e))
