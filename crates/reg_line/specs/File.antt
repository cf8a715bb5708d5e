-- Index files (the Cargo Book, "Registry Index", "Index format"): lines of a kept stem and a
-- yanked mark.
use Rattle.std.specs.Prelude.{ℕ, Bool, true, false, List, [], ◌∷◌, ◌++◌, codes}
use Rattle.std.specs.List.{flat_map}
use Rattle.reg_line.specs.declared.index_file.Entry.{Entry}

-- what follows a stem in its line: the mark, the end of the object, a line feed
abbrev pub end_of : Bool → List ℕ
end_of true = codes "true}" ++ (10 ∷ [])
end_of false = codes "false}" ++ (10 ∷ [])

-- the line of a stem and its mark
abbrev pub line_of : List ℕ × Bool → List ℕ
line_of e = e.0 ++ end_of e.1

-- the lines in the order of the entries
abbrev pub file_text : List (List ℕ × Bool) → List ℕ
file_text es = flat_map line_of es

abbrev pub entry_view : Entry → List ℕ × Bool
entry_view e = (e.stem.items, e.yanked)
