-- Reading one after another: the word of a loop's invariant.
use Rattle.reg_line.proofs.Words.{List, ◌++◌, Ok, Parsed, ◌>>=◌}

-- what was read, behind what was read before
abbrev pub after : {A : Type 0} → List A → Parsed (List A) → Parsed (List A)
after front read = read >>= λ rest. Ok (front ++ rest)
