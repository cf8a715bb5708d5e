-- The bytes of a setup file as a text.
use Rattle.std.specs.Prelude.{◌≡◌, ℕ, List, codes, Result, Ok, Err, String, string_bytes}
use Rattle.std.specs.Str.{IsUtf8}
use Rattle.std.specs.declared.alloc.Global.{Global}
use Rattle.reg_cli_line.specs.declared.exit.Exit.{Exit}
use Rattle.reg_cli_run.specs.Exits.{EndsWith}

-- the same bytes, where they are UTF-8; else none of its lines is done
abbrev pub IsSetup : List ℕ → Result (String Global) Exit → Type 0
IsSetup bytes (Ok text) = string_bytes text ≡ bytes
IsSetup bytes (Err exit) = ¬ (IsUtf8 bytes) × EndsWith 2 (codes "bad setup line") exit
