-- What a report tells of the registry that the rows stand for.
use Rattle.std.specs.Prelude.{◌≡◌, ℕ, String, string_bytes}
use Rattle.std.specs.declared.alloc.Global.{Global}
use Rattle.sqlite.specs.Tree.{Trees}
use Rattle.reg_model.specs.Registry.{Registry, Text}
use Rattle.reg_model.specs.Reports.{grant_line, reader_line}
use Rattle.reg_tables_represent.specs.Calls.{Tells}
use Rattle.reg_access.specs.declared.grants.Grant.{Grant}

-- the report is this text of the registry
abbrev pub Reports : (Registry → Text) → Trees → String Global → Type 0
Reports text db report = Tells (λ ids s. string_bytes report ≡ text s) db

-- the lines of a grant and of a reader as they were asked
abbrev pub line_of_grant : Grant → Text
line_of_grant g = grant_line (g.token, g.endpoint) g.login

abbrev pub line_of_reader : ℕ × Text → Text
line_of_reader r = reader_line r.1
