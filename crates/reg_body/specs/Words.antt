-- The words of the rules that a publish body can break.
use Rattle.std.specs.Prelude.{ℕ, List, codes}
use Rattle.reg_body.specs.declared.frame.BodyFault.{BodyFault}
use Rattle.reg_body.specs.declared.frame.BodyFault.TheVariants as fault

-- the rule's code, a space and words
abbrev pub words_of : BodyFault → List ℕ
words_of fault.Short = codes "B1 publish body too short"
words_of fault.Trailing = codes "B2 publish body has trailing bytes"
words_of fault.TooLong = codes "B3 metadata or archive too long"
