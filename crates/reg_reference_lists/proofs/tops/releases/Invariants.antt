use Rattle.reg_reference_lists.proofs.Words.{◌≡◌, map, take, string_bytes, parts_of}
use Rattle.std.specs.FinSet as set
use Rattle.reg_reference_lists.proofs.tops.releases.Given as goal

-- the versions so far are read
abbrev pub invariant-loop-publication : goal.invariant-loop-publication
invariant-loop-publication l = l.releases.items ≡ map (λ p. (parts_of (string_bytes p.now.version), set.contains l.yanked (l.crate_text, string_bytes p.now.version))) (take l.publication-index l.list)
