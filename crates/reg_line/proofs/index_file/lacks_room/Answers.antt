use Rattle.std.proofs.Common.{◌≡◌, ◌<◌, ◌*◌, ◌/◌, ℕ, nat_lt, ap, arith, ◌∙◌}
use Rattle.std.proofs.Math.Nat.{div-lt_iff_lt-mul}
use Rattle.std.proofs.lemmas.Bool.{lt-ltb, ltb-true, ltb_from_iff}
use Rattle.reg_line.specs.Shortest.{shortest_line}
use Rattle.reg_line.proofs.index_file.lacks_room.Goals as goal

by_division : (line file lines own : ℕ) → own ≡ line → 0 < line → nat_lt (file / own) lines ≡ nat_lt file (lines * line)
by_division line file lines own e some =
    let iff = div-lt_iff_lt-mul {k = line} {x = file} {y = lines} some in
    ap (λ k. nat_lt (file / k) lines) e ∙ ltb_from_iff (λ h. iff.0 (ltb-true (file / line) lines h), λ h. lt-ltb (file / line) lines (iff.1 h))

pub returns : goal.returns
returns c = by_division (shortest_line c.args.name.now) c.args.file_len c.args.lines c.shortest_line.result c.shortest_line.ensures (omega arith)
