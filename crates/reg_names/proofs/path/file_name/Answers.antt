-- A path can be cut behind its folder, since a name is ASCII.
use Rattle.reg_names.proofs.Words.{sym, ap, subst, length, lower, folder_of}
use Rattle.std.proofs.lemmas.Bool.{false≢true}
use Rattle.std.proofs.lemmas.Str.{IsCharBoundary-at_seam}
use Rattle.std.specs.Str.{IsCharBoundary}
use Rattle.reg_names.proofs.NameFacts.{is_name-lower, name_utf8, some_bytes}
use Rattle.reg_names.proofs.path.file_name.Goals as goal

pub returns-in-None : goal.returns-in-None
returns-in-None c = λ n named path.
    let m = lower n in
    let is = is_name-lower n named in
    let end = c.folder_len.ensures m (some_bytes m is) (ap length (sym path)) in
    let cut = subst (IsCharBoundary c.args.path.now) (sym end) (IsCharBoundary-at_seam c.args.path.now (folder_of m) m (sym path) (name_utf8 m is)) in
    absurd (false≢true (c.in-None.ensures.variant.1 cut))
