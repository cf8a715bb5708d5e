use Rattle.reg_access.proofs.Words.{[], ◌∷◌, refl, Text, reserved_as}
use Rattle.reg_access.proofs.Questions.{has_asked}
use Rattle.reg_tables_sql.proofs.ReservedQueries.{by_canon_is}
use Rattle.reg_access.proofs.ReservedText.{reserved_gives}
use Rattle.reg_access.proofs.texts.is_reserved.Goals as goal

pub has_row-requires-clause-reads : goal.has_row-requires-clause-reads
has_row-requires-clause-reads g c = by_canon_is.plain

pub returns : goal.returns
returns g c =
    has_asked g.S.Store by_canon_is _ (Text c.args.canon.now ∷ []) (reserved_as c.args.canon.now) (reserved_gives c.args.canon.now) c.args.work.now c.has_row.new.self c.has_row.result c.requires
    (rw (c.params-to_sql.ensures, c.as_str.ensures) at c.has_row.ensures.rows) c.has_row.ensures.same c.has_row.ensures.leaves refl
