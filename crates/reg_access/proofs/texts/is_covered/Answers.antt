use Rattle.reg_access.proofs.Words.{[], ◌∷◌, pos, refl, Int, Text, scopes_over}
use Rattle.reg_access.proofs.Questions.{has_asked}
use Rattle.reg_access.proofs.ScopeText.{scopes_give, scopes_is}
use Rattle.reg_access.proofs.texts.is_covered.Goals as goal

pub has_row-requires-clause-reads : goal.has_row-requires-clause-reads
has_row-requires-clause-reads g c = scopes_is.plain

pub returns : goal.returns
returns g c =
    has_asked g.S.Store scopes_is _ (Int (pos c.args.token) ∷ Text c.args.canon.now ∷ []) (scopes_over (Int (pos c.args.token)) c.args.canon.now) (scopes_give (Int (pos c.args.token)) c.args.canon.now) c.args.work.now c.has_row.new.self c.has_row.result c.requires
    (rw (c.params-to_sql.ensures, c.params-to_sql-2.ensures, c.as_str.ensures) at c.has_row.ensures.rows) c.has_row.ensures.same c.has_row.ensures.leaves refl
