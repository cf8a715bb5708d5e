use Rattle.reg_access.proofs.Words.{pos, refl, Int, versions_of_release}
use Rattle.reg_access.proofs.Questions.{has_asked}
use Rattle.reg_access.proofs.VersionTexts.{release_gives, release_is, release_params}
use Rattle.reg_access.proofs.texts.has_release.Goals as goal

pub has_row-requires-clause-reads : goal.has_row-requires-clause-reads
has_row-requires-clause-reads g c = release_is.plain

pub returns : goal.returns
returns g c =
    has_asked g.S.Store release_is _ (release_params (Int (pos c.args.of_crate)) c.args.text.now) (versions_of_release (Int (pos c.args.of_crate)) c.args.text.now) (release_gives (Int (pos c.args.of_crate)) c.args.text.now) c.args.work.now c.has_row.new.self c.has_row.result c.requires
    (rw (c.params-to_sql.ensures, c.params-to_sql-2.ensures, c.release_key.ensures) at c.has_row.ensures.rows) c.has_row.ensures.same c.has_row.ensures.leaves refl
