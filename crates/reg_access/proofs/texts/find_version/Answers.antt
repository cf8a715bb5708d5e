use Rattle.reg_access.proofs.Words.{pos, refl, Int, number_columns, versions_with_text}
use Rattle.reg_access.proofs.Questions.{only_asked}
use Rattle.reg_access.proofs.VersionTexts.{version_gives, version_is, version_params}
use Rattle.reg_access.proofs.texts.find_version.Goals as goal

pub select_one-requires-clause-reads : goal.select_one-requires-clause-reads
select_one-requires-clause-reads g c = version_is.plain

pub returns : goal.returns
returns g c =
    only_asked g.S.Store version_is _ (version_params (Int (pos c.args.of_crate)) c.args.text.now) (versions_with_text (Int (pos c.args.of_crate)) c.args.text.now) (version_gives (Int (pos c.args.of_crate)) c.args.text.now) c.args.work.now c.select_one.new.self number_columns c.select_one.result c.requires
    (rw (c.params-to_sql.ensures, c.params-to_sql-2.ensures, c.params-to_sql-3.ensures, c.release_key.ensures) at c.select_one.ensures.row) c.select_one.ensures.same c.select_one.ensures.leaves refl
