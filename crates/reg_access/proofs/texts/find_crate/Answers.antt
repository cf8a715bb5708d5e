use Rattle.reg_access.proofs.Words.{[], ◌∷◌, pos, refl, Int, Text, crates_seen_by}
use Rattle.reg_access.specs.Found.{columns_of_crate}
use Rattle.reg_access.proofs.Questions.{only_asked}
use Rattle.reg_access.proofs.CrateText.{crate_gives, crate_is}
use Rattle.reg_access.proofs.texts.find_crate.Goals as goal

pub select_one-requires-clause-reads : goal.select_one-requires-clause-reads
select_one-requires-clause-reads g c = crate_is.plain

pub returns : goal.returns
returns g c =
    only_asked g.S.Store crate_is _ (Text c.args.canon.now ∷ Int (pos c.args.account) ∷ []) (crates_seen_by c.args.canon.now (Int (pos c.args.account))) (crate_gives c.args.canon.now (Int (pos c.args.account))) c.args.work.now c.select_one.new.self columns_of_crate c.select_one.result c.requires
    (rw (c.params-to_sql.ensures, c.params-to_sql-2.ensures, c.as_str.ensures) at c.select_one.ensures.row) c.select_one.ensures.same c.select_one.ensures.leaves refl
