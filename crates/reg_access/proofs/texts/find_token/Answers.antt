use Rattle.reg_access.proofs.Words.{[], ◌∷◌, refl, Blob, columns_with_account, tokens_with_accounts}
use Rattle.reg_access.proofs.Questions.{only_asked}
use Rattle.reg_tables_sql.proofs.TokenQueries.{by_digest_gives, by_digest_is}
use Rattle.reg_access.proofs.texts.find_token.Goals as goal

pub select_one-requires-clause-reads : goal.select_one-requires-clause-reads
select_one-requires-clause-reads g c = by_digest_is.plain

pub returns : goal.returns
returns g c =
    only_asked g.S.Store by_digest_is _ (Blob c.args.digest.now ∷ []) (tokens_with_accounts c.args.digest.now) (by_digest_gives c.args.digest.now) c.args.work.now c.select_one.new.self columns_with_account c.select_one.result c.requires
    (rw (c.params-to_sql.ensures, c.as_slice.ensures) at c.select_one.ensures.row) c.select_one.ensures.same c.select_one.ensures.leaves refl
