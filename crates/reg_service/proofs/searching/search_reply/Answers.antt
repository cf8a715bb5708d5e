use Rattle.reg_service.proofs.Words.{inl, inr, arith, refl, subst, sym, IsOurs, edition_in, shown}
use Rattle.reg_service.proofs.searching.search_reply.Goals as goal

pub returns-in-Ok-clause-left : goal.returns-in-Ok-clause-left
returns-in-Ok-clause-left g c =
    let it = c.in-Ok.ensures in
    record {
      refused = λ clean. inr (inl (it.reads.same clean));
      ours = subst (λ e. IsOurs e (shown g.S.Store c.search.new.tables)) (sym it.edition) (it.reads.ours (edition_in c.args.tables.now) c.requires.ours);
      edition = it.edition;
      shut = it.shut;
      survives = it.reads.survives;
    }

pub returns-in-Err : goal.returns-in-Err
returns-in-Err g c =
    let it = c.in-Err.ensures in
    record {
      sought = λ clean s h. inl refl;
      left = record {
        refused = it.reads.refused;
        ours = subst (λ e. IsOurs e (shown g.S.Store c.search.new.tables)) (sym it.edition) (it.reads.ours (edition_in c.args.tables.now) c.requires.ours);
        edition = it.edition;
        shut = it.shut;
        survives = it.reads.survives;
      };
    }

pub returns-in_default : goal.returns-in_default
returns-in_default g c = record {
  sought = λ clean s h. inl refl;
  left = record {
    refused = λ clean. inl refl;
    ours = c.requires.ours;
    edition = refl;
    shut = refl;
    survives = record { clean = omega arith; shield = λ h. h; counts = omega arith; limit = refl; closes = λ clean h. inl h; crash = λ clean db h. inl h };
  };
}
