use Rattle.reg_service.proofs.Words.{sym, ap, subst, refl, ◌∙◌, false≢true, Database, HasCleanDisk, Trees, Stands, shown, StandsIn, BadBase}
use Rattle.reg_service.proofs.Words.{Damaged, Storage, UnknownSchema}
use Rattle.reg_model.specs.Registry.{empty_at}
use Rattle.reg_service.proofs.Faults.{apart, not_unknown}
use Rattle.reg_service.proofs.Opened.{itself_last}
use Rattle.reg_service.proofs.registry.Registry.create.Goals as goal

pub returns-then-not-is_base : goal.returns-then-not-is_base
returns-then-not-is_base g c =
    let invalid = sym c.is_base.ensures ∙ c.if-not-is_base.true in
    record {
      made = tt;
      bad_base = (λ _. invalid, λ _. refl);
      unknown = λ valid. absurd (false≢true (sym invalid ∙ valid));
      blank = tt;
      known = λ check. apart BadBase (Damaged check) refl;
      untouched = λ _. refl;
      undone = λ clean is. absurd (apart BadBase Storage refl is);
      kept = tt;
      handed_back = λ is. absurd (apart BadBase Storage refl is);
      last = λ clean. itself_last g.S.Store c.args.conn (λ h up db l. g.met.S.Store.settled h.store db up l);
    }

pub returns-in-Ok : goal.returns-in-Ok
returns-in-Ok g c =
    let made = c.in-Ok.ensures in
    record {
      made = record {
        goes_on = made.ours.1;
        shows = empty_shown;
        alone = λ clean db l. let rest = (made.made clean).1 in
            subst (λ (trees : Trees). Stands (empty_at c.args.base.now) trees) (ap (λ (d : Database). d.trees) rest.settled ∙ sym (made.alone clean db l)) (made.stands clean);
        limited = refl;
      };
      bad_base = tt;
      unknown = tt;
      blank = made.blank;
      known = tt;
      untouched = tt;
      undone = tt;
      kept = made.kept;
      handed_back = tt;
      last = tt;
    }
  where
    empty_shown : HasCleanDisk (shown g.S.Store c.in-Ok.tables) → StandsIn (empty_at c.args.base.now) (shown g.S.Store c.in-Ok.tables)
    empty_shown clean up = let it = c.in-Ok.ensures.stands clean in
        (it.0, record { sound = c.soundness_law.ensures.empty c.args.base.now (sym c.is_base.ensures ∙ c.if-not-is_base.false); stands = it.1 })

pub returns-in-Err-default-UnknownSchema : goal.returns-in-Err-default-UnknownSchema
returns-in-Err-default-UnknownSchema g c =
    let valid = sym c.is_base.ensures ∙ c.if-not-is_base.false in
    record {
      made = tt;
      bad_base = (λ is. absurd (apart UnknownSchema BadBase refl is), λ no. absurd (false≢true (sym no ∙ valid)));
      unknown = λ _. (λ _. c.in-Err-default-UnknownSchema.ensures.unknown.0 c.in-Err-default-UnknownSchema.field-0-1-is, λ _. refl);
      blank = tt;
      known = λ check. apart UnknownSchema (Damaged check) refl;
      untouched = λ _. c.in-Err-default-UnknownSchema.ensures.untouched c.in-Err-default-UnknownSchema.field-0-1-is;
      undone = λ clean is. absurd (apart UnknownSchema Storage refl is);
      kept = tt;
      handed_back = λ _. c.in-Err-default-UnknownSchema.ensures.handed_back;
      last = c.in-Err-default-UnknownSchema.ensures.last;
    }

pub returns-in-Err-default-Storage : goal.returns-in-Err-default-Storage
returns-in-Err-default-Storage g c =
    let valid = sym c.is_base.ensures ∙ c.if-not-is_base.false in
    record {
      made = tt;
      bad_base = (λ is. absurd (apart Storage BadBase refl is), λ no. absurd (false≢true (sym no ∙ valid)));
      unknown = λ _. (
        λ is. absurd (apart Storage UnknownSchema refl is),
        λ differs. absurd
            (not_unknown (sym c.in-Err-default-Storage.field-0-1-is ∙ c.in-Err-default-Storage.ensures.unknown.1 differs)),
      );
      blank = tt;
      known = λ check. apart Storage (Damaged check) refl;
      untouched = λ no. absurd (no refl);
      undone = λ clean _. c.in-Err-default-Storage.ensures.undone clean c.in-Err-default-Storage.field-0-1-is;
      kept = tt;
      handed_back = λ _. c.in-Err-default-Storage.ensures.handed_back;
      last = c.in-Err-default-Storage.ensures.last;
    }
