use Rattle.reg_service.proofs.Words.{refl, ◌∙◌, arith, state, survives_weaker, if_ok, MayBeUpgraded, BadBase, Damaged, Storage, UnknownSchema}
use Rattle.reg_service.proofs.Faults.{apart}
use Rattle.reg_service.proofs.Opened.{handed_last, if_refused, is_taken, opened_left, opened_same, only_storage, opened_sound, refused_damaged, refused_last, refused_left, refused_storage, refused_undone}
use Rattle.reg_service.proofs.registry.Registry.open.Goals as goal

pub returns-in-Ok : goal.returns-in-Ok
returns-in-Ok g c =
    let k = is_taken g.S.Store c.args.conn c.in-Ok.tables c.in-Ok.ensures.edition c.in-Ok.ensures.found c.in-Ok.ensures.about c.in-Ok.ensures.rests c.rows_law.ensures in
    let r = c.check_then_migrate.result in
    let it = c.check_then_migrate.ensures in
    let same = c.edition_law.ensures.same in
    let audited = c.edition_law.ensures.audit in
    let conn = c.args.conn in
    let tables = c.in-Ok.tables in
    record {
      goes_on = if_ok r (λ r b. b.goes_on ∙ c.in-Ok.ensures.ours.1) it.begun;
      limited = if_ok r (λ r b. b.limited) it.begun;
      clean = if_ok r (λ r early clean. let still = early clean in omega (arith, still, c.in-Ok.ensures.kept.clean)) it.clean;
      same = opened_same g.S.Store conn tables k r same it.clean it.brought c.live_law.ensures;
      sound = opened_sound g.S.Store conn tables k r same audited it.clean it.brought it.passed;
      left = opened_left g.S.Store conn tables k r same it.clean it.brought c.in-Ok.ensures.kept;
      unknown = if_refused r (λ e is clean unknown. absurd (is.0 unknown)) it.known;
      damaged = refused_damaged g.S.Store conn tables k r audited it.handed_back it.found;
      known = if_refused r (λ e is. is.1) it.known;
      refused = refused_storage g.S.Store conn r c.live_law.ensures (if_refused r (λ e is. is.1) it.known) (if_refused r (λ e is clean unknown. absurd (is.0 unknown)) it.known) (refused_damaged g.S.Store conn tables k r audited it.handed_back it.found);
      undone = refused_undone g.S.Store conn tables k r it.handed_back it.undone;
      handed_back = refused_left g.S.Store conn tables k r c.in-Ok.ensures.kept it.handed_back;
      last = refused_last g.S.Store conn tables k r (λ h up db l. g.met.S.Store.settled h.store db up l) c.in-Ok.ensures.kept it.handed_back it.undone;
    }

pub returns-in-Err-default-UnknownSchema : goal.returns-in-Err-default-UnknownSchema
returns-in-Err-default-UnknownSchema g c = record {
  goes_on = tt;
  limited = tt;
  clean = tt;
  same = tt;
  sound = tt;
  left = tt;
  unknown = λ clean is edition schema. c.in-Err-default-UnknownSchema.ensures.unknown clean c.in-Err-default-UnknownSchema.field-0-1-is edition schema;
  damaged = λ clean check is. absurd (apart UnknownSchema (Damaged check) refl is);
  known = apart UnknownSchema BadBase refl;
  refused = λ clean up s holds. only_storage UnknownSchema (state g.S.Store c.args.conn).now s holds (c.live_law.ensures up).0 (apart UnknownSchema BadBase refl)
      (λ is edition schema. c.in-Err-default-UnknownSchema.ensures.unknown clean c.in-Err-default-UnknownSchema.field-0-1-is edition schema) (λ check is. absurd (apart UnknownSchema (Damaged check) refl is));
  undone = c.in-Err-default-UnknownSchema.ensures.handed_back;
  handed_back = survives_weaker (state g.S.Store c.args.conn) (state g.S.Store c.in-Err-default-UnknownSchema.conn) _ (MayBeUpgraded UnknownSchema (state g.S.Store c.args.conn).now)
      (λ _ db none. absurd none) c.in-Err-default-UnknownSchema.ensures.left;
  last = λ clean. handed_last g.S.Store c.args.conn c.in-Err-default-UnknownSchema.conn (λ _. ⊥) (λ h up db l. g.met.S.Store.settled h.store db up l)
      (c.in-Err-default-UnknownSchema.ensures.handed_back clean) c.in-Err-default-UnknownSchema.ensures.left clean;
}

pub returns-in-Err-default-Storage : goal.returns-in-Err-default-Storage
returns-in-Err-default-Storage g c = record {
  goes_on = tt;
  limited = tt;
  clean = tt;
  same = tt;
  sound = tt;
  left = tt;
  unknown = λ clean is edition schema. absurd (apart Storage UnknownSchema refl is);
  damaged = λ clean check is. absurd (apart Storage (Damaged check) refl is);
  known = apart Storage BadBase refl;
  refused = λ clean up s holds. refl;
  undone = c.in-Err-default-Storage.ensures.handed_back;
  handed_back = survives_weaker (state g.S.Store c.args.conn) (state g.S.Store c.in-Err-default-Storage.conn) _ (MayBeUpgraded Storage (state g.S.Store c.args.conn).now)
      (λ _ db none. absurd none) c.in-Err-default-Storage.ensures.left;
  last = λ clean. handed_last g.S.Store c.args.conn c.in-Err-default-Storage.conn (λ _. ⊥) (λ h up db l. g.met.S.Store.settled h.store db up l)
      (c.in-Err-default-Storage.ensures.handed_back clean) c.in-Err-default-Storage.ensures.left clean;
}
