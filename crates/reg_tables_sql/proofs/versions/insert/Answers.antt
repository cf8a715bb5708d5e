use Rattle.reg_tables_sql.proofs.Words.{Ok, ◌∙◌, w64, to_z_pos, option_map, state, writes_as}
use Rattle.reg_tables_schema.proofs.Binding.{text_is, binds_text}
use Rattle.reg_tables_sql.proofs.VersionTexts.{inserts_version, insert_writes}
use Rattle.reg_tables_sql.proofs.versions.insert.Goals as goal

pub write-requires-clause-writes : goal.write-requires-clause-writes
write-requires-clause-writes g c = insert_writes

pub returns : goal.returns
returns g c =
    let old = state g.S.Store c.args.conn.now in
    let new = state g.S.Store c.write.new.conn in
    let it = c.args.version.now in
    let described = option_map (λ d. d.now) it.description in
    let description = c.params-to_sql-7.ensures ∙ text_is it.description in
    writes_as old new c.write.result c.requires.ready
    (λ at h. inserts_version old new it.id it.crate_id it.vers.now it.release.now it.digest.now it.stem.now described (Ok h.0) at h.1)
    (rw (
      c.params-to_sql.ensures,
      c.params-to_sql-2.ensures,
      c.params-to_sql-3.ensures,
      c.params-to_sql-4.ensures,
      c.params-to_sql-5.ensures,
      c.params-to_sql-6.ensures,
      description,
      binds_text described,
      to_z_pos w64 c.requires.small,
      c.as_slice.ensures,
    ) at c.write.ensures)
