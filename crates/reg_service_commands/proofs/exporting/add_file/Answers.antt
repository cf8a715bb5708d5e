use Rattle.reg_service_commands.proofs.Words.{Ok, map, sym, ap, ◌∙◌, [], string_bytes, file_text, path_of, ListsVersions, rows_seen}
use Rattle.reg_service_commands.proofs.Words.{StoreFault, Queries, asks_made, texts_of, entry_of_version, is_given}
use Rattle.std.specs.Prelude.{◌++◌, ◌∷◌}
use Rattle.reg_access.proofs.Questions.{asks_refused}
use Rattle.reg_service_commands.proofs.ExportAsked.{file_added}
use Rattle.reg_service_commands.proofs.exporting.add_file.Goals as goal

pub returns-in-Ok : goal.returns-in-Ok
returns-in-Ok g c =
    let list = c.in_ok-versions.versions in
    let told = c.in_ok-versions.ensures in
    let asked : Queries {E = StoreFault} g.S.Store c.args.work.now c.versions_of.new.self (Ok list) (λ db list. ListsVersions c.args.listed.now.id db list.items) = record { told = λ clean. (told.told clean).1; same = told.same; leaves = told.leaves } in
    let name = sym (is_given (string_bytes c.args.listed.now.name) c.in-Some.name (rw c.as_str.ensures.value at (sym c.parse_name.ensures ∙ c.in-Some.is))).1 in
    asks_made g.S.Store list tt c.args.work.now c.versions_of.new.self
    (λ lists. file_added (rows_seen g.S.Store c.args.work.now) c.args.listed.now list.items (map texts_of c.args.files.now.items) (map texts_of c.push_file.new.files.items) lists
    (c.in-Ok.ensures ∙ ap (λ n. map texts_of c.args.files.now.items ++ (path_of n, file_text (map entry_of_version list.items)) ∷ []) name)) asked

pub returns-in_default : goal.returns-in_default
returns-in_default g c =
    asks_refused g.S.Store c.in_ok-versions.versions c.fail.result c.args.work.now c.versions_of.new.self c.fail.new.self c.fail.ensures.fails c.in_ok-versions.ensures c.fail.ensures.leaves

pub returns-in-Err : goal.returns-in-Err
returns-in-Err g c =
    asks_refused g.S.Store c.in_ok-versions.versions c.fail-in-Err.result c.args.work.now c.versions_of.new.self c.fail-in-Err.new.self c.fail-in-Err.ensures.fails c.in_ok-versions.ensures c.fail-in-Err.ensures.leaves
