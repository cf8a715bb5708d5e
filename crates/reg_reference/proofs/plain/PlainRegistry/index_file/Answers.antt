use Rattle.reg_reference.proofs.Words.{[], sym, ◌∙◌, ap, unwrap_or, Registry, registry_of}
use Rattle.std.specs.Prelude.{map}
use Rattle.reg_line.specs.File.{entry_view, file_text}
use Rattle.reg_model.specs.Crates.{file}
use Rattle.reg_model.specs.Events.Answer.{File}
use Rattle.reg_reference.proofs.plain.PlainRegistry.index_file.Goals as goal

pub returns : goal.returns
returns c =
    let s : Registry = registry_of c.args.self.now in
    let read = ap (λ o. unwrap_or o []) (sym c.unwrap-name.ensures ∙ c.name_of_path.ensures.value) in
    ap File (c.in_ok-file.ensures ∙ ap (λ es. file_text (map entry_view es)) c.as_slice.ensures.value ∙ ap file_text c.in_ok-entries.ensures ∙ ap (file s) read)
