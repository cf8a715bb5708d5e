use Rattle.std.proofs.Common.{map, take}
use Rattle.reg_service_commands.specs.Exported.{texts_of}
use Rattle.reg_cli_run.specs.Folders.{GainsAll}
use Rattle.reg_cli_run.proofs.folder.write_files.Given as goal

-- the files so far were written
abbrev pub invariant-loop-file : goal.invariant-loop-file
invariant-loop-file g l = GainsAll (g.F.Folder.files l.fn.folder) (g.F.Folder.files l.folder)
    (map texts_of (take l.file-index l.files))
