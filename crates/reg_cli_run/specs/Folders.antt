-- Files that are written into a folder, and their paths.
use Rattle.std.specs.Prelude.{◌≡◌, ◌⊎◌, ◌++◌, ⊤, ℕ, List, [], ◌∷◌, codes, map, Option, Some, None, String, Vec}
use Rattle.std.specs.declared.alloc.Global.{Global}
use Rattle.reg_model.specs.Registry.{Text}
use Rattle.reg_service_commands.specs.Exported.{texts_of}
use Rattle.reg_cli_line.specs.declared.exit.Exit.{Exit}
use Rattle.reg_cli_run.specs.Exits.{EndsWith}

-- what stands at a path in a folder
abbrev pub joined : Text → Text → Text
joined folder path = folder ++ (codes "/" ++ path)

-- the files that are known grow by some more
abbrev pub GainsAll : Option (List (Text × Text)) → Option (List (Text × Text))
    → List (Text × Text) → Type 0
GainsAll None new more = ⊤
GainsAll (Some files) None more = ⊥
GainsAll (Some files) (Some now) more = now ≡ files ++ more

abbrev pub Gains : Option (List (Text × Text)) → Option (List (Text × Text)) → Text → Text
    → Type 0
Gains old new path bytes = GainsAll old new ((path, bytes) ∷ [])

-- each file was written at its path, or one could not be
abbrev pub EndsWriting : Option (List (Text × Text)) → Option (List (Text × Text))
    → List (String Global × Vec ℕ Global) → Exit → Type 0
EndsWriting old new files exit =
    (EndsWith 0 [] exit × GainsAll old new (map texts_of files))
    ⊎ EndsWith 3 (codes "storage") exit

-- the files were not all written
abbrev pub EndsExporting : Exit → Type 0
EndsExporting exit = EndsWith 3 (codes "storage") exit ⊎ EndsWith 3 (codes "memory") exit

-- all of these files were written, or the run ends with a fault
abbrev pub IsExported : Option (List (Text × Text)) → Option (List (Text × Text))
    → List (Text × Text) → Exit → Type 0
IsExported old new files exit = (EndsWith 0 [] exit × GainsAll old new files) ⊎ EndsExporting exit
