-- A request within a transaction is answered as the registry answers that the rows stand for.
use Rattle.std.specs.Prelude.{◌≡◌, length, Some, Option}
use Rattle.sqlite.specs.Tree.{Trees}
use Rattle.reg_body.specs.declared.limits.Limits.{Limits}
use Rattle.reg_model.specs.Effects.{served}
use Rattle.reg_model.specs.Events.{Asked}
use Rattle.reg_model.specs.Events.Answer.{File}
use Rattle.reg_model.specs.Events.Asked.{Index}
use Rattle.reg_model.specs.Events.Event.{Ask}
use Rattle.reg_model.specs.Registry.{Registry, Text}
use Rattle.reg_model.specs.Steps.{outcome}
use Rattle.reg_api_replies.specs.Replies.{Says}
use Rattle.reg_tables_represent.specs.Stands.{StandsSoundBy, IdAssignment, Stands}
use Rattle.reg_service_index.specs.Found.{file_at}
use Rattle.reg_service_requests.specs.declared.served.Served.{Served}
use Rattle.reg_service_requests.specs.declared.served.Served.TheVariants.{Done, Seeks, Sends, ReadOnly}

-- What is told is the answer, and the state stays. What is done is answered so, and the rows are
-- those of the state after it. A search is answered what this account is served, and a request for
-- an index file that file, which is this long.
abbrev pub Serves : Limits → Option Text → Asked → Trees → Trees → Served → Type 0
Serves limits digest asked old new (ReadOnly reply) =
    (ids : IdAssignment) (s : Registry) → StandsSoundBy ids s old
    → Says asked (outcome limits s (Ask digest asked)).0 reply
    × ((outcome limits s (Ask digest asked)).1 ≡ s)
Serves limits digest asked old new (Done reply) =
    (ids : IdAssignment) (s : Registry) → StandsSoundBy ids s old
    → Says asked (outcome limits s (Ask digest asked)).0 reply
    × Stands (outcome limits s (Ask digest asked)).1 new
Serves limits digest asked old new (Seeks id) =
    (ids : IdAssignment) (s : Registry) → StandsSoundBy ids s old
    → outcome limits s (Ask digest asked) ≡ (served s (Some id) asked, s)
Serves limits digest asked old new (Sends f) =
    ((path : Text) × (asked ≡ Index path))
    × ((ids : IdAssignment) (s : Registry) → StandsSoundBy ids s old
    → (outcome limits s (Ask digest asked) ≡ (File (file_at ids s f), s))
    × (f.length ≡ length (file_at ids s f)))
