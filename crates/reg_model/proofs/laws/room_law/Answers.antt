use Rattle.reg_model.proofs.Room.{files_have_room}
use Rattle.reg_model.proofs.laws.room_law.Goals as goal

pub returns : goal.returns
returns c = files_have_room
