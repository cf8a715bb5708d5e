use Rattle.reg_model.proofs.TrailMarks.{marks_are_read, marks_are_replayed, marks_show_gaps}
use Rattle.reg_model.proofs.laws.mark_law.Goals as goal

pub returns-clause-read : goal.returns-clause-read
returns-clause-read c = marks_are_read

pub returns-clause-replays : goal.returns-clause-replays
returns-clause-replays c = marks_are_replayed

pub returns-clause-gaps : goal.returns-clause-gaps
returns-clause-gaps c = marks_show_gaps
