-- What a request asks for, and with which token.
use Rattle.std.specs.Prelude.{Option}
use Rattle.reg_model.specs.Registry.{Text}
use Rattle.reg_model.specs.Events.{Asked, Event}
use Rattle.reg_model.specs.Events.Event.{Ask}
use Rattle.reg_model.specs.Steps.{IsFit}

-- the digest of the token, if just one was shown, and what is asked for
pub record Request : Type 0 where
  pub digest : Option Text
  pub asked : Asked

abbrev pub event_of : Request → Event
event_of r = Ask r.digest r.asked

-- what may be asked for with any token
abbrev pub IsFitAsked : Asked → Type 0
IsFitAsked asked = (digest : Option Text) → IsFit (Ask digest asked)
