-- What begins sound stays sound.
use Rattle.reg_model.proofs.Words.{◌≡◌, List, true, Some, None, refl, Limits, Text, Registry, owner_cmp, mark_cmp, text_cmp, Asked, Event}
use Rattle.reg_model.proofs.Words.{Answer, Malformed, Read, Index, Download, ListOwners, Publish, Yank, Unyank, AddOwners, RemoveOwners, Ask}
use Rattle.reg_model.proofs.Words.{account_of, IsFit, Step, Run, Sound}
use Rattle.std.specs.FinSet as finset
use Rattle.std.specs.List.{IsDistinct}
use Rattle.reg_line.specs.Base.{is_base}
use Rattle.reg_model.specs.Registry.{empty_at}
use Rattle.reg_model.specs.Refusals.{denied}
use Rattle.reg_model.specs.Effects.{done}
use Rattle.reg_model.proofs.Kept.{Kept, step_keeps, run_keeps}
use Rattle.reg_model.proofs.Lists.{true_not_false}
use Rattle.reg_model.proofs.SoundCommands.{command_keeps_sound}
use Rattle.reg_model.proofs.SoundMarks.{yank_keeps_sound, unyank_keeps_sound}
use Rattle.reg_model.proofs.SoundOwners.{add_keeps_sound, remove_keeps_sound}
use Rattle.reg_model.proofs.SoundPublish.{publish_keeps_sound}

request_keeps_sound : (limits : Limits) (s : Registry) (d : Text) (asked : Asked) → IsFit (Ask (Some d) asked) → denied limits s (Some d) asked ≡ None → Sound s → Sound (done s (account_of s d) asked)
unfolding done
request_keeps_sound limits s d (Publish p) fit ok sound = publish_keeps_sound limits s d p sound fit ok
request_keeps_sound limits s d (Yank n v) fit ok sound = yank_keeps_sound limits s d n v sound ok
request_keeps_sound limits s d (Unyank n v) fit ok sound = unyank_keeps_sound s d n v sound
request_keeps_sound limits s d (AddOwners n l) fit ok sound = add_keeps_sound limits s d n l sound ok
request_keeps_sound limits s d (RemoveOwners n l) fit ok sound = remove_keeps_sound limits s d n l sound ok
request_keeps_sound limits s d (Malformed r) fit ok sound = sound
request_keeps_sound limits s d (Read w) fit ok sound = sound
request_keeps_sound limits s d (Index p) fit ok sound = sound
request_keeps_sound limits s d (Download n v) fit ok sound = sound
request_keeps_sound limits s d (ListOwners n) fit ok sound = sound

abbrev KeepsSound : Registry → Registry → Type 0
KeepsSound s t = Sound s → Sound t

kept : (limits : Limits) → Kept limits KeepsSound
kept limits = record {
  same = λ s h. h;
  through = λ s m t f g h. g (f h);
  by_request = request_keeps_sound limits;
  by_command = command_keeps_sound limits;
}

pub steps_keep_sound : (limits : Limits) (s t : Registry) (e : Event) (a : Answer) → IsFit e → Sound s → Step limits s e a t → Sound t
steps_keep_sound limits s t e a fit sound step = step_keeps (kept limits) s t e a fit step sound

pub runs_keep_sound : (limits : Limits) (s t : Registry) (es : List Event) (xs : List Answer) → Sound s → Run limits s es xs t → Sound t
runs_keep_sound limits s t es xs sound run = run_keeps (kept limits) s t es xs run sound

pub empty_sound : (base : Text) → is_base base ≡ true → Sound (empty_at base)
unfolding IsDistinct
empty_sound base ok = record {
  base = ok;
  accounts = refl;
  logins = tt;
  tokens = refl;
  digests = tt;
  publications = tt;
  spelled = refl;
  releases = tt;
  owned = λ c h. cc h;
  owners = λ c id h. true_not_false _ h (finset.contains-empty owner_cmp (c, id));
  yanked = λ c v h. true_not_false _ h (finset.contains-empty mark_cmp (c, v));
  reserved = λ c h. true_not_false _ h (finset.contains-empty text_cmp c);
  restricted = λ c h. true_not_false _ h (finset.contains-empty text_cmp c);
  readers = λ c id h. true_not_false _ h (finset.contains-empty owner_cmp (c, id));
}
