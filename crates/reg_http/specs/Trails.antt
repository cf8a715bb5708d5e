-- What the trail of a registry's changes does to the writer that it is written to.
use Rattle.std.specs.Prelude.{◌≡◌, ◌⊎◌, ◌+◌, ◌≤◌, ◌<◌, ◌++◌, ℕ, [], length, Option}
use Rattle.std.specs.Io.KnownBytes.{Appends}
use Rattle.reg_body.specs.Counting.{CountedEnd}
use Rattle.reg_model.specs.Registry.{Text}

-- a writer whose calls are counted, and how many more it may be given
pub record TrailEnd (T : Type 0) : Type 0 where
  pub end : CountedEnd T
  pub left : ℕ

-- how far a trail is written: the bytes, if they are known, the calls, how many of them failed, and
-- how many are left
pub record Tail : Type 0 where
  pub contents : Option Text
  pub calls : ℕ
  pub failures : ℕ
  pub left : ℕ

-- how far this one is written, of these contents
abbrev pub tail : {T : Type 0} → Option Text → TrailEnd T → Tail
tail contents trail = record {
  contents = contents;
  calls = trail.end.calls;
  failures = trail.end.failures;
  left = trail.left;
}

-- The text was written behind the trail, or a front of it, where a write failed or no call was
-- left. Where a write failed, no call is left.
pub record Trails (old new : Tail) (text : Text) : Type 0 where
  pub front : Text
  pub rest : Text
  pub whole : text ≡ front ++ rest
  pub appends : Appends old.contents new.contents front
  pub some : 0 < length front → old.calls < new.calls
  pub calls : old.calls ≤ new.calls
  pub turns : new.calls + new.left ≤ old.calls + old.left
  pub failures : old.failures ≤ new.failures
  pub ends : (rest ≡ []) ⊎ (new.left ≡ 0)
  pub cause : (new.calls + new.left ≡ old.calls + old.left)
      ⊎ ((new.left ≡ 0) × (old.failures < new.failures))

-- some text was told so, whatever the registry
abbrev pub IsTrailed : Tail → Tail → Type 0
IsTrailed old new = (text : Text) × Trails old new text
