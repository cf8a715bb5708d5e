-- Where the head of a request ends (RFC 9112, sections 2 to 5). The bytes are judged at line feeds
-- alone.
use Rattle.std.specs.Prelude.{◌≡◌, ℕ, ◌<◌, ◌≤◌, ◌⊎◌, [], ◌∷◌, ◌++◌, length, take}
use Rattle.httparse.specs.Grammar.{RequestHead, ReadsRequest, NeverHasRequest}
use Rattle.reg_model.specs.Registry.{Text}

-- the bytes end with a line feed
abbrev pub EndsLine : Text → Type 0
EndsLine bytes = (line : Text) × (bytes ≡ line ++ 10 ∷ [])

-- the bytes are a head and nothing else
abbrev pub IsHead : Text → Type 0
IsHead bytes = (h : RequestHead) × ReadsRequest bytes h []

-- the first n bytes may be judged: they are at most limit, and end with a line feed
pub record IsFront (limit : ℕ) (bytes : Text) (n : ℕ) : Type 0 where
  pub small : n ≤ limit
  pub there : n ≤ length bytes
  pub ends : EndsLine (take n bytes)

-- a head, or bytes that nothing can continue to one
abbrev pub IsJudged : Text → Type 0
IsJudged front = IsHead front ⊎ NeverHasRequest front

-- the shortest front that is judged has n bytes
pub record IsCut (limit : ℕ) (bytes : Text) (n : ℕ) : Type 0 where
  pub line : IsFront limit bytes n
  pub judged : IsJudged (take n bytes)
  pub shortest : (m : ℕ) → m < n → IsFront limit bytes m → ¬ (IsJudged (take m bytes))

-- the shortest front that is judged is the head h, of n bytes
pub record IsHeadCut (limit : ℕ) (bytes : Text) (n : ℕ) (h : RequestHead) : Type 0 where
  pub cut : IsCut limit bytes n
  pub reads : ReadsRequest (take n bytes) h []

-- some front can't be continued to a head, and no front is one; so the shortest front that is
-- judged, where there is one, can't be continued
pub record IsBadCut (limit : ℕ) (bytes : Text) : Type 0 where
  pub front : ℕ
  pub line : IsFront limit bytes front
  pub never : NeverHasRequest (take front bytes)
  pub none : (n : ℕ) → IsFront limit bytes n → ¬ (IsHead (take n bytes))

-- no front is judged
abbrev pub IsUnjudged : ℕ → Text → Type 0
IsUnjudged limit bytes = (n : ℕ) → IsFront limit bytes n → ¬ (IsJudged (take n bytes))
