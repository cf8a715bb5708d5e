-- The laws of trails.
use Rattle.std.specs.Prelude.{◌≡◌, ◌≢◌, ◌⊎◌, ◌<◌, ◌^◌, ℕ, ◌&&◌, codes, nat_le, Bool, true, List, [], ◌∷◌, ◌++◌, length, Some, None}
use Rattle.std.specs.Fmt.{decimal}
use Rattle.std.specs.List.{list_all}
use Rattle.std.specs.FinSet as finset
use Rattle.reg_body.specs.declared.limits.Limits.{Limits}
use Rattle.reg_names.specs.Names.{canon}
use Rattle.reg_model.specs.Lists.{IsIn}
use Rattle.reg_model.specs.Registry.{Text, Account, Publication, Registry, Token, id_of_login, ids_of, with_id}
use Rattle.reg_model.specs.Events.{Answer, Event}
use Rattle.reg_model.specs.Events.Event.{Ask, Order}
use Rattle.reg_model.specs.Sound.{Sound}
use Rattle.reg_model.specs.Steps.{IsFit, Run, outcome}
use Rattle.reg_model.specs.Trail.{event_words, line, line_of, opened, opened_words, told, trail, with_asker, words_of}
use Rattle.reg_model.specs.Replay.{AreAlike, at_commas, lines_in, replay}

-- what has no line changes nothing, and what has one changes something
abbrev pub UntoldKeep : Type 0
UntoldKeep = (limits : Limits) (s : Registry) (e : Event) → line limits s e ≡ None
    → (outcome limits s e).1 ≡ s

abbrev pub ToldChange : Type 0
ToldChange = (limits : Limits) (s : Registry) (e : Event) (l : Text) → line limits s e ≡ Some l
    → (outcome limits s e).1 ≢ s

-- characters from space to `~`, and those of them but for the space
abbrev pub is_printed : ℕ → Bool
is_printed b = nat_le 32 b && nat_le b 126

abbrev pub is_plain : ℕ → Bool
is_plain b = nat_le 33 b && nat_le b 126

abbrev pub is_word : Text → Bool
is_word = list_all is_plain

abbrev pub are_words : List Text → Bool
are_words = list_all is_word

-- one line: characters from space to `~`, and a line feed behind them
abbrev pub IsLine : Text → Type 0
IsLine l = (front : Text) × (l ≡ front ++ 10 ∷ []) × (list_all is_printed front ≡ true)

-- where ids have 64 bits
abbrev pub HasIds : Registry → Type 0
HasIds s = length s.tokens < 2 ^ 64

-- the line of an event is one line, and its words can be read back
abbrev pub LinesAreRead : Type 0
LinesAreRead = (limits : Limits) (s : Registry) (e : Event) (words : List Text) → Sound s
    → HasIds s → IsFit e → event_words limits s e ≡ Some words
    → let all = with_asker s e words in IsLine (line_of all) × (words_of (line_of all) ≡ all)

-- who is named: the token with this digest, by its number, and its account, by login
pub record NamesToken (s : Registry) (digest who login : Text) : Type 0 where
  pub id : ℕ
  pub token : Token
  pub account : Account
  pub number : who ≡ decimal id
  pub held : with_id s.tokens id ≡ Some token
  pub digest_is : token.digest ≡ digest
  pub of_account : with_id s.accounts token.account ≡ Some account
  pub login_is : login ≡ account.login

-- the words of a line name who it was: the token of a request, or the administrator
abbrev pub NamesAsker : Registry → Event → List Text → Type 0
NamesAsker s (Ask (Some digest) asked) (who ∷ login ∷ words) = NamesToken s digest who login
NamesAsker s (Order c) (who ∷ login ∷ words) = (who ≡ codes "-") × (login ≡ codes "admin")
NamesAsker s e words = ⊥

abbrev pub LinesNameAskers : Type 0
LinesNameAskers = (limits : Limits) (s : Registry) (e : Event) (l : Text) → Sound s → HasIds s
    → IsFit e → line limits s e ≡ Some l → NamesAsker s e (words_of l)

-- the trail of a run and of one from where it ends is that of both
abbrev pub TrailsJoin : Type 0
TrailsJoin = (limits : Limits) (s m : Registry) (es fs : List Event) (xs ys : List Answer)
    → Run limits s es xs m
    → trail limits s (es ++ fs) (xs ++ ys) ≡ trail limits s es xs ++ trail limits m fs ys

-- the trail of one event
abbrev pub TrailOfOne : Type 0
TrailOfOne = (limits : Limits) (s : Registry) (e : Event) (a : Answer)
    → trail limits s (e ∷ []) (a ∷ []) ≡ told limits s e a

-- the trail of a run, done again where it began, leads to where it ends
abbrev pub TrailsReplay : Type 0
TrailsReplay = (limits : Limits) (s t : Registry) (es : List Event) (xs : List Answer) → Sound s
    → HasIds t → Run limits s es xs t → AreAlike (replay s (lines_in (trail limits s es xs))) t

-- where counts have 64 bits
pub record HasCounts (s : Registry) : Type 0 where
  pub accounts : length s.accounts < 2 ^ 64
  pub tokens : HasIds s
  pub publications : length s.publications < 2 ^ 64

-- a mark is one line, and its words can be read back
abbrev pub MarksAreRead : Type 0
MarksAreRead = (s : Registry) → HasCounts s
    → IsLine (opened s) × (words_of (opened s) ≡ opened_words s)

-- the trails of a run and of one from where it ends, with a mark between them, tell both runs
abbrev pub MarksAreReplayed : Type 0
MarksAreReplayed = (limits : Limits) (s t u : Registry) (es fs : List Event) (xs ys : List Answer)
    → Sound s → HasCounts t → HasIds u → Run limits s es xs t → Run limits t fs ys u
    → AreAlike (replay s
    (lines_in (trail limits s es xs ++ opened t ++ trail limits t fs ys))) u

-- the mark is that of what the lines before it lead to: where it is another, lines are missing
abbrev pub MarksShowGaps : Type 0
MarksShowGaps = (limits : Limits) (s t : Registry) (es : List Event) (xs : List Answer) → Sound s
    → HasIds t → Run limits s es xs t
    → opened (replay s (lines_in (trail limits s es xs))) ≡ opened t

-- two runs with one trail from one registry differ in nothing but what publications carry, and in
-- the digests of tokens
abbrev pub SameTrails : Type 0
SameTrails = (limits : Limits) (s t u : Registry) (es fs : List Event) (xs ys : List Answer)
    → Sound s → HasIds t → HasIds u → Run limits s es xs t → Run limits s fs ys u
    → trail limits s es xs ≡ trail limits s fs ys → AreAlike t u

-- a line of the trail of which this is true
abbrev pub HasLine : Text → (List Text → Type 0) → Type 0
HasLine trail fact = (words : List Text) × IsIn words (lines_in trail) × fact words

-- a line that publishes a version, and one that yanks one of the crate with a canonical text
abbrev pub Publishes : Publication → List Text → Type 0
Publishes p (who ∷ login ∷ verb ∷ n ∷ v ∷ []) =
    (verb ≡ codes "publish") × (n ≡ p.name) × (v ≡ p.version)
Publishes p words = ⊥

abbrev pub Yanks : Text → Text → List Text → Type 0
Yanks c version (who ∷ login ∷ verb ∷ n ∷ v ∷ []) =
    (verb ≡ codes "yank") × (canon n ≡ c) × (v ≡ version)
Yanks c version words = ⊥

-- a line that makes an account an owner of a crate: as the one who publishes it first, as one of
-- those whom an owner adds, or as the one whom the administrator adds
abbrev pub GivesOwner : Registry → Text → ℕ → List Text → Type 0
GivesOwner t c id (who ∷ login ∷ verb ∷ n ∷ x ∷ []) = (canon n ≡ c)
    × (((verb ≡ codes "publish") × (id_of_login t login ≡ Some id))
    ⊎ (((verb ≡ codes "add-owners") × IsIn id (ids_of t (at_commas x)))
    ⊎ ((verb ≡ codes "owner-add") × (id_of_login t x ≡ Some id))))
GivesOwner t c id words = ⊥

-- each publication, mark and owner that a run brings has its line
abbrev pub PublicationsAreTold : Type 0
PublicationsAreTold = (limits : Limits) (s t : Registry) (es : List Event) (xs : List Answer)
    → Sound s → HasIds t → Run limits s es xs t → (p : Publication) → IsIn p t.publications
    → IsIn p s.publications ⊎ HasLine (trail limits s es xs) (Publishes p)

abbrev pub YanksAreTold : Type 0
YanksAreTold = (limits : Limits) (s t : Registry) (es : List Event) (xs : List Answer)
    → Sound s → HasIds t → Run limits s es xs t
    → (c v : Text) → finset.contains t.yanked (c, v) ≡ true
    → (finset.contains s.yanked (c, v) ≡ true) ⊎ HasLine (trail limits s es xs) (Yanks c v)

abbrev pub OwnersAreTold : Type 0
OwnersAreTold = (limits : Limits) (s t : Registry) (es : List Event) (xs : List Answer)
    → Sound s → HasIds t → Run limits s es xs t
    → (c : Text) (id : ℕ) → finset.contains t.owners (c, id) ≡ true
    → (finset.contains s.owners (c, id) ≡ true)
    ⊎ HasLine (trail limits s es xs) (GivesOwner t c id)
