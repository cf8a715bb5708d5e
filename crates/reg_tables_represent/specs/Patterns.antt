-- The patterns of the token that was added last.
use Rattle.std.specs.Prelude.{◌≡◌, ℕ, ◌+◌, List, [], ◌∷◌, ◌++◌, length}
use Rattle.sqlite.specs.Tree.{Trees}
use Rattle.reg_model.specs.Registry.{Text, Token, Registry}
use Rattle.reg_tables_represent.specs.Stands.{IdAssignment, StandsBy}

-- the registry whose last token is this one
abbrev pub with_last : Registry → List Token → Token → Registry
with_last s others t = record s { tokens = others ++ t ∷ [] }

-- the token with this id, which is the last and had no patterns, has these now; nothing else has
-- changed
abbrev pub GivesPatterns : ℕ → List Text → Trees → Trees → Type 0
GivesPatterns id patterns old new =
    (ids : IdAssignment) (s : Registry) (others : List Token) (t : Token) → id ≡ 1 + length others
    → t.patterns ≡ [] → StandsBy ids (with_last s others t) old
    → StandsBy ids (with_last s others (record t { patterns = patterns })) new
