-- What is sent to the socket file of a server, and what its replies say.
use Rattle.std.specs.Prelude.{◌≡◌, ◌+◌, ◌++◌, ◌==◌, ℕ, Bool, true, List, [], ◌∷◌, codes, Option, Some, None}
use Rattle.hex.specs.Hex.{encode_lower}
use Rattle.reg_model.specs.Registry.{Text}
use Rattle.reg_cli_args.specs.Orders.{Given}

-- an argument in a message
abbrev pub argument : Text → Text
argument word = word ++ 0 ∷ []

-- what is given, if it is
abbrev pub if_given : Option Text → List Text
if_given None = []
if_given (Some value) = value ∷ []

abbrev pub value_sent : Given → Text → List Text
value_sent given place = if_given (given place)

-- an option and its value
abbrev pub named : Text → Text → List Text
named option value = (codes "--" ++ option) ∷ value ∷ []

abbrev pub if_named : Text → Option Text → List Text
if_named option None = []
if_named option (Some value) = named option value

abbrev pub option_sent : Given → Text → List Text
option_sent given option = if_named option (given option)

-- what stands behind the name of a command
abbrev pub values_sent : Given → List Text
values_sent given = value_sent given (codes "CRATE") ++ (value_sent given (codes "LOGIN")
    ++ (value_sent given (codes "NAME") ++ value_sent given (codes "ID")))

abbrev pub options_sent : Given → List Text
options_sent given = option_sent given (codes "name")
    ++ (option_sent given (codes "endpoints") ++ option_sent given (codes "patterns"))

-- the digest of a new token, and never its text
abbrev pub digest_sent : Option Text → List Text
digest_sent None = []
digest_sent (Some digest) = named (codes "digest") (encode_lower digest)

-- the arguments that are sent
abbrev pub sent_words : Text → Given → Option Text → List Text
sent_words name given digest =
    name ∷ (values_sent given ++ (options_sent given ++ digest_sent digest))

-- the lines of what was done are whole
abbrev pub is_whole : Text → Bool
is_whole [] = true
is_whole (b ∷ []) = b == 10
is_whole (b ∷ c ∷ more) = is_whole (c ∷ more)

-- the status and the text of a reply: a digit from 0 to 3, a line feed, and the text
abbrev pub IsReply : Text → Option (ℕ × Text) → Type 0
IsReply reply None = Unit {0}
IsReply reply (Some (status, text)) = reply ≡ (48 + status) ∷ 10 ∷ text
