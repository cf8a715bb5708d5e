-- What the words of a subcommand order.
use Rattle.std.specs.Prelude.{◌==◌, ◌&&◌, ◌||◌, ◌^◌, ℕ, Bool, List, [], codes, length, map, nat_lt, if◌then◌else◌, Option, Some, None, Result, Ok, Err, option_map, option_and_then, unwrap_or}
use Rattle.std.specs.Char.{is_ascii_digit}
use Rattle.std.specs.List.{list_all, slice_split}
use Rattle.std.specs.Str.{bytes_eq}
use Rattle.std.specs.Str.Parse.{digits_value}
use Rattle.clap.specs.Matches.{first_value, found_of}
use Rattle.clap.specs.declared.parser.matches.ArgMatches.{ArgMatches}
use Rattle.hex.specs.Hex.{decode_sized}
use Rattle.reg_model.specs.Events.{Command}
use Rattle.reg_model.specs.Events.Command.{UserAdd as to_user_add, UserDisable as to_disable, UserEnable as to_enable, TokenAdd as to_token_add, TokenRevoke as to_revoke, Reserve as to_reserve, Unreserve as to_unreserve, OwnerAdd as to_owner_add, Access as to_access, Users as to_users, Tokens as to_tokens, Crates as to_crates, CrateRestrict as to_restrict, CrateOpen as to_open, ReaderAdd as to_reader_add, ReaderRemove as to_reader_remove}
use Rattle.reg_model.specs.Events.Event.{Order as to_order}
use Rattle.reg_model.specs.Registry.{Text}
use Rattle.reg_model.specs.Steps.{IsFit}
use Rattle.reg_policy.specs.Events.{command_of}
use Rattle.reg_cli_args.specs.declared.orders.NewToken.{NewToken}
use Rattle.reg_cli_args.specs.declared.orders.GivenCommand.{GivenCommand}
use Rattle.reg_cli_args.specs.declared.orders.GivenCommand.TheVariants.{AddToken, Other}
use Rattle.reg_cli_args.specs.declared.orders.TokenSource.{TokenSource}
use Rattle.reg_cli_args.specs.declared.orders.TokenSource.TheVariants as source

-- it is fit for a registry; that of a new token is, with any digest
abbrev pub IsFitOrder : GivenCommand → Type 0
IsFitOrder (AddToken token) = Unit {0}
IsFitOrder (Other it) = IsFit (to_order (command_of it))

-- the value of a word or an option, by its name, where it is given
abbrev pub Given : Type 0
Given = Text → Option Text

abbrev pub given_by : ArgMatches → Given
given_by words = λ id. first_value (found_of words) id

-- the number that decimal digits write, where it is below a bound
abbrev pub number_below : ℕ → Text → Option ℕ
number_below bound text =
    if (nat_lt 0 (length text) && list_all is_ascii_digit text)
    && nat_lt (digits_value 10 text) bound then Some (digits_value 10 text) else None

-- a port that can be listened on
abbrev pub port_of : ℕ → Option ℕ
port_of number = if nat_lt 0 number && nat_lt number (2 ^ 16) then Some number else None

-- the words that most commands have
abbrev pub login_in : Given → Option Text
login_in given = given (codes "LOGIN")

abbrev pub crate_in : Given → Option Text
crate_in given = given (codes "CRATE")

abbrev pub name_in : Given → Option Text
name_in given = given (codes "NAME")

abbrev pub id_in : Given → Option ℕ
id_in given = option_and_then (number_below (2 ^ 32)) (given (codes "ID"))

-- an account with this login is added, with the name that is given
abbrev pub user_from : Given → Text → Command
user_from given login = to_user_add login (given (codes "name"))

-- a command on a crate and an account
abbrev pub on_both : Text → Text → Text → Option Command
on_both name of login =
    if bytes_eq name (codes "owner-add") then Some (to_owner_add of login)
    else if bytes_eq name (codes "reader-add") then Some (to_reader_add of login)
    else if bytes_eq name (codes "reader-remove") then Some (to_reader_remove of login)
    else None

module _ (name : Text) (given : Given) where
  abbrev pub pair_command : Option Command
  pair_command =
      option_and_then (λ of. option_and_then (on_both name of) (login_in given)) (crate_in given)

  -- a command on an account or a token
  abbrev pub account_command : Option Command
  account_command =
      if bytes_eq name (codes "user-add") then option_map (user_from given) (login_in given)
      else if bytes_eq name (codes "user-disable") then option_map to_disable (login_in given)
      else if bytes_eq name (codes "user-enable") then option_map to_enable (login_in given)
      else if bytes_eq name (codes "token-revoke") then option_map to_revoke (id_in given)
      else None

  -- a command on a name
  abbrev pub name_command : Option Command
  name_command =
      if bytes_eq name (codes "reserve") then option_map to_reserve (name_in given)
      else if bytes_eq name (codes "unreserve") then option_map to_unreserve (name_in given)
      else if bytes_eq name (codes "crate-restrict") then option_map to_restrict (crate_in given)
      else if bytes_eq name (codes "crate-open") then option_map to_open (crate_in given)
      else None

  -- a report
  abbrev pub report_command : Option Command
  report_command =
      if bytes_eq name (codes "users") then Some to_users
      else if bytes_eq name (codes "tokens") then Some to_tokens
      else if bytes_eq name (codes "crates") then Some to_crates
      else if bytes_eq name (codes "access") then option_map to_access (crate_in given)
      else None

-- where the text of a new token is from: its digest is told, or a file has the random bytes
pub data Source : Type 0 where
  Told : Text → Source
  Random : Text → Source

-- a token that is to be added
pub record TokenWords : Type 0 where
  pub login : Text
  pub endpoints : List Text
  pub patterns : List Text
  pub source : Source

-- what is ordered: a token, or a command that is whole
pub data Ordered : Type 0 where
  Token : TokenWords → Ordered
  Whole : Command → Ordered

-- the digest that 64 hex digits write
abbrev pub only_ok : {E : Type 0} → Result Text E → Option Text
only_ok (Ok bytes) = Some bytes
only_ok (Err e) = None

abbrev pub digest_from : Text → Option Text
digest_from text = only_ok (decode_sized text 32)

-- what commas separate
abbrev pub parts_of : Option Text → List Text
parts_of None = []
parts_of (Some list) = slice_split (λ b. b == 44) list

abbrev pub source_from : Option Text → Option Text → Option Source
source_from (Some digest) random = option_map Told (digest_from digest)
source_from None random = Some (Random (unwrap_or random (codes "/dev/urandom")))

abbrev pub source_given : Given → Option Source
source_given given = source_from (given (codes "digest")) (given (codes "random"))

abbrev pub token_words : Given → Option TokenWords
token_words given = option_and_then (λ login. option_map (λ from. record {
  login = login;
  endpoints = parts_of (given (codes "endpoints"));
  patterns = parts_of (given (codes "patterns"));
  source = from;
}) (source_given given)) (login_in given)

abbrev pub is_pair : Text → Bool
is_pair name = bytes_eq name (codes "owner-add")
    || (bytes_eq name (codes "reader-add") || bytes_eq name (codes "reader-remove"))

abbrev pub is_account : Text → Bool
is_account name = bytes_eq name (codes "user-add")
    || (bytes_eq name (codes "user-disable")
    || (bytes_eq name (codes "user-enable") || bytes_eq name (codes "token-revoke")))

-- what the words of the subcommand with this name order
abbrev pub order_from : Text → Given → Option Ordered
order_from name given =
    if bytes_eq name (codes "token-add") then option_map Token (token_words given)
    else if is_pair name then option_map Whole (pair_command name given)
    else if is_account name then option_map Whole (account_command name given)
    else option_map Whole (name_command name given)

-- what the values of the program stand for
abbrev pub source_of : TokenSource → Source
source_of (source.Told digest) = Told digest
source_of (source.Random file) = Random file.now

abbrev pub words_of : NewToken → TokenWords
words_of token = record {
  login = token.login.now;
  endpoints = map (λ w. w.now) token.endpoints.items;
  patterns = map (λ p. p.now) token.patterns.items;
  source = source_of token.source;
}

abbrev pub ordered_of : GivenCommand → Ordered
ordered_of (AddToken token) = Token (words_of token)
ordered_of (Other it) = Whole (command_of it)

-- the command that adds a token, with the digest of its text
abbrev pub token_command : TokenWords → Text → Command
token_command words digest =
    to_token_add words.login words.endpoints words.patterns digest
