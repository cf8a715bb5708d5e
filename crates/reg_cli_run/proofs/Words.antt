-- What the words of a line order, by what the call that gives its subcommand says.
use Rattle.std.proofs.Common.{◌≡◌, ◌∙◌, refl, sym, ap, ap₂, inl, inr, Bool, true, false, length, List, [], ◌∷◌, Option, Some, None, option_map, option_and_then, unwrap_or}
use Rattle.std.specs.Prelude.{if◌then◌else◌}
use Rattle.std.specs.List.{list_any}
use Rattle.std.proofs.Math.Dec.{eqb-suc-zero}
use Rattle.std.proofs.Math.Path.{fun_ext}
use Rattle.clap.specs.Faults.{fault_of}
use Rattle.clap.specs.Walk.{is_empty}
use Rattle.clap.specs.Words.{HasKind, IsAmong, Kinds, Row, found_of, kind_of, rows_of, subcommand_name_of, subcommand_of, subcommand_rows_of}
use Rattle.clap.specs.declared.error.Error.{Error}
use Rattle.clap.specs.declared.error.kind.ErrorKind.{ErrorKind}
use Rattle.clap.specs.declared.error.kind.ErrorKind.TheVariants.{OutOfMemory}
use Rattle.clap.specs.declared.parser.matches.ArgMatches.{ArgMatches}
use Rattle.clap.specs.declared.parser.matches.ArgMatches.TheViews.{out-ArgMatches}
use Rattle.clap.proofs.WalkLemmas.{first_value-rows}
use Rattle.reg_model.specs.Events.{Command}
use Rattle.reg_model.specs.Registry.{Text}
use Rattle.reg_cli_args.specs.Orders.{given_by, order_from, ordered_of, report_command}
use Rattle.reg_cli_args.specs.declared.orders.GivenCommand.{GivenCommand as Read}
use Rattle.reg_cli_args.specs.Dashes.{is_dashed}
use Rattle.reg_cli_args.specs.Grammar.{message_app, setup_app}
use Rattle.reg_cli_run.specs.LineOrders.{IsUnread, fault_by, line_order, order_in, order_of, reading_by, reading_of, whole_order, words_in}
use Rattle.reg_cli_run.specs.Messages.{asked_in, asked_of, message_order, report_else}

-- a subcommand, from its name and its values
used_is : {B : Type 0} (of : B → Text × List Row) (o : Option B) (name : Text) (found : List Row)
    → Some name ≡ option_map (λ b. (of b).0) o → Some found ≡ option_map (λ (p : Text × List Row). p.1) (option_map of o)
    → option_map of o ≡ Some (name, found)
used_is of None name found is also = absurd cc
used_is of (Some b) name found is also = sym (ap₂ (λ n r. Some (n, r)) (ap (λ o. unwrap_or o name) is) (ap (λ o. unwrap_or o found) also))

unused : (used : Option (Text × List Row)) → None ≡ option_map (λ (p : Text × List Row). p.1) used → order_of used ≡ None
unused None is = refl
unused (Some p) is = absurd cc

no_subcommand : (used : Option (Text × List Row)) → None ≡ option_map (λ (p : Text × List Row). p.1) used → asked_of used ≡ None
no_subcommand None is = refl
no_subcommand (Some p) is = absurd cc

-- there is no subcommand
pub asked_none : (m : ArgMatches) → None ≡ option_map (λ (p : Text × List Row). p.1) (subcommand_rows_of m) → asked_in m ≡ None
asked_none m is = no_subcommand (subcommand_rows_of m) is

pub orders_none : (m : ArgMatches) → None ≡ option_map (λ (p : Text × List Row). p.1) (subcommand_rows_of m) → order_in m ≡ None
orders_none m is = unused (subcommand_rows_of m) is

module _ (m inner : ArgMatches) (name : Text) (is : Some name ≡ subcommand_name_of m)
    (rows : Some (rows_of (found_of inner)) ≡ option_map (λ (p : Text × List Row). p.1) (subcommand_rows_of m)) where
  -- there is one with this name and these values
  orders_by : order_in m ≡ option_and_then whole_order (order_from name (given_by inner))
  orders_by =
      let used : subcommand_rows_of m ≡ Some (name, rows_of (found_of inner)) = used_is _ (out-ArgMatches m).subcommand name (rows_of (found_of inner)) is rows in
      ap order_of used ∙ ap (λ given. option_and_then whole_order (order_from name given)) (sym (fun_ext (first_value-rows (found_of inner))))

  -- it is a report, or else an order
  pub asked_by : asked_in m ≡ report_else (report_command name (given_by inner)) (order_in m)
  asked_by =
      let used : subcommand_rows_of m ≡ Some (name, rows_of (found_of inner)) = used_is _ (out-ArgMatches m).subcommand name (rows_of (found_of inner)) is rows in
      ap asked_of used ∙ ap₂ (λ given o. report_else (report_command name given) o) (sym (fun_ext (first_value-rows (found_of inner)))) (sym (ap order_of used))

  -- and this was read of them
  pub orders_read : (o read : Option Read) → option_map ordered_of o ≡ order_from name (given_by inner) → o ≡ read
      → order_in m ≡ option_and_then whole_order (option_map ordered_of read)
  orders_read o read reads same = orders_by ∙ ap (option_and_then whole_order) (sym reads ∙ ap (option_map ordered_of) same)

-- the words of a line were taken
pub line_read : (line : Text) (words : List Text) (m : ArgMatches) → words ≡ words_in line → list_any is_dashed (words_in line) ≡ false → fault_of setup_app words ≡ []
    → subcommand_rows_of m ≡ subcommand_of setup_app words → order_in m ≡ line_order line
unfolding line_order
line_read line words m is plain takes rows =
    let taken : reading_of words ≡ subcommand_of setup_app words = ap (λ f. if is_empty f then subcommand_of setup_app words else None) takes in
    ap order_of (rows ∙ sym taken ∙ ap reading_of is) ∙ sym (ap (λ b. if b then None else order_of (reading_of (words_in line))) plain)

-- a value begins with a dash
pub line_dashed : (line : Text) → list_any is_dashed (words_in line) ≡ true → line_order line ≡ None
unfolding line_order
line_dashed line is = ap (λ b. if b then None else order_of (reading_of (words_in line))) is

none_both : (b : Bool) (o : Option _) → o ≡ order_of None → (if b then None else o) ≡ order_of None
none_both true o is = refl
none_both false o is = is

none_either : (b : Bool) (o : Option Command) → o ≡ None → (if b then None else o) ≡ None
none_either true o is = refl
none_either false o is = is

some_kind : (k : ErrorKind) (ks : Kinds) → IsAmong k ks → is_empty ks ≡ false
some_kind k [] not = absurd not
some_kind k (x ∷ xs) it = eqb-suc-zero (length xs)

line_refused : (line : Text) → is_empty (fault_of setup_app (words_in line)) ≡ false → line_order line ≡ None
unfolding line_order
line_refused line is = none_both (list_any is_dashed (words_in line)) _ (ap (λ b. order_of (if b then subcommand_of setup_app (words_in line) else None)) is)

by_kind : (o : Option _) (k : ErrorKind) → o ≡ order_of None → IsUnread o (fault_by k)
by_kind o OutOfMemory none = tt
by_kind o _ none = none

-- the words of a line were refused, or memory was
pub line_unread : (line : Text) (words : List Text) (e : Error) → words ≡ words_in line → HasKind (fault_of setup_app words) e → IsUnread (line_order line) (fault_by (kind_of e))
line_unread line words e is (inl memory) = rw memory tt
line_unread line words e is (inr among) = by_kind (line_order line) (kind_of e) (line_refused line (ap (λ ws. is_empty (fault_of setup_app ws)) (sym is) ∙ some_kind (kind_of e) (fault_of setup_app words) among))

-- the words of a message were taken
pub message_read : (words : List Text) (m : ArgMatches) → list_any is_dashed words ≡ false → fault_of message_app words ≡ []
    → subcommand_rows_of m ≡ subcommand_of message_app words → asked_in m ≡ message_order words
unfolding message_order
message_read words m plain takes rows =
    let taken : reading_by message_app words ≡ subcommand_of message_app words = ap (λ f. if is_empty f then subcommand_of message_app words else None) takes in
    ap asked_of (rows ∙ sym taken) ∙ sym (ap (λ b. if b then None else asked_of (reading_by message_app words)) plain)

-- a value begins with a dash
pub message_dashed : (words : List Text) → list_any is_dashed words ≡ true → message_order words ≡ None
unfolding message_order
message_dashed words is = ap (λ b. if b then None else asked_of (reading_by message_app words)) is

message_refused : (words : List Text) → is_empty (fault_of message_app words) ≡ false → message_order words ≡ None
unfolding message_order
message_refused words is = none_either (list_any is_dashed words) _ (ap (λ b. asked_of (if b then subcommand_of message_app words else None)) is)

-- the words of a message were refused, or memory was
pub message_unread : (words : List Text) (e : Error) → HasKind (fault_of message_app words) e → IsUnread (message_order words) (fault_by (kind_of e))
message_unread words e (inl memory) = rw memory tt
message_unread words e (inr among) = by_kind (message_order words) (kind_of e) (message_refused words (some_kind (kind_of e) (fault_of message_app words) among))
