use Rattle.std.proofs.Common.{lit<, ◌≡◌, ◌∙◌, List, ℕ, Bool, Bor, Ok, map, ap, sym}
use Rattle.std.specs.declared.alloc.AllocError.{AllocError}
use Rattle.std.specs.List.{list_any}
use Rattle.std.proofs.lemmas.Iterator.Consumers.{map_from_collect}
use Rattle.std.proofs.lemmas.Iterator.Splits.{YieldsList-from_str_split}
use Rattle.reg_model.proofs.Lists.{list_any_map}
use Rattle.reg_cli_args.specs.Dashes.{is_dashed}
use Rattle.reg_cli_run.specs.LineOrders.{words_in}
use Rattle.reg_cli_run.proofs.Words.{line_dashed}
use Rattle.reg_cli_run.proofs.setup.split_words.Goals as goal

-- a test of the words that were collected is one of the words of the line
told : (line : List ℕ) (words seen : List (Bor (List ℕ))) (b : Bool) → map (λ w. w.now) words ≡ words_in line → seen ≡ words → b ≡ list_any (λ w. is_dashed w.now) seen
    → list_any is_dashed (words_in line) ≡ b
told line words seen b is same tells = sym (tells ∙ ap (λ (ws : List (Bor (List ℕ))). list_any (λ w. is_dashed w.now) ws) same ∙ sym (list_any_map is_dashed (λ (w : Bor (List ℕ)). w.now) words) ∙ ap (λ (ws : List (List ℕ)). list_any is_dashed ws) is)

pub returns-then-have_dashed : goal.returns-then-have_dashed
returns-then-have_dashed c =
    let pieces = map_from_collect {E = AllocError} (Ok c.in_ok-words.words) c.in_ok-words.ensures.ran
    (YieldsList-from_str_split 32 c.args.line.now (lit< tt) c.split.ensures.text c.split.ensures.has_more c.split.ensures.pattern) in
    record {
      words = tt;
      no_dash = tt;
      fails = line_dashed c.args.line.now (told c.args.line.now _ _ _ pieces c.deref.ensures.value c.have_dashed.ensures ∙ c.if-have_dashed.true);
    }

pub returns : goal.returns
returns c =
    let pieces = map_from_collect {E = AllocError} (Ok c.in_ok-words.words) c.in_ok-words.ensures.ran
    (YieldsList-from_str_split 32 c.args.line.now (lit< tt) c.split.ensures.text c.split.ensures.has_more c.split.ensures.pattern) in
    record {
      words = pieces;
      no_dash = told c.args.line.now _ _ _ pieces c.deref.ensures.value c.have_dashed.ensures ∙ c.if-have_dashed.false;
      fails = tt;
    }
