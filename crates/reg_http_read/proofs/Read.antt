-- From a parse of the longest front to what is read of all bytes.
use Rattle.reg_http_read.proofs.Common.{◌≡◌, ℕ, ◌≤◌, inl, inr, Bool, List, length, take, refl, sym, subst, Limits, Rule, IsFront, IsHeadCut}
use Rattle.reg_http_read.proofs.Common.{IsBroken, IsHeadAt, IsJudgement, facts_of, Head, HeadRead}
use Rattle.httparse.specs.Grammar.{print_request}
use Rattle.reg_http_read.specs.Reads.{IsRead, IsWhole}
use Rattle.reg_http_read.specs.declared.head.HeadRead.TheVariants as read
use Rattle.reg_http_read.proofs.Cuts.{bad_cut, head_cut}
use Rattle.reg_http_read.proofs.Judged.{judged_len, refused_by, told_by}

module _ (limits : Limits) (e : ℕ) (bytes : List ℕ) (front : IsFront limits.head bytes e)
    (last : (n : ℕ) → IsFront limits.head bytes n → n ≤ e) where
  whole_cut : (it : HeadRead) (w : IsWhole limits (take e bytes) it) → IsHeadCut limits.head bytes (length (print_request w.head)) w.head
  whole_cut it w = head_cut limits.head e _ bytes w.head front.small front.there refl w.reads

  pub head_read : (it : Head) → IsWhole limits (take e bytes) (read.Head it) → IsHeadAt limits bytes (facts_of it)
  head_read it w =
      let judged = told_by _ it w.head.method w.answer in
      record {
        head = w.head;
        judged = judged;
        cut =
            subst (λ n. IsHeadCut limits.head bytes n w.head) (sym (judged_len limits w.head (facts_of it) judged))
            (whole_cut (read.Head it) w);
      }

  pub refusal_read : (rule : Rule) (head_only : Bool) → IsWhole limits (take e bytes) (read.Refused rule head_only) → IsBroken limits bytes rule head_only
  refusal_read rule head_only w =
      let judged = refused_by _ rule head_only w.head.method w.answer in
      record {
        head = w.head;
        len = length (print_request w.head);
        cut = whole_cut (read.Refused rule head_only) w;
        judged = judged.0;
        told = judged.1;
      }

  pub read_from : (it : HeadRead) → IsJudgement limits (take e bytes) it → (it ≡ read.More → ⊥) → IsRead limits bytes it
  read_from read.More judged other = absurd (other refl)
  read_from (read.Head it) w other = head_read it w
  read_from (read.Refused rule head_only) (inl bad) other =
      inl (record { cut = bad_cut limits.head e bytes front last bad.never; rule_is = bad.rule_is; told = bad.told })
  read_from (read.Refused rule head_only) (inr w) other = inr (inr (refusal_read rule head_only w))
