-- What a parse of the front up to the last line feed says of every shorter front.
use Rattle.std.proofs.Common.{◌≡◌, ℕ, min, ◌+◌, ◌<◌, ◌≤◌, ◌==◌, inl, inr, List, [], ◌∷◌, ◌++◌, length, get_or, take, drop, refl, sym, ap, ◌∙◌, subst, arith, append_assoc, append-nil, length-append, length-drop, take-append-drop}
use Rattle.std.proofs.lemmas.List.{take-append-le, length-take-le, get_or-append-add}
use Rattle.std.proofs.lemmas.List.Sums.{sum_by-append}
use Rattle.std.proofs.Math.Seq.{take-append_seam, get_or-append_seam}
use Rattle.std.specs.List.{count_by, flat_map}
use Rattle.httparse.specs.Grammar.{AllPass, is_uri_byte, LineEnd, crlf, lf, print_end, print_blank, print_version, Field, print_field, RequestHead, print_request, ReadsRequest, HasNoRequest, NeverHasRequest, MayBecomeRequest, EndsInTarget}
use Rattle.httparse.specs.Spans.{RequestExceeds}
use Rattle.httparse.proofs.GrammarLemmas.{ReadsRequest-append, request_prefix_free}
use Rattle.reg_http_read.specs.Fronts.{EndsLine, IsBadCut, IsFront, IsHead, IsHeadCut, IsJudged, IsUnjudged}

-- ---- line feeds

abbrev pub feeds : List ℕ → ℕ
feeds bytes = count_by (λ b. b == 10) bytes

pub feeds-append : (a b : List ℕ) → feeds (a ++ b) ≡ feeds a + feeds b
feeds-append a b = sum_by-append _ a b

feeds-end : (e : LineEnd) → feeds (print_end e) ≡ 1
feeds-end crlf = refl
feeds-end lf = refl

feeds-fields : (fs : List Field) → length fs ≤ feeds (flat_map print_field fs)
feeds-fields [] = omega arith
feeds-fields (f ∷ fs) =
    omega (
      arith,
      feeds-append (print_field f) (flat_map print_field fs),
      feeds-append (f.name ++ 58 ∷ f.raw) (print_end f.end),
      feeds-end f.end,
      feeds-fields fs,
    )

-- a head has a line feed for each field, and two more
pub feeds-head : (h : RequestHead) → length h.fields + 2 ≤ feeds (print_request h)
unfolding print_request
feeds-head h =
    let start : List ℕ = print_blank h.blank ++ h.method ++ 32 ∷ h.target ++ 32 ∷ print_version h.minor in
    let fields : List ℕ = flat_map print_field h.fields in
    omega (
      arith,
      feeds-append (start ++ print_end h.line_end) (fields ++ print_end h.last),
      feeds-append start (print_end h.line_end),
      feeds-append fields (print_end h.last),
      feeds-end h.line_end,
      feeds-end h.last,
      feeds-fields h.fields,
    )

EndsLine-append : (a b : List ℕ) → EndsLine b → EndsLine (a ++ b)
EndsLine-append a b x = (a ++ x.0, ap (λ y. a ++ y) x.1 ∙ sym (append_assoc a x.0 (10 ∷ [])))

ends_end : (e : LineEnd) → EndsLine (print_end e)
ends_end crlf = (13 ∷ [], refl)
ends_end lf = ([], refl)

pub ends_head : (h : RequestHead) → EndsLine (print_request h)
unfolding print_request
ends_head h = EndsLine-append _ _ (EndsLine-append _ _ (ends_end h.last))

-- ---- a target has no line feed

last_byte : (target : List ℕ) → AllPass is_uri_byte target → get_or (32 ∷ target) (length target) 0 ≡ 10 → ⊥
last_byte [] all e = omega arith
last_byte (t ∷ ts) all e = let b = all (length ts) 0 (omega arith) in let c = rw e at b in cc

pub not_in_target : (p : List ℕ) → EndsInTarget p → EndsLine p → ⊥
not_in_target p (blank, method, target, token, all, is) (line, ends) =
    let front : List ℕ = print_blank blank ++ method in
    let long : length line ≡ length front + length target =
    omega (arith, ap length is, ap length ends, length-append front (32 ∷ target), length-append line (10 ∷ [])) in
    let seam = get_or-append_seam line 10 [] 0 in
    let there = get_or-append-add front (32 ∷ target) (length target) 0 in
    last_byte target all (sym there ∙ ap (λ n. get_or (front ++ 32 ∷ target) n 0) (sym long)
    ∙ ap (λ l. get_or l (length line) 0) (sym is ∙ ends) ∙ seam)

-- ---- fronts

pub take_shorter : (n e : ℕ) (bytes : List ℕ) → n ≤ e → e ≤ length bytes → take n (take e bytes) ≡ take n bytes
take_shorter n e bytes le fits =
    let room : n ≤ length (take e bytes) = omega (arith, length-take-le e bytes fits) in
    sym (take-append-le n (take e bytes) (drop e bytes) room) ∙ ap (take n) (take-append-drop e bytes)

-- the longer front is the shorter one and more
pub take_longer : (n e : ℕ) (bytes : List ℕ) → n ≤ e → e ≤ length bytes
    → take e bytes ≡ take n bytes ++ drop n (take e bytes)
take_longer n e bytes le fits =
    sym (take-append-drop n (take e bytes)) ∙ ap (λ x. x ++ drop n (take e bytes)) (take_shorter n e bytes le fits)

-- ---- judgements of shorter fronts

pub none_before_head : (x rest : List ℕ) (h : RequestHead) → ReadsRequest (x ++ rest) h [] → 0 < length rest → IsJudged x → ⊥
none_before_head x rest h reads some (inl (k, there)) =
    let same = request_prefix_free x rest k h [] [] there reads in
    omega (arith, ap length same.1)
none_before_head x rest h reads some (inr never) = never rest h [] reads

pub none_if_partial : (x rest : List ℕ) → HasNoRequest (x ++ rest) → MayBecomeRequest (x ++ rest) → EndsLine (x ++ rest) → IsJudged x → ⊥
none_if_partial x rest none may ends (inl (k, there)) = none k rest (ReadsRequest-append x k [] rest there)
none_if_partial x rest none (inl (more, h, reads)) ends (inr never) =
    never (rest ++ more) h [] (rw (← append_assoc x rest more) reads)
none_if_partial x rest none (inr target) ends (inr never) = not_in_target (x ++ rest) target ends

pub none_if_never : (x rest : List ℕ) → NeverHasRequest (x ++ rest) → IsHead x → ⊥
none_if_never x rest never (h, there) =
    never [] h rest (rw append-nil (ReadsRequest-append x h [] rest there))

-- ---- room

-- a head at the front of bytes with so many lines has fewer fields
pub fields_fit : (buf : List ℕ) (h : RequestHead) (rest : List ℕ) → ReadsRequest buf h rest → length h.fields + 2 ≤ feeds buf
fields_fit buf h rest reads =
    omega (arith, feeds-head h, feeds-append (print_request h) rest, ap feeds reads.1)

pub never_exceeds : (room : ℕ) (buf : List ℕ) → feeds buf ≤ room → RequestExceeds room buf → ⊥
never_exceeds room buf fits (front, rest, whole, h, reads, over) =
    let few = fields_fit (front ++ print_end lf) h [] reads in
    omega (arith, few, feeds-append front (print_end lf), feeds-append front rest, ap feeds whole)

-- ---- the cut

-- the head at the front of a front is the cut
pub head_cut : (limit e n : ℕ) (bytes : List ℕ) (h : RequestHead)
    → e ≤ limit → e ≤ length bytes → n ≡ length (print_request h)
    → ReadsRequest (take e bytes) h (drop n (take e bytes)) → IsHeadCut limit bytes n h
head_cut limit e n bytes h small there len is =
    let more : List ℕ = drop n (take e bytes) in
    let long : length (take e bytes) ≡ e = length-take-le e bytes there in
    let le : n ≤ e = omega (arith, long, ap length is.1, length-append (print_request h) more) in
    let text : take n bytes ≡ print_request h =
    sym (take_shorter n e bytes le there) ∙ ap (take n) is.1
    ∙ ap (λ k. take k (print_request h ++ more)) len ∙ take-append_seam (print_request h) more in
    let reads : ReadsRequest (take n bytes) h [] = (is.0, text ∙ sym (append-nil _)) in
    let fits : n ≤ length bytes = omega arith in
    record {
      reads = reads;
      cut = record {
        line = record {
          small = omega arith;
          there = fits;
          ends = subst EndsLine (sym text) (ends_head h);
        };
        judged = inl (h, reads);
        shortest = λ m less line.
            let le : m ≤ n = omega arith in
            none_before_head (take m bytes) (drop m (take n bytes)) h
            (rw (← take_longer m n bytes le fits) reads)
            (omega (arith, length-drop m (take n bytes), length-take-le n bytes fits));
      };
    }

module _ (limit e : ℕ) (bytes : List ℕ) (front : IsFront limit bytes e) (last : (n : ℕ) → IsFront limit bytes n → n ≤ e) where
  -- the longest front can't be continued
  pub bad_cut : NeverHasRequest (take e bytes) → IsBadCut limit bytes
  bad_cut never = record {
    front = e;
    line = front;
    never = never;
    none = λ n line.
        none_if_never (take n bytes) (drop n (take e bytes))
        (subst NeverHasRequest (take_longer n e bytes (last n line) front.there) never);
  }

  -- the longest front waits for more
  pub unjudged_cut : HasNoRequest (take e bytes) → MayBecomeRequest (take e bytes) → IsUnjudged limit bytes
  unjudged_cut none may = λ n line.
      let long = take_longer n e bytes (last n line) front.there in
      none_if_partial (take n bytes) (drop n (take e bytes))
      (subst HasNoRequest long none) (subst MayBecomeRequest long may) (subst EndsLine long front.ends)

-- ---- the lines of a limited front

-- with the last line feed of the first m bytes at e, no line is longer
pub lines_within : (limit m e : ℕ) (bytes : List ℕ) → m ≡ min (length bytes) limit
    → ((n : ℕ) → n ≤ length (take m bytes) → EndsLine (take n (take m bytes)) → n ≤ e)
    → (n : ℕ) → IsFront limit bytes n → n ≤ e
lines_within limit m e bytes is last n line =
    let small = line.small in
    let there = line.there in
    let m_fits : m ≤ length bytes = omega arith in
    let n_fits : n ≤ m = omega arith in
    last n (omega (arith, length-take-le m bytes m_fits)) (subst EndsLine (sym (take_shorter n m bytes n_fits m_fits)) line.ends)

pub none_without_lines : (limit m e : ℕ) (bytes : List ℕ) → m ≡ min (length bytes) limit → e ≡ 0
    → ((n : ℕ) → n ≤ length (take m bytes) → EndsLine (take n (take m bytes)) → n ≤ e)
    → (n : ℕ) → IsFront limit bytes n → ⊥
none_without_lines limit m e bytes is zero last n line =
    let n_is : n ≤ e = lines_within limit m e bytes is last n line in
    let ends = line.ends in
    let n_zero : n ≡ 0 = omega arith in
    omega (arith, ap length (ap (λ k. take k bytes) (sym n_zero) ∙ ends.1), length-append ends.0 (10 ∷ []))

-- the last line of the first m bytes is the longest front
pub longest_front : (limit m e : ℕ) (bytes : List ℕ) → m ≡ min (length bytes) limit → 0 < e → e ≤ length (take m bytes)
    → EndsLine (take e (take m bytes)) → IsFront limit bytes e
longest_front limit m e bytes is some within ends =
    let m_fits : m ≤ length bytes = omega arith in
    let e_fits : e ≤ m = omega (arith, length-take-le m bytes m_fits) in
    record {
      small = omega arith;
      there = omega arith;
      ends = subst EndsLine (take_shorter e m bytes e_fits m_fits) ends;
    }
