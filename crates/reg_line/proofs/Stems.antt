-- A line's text is its stem, the value of `yanked`, and the end of the object.
use Rattle.reg_line.proofs.Words.{◌≡◌, ◌-◌, ℕ, Bool, true, false, List, [], ◌∷◌, ◌++◌, length, take, codes, refl, sym, ap, ◌∙◌, arith}
use Rattle.reg_line.proofs.Words.{common_steps, encode_lower, quoted, Data, boolean, object, Members, no_members, member, compact_text}
use Rattle.reg_line.proofs.Words.{members_text, comma_if, Features, Metadata, newer, older, line_of, IsStem, line_members}
use Rattle.std.proofs.Common.{append_assoc}
use Rattle.reg_line.specs.Line.{line_data, line_json, line_text}

-- the members, and one more at the end
abbrev with_last : Members → List ℕ → Data → Members
with_last no_members k d = member k d no_members
with_last (member l e ms) k d = member l e (with_last ms k d)

-- the text of the members and of one more key, with its colon
abbrev begun : Bool → Members → List ℕ → List ℕ
begun later no_members k = comma_if later ++ (quoted k ++ 58 ∷ [])
begun later (member l e ms) k = comma_if later ++ (quoted l ++ 58 ∷ (compact_text e ++ begun true ms k))

regroup : (a b c d : List ℕ) → a ++ (b ++ 58 ∷ (c ++ d)) ≡ (a ++ (b ++ 58 ∷ c)) ++ d
regroup a b c d = simp append_assoc refl

regroup_more : (a b c d e : List ℕ) → a ++ (b ++ 58 ∷ (c ++ (d ++ e))) ≡ (a ++ (b ++ 58 ∷ (c ++ d))) ++ e
regroup_more a b c d e = simp append_assoc refl

members_text-with_last : (later : Bool) (ms : Members) (k : List ℕ) (d : Data) → members_text later (with_last ms k d) ≡ begun later ms k ++ (compact_text d ++ 125 ∷ [])
members_text-with_last later no_members k d = regroup (comma_if later) (quoted k) [] (compact_text d ++ 125 ∷ [])
members_text-with_last later (member l e ms) k d =
    rw (members_text-with_last true ms k d) (regroup_more (comma_if later) (quoted l) (compact_text e) (begun true ms k) (compact_text d ++ 125 ∷ []))

-- the members without the last
abbrev but_last : Members → Members
but_last no_members = no_members
but_last (member k d no_members) = no_members
but_last (member k d (member l e ms)) = member k d (but_last (member l e ms))

line-last : (olds news : Features) (m : Metadata) (c : List ℕ) (y : Bool) → line_members olds news m c y ≡ with_last (but_last (line_members olds news m c false)) (codes "yanked") (boolean y)
line-last olds [] m c y = refl
line-last olds (f ∷ fs) m c y = refl

unfoldable pub stem_text : Metadata → List ℕ → List ℕ
stem_text m digest = 123 ∷ begun false (but_last (line_members (older m.features) (newer m.features) m (encode_lower digest) false)) (codes "yanked")

pub line-stem : (m : Metadata) (digest : List ℕ) (y : Bool) → line_json m digest y ≡ stem_text m digest ++ (compact_text (boolean y) ++ 125 ∷ [])
unfolding line_json line_data stem_text
line-stem m digest y =
    ap (λ ms. compact_text (object ms)) (line-last (older m.features) (newer m.features) m (encode_lower digest) y)
    ∙ ap (λ (t : List ℕ). 123 ∷ t) (members_text-with_last false (but_last (line_members (older m.features) (newer m.features) m (encode_lower digest) false)) (codes "yanked") (boolean y))

pub stem_text-IsStem : (m : Metadata) (digest : List ℕ) → IsStem m digest (stem_text m digest)
stem_text-IsStem m digest = (sym (line-stem m digest false), sym (line-stem m digest true))

pub cut_end : (s t e : List ℕ) (n : ℕ) → t ≡ s ++ e → n ≡ length t - length e → take n t ≡ s
cut_end s t e n h m = grind (arith, common_steps)

-- the line of a stem, with either mark
pub line-line_of : (m : Metadata) (digest s : List ℕ) (y : Bool) → IsStem m digest s → line_text m digest y ≡ line_of (s, y)
line-line_of m digest s true h = ap (λ (t : List ℕ). t ++ 10 ∷ []) (sym h.1) ∙ append_assoc s (codes "true}") (10 ∷ [])
line-line_of m digest s false h = ap (λ (t : List ℕ). t ++ 10 ∷ []) (sym h.0) ∙ append_assoc s (codes "false}") (10 ∷ [])
