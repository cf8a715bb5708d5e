-- Newer features put into a line without them make the line of the manifest.
use Rattle.reg_line.proofs.Words.{◌≡◌, ℕ, Bool, List, [], ◌∷◌, length, String, Global, codes, refl, sym, ap, ◌∙◌, arith, encode_lower}
use Rattle.reg_line.proofs.Words.{Members, no_members, number, object, put, unsigned, members_view, Features, Metadata, feature_members}
use Rattle.reg_line.proofs.Words.{newer, older, line_members}
use Rattle.serde_json.specs.declared.value.Value.{Value}
use Rattle.reg_line.specs.Line.{line_data, long_members, short_members}

abbrev with_newer : Members → Members → Members
with_newer news line = put (codes "v") (number (unsigned 2)) (put (codes "features2") (object news) line)

newer-put : (olds news : Members) (m : Metadata) (c : List ℕ) (y : Bool) → with_newer news (short_members olds m c y) ≡ long_members olds news m c y
newer-put olds news m c y = refl

line-long : (olds news : Features) (m : Metadata) (c : List ℕ) (y : Bool) → (news ≡ [] → ⊥) → long_members (feature_members olds) (feature_members news) m c y ≡ line_members olds news m c y
line-long olds [] m c y h = absurd (h refl)
line-long olds (f ∷ fs) m c y h = refl

pub is_long : (m : Metadata) (digest c : List ℕ) (y : Bool) (olds news line whole : Members) → c ≡ encode_lower digest
    → olds ≡ feature_members (older m.features) → news ≡ feature_members (newer m.features) → (newer m.features ≡ [] → ⊥)
    → line ≡ short_members olds m c y → whole ≡ put (codes "v") (number (unsigned 2)) (put (codes "features2") (object news) line) → object whole ≡ line_data m digest y
unfolding line_data
is_long m digest c y olds news line whole k e f some g h =
    ap object (h ∙ ap (with_newer news) g ∙ newer-put olds news m c y
    ∙ ap (λ os. long_members os news m c y) e
    ∙ ap (λ ns. long_members (feature_members (older m.features)) ns m c y) f
    ∙ ap (λ t. long_members (feature_members (older m.features)) (feature_members (newer m.features)) m t y) k
    ∙ line-long (older m.features) (newer m.features) m (encode_lower digest) y some)

pub no_entries : (es : List (String Global × Value)) → members_view es ≡ no_members → es ≡ []
no_entries [] h = refl
no_entries (e ∷ es) h = absurd (cc)

line-short : (olds news : Features) (m : Metadata) (c : List ℕ) (y : Bool) → feature_members news ≡ no_members → short_members (feature_members olds) m c y ≡ line_members olds news m c y
line-short olds [] m c y h = refl
line-short olds (f ∷ fs) m c y h = absurd (cc)

no_view : (es : List (String Global × Value)) → length es ≡ 0 → members_view es ≡ no_members
no_view [] h = refl
no_view (e ∷ es) h = absurd (omega arith)

pub is_short : (m : Metadata) (digest c : List ℕ) (y : Bool) (olds line : Members) (es : List (String Global × Value)) → c ≡ encode_lower digest
    → olds ≡ feature_members (older m.features) → members_view es ≡ feature_members (newer m.features) → length es ≡ 0
    → line ≡ short_members olds m c y → object line ≡ line_data m digest y
unfolding line_data
is_short m digest c y olds line es k e f none g =
    ap object (g ∙ ap (λ os. short_members os m c y) e
    ∙ ap (λ t. short_members (feature_members (older m.features)) m t y) k
    ∙ line-short (older m.features) (newer m.features) m (encode_lower digest) y (sym f ∙ no_view es none))
