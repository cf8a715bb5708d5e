-- A trail that goes on behind the mark of an opening.
use Rattle.reg_model.proofs.Words.{◌≡◌, ℕ, List, [], ◌∷◌, ◌++◌, true, false, refl, sym, ◌∙◌, ap, subst, codes, length, decimal, and_from}
use Rattle.reg_model.proofs.Words.{append_assoc, length-map, Text, Registry, AreAlike, lines_in, replay, replayed, told_publication}
use Rattle.reg_model.proofs.Words.{told_token, line_of, trail, are_words}
use Rattle.reg_model.specs.Effects.{commanded}
use Rattle.reg_model.specs.Trail.{opened, opened_words}
use Rattle.reg_model.specs.TrailLaws.{HasCounts, MarksAreRead, MarksAreReplayed, MarksShowGaps}
use Rattle.reg_model.proofs.Soundness.{runs_keep_sound}
use Rattle.reg_model.proofs.TrailAlike.{alike_self}
use Rattle.reg_model.proofs.TrailPlain.{read_line}
use Rattle.reg_model.proofs.TrailReplayed.{no_verb}
use Rattle.reg_model.proofs.TrailWords.{decimal_word}
use Rattle.reg_model.proofs.Trails.{first_line, trail_replays, trails_replay, trails_then}

-- the words of a mark behind the first
abbrev behind_dash : Registry → List Text
behind_dash t = codes "opened" ∷ decimal (length t.accounts) ∷ decimal (length t.tokens) ∷ decimal (length t.publications) ∷ []

-- a mark, done again, changes nothing
mark_again : (s t : Registry) → HasCounts t → replayed s (opened_words t) ≡ s
unfolding commanded
mark_again s t few =
    rw (no_verb (codes "owner-add") refl (length t.accounts) few.accounts, no_verb (codes "reader-add") refl (length t.accounts) few.accounts, no_verb (codes "reader-remove") refl (length t.accounts) few.accounts) refl

mark_plain : (t : Registry) → HasCounts t → are_words (opened_words t) ≡ true
mark_plain t few =
    and_from _ _ refl (and_from _ _ refl (and_from _ _ (decimal_word (length t.accounts) few.accounts)
    (and_from _ _ (decimal_word (length t.tokens) few.tokens) (and_from _ _ (decimal_word (length t.publications) few.publications) refl))))

pub marks_are_read : MarksAreRead
marks_are_read s few = read_line (codes "-") (behind_dash s) (mark_plain s few)

pub marks_are_replayed : MarksAreReplayed
marks_are_replayed limits s t u es fs xs ys sound few ids first second =
    let later = trail limits t fs ys in
    let k = trails_then limits s t s es xs (opened t ++ later) sound few.tokens (alike_self s) first in
    let mark = ap (replay k.0) (first_line (codes "-") (behind_dash t) later (mark_plain t few)) ∙ ap (λ r. replay r (lines_in later)) (mark_again k.0 t few) in
    let joined = ap (λ text. replay s (lines_in text)) (append_assoc (trail limits s es xs) (opened t) later) in
    subst (λ r. AreAlike r u) (sym (joined ∙ k.2 ∙ mark)) (trails_replay limits t u k.0 fs ys (runs_keep_sound limits s t es xs sound first) ids k.1 second)

-- registries that are alike have the same mark
same_mark : (s t : Registry) → AreAlike s t → opened s ≡ opened t
same_mark s t h =
    let tokens : length s.tokens ≡ length t.tokens = sym (length-map s.tokens told_token) ∙ ap length h.tokens ∙ length-map t.tokens told_token in
    let publications : length s.publications ≡ length t.publications = sym (length-map s.publications told_publication) ∙ ap length h.publications ∙ length-map t.publications told_publication in
    λ i. line_of (codes "-" ∷ codes "opened" ∷ decimal (length (h.accounts i)) ∷ decimal (tokens i) ∷ decimal (publications i) ∷ [])

pub marks_show_gaps : MarksShowGaps
marks_show_gaps limits s t es xs sound ids run = same_mark _ t (trail_replays limits s t es xs sound ids run)
