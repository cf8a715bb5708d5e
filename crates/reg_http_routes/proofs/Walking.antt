-- What a parameter takes of a path that fits its pattern.
use Rattle.std.proofs.Common.{◌≡◌, ◌<◌, ◌≤◌, ◌+◌, ◌-◌, ◌^◌, ℕ, List, [], ◌∷◌, ◌++◌, length, drop, Bool, true, false, cond, ◌==◌, ltb, leb, refl, sym, ap, ◌∙◌, arith, append-nil, append_assoc, length-append, suc}
use Rattle.std.proofs.lemmas.Bool.Decides.{nat_tests}
use Rattle.std.proofs.Math.Seq.{drop-append_seam, drop-append-add, get_or-append_seam, take-append_seam}
use Rattle.std.specs.List.{slice_split}
use Rattle.matchit.specs.Level.{IsText}
use Rattle.matchit.specs.Params.{after_token, part_of, walk, wild_from, wild_stop}
use Rattle.matchit.specs.Rows.{catch_all_token, param_token}
use Rattle.matchit.specs.Seek.{has_slash, segment, slash}
use Rattle.reg_http_routes.specs.Targets.{is_slash}
use Rattle.reg_http_routes.proofs.Fitting.{Fits}

-- a path that a parameter between these bytes and a slash takes a part of
pub record Cut (before after path : List ℕ) : Type 0 where
  pub part : List ℕ
  pub rest : List ℕ
  pub whole : path ≡ before ++ (part ++ slash ∷ rest)
  pub no_slash : has_slash part ≡ false
  pub fits : Fits after rest

pub fits_bytes : (w t path : List ℕ) → IsText w → Fits (w ++ t) path → (rest : List ℕ) × (path ≡ w ++ rest) × Fits t rest
fits_bytes [] t path bytes fit = (path, refl, fit)
fits_bytes (b ∷ w) t path bytes fit =
    let ih = fits_bytes w t fit.1 bytes.1 fit.4 in
    (ih.0, fit.2 ∙ ap (λ x. x ++ fit.1) (fit.3.byte bytes.0) ∙ ap (λ x. b ∷ x) ih.1, ih.2)

pub fits_cut : (w t path : List ℕ) → IsText w → Fits (w ++ param_token ∷ slash ∷ t) path → Cut w t path
fits_cut w t path bytes fit =
    let a = fits_bytes w (param_token ∷ slash ∷ t) path bytes fit in
    let b = fits_bytes (slash ∷ []) t a.2.1 (omega arith, tt) a.2.4 in
    record {
      part = a.2.0;
      rest = b.0;
      whole = a.1 ∙ ap (λ x. w ++ x) (a.2.2 ∙ ap (λ x. a.2.0 ++ x) b.1);
      no_slash = a.2.3.no_slash refl;
      fits = b.2;
    }

no_slash_cons : (b : ℕ) (c : List ℕ) → has_slash (b ∷ c) ≡ false → ((b == slash) ≡ false) × (has_slash c ≡ false)
no_slash_cons b c none = by (b == slash) none
  where
    by : (v : Bool) → cond v true (has_slash c) ≡ false → (v ≡ false) × (has_slash c ≡ false)
    by true e = cc
    by false e = (refl, e)

pub split_part : (c q : List ℕ) → has_slash c ≡ false → slice_split is_slash (c ++ slash ∷ q) ≡ c ∷ slice_split is_slash q
split_part [] q none = refl
split_part (b ∷ c) q none =
    let n = no_slash_cons b c none in
    rw (n.0, split_part c q n.1) refl

segment_part : (c q : List ℕ) → has_slash c ≡ false → length (segment (c ++ slash ∷ q)) ≡ length c + 1
segment_part [] q none = refl
segment_part (b ∷ c) q none =
    let n = no_slash_cons b c none in
    rw (n.0) (ap suc (segment_part c q n.1) ∙ omega arith)

wild_after : (w t : List ℕ) (wild len token at : ℕ) → IsText w → ltb wild param_token ≡ false → at + length w ≤ len
    → wild_from (w ++ wild ∷ t) len token at ≡ (token + length w, at + length w)
wild_after [] t wild len token at bytes here within =
    let one : token ≡ token + 0 = omega arith in
    let two : at ≡ at + 0 = omega arith in
    rw here (λ i. (one i, two i))
wild_after (b ∷ w) t wild len token at bytes here within =
    let byte : ltb b param_token ≡ true = grind (arith, nat_tests, bytes.0) in
    let next : ltb at len ≡ true = grind (arith, nat_tests) in
    let one : (token + 1) + length w ≡ token + length (b ∷ w) = omega arith in
    let two : (at + 1) + length w ≡ at + length (b ∷ w) = omega arith in
    rw (byte, next) (wild_after w t wild len (token + 1) (at + 1) bytes.1 here (omega arith) ∙ λ i. (one i, two i))

param_stop : (pre u front c q : List ℕ) → has_slash c ≡ false
    → wild_stop (pre ++ param_token ∷ slash ∷ u) (length pre) (front ++ (c ++ slash ∷ q)) (length front) ≡ length front + length c
param_stop pre u front c q none =
    let pattern = pre ++ param_token ∷ slash ∷ u in
    let long = length-append pre (param_token ∷ slash ∷ u) in
    let inside : ltb (length pre) (length pattern) ≡ true = grind (arith, nat_tests) in
    let more : ltb (length pre + 1) (length pattern) ≡ true = grind (arith, nat_tests) in
    rw (
      inside,
      more,
      get_or-append_seam pre param_token (slash ∷ u) 0,
      drop-append-add pre (param_token ∷ slash ∷ u) 1,
      drop-append_seam front (c ++ slash ∷ q),
      segment_part c q none,
    ) (omega arith)

part_between : (front c q : List ℕ) → part_of (front ++ (c ++ q)) (length front) (length front + length c) ≡ c
part_between front c q =
    let long = length-append front (c ++ q) in
    let longer = length-append c q in
    let from : leb (length front) (length front + length c) ≡ true = grind (arith, nat_tests) in
    let to : leb (length front + length c) (length (front ++ (c ++ q))) ≡ true = grind (arith, nat_tests) in
    let size : (length front + length c) - length front ≡ length c = omega arith in
    rw (from, to, size, drop-append_seam front (c ++ q), take-append_seam c q) refl

-- a parameter takes its part, from a place in the pattern and a place in the path
pub walk_part : (pattern path pre front w u p text : List ℕ) (name : ℕ × ℕ) (names : List (ℕ × ℕ)) (token at : ℕ)
    → pattern ≡ pre ++ (w ++ param_token ∷ slash ∷ u) → path ≡ front ++ p → token ≡ length pre → at ≡ length front
    → IsText w → token + length w < 2 ^ 16 → (cut : Cut w u p)
    → walk pattern text path (name ∷ names) token at
    ≡ (part_of text name.0 name.1, cut.part) ∷ walk pattern text path names (token + length w + 1) (at + length w + length cut.part)
walk_part pattern path pre front w u p text name names token at is_pattern is_path is_token is_at bytes low cut =
    let c = cut.part in
    let q = cut.rest in
    let tokens : drop token pattern ≡ w ++ param_token ∷ slash ∷ u = rw (is_pattern, is_token) (drop-append_seam pre (w ++ param_token ∷ slash ∷ u)) in
    let pre2 : token + length w ≡ length (pre ++ w) = omega (arith, length-append pre w) in
    let front2 : at + length w ≡ length (front ++ w) = omega (arith, length-append front w) in
    let pattern2 : pattern ≡ (pre ++ w) ++ param_token ∷ slash ∷ u = rw append_assoc is_pattern in
    let path2 : path ≡ (front ++ w) ++ (c ++ slash ∷ q) = is_path ∙ ap (λ x. front ++ x) cut.whole ∙ sym (append_assoc front w (c ++ slash ∷ q)) in
    let enough : at + length w ≤ length path = rw path2 (omega (arith, length-append (front ++ w) (c ++ slash ∷ q))) in
    let from : wild_from (drop token pattern) (length path) token at ≡ (token + length w, at + length w) = rw tokens (wild_after w (slash ∷ u) param_token (length path) token at bytes refl enough) in
    let stop : wild_stop pattern (token + length w) path (at + length w) ≡ at + length w + length c = rw (pre2, front2, pattern2, path2) (param_stop (pre ++ w) u (front ++ w) c q cut.no_slash) in
    let part : part_of path (at + length w) (at + length w + length c) ≡ c = rw (front2, path2) (part_between (front ++ w) c (slash ∷ q)) in
    let after : after_token (token + length w) ≡ token + length w + 1 = omega arith in
    rw (from, stop, part, after) refl

-- a catch-all takes what is left
pub walk_rest : (w c path text : List ℕ) (name : ℕ × ℕ) → path ≡ w ++ c → IsText w
    → walk (w ++ catch_all_token ∷ []) text path (name ∷ []) 0 0 ≡ (part_of text name.0 name.1, c) ∷ []
walk_rest w c path text name is_path bytes =
    let pattern = w ++ catch_all_token ∷ [] in
    let long : length path ≡ length w + length c = rw is_path (length-append w c) in
    let from : wild_from pattern (length path) 0 0 ≡ (0 + length w, 0 + length w) = wild_after w [] catch_all_token (length path) 0 0 bytes refl (omega arith) in
    let inside : ltb (length w) (length pattern) ≡ true = grind (arith, nat_tests, length-append w (catch_all_token ∷ [])) in
    let zero_left : 0 + length w ≡ length w = omega arith in
    let stop : wild_stop pattern (length w) path (length w) ≡ length w + length c = rw (inside, get_or-append_seam w catch_all_token [] 0) long in
    let part : part_of path (length w) (length w + length c) ≡ c = rw (is_path ∙ ap (λ x. w ++ x) (sym (append-nil c))) (part_between w c []) in
    rw (from, zero_left, stop, part) refl
