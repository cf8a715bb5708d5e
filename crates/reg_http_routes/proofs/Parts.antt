-- What the parameters of the table's routes take: the parts of the path.
use Rattle.std.proofs.Common.{◌≡◌, ◌<◌, ◌+◌, ℕ, List, [], ◌∷◌, ◌++◌, length, get_or, Some, true, ltb, refl, sym, ap, ◌∙◌, subst, arith, append_assoc, length-append, codes, lit<}
use Rattle.std.proofs.Math.Seq.{drop-append-add, get_or-append_seam, take-append_seam}
use Rattle.std.proofs.lemmas.Bool.{and_parts, ltb-true}
use Rattle.std.proofs.lemmas.Str.{IsCharBoundary-after_ascii, IsCharBoundary-before_ascii, IsUtf8-drop, IsUtf8-from_is_utf8, IsUtf8-take}
use Rattle.std.specs.List.{list_all, slice_split}
use Rattle.std.specs.Prelude.{slice_get, unwrap_or}
use Rattle.std.specs.Str.{IsUtf8, chars, is_utf8}
use lib.Utf8.{encode}
use Rattle.matchit.specs.Level.{IsText}
use Rattle.matchit.specs.Params.{AllText, part_of as text_at, walk}
use Rattle.matchit.specs.Router.{RouteOf}
use Rattle.matchit.specs.Rows.{catch_all_token, param_token}
use Rattle.matchit.specs.Seek.{first, slash}
use Rattle.matchit.proofs.OnLiterals.{matchit_on_literals}
use Rattle.percent_encoding.specs.Percent.{percent_decode}
use Rattle.reg_model.specs.Registry.{Text}
use Rattle.reg_http_routes.specs.Table.{table}
use Rattle.reg_http_routes.specs.Taken.{AreParts, IsCrate, IsVersion, Took, param}
use Rattle.reg_http_routes.specs.Targets.{index_rest, is_slash, part_of}
use Rattle.reg_http_routes.specs.declared.place.Place.{Place}
use Rattle.reg_http_routes.proofs.Fitting.{Fits, from_rows}
use Rattle.reg_http_routes.proofs.Walking.{Cut, fits_bytes, fits_cut, split_part, walk_part, walk_rest}

are_bytes : (w : List ℕ) → list_all (λ b. ltb b 256) w ≡ true → IsText w
are_bytes [] e = tt
are_bytes (b ∷ w) e =
    let h = and_parts (ltb b 256) (list_all (λ x. ltb x 256) w) e in
    (ltb-true b 256 h.0, are_bytes w h.1)

names_are_text : IsUtf8 (codes "crate") × IsUtf8 (codes "version") × IsUtf8 (codes "rest")
unfolding is_utf8 chars encode
names_are_text =
    (IsUtf8-from_is_utf8 (codes "crate") refl, IsUtf8-from_is_utf8 (codes "version") refl, IsUtf8-from_is_utf8 (codes "rest") refl)

-- a text is cut at an ASCII byte
cut_text : (c q : Text) (b : ℕ) → b < 128 → IsUtf8 (c ++ b ∷ q) → IsUtf8 c × IsUtf8 q
cut_text c q b low text =
    let all = c ++ b ∷ q in
    let inside : length c < length all = omega (arith, length-append c (b ∷ q)) in
    let ascii : get_or all (length c) 0 < 128 = rw (get_or-append_seam c b q 0) low in
    let front = IsUtf8-take all (length c) text (IsCharBoundary-before_ascii all (length c) inside ascii) in
    let rest = IsUtf8-drop all (length c + 1) text (IsCharBoundary-after_ascii all (length c) text inside ascii) in
    (rw (take-append_seam c (b ∷ q)) at front, rw (drop-append-add c (b ∷ q) 1) at rest)

abbrev before_crate : List ℕ
before_crate = codes "/api/v1/crates/"

before_crate_bytes : IsText before_crate
before_crate_bytes = are_bytes before_crate refl

module _ (path : Text) (text : IsUtf8 path) where
  crate_part : {t : List ℕ} (cut : Cut before_crate t path)
      → (percent_decode cut.part ≡ part_of 4 path) × IsUtf8 cut.part × IsUtf8 cut.rest
  crate_part cut =
      let after = cut_text (codes "/api/v1/crates") (cut.part ++ slash ∷ cut.rest) slash (lit< tt) (rw cut.whole at text) in
      let parts = cut_text cut.part cut.rest slash (lit< tt) after.1 in
      (sym (ap (part_of 4) cut.whole ∙ ap (λ x. percent_decode (unwrap_or (slice_get x 0) [])) (split_part cut.part cut.rest cut.no_slash)), parts.0, parts.1)

  with_crate : (last names : List ℕ) → text_at names 16 21 ≡ codes "crate" → Fits (before_crate ++ param_token ∷ slash ∷ last) path
      → let all = walk (before_crate ++ param_token ∷ slash ∷ last) names path ((16, 21) ∷ []) 0 0 in IsCrate path all × AllText all
  with_crate last names is_crate fit =
      let cut = fits_cut before_crate last path before_crate_bytes fit in
      let took = walk_part _ path [] [] before_crate last path names (16, 21) [] 0 0 refl refl refl refl before_crate_bytes (lit< tt) cut in
      let part = crate_part cut in
      subst (λ all. IsCrate path all × AllText all) (sym (took ∙ ap (λ name. (name, cut.part) ∷ []) is_crate)) (part.0, (names_are_text.0, part.1, tt))

  with_version : (last names : List ℕ) → text_at names 16 21 ≡ codes "crate" → text_at names 24 31 ≡ codes "version"
      → Fits (before_crate ++ param_token ∷ slash ∷ param_token ∷ slash ∷ last) path
      → let all = walk (before_crate ++ param_token ∷ slash ∷ param_token ∷ slash ∷ last) names path ((16, 21) ∷ (24, 31) ∷ []) 0 0 in
      (IsCrate path all × IsVersion path all) × AllText all
  with_version last names is_crate is_version fit =
      let pattern = before_crate ++ param_token ∷ slash ∷ param_token ∷ slash ∷ last in
      let cut = fits_cut before_crate (param_token ∷ slash ∷ last) path before_crate_bytes fit in
      let after = fits_cut [] last cut.rest tt cut.fits in
      let next : Cut (slash ∷ []) last (slash ∷ cut.rest) = record { part = after.part; rest = after.rest; whole = ap (λ x. slash ∷ x) after.whole; no_slash = after.no_slash; fits = after.fits } in
      let crate_took = walk_part pattern path [] [] before_crate (param_token ∷ slash ∷ last) path names (16, 21) ((24, 31) ∷ []) 0 0 refl refl refl refl before_crate_bytes (lit< tt) cut in
      let version_took = walk_part pattern path (before_crate ++ param_token ∷ []) (before_crate ++ cut.part) (slash ∷ []) last (slash ∷ cut.rest) names (24, 31) [] 16 (0 + 15 + length cut.part)
      refl (cut.whole ∙ sym (append_assoc before_crate cut.part (slash ∷ cut.rest))) refl (omega (arith, length-append before_crate cut.part)) (lit< tt, tt) (lit< tt) next in
      let part = crate_part cut in
      let version_text = cut_text after.part after.rest slash (lit< tt) (rw after.whole at part.2) in
      let split = split_part cut.part cut.rest cut.no_slash ∙ ap (λ q. cut.part ∷ slice_split is_slash q) after.whole ∙ ap (λ x. cut.part ∷ x) (split_part after.part after.rest after.no_slash) in
      let version = sym (ap (part_of 5) cut.whole ∙ ap (λ x. percent_decode (unwrap_or (slice_get x 1) [])) split) in
      subst (λ all. (IsCrate path all × IsVersion path all) × AllText all) (sym (crate_took ∙ ap (λ x. (text_at names 16 21, cut.part) ∷ x) version_took ∙ λ i. (is_crate i, cut.part) ∷ (is_version i, after.part) ∷ []))
      ((part.0, version), (names_are_text.0, part.1, (names_are_text.1, version_text.0, tt)))

  with_rest : (names : List ℕ) → text_at names 9 13 ≡ codes "rest" → Fits (codes "/index/" ++ catch_all_token ∷ []) path
      → let all = walk (codes "/index/" ++ catch_all_token ∷ []) names path ((9, 13) ∷ []) 0 0 in
      (param (codes "rest") all ≡ index_rest path) × AllText all
  with_rest names is_rest fit =
      let bytes = are_bytes (codes "/index/") refl in
      let rest = fits_bytes (codes "/index/") (catch_all_token ∷ []) path bytes fit in
      let took = walk_rest (codes "/index/") rest.0 path names (9, 13) rest.1 bytes in
      let rest_text = cut_text (codes "/index") rest.0 slash (lit< tt) (rw rest.1 at text) in
      subst (λ all. (param (codes "rest") all ≡ index_rest path) × AllText all) (sym (took ∙ ap (λ name. (name, rest.0) ∷ []) is_rest))
      (sym (ap index_rest rest.1), (names_are_text.2, rest_text.1, tt))

  took : {place : Place} {all : List (Text × Text)} → AreParts place path all × AllText all → Took place path all
  took h = record { parts = h.0; text = h.1 }

  pub table_took : (r : RouteOf Place) → first table path ≡ Some r → Took r.value path (walk r.pattern r.text path r.names 0 0)
  unfolding table matchit_on_literals
  table_took r found =
      from_rows (λ r. Took r.value path (walk r.pattern r.text path r.names 0 0)) 0 path table r (
        λ fit. took (tt, tt),
        (
          λ fit. took (with_crate (codes "owners") (codes "/api/v1/crates/{crate}/owners") refl fit),
          (
            λ fit. took (with_version (codes "download") (codes "/api/v1/crates/{crate}/{version}/download") refl refl fit),
            (
              λ fit. took (with_version (codes "unyank") (codes "/api/v1/crates/{crate}/{version}/unyank") refl refl fit),
              (
                λ fit. took (with_version (codes "yank") (codes "/api/v1/crates/{crate}/{version}/yank") refl refl fit),
                (
                  λ fit. took (tt, tt),
                  (λ fit. took (with_rest (codes "/index/{*rest}") refl fit), tt),
                ),
              ),
            ),
          ),
        ),
      )
      found
