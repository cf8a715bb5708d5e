-- The highest of the versions that were read.
use Rattle.reg_service_commands.proofs.Words.{◌≡◌, ℕ, List, [], map, sym, ap, subst, ◌∙◌, slice_get, unwrap_or, string_bytes}
use Rattle.reg_service_commands.proofs.Words.{option_and_then, option_map, Version, IsTop, Marked, highest_among, read_version}
use Rattle.reg_versions.proofs.TopPlace.{top_is_top}

abbrev text_of : Version → List ℕ
text_of v = string_bytes v.vers

module _ (versions : List Version) (releases : List Marked) (are : releases ≡ map read_version versions) where
  pub top_text : (place : ℕ) → IsTop releases place → unwrap_or (option_map text_of (slice_get versions place)) [] ≡ highest_among versions
  top_text place is =
      let at = (top_is_top (map read_version versions) place).1 (subst (λ (l : List Marked). IsTop l place) are is) in
      ap (λ o. unwrap_or (option_map text_of (option_and_then (slice_get versions) o)) []) (sym at)
