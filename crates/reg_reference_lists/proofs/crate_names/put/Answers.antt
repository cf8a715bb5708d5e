use Rattle.reg_reference_lists.proofs.Words.{◌∙◌, sym, ap, map, refl, slice_get, bytes_eq, canon, Text, holds, place_for}
use Rattle.reg_reference_lists.proofs.CrateNames.{put_there, put_new}
use Rattle.reg_reference_lists.proofs.crate_names.put.Goals as goal

pub returns-in_ok-insert : goal.returns-in_ok-insert
returns-in_ok-insert c =
    let new : Text = c.args.name.now in
    let is = ap (λ l. holds (λ n. bytes_eq (canon n.now) (canon new)) (slice_get l c.place_of-place.result)) (sym c.as_slice-2.ensures.value) ∙ sym c.is_at.ensures ∙ c.if-not-is_at.true in
    ap (map (λ n. canon n.now)) c.in_ok-insert.ensures.items
    ∙ put_new c.args.names.now.items new _ (c.place_of-place.ensures.place ∙ ap (λ l. place_for (canon new) (map (λ n. canon n.now) l)) c.as_slice.ensures.value) c.args.name refl is

pub returns-else-not-is_at : goal.returns-else-not-is_at
returns-else-not-is_at c =
    let new : Text = c.args.name.now in
    let is = ap (λ l. holds (λ n. bytes_eq (canon n.now) (canon new)) (slice_get l c.place_of-place.result)) (sym c.as_slice-2.ensures.value) ∙ sym c.is_at.ensures ∙ c.if-not-is_at.false in
    put_there c.args.names.now.items new _ (c.place_of-place.ensures.place ∙ ap (λ l. place_for (canon new) (map (λ n. canon n.now) l)) c.as_slice.ensures.value) is
