-- Yanking, unyanking and reserving keep a state sound.
use Rattle.reg_model.proofs.Words.{◌≡◌, Bool, true, false, cond, Some, None, refl, sym, ◌∙◌, ap, not, list_any, bytes_eq}
use Rattle.reg_model.proofs.Words.{nat_list_cmp_total, and_parts, canon, is_name, Limits, Text, Mark, Registry, collides, versions}
use Rattle.reg_model.proofs.Words.{is_reserved_always, Yank, Unyank, lists, account_of, Sound, has_version}
use Rattle.std.specs.FinSet as finset
use Rattle.reg_model.specs.Facts.{access_facts}
use Rattle.reg_model.specs.Refusals.{denied}
use Rattle.reg_model.specs.Effects.{done}
use Rattle.reg_model.proofs.Cleared.{not_denied}
use Rattle.reg_model.proofs.Keys.{mark_total, mark_apart, text_apart, same_key}
use Rattle.reg_model.proofs.Lists.{or_split, any_filter}
use Rattle.reg_model.proofs.SoundOwners.{crate_there}
use Rattle.reg_model.proofs.SoundParts.{with_yanked, with_reserved}

is_true : (b : Bool) → not b ≡ false → b ≡ true
is_true true e = refl
is_true false e = cc

pub yank_keeps_sound : (limits : Limits) (s : Registry) (d n v : Text) → Sound s → denied limits s (Some d) (Yank n v) ≡ None → Sound (done s (account_of s d) (Yank n v))
unfolding done access_facts
yank_keeps_sound limits s d n v sound allowed = with_yanked s sound (finset.insert s.yanked (canon n, v)) there
  where
    published : has_version s (canon n) v ≡ true
    published =
        let all = not_denied limits s d (Yank n v) allowed in
        sym (any_filter (λ p. collides p.name n) (λ p. bytes_eq p.version v) s.publications)
        ∙ ap (λ o. list_any (λ p. bytes_eq p.version v) (lists (versions s) o)) (sym (crate_there s d n all.1.1.1.1.0).0)
        ∙ is_true _ all.1.1.1.1.1.1.1.0

    there : (c w : Text) → finset.contains (finset.insert s.yanked (canon n, v)) (c, w) ≡ true → has_version s c w ≡ true
    there c w h =
        let q : Mark = (c, w) in
        let m : Mark = (canon n, v) in
        or_split _ _ (sym (finset.contains-insert mark_total s.yanked m q) ∙ h) (λ tied. ap (λ x. has_version s x.0 x.1) (same_key mark_apart q m tied) ∙ published) (sound.yanked c w)

pub unyank_keeps_sound : (s : Registry) (d n v : Text) → Sound s → Sound (done s (account_of s d) (Unyank n v))
unfolding done
unyank_keeps_sound s d n v sound = with_yanked s sound (finset.remove s.yanked (canon n, v)) (λ c w h. sound.yanked c w (and_parts _ _ (sym (finset.contains-remove mark_total s.yanked (canon n, v) (c, w)) ∙ h)).1)

pub reserve_keeps_sound : (s : Registry) (n : Text) (b : Bool) → b ≡ is_reserved_always (canon n) → is_name n ≡ true → Sound s → Sound (cond b s (record s { reserved = finset.insert s.reserved (canon n) }))
reserve_keeps_sound s n true e name sound = sound
reserve_keeps_sound s n false e name sound = with_reserved s sound (finset.insert s.reserved (canon n)) there
  where
    there : (c : Text) → finset.contains (finset.insert s.reserved (canon n)) c ≡ true → ((m : Text) × (is_name m ≡ true) × (canon m ≡ c)) × (is_reserved_always c ≡ false)
    there c h = or_split _ _ (sym (finset.contains-insert nat_list_cmp_total s.reserved (canon n) c) ∙ h)
        (λ tied. let same = same_key text_apart c (canon n) tied in ((n, name, sym same), ap is_reserved_always same ∙ sym e))
        (sound.reserved c)

pub unreserve_keeps_sound : (s : Registry) (n : Text) → Sound s → Sound (record s { reserved = finset.remove s.reserved (canon n) })
unreserve_keeps_sound s n sound = with_reserved s sound (finset.remove s.reserved (canon n)) (λ c h. sound.reserved c (and_parts _ _ (sym (finset.contains-remove nat_list_cmp_total s.reserved (canon n) c) ∙ h)).1)
