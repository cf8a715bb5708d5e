-- Restricting crates and naming readers keeps a state sound.
use Rattle.reg_model.proofs.Words.{◌≡◌, ℕ, true, false, sym, ◌∙◌, ap, is_some, nat_list_cmp_total, and_parts, canon, Text, Owner, Registry}
use Rattle.reg_model.proofs.Words.{with_id, exists, has_crate, Sound}
use Rattle.std.specs.FinSet as finset
use Rattle.reg_model.specs.Changes.{with_reader, with_restricted, without_reader}
use Rattle.reg_model.proofs.Keys.{owner_total, owner_apart, text_apart, same_key}
use Rattle.reg_model.proofs.Lists.{or_split}
use Rattle.reg_model.proofs.SoundParts.{with_readers, with_restricted as sound_restricted}

pub restricted_sound : (s : Registry) (n : Text) → Sound s → exists s n ≡ true → Sound (with_restricted true (canon n) s)
restricted_sound s n sound there = sound_restricted s sound (finset.insert s.restricted (canon n)) (λ c h. or_split _ _ (sym (finset.contains-insert nat_list_cmp_total s.restricted (canon n) c) ∙ h) (λ tied. ap (has_crate s) (same_key text_apart c (canon n) tied) ∙ there) (sound.restricted c))

pub opened_sound : (s : Registry) (n : Text) → Sound s → Sound (with_restricted false (canon n) s)
opened_sound s n sound = sound_restricted s sound (finset.remove s.restricted (canon n)) (λ c h. sound.restricted c (and_parts _ _ (sym (finset.contains-remove nat_list_cmp_total s.restricted (canon n) c) ∙ h)).1)

pub reader_added : (s : Registry) (n : Text) (id : ℕ) → Sound s → exists s n ≡ true → is_some (with_id s.accounts id) ≡ true → Sound (with_reader (canon n, id) s)
reader_added s n id sound there account = with_readers s sound (finset.insert s.readers (canon n, id)) old_or_new
  where
    old_or_new : (c : Text) (by : ℕ) → finset.contains (finset.insert s.readers (canon n, id)) (c, by) ≡ true → (has_crate s c ≡ true) × (is_some (with_id s.accounts by) ≡ true)
    old_or_new c by h =
        let q : Owner = (c, by) in
        let r : Owner = (canon n, id) in
        or_split _ _ (sym (finset.contains-insert owner_total s.readers r q) ∙ h)
        (λ tied. let e = same_key owner_apart q r tied in (ap (λ x. has_crate s x.0) e ∙ there, ap (λ x. is_some (with_id s.accounts x.1)) e ∙ account))
        (sound.readers c by)

pub reader_removed : (s : Registry) (n : Text) (id : ℕ) → Sound s → Sound (without_reader (canon n, id) s)
reader_removed s n id sound = with_readers s sound (finset.remove s.readers (canon n, id)) (λ c by h. sound.readers c by (and_parts _ _ (sym (finset.contains-remove owner_total s.readers (canon n, id) (c, by)) ∙ h)).1)
