-- An allowed publish keeps a state sound.
use Rattle.reg_model.proofs.Words.{◌≡◌, ℕ, List, [], ◌∷◌, ◌++◌, Bool, true, false, cond, Option, Some, None, refl, sym, ◌∙◌, ap, subst}
use Rattle.reg_model.proofs.Words.{◌||◌, ◌&&◌, not, is_some, length, unwrap_or, list_any, list_all, find, option_map, eq_by_cmp, bytes_eq}
use Rattle.reg_model.proofs.Words.{IsEquivalence, on_equiv, nat_list_eq_equiv, and_parts, list_any-append, IsDistinct-push}
use Rattle.reg_model.proofs.Words.{bytes_eq-Decides, canon, Rule, Limits, Text, Token, Publication, Registry, Owner, owner_cmp, token_of}
use Rattle.reg_model.proofs.Words.{with_id, holds, exists, first, collides, has_crate, Publish, broken, account_of, IsGenuine, Sound}
use Rattle.reg_model.proofs.Words.{is_token}
use Rattle.std.specs.Prelude.{◌==◌}
use Rattle.std.specs.Cmp.{and_equiv}
use Rattle.std.specs.FinSet as finset
use Rattle.reg_model.specs.declared.rule.Rule.TheVariants as rule
use Rattle.reg_versions.specs.Versions.{release_key_of}
use Rattle.reg_model.specs.Crates.{same_release}
use Rattle.reg_model.specs.Actions.Action.{Publish as to_publish}
use Rattle.reg_model.specs.Facts.{access_facts, counts}
use Rattle.reg_model.specs.Refusals.{denied}
use Rattle.reg_model.specs.Effects.{done}
use Rattle.reg_model.specs.Sound.{one_release}
use Rattle.reg_model.proofs.Cleared.{Clear, not_denied}
use Rattle.reg_model.proofs.Keys.{owner_total, owner_apart, same_key, ties_itself}
use Rattle.reg_model.proofs.Lists.{or_left, or_right, or_split, or_none, any_same, any_filter, none_both, any_more, any_last, all_push, all_so, each_push, found_passes, is_some_find, found_more, found_last, true_not_false}

one_release-equivalence : IsEquivalence one_release
one_release-equivalence = and_equiv (on_equiv (λ p. canon p.name) nat_list_eq_equiv) (on_equiv (λ p. release_key_of p.version) nat_list_eq_equiv)

-- the account of a token is there
pub account_there : (s : Registry) (d : Text) → Sound s → not (is_some (token_of s d)) ≡ false → is_some (with_id s.accounts (account_of s d)) ≡ true
account_there s d sound known = by (token_of s d) (some (token_of s d) known) (found_passes (λ t. bytes_eq t.digest d) (is_token s.accounts) s.tokens sound.tokens (some (token_of s d) known))
  where
    some : (o : Option Token) → not (is_some o) ≡ false → is_some o ≡ true
    some None e = cc
    some (Some t) e = refl

    by : (o : Option Token) → is_some o ≡ true → holds (is_token s.accounts) o ≡ true → is_some (with_id s.accounts (unwrap_or (option_map (λ t. t.account) o) 0)) ≡ true
    by None e h = cc
    by (Some t) e h = (and_parts (length t.digest == 32) _ (and_parts (length t.digest == 32 && is_some (with_id s.accounts t.account)) _ h).0).1

abbrev for_known : List Rule
for_known = rule.A2 ∷ rule.A3 ∷ rule.A4 ∷ rule.A6 ∷ rule.A7 ∷ rule.N3 ∷ rule.A9 ∷ rule.V2 ∷ rule.L1 ∷ []

abbrev for_new : List Rule
for_new = rule.A2 ∷ rule.A3 ∷ rule.A4 ∷ rule.A6 ∷ rule.A7 ∷ rule.N2 ∷ rule.L2 ∷ []

-- what the rules say of an allowed publish
record Allowed (s : Registry) (d : Text) (p : Publication) : Type 0 where
  known : not (is_some (token_of s d)) ≡ false
  spelled : exists s p.name ≡ true → holds (λ n. bytes_eq n p.name) (first s p.name) ≡ true
  release : list_any (λ q. collides q.name p.name && same_release q.version p.version) s.publications ≡ false

is_holding : (b : Bool) → not b ≡ false → b ≡ true
is_holding true e = refl
is_holding false e = cc

what_allowed : (limits : Limits) (s : Registry) (d : Text) (p : Publication) → denied limits s (Some d) (Publish p) ≡ None → Allowed s d p
unfolding access_facts
what_allowed limits s d p allowed =
    by (is_some (option_map (λ q. q.name) (find (λ q. collides q.name p.name) s.publications))) (is_some_find (λ q. q.name) (λ q. collides q.name p.name) s.publications) (not_denied limits s d (Publish p) allowed)
  where
    by : (b : Bool) → b ≡ exists s p.name → Clear (broken limits (access_facts s d (to_publish p.name p.version)) (counts s (to_publish p.name p.version)) (to_publish p.name p.version)) (cond b for_known for_new) → Allowed s d p
    by true there all = record {
      known = all.0;
      spelled = λ e. is_holding _ all.1.1.1.1.1.0;
      release = sym (any_filter (λ q. collides q.name p.name) (λ q. same_release q.version p.version) s.publications) ∙ all.1.1.1.1.1.1.1.0;
    }
    by false fresh all = record {
      known = all.0;
      spelled = λ e. true_not_false _ e (sym fresh);
      release = none_both (λ q. collides q.name p.name) (λ q. same_release q.version p.version) s.publications (sym fresh);
    }

itself : (t : Text) → bytes_eq t t ≡ true
itself t = (bytes_eq-Decides t t).1 refl

-- each publication of the longer list has its crate's spelling
spelled_after : (s : Registry) (p : Publication) → Sound s → (exists s p.name ≡ true → holds (λ n. bytes_eq n p.name) (first s p.name) ≡ true)
    → list_all (λ q. holds (λ n. bytes_eq n q.name) (option_map (λ r. r.name) (find (λ r. collides r.name q.name) (s.publications ++ p ∷ [])))) (s.publications ++ p ∷ []) ≡ true
spelled_after s p sound known =
    all_push (λ q. holds (λ n. bytes_eq n q.name) (option_map (λ r. r.name) (find (λ r. collides r.name q.name) (s.publications ++ p ∷ [])))) s.publications p
    (all_so (λ q. holds (λ n. bytes_eq n q.name) (first s q.name)) _ (λ q h. found_more (λ n. bytes_eq n q.name) (λ r. r.name) (λ r. collides r.name q.name) s.publications (p ∷ []) h) s.publications sound.spelled)
    (by (exists s p.name) refl)
  where
    by : (b : Bool) → exists s p.name ≡ b → holds (λ n. bytes_eq n p.name) (option_map (λ r. r.name) (find (λ r. collides r.name p.name) (s.publications ++ p ∷ []))) ≡ true
    by true e = found_more (λ n. bytes_eq n p.name) (λ r. r.name) (λ r. collides r.name p.name) s.publications (p ∷ []) (known e)
    by false e = found_last (λ n. bytes_eq n p.name) (λ r. r.name) (λ r. collides r.name p.name) s.publications p e (itself (canon p.name)) (itself p.name)

-- each crate that was owned still is, and so is the one of the publication
owned_after : (s : Registry) (id : ℕ) (p : Publication) → Sound s → (c : Text) → has_crate (done s id (Publish p)) c ≡ true → (by : ℕ) × (finset.contains (done s id (Publish p)).owners (c, by) ≡ true)
unfolding done
owned_after s id p sound c there =
    or_split (has_crate s c) _ (sym (list_any-append (λ q. bytes_eq (canon q.name) c) s.publications _) ∙ there) old fresh
  where
    kept : (b : Bool) (c : Text) (by : ℕ) → finset.contains s.owners (c, by) ≡ true → finset.contains (cond b s.owners (finset.insert s.owners (canon p.name, id))) (c, by) ≡ true
    kept true c by h = h
    kept false c by h = finset.contains-insert owner_total s.owners (canon p.name, id) (c, by) ∙ or_right _ _ h

    old : has_crate s c ≡ true → (by : ℕ) × (finset.contains (cond (exists s p.name) s.owners (finset.insert s.owners (canon p.name, id))) (c, by) ≡ true)
    old h = let o = sound.owned c h in (o.0, kept (exists s p.name) c o.0 o.1)

    by_known : (b : Bool) → b ≡ exists s p.name → (by : ℕ) × (finset.contains (cond b s.owners (finset.insert s.owners (canon p.name, id))) (canon p.name, by) ≡ true)
    by_known true e = sound.owned (canon p.name) (sym e)
    by_known false e = (id, finset.contains-insert owner_total s.owners (canon p.name, id) (canon p.name, id) ∙ or_left _ _ (ties_itself owner_total (canon p.name, id)))

    fresh : (bytes_eq (canon p.name) c || false) ≡ true → (by : ℕ) × (finset.contains (cond (exists s p.name) s.owners (finset.insert s.owners (canon p.name, id))) (c, by) ≡ true)
    fresh e = let P : Text → Type 0 = λ t. (by : ℕ) × (finset.contains (cond (exists s p.name) s.owners (finset.insert s.owners (canon p.name, id))) (t, by) ≡ true) in subst P ((bytes_eq-Decides (canon p.name) c).0 (or_none _ e)) (by_known (exists s p.name) refl)

-- each owner owns a crate that is there and is an account
owners_after : (s : Registry) (id : ℕ) (p : Publication) → Sound s → is_some (with_id s.accounts id) ≡ true → (c : Text) (by : ℕ) → finset.contains (done s id (Publish p)).owners (c, by) ≡ true → (has_crate (done s id (Publish p)) c ≡ true) × (is_some (with_id s.accounts by) ≡ true)
unfolding done
owners_after s id p sound account c by h = cases (exists s p.name) h
  where
    old : finset.contains s.owners (c, by) ≡ true → (list_any (λ q. bytes_eq (canon q.name) c) (s.publications ++ p ∷ []) ≡ true) × (is_some (with_id s.accounts by) ≡ true)
    old k = let o = sound.owners c by k in (any_more (λ q. bytes_eq (canon q.name) c) s.publications (p ∷ []) o.0, o.1)

    new : eq_by_cmp owner_cmp (c, by) (canon p.name, id) ≡ true → (list_any (λ q. bytes_eq (canon q.name) c) (s.publications ++ p ∷ []) ≡ true) × (is_some (with_id s.accounts by) ≡ true)
    new k =
        let q : Owner = (c, by) in
        let o : Owner = (canon p.name, id) in
        let e = same_key owner_apart q o k in
        (any_last (λ q. bytes_eq (canon q.name) c) s.publications p ((bytes_eq-Decides (canon p.name) c).1 (ap (λ x. x.0) (sym e))), ap (λ x. is_some (with_id s.accounts x.1)) e ∙ account)

    cases : (b : Bool) → finset.contains (cond b s.owners (finset.insert s.owners (canon p.name, id))) (c, by) ≡ true → (list_any (λ q. bytes_eq (canon q.name) c) (s.publications ++ p ∷ []) ≡ true) × (is_some (with_id s.accounts by) ≡ true)
    cases true k = old k
    cases false k = or_split _ _ (sym (finset.contains-insert owner_total s.owners (canon p.name, id) (c, by)) ∙ k) new old

pub publish_keeps_sound : (limits : Limits) (s : Registry) (d : Text) (p : Publication) → Sound s → IsGenuine p → denied limits s (Some d) (Publish p) ≡ None → Sound (done s (account_of s d) (Publish p))
unfolding done
publish_keeps_sound limits s d p sound fit allowed = record {
  base = sound.base;
  accounts = sound.accounts;
  logins = sound.logins;
  tokens = sound.tokens;
  digests = sound.digests;
  publications = each_push IsGenuine s.publications p sound.publications fit;
  spelled = spelled_after s p sound a.spelled;
  releases = IsDistinct-push one_release-equivalence s.publications p sound.releases (any_same _ _ flipped s.publications ∙ a.release);
  owned = owned_after s (account_of s d) p sound;
  owners = owners_after s (account_of s d) p sound (account_there s d sound a.known);
  yanked = λ c v h. any_more (λ q. bytes_eq (canon q.name) c && bytes_eq q.version v) s.publications (p ∷ []) (sound.yanked c v h);
  reserved = sound.reserved;
  restricted = λ c h. any_more (λ q. bytes_eq (canon q.name) c) s.publications (p ∷ []) (sound.restricted c h);
  readers = λ c id h. let r = sound.readers c id h in (any_more (λ q. bytes_eq (canon q.name) c) s.publications (p ∷ []) r.0, r.1);
}
  where
    a : Allowed s d p
    a = what_allowed limits s d p allowed

    flipped : (q : Publication) → one_release p q ≡ (collides q.name p.name && same_release q.version p.version)
    flipped q = one_release-equivalence.symm p q
