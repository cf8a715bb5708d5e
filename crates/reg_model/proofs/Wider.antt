-- What is allowed under some limits is allowed under wider ones.
use Rattle.reg_model.proofs.Words.{◌≡◌, ℕ, ◌≤◌, List, [], ◌∷◌, Bool, true, false, cond, Option, Some, None, refl, sym, ◌∙◌, ap, arith}
use Rattle.reg_model.proofs.Words.{nat_lt, ◌||◌, length, unwrap_or, find, option_map, nat_tests, Limits, Rule, AdminRefusal, Text, Registry}
use Rattle.reg_model.proofs.Words.{Action, Counts, broken, order, Asked, Command, action_of, fault_of, UserAdd, UserDisable, UserEnable}
use Rattle.reg_model.proofs.Words.{TokenAdd, TokenRevoke, Reserve, Unreserve, OwnerAdd, Users, Tokens, Crates, CrateRestrict, CrateOpen}
use Rattle.reg_model.proofs.Words.{ReaderAdd, ReaderRemove, Ask, Order, grounds, judged, or_else, patterns_given, caller, replied, served}
use Rattle.reg_model.proofs.Words.{outcome, unless_denied, unless_refused}
use Rattle.std.specs.Prelude.{nat_le}
use Rattle.std.proofs.lemmas.Bool.{or_from}
use Rattle.reg_model.specs.declared.rule.Rule.TheVariants as rule
use Rattle.reg_model.specs.Facts.{Access, access_facts, counts}
use Rattle.reg_model.specs.Rules.{verdict}
use Rattle.reg_model.specs.Events.Command.{Access as to_access}
use Rattle.reg_model.specs.Refusals.{denied, refused}
use Rattle.reg_model.specs.Effects.{commanded, done}
use Rattle.reg_model.specs.Laws.{AreWider}
use Rattle.reg_model.proofs.Cleared.{Free, free}

below_more : (x y n : ℕ) → x ≤ y → nat_le x n ≡ false → nat_le y n ≡ false
below_more x y n h e = grind (arith, nat_tests)

within_more : (x y n : ℕ) → x ≤ y → nat_lt x n ≡ false → nat_lt y n ≡ false
within_more x y n h e = grind (arith, nat_tests)

find_stays : (p q : Rule → Bool) → ((r : Rule) → p r ≡ false → q r ≡ false) → (rs : List Rule) → find p rs ≡ None → find q rs ≡ None
find_stays p q so [] e = refl
find_stays p q so (r ∷ rs) e = by (find_stays p q so rs) (p r) refl e
  where
    by : (find p rs ≡ None → find q rs ≡ None) → (b : Bool) → p r ≡ b → cond b (Some r) (find p rs) ≡ None → cond (q r) (Some r) (find q rs) ≡ None
    by rest true h f = cc
    by rest false h f = ap (λ b. cond b (Some r) (find q rs)) (so r h) ∙ rest f

-- no ground holds, so nothing is refused
unrefused : (gs : List (AdminRefusal × Bool)) → Free gs → option_map (λ g. g.0) (find (λ g. g.1) gs) ≡ None
unrefused [] h = refl
unrefused (g ∷ gs) h = ap (λ b. option_map (λ g. g.0) (cond b (Some g) (find (λ g. g.1) gs))) h.0 ∙ unrefused gs h.1

module _ (l m : Limits) (wide : AreWider l m) where
  rule_stays : (f : Access) (c : Counts) (a : Action) (r : Rule) → broken l f c a r ≡ false → broken m f c a r ≡ false
  rule_stays f c a rule.L1 h = below_more l.versions m.versions c.versions wide.versions h
  rule_stays f c a rule.L2 h = below_more l.crates m.crates c.crates wide.crates h
  rule_stays f c a _ h = h

  verdict_stays : (f : Access) (c : Counts) (a : Action) → verdict l f c a ≡ None → verdict m f c a ≡ None
  unfolding verdict
  verdict_stays f c a = find_stays (broken l f c a) (broken m f c a) (rule_stays f c a) (order f.first a)

  neither : (v w q : Option Rule) → (v ≡ None → w ≡ None) → or_else v q ≡ None → or_else w q ≡ None
  neither None w q so e = ap (λ x. or_else x q) (so refl) ∙ e
  neither (Some r) w q so e = cc

  allowed_stays : (s : Registry) (digest : Option Text) (asked : Asked) → denied l s digest asked ≡ None → denied m s digest asked ≡ None
  unfolding denied
  allowed_stays s None asked e = cc
  allowed_stays s (Some d) asked e = neither (judged l s d (action_of asked)) (judged m s d (action_of asked)) (fault_of asked) (verdict_stays (access_facts s d (action_of asked)) (counts s (action_of asked)) (action_of asked)) e

  pub wider_allows : (s : Registry) (digest : Option Text) (asked : Asked) → denied l s digest asked ≡ None → (denied m s digest asked ≡ None) × (outcome m s (Ask digest asked) ≡ outcome l s (Ask digest asked))
  wider_allows s digest asked e =
      let h = allowed_stays s digest asked e in
      (h, ap (λ v. unless_denied s v (served s (caller s digest) asked, done s (unwrap_or (caller s digest) 0) asked)) (h ∙ sym e))

  ordered_stays : (s : Registry) (c : Command) → Free (grounds l s c) → Free (grounds m s c)
  ordered_stays s (UserAdd login name) h = (h.0, (h.1.0, (below_more l.accounts m.accounts (length s.accounts) wide.accounts h.1.1.0, tt)))
  ordered_stays s (TokenAdd login words patterns digest) h =
      let full = neither_of (nat_lt l.patterns (length (patterns_given patterns))) (nat_le l.tokens (length s.tokens)) h.1.1.1.0 in
      (h.0, (h.1.0, (h.1.1.0, (or_from _ _ (within_more l.patterns m.patterns (length (patterns_given patterns)) wide.patterns full.0) (below_more l.tokens m.tokens (length s.tokens) wide.tokens full.1), (h.1.1.1.1.0, tt)))))
    where
      neither_of : (a b : Bool) → (a || b) ≡ false → (a ≡ false) × (b ≡ false)
      neither_of true b e = cc
      neither_of false b e = (refl, e)
  ordered_stays s (UserDisable login) h = h
  ordered_stays s (UserEnable login) h = h
  ordered_stays s (TokenRevoke id) h = h
  ordered_stays s (Reserve n) h = h
  ordered_stays s (Unreserve n) h = h
  ordered_stays s (OwnerAdd n login) h = h
  ordered_stays s (to_access n) h = h
  ordered_stays s Users h = h
  ordered_stays s Tokens h = h
  ordered_stays s Crates h = h
  ordered_stays s (CrateRestrict n) h = h
  ordered_stays s (CrateOpen n) h = h
  ordered_stays s (ReaderAdd n login) h = h
  ordered_stays s (ReaderRemove n login) h = h

  refused_stays : (s : Registry) (c : Command) → refused l s c ≡ None → refused m s c ≡ None
  unfolding refused
  refused_stays s c e = unrefused (grounds m s c) (ordered_stays s c (free (grounds l s c) e))

  pub wider_orders : (s : Registry) (c : Command) → refused l s c ≡ None → (refused m s c ≡ None) × (outcome m s (Order c) ≡ outcome l s (Order c))
  wider_orders s c e =
      let h = refused_stays s c e in
      (h, ap (λ v. unless_refused s v (replied s c, commanded s c)) (h ∙ sym e))
