-- The whole registry after a change of its crates.
use Rattle.reg_tables_represent.proofs.Words.{next_crate, ids_with_crate, ids_with_version, mark_at, ◌≢◌, refl, sym, ◌≡◌, ◌==◌, not, ℕ, List}
use Rattle.reg_tables_represent.proofs.Words.{[], ◌∷◌, ◌++◌, map, Bool, true, false, cond, Option, ap, subst, ◌∙◌, Some, sym, None, is_some}
use Rattle.reg_tables_represent.proofs.Words.{Replaces, Sound, not_true, true_not_false, KeepsAllBut, AddsCrate, AddsVersion, MarksYanked}
use Rattle.reg_tables_represent.proofs.Words.{is_version, StandCrates, StoredVersion, IdAssignment, StandsBy, StandsSoundBy, StandPairs, spelling_at}
use Rattle.reg_tables_represent.proofs.Words.{StandMarked, row_of_version, StandSummaries, is_marked, its_versions, AddsSummary, IsMarkChange}
use Rattle.reg_tables_represent.proofs.Words.{PushesSummary, RemarksSummary, IsOtherwise, id_unless}
use Rattle.reg_tables_represent.proofs.Common.{bytes_eq, canon, drop, eq-eqb, filter, in_filter, Int, IsIn, IsPermutation, mark_cmp, owner_cmp, owner_columns, Publication, put_row, Registry, release_key_of, State, Text, Trees}
use Rattle.reg_tables_represent.specs.Changes.{if_there, with_mark}
use Rattle.std.specs.FinSet as finset
use Rattle.reg_tables_schema.specs.Changes.{KeepsOthers}
use Rattle.reg_model.specs.Crates.{exists}
use Rattle.reg_model.specs.Sound.{has_version}
use Rattle.reg_model.proofs.Lists.{none_both}
use Rattle.reg_tables_sql.specs.Versions.{version_row}
use Rattle.reg_tables_represent.proofs.CrateChanges.{adds_version, adds_crate, id_is, next_id_of, first_pair, unpaired, unmarked_crate}
use Rattle.reg_tables_represent.proofs.CrateLemmas.{there_at}
use Rattle.reg_tables_represent.proofs.Stays.{accounts_stay, tokens_stay, reserved_stay, same_crates, same_archives, pairs_stay, crates_stay, marked_stay, summaries_stay, same_about, same_accounts, same_tokens, same_scopes, same_owners, same_versions, same_reserved, same_summaries, same_restricted, same_readers}
use Rattle.reg_tables_represent.proofs.SummaryChanges.{summaries_first, summaries_marked, summaries_next, summary_at}
use Rattle.reg_tables_represent.proofs.Marking.{no_id, one_id, unless_none, unless_some}
use Rattle.reg_tables_represent.proofs.CrateNames.{kept}
use Rattle.reg_tables_represent.proofs.Yanks.{IsTarget, mark_is, mark_kept, marks, marks_again, target, row_found, yanks, no_such_version, no_version}

-- the tables that are not of crates have the rows that they had
record Rest (old new : Trees) : Type 0 where
  about : new 0 ≡ old 0
  accounts : new 1 ≡ old 1
  tokens : new 3 ≡ old 3
  scopes : new 5 ≡ old 5
  reserved : new 14 ≡ old 14
  restricted : new 17 ≡ old 17
  readers : new 18 ≡ old 18

rest_then : (a b c : Trees) → Rest a b → Rest b c → Rest a c
rest_then a b c first next = record {
  about = next.about ∙ first.about;
  accounts = next.accounts ∙ first.accounts;
  tokens = next.tokens ∙ first.tokens;
  scopes = next.scopes ∙ first.scopes;
  reserved = next.reserved ∙ first.reserved;
  restricted = next.restricted ∙ first.restricted;
  readers = next.readers ∙ first.readers;
}

rest_of_crate : (old new : Trees) → KeepsAllBut 7 9 old new → Rest old new
rest_of_crate old new others = record {
  about = others.0 (λ e. cc) (λ e. cc);
  accounts = others.1.0 (λ e. cc) (λ e. cc);
  tokens = others.1.1.0 (λ e. cc) (λ e. cc);
  scopes = others.1.1.1.0 (λ e. cc) (λ e. cc);
  reserved = others.1.1.1.1.1.1.1.1.0 (λ e. cc) (λ e. cc);
  restricted = others.1.1.1.1.1.1.1.1.1.1.0 (λ e. cc) (λ e. cc);
  readers = others.1.1.1.1.1.1.1.1.1.1.1.0 (λ e. cc) (λ e. cc);
}

rest_of_version : (old new : Trees) → KeepsAllBut 11 13 old new → Rest old new
rest_of_version old new others = record {
  about = others.0 (λ e. cc) (λ e. cc);
  accounts = others.1.0 (λ e. cc) (λ e. cc);
  tokens = others.1.1.0 (λ e. cc) (λ e. cc);
  scopes = others.1.1.1.0 (λ e. cc) (λ e. cc);
  reserved = others.1.1.1.1.1.1.1.1.0 (λ e. cc) (λ e. cc);
  restricted = others.1.1.1.1.1.1.1.1.1.1.0 (λ e. cc) (λ e. cc);
  readers = others.1.1.1.1.1.1.1.1.1.1.1.0 (λ e. cc) (λ e. cc);
}

rest_of_other : (tree : ℕ) → ((n : ℕ) → n ≢ 11 → n ≢ 16 → n ≢ tree) → (old new : Trees) → KeepsOthers tree old new → Rest old new
rest_of_other tree apart old new others = record {
  about = same_about tree old new others (apart 0 (λ e. cc) (λ e. cc));
  accounts = same_accounts tree old new others (apart 1 (λ e. cc) (λ e. cc));
  tokens = same_tokens tree old new others (apart 3 (λ e. cc) (λ e. cc));
  scopes = same_scopes tree old new others (apart 5 (λ e. cc) (λ e. cc));
  reserved = same_reserved tree old new others (apart 14 (λ e. cc) (λ e. cc));
  restricted = same_restricted tree old new others (apart 17 (λ e. cc) (λ e. cc));
  readers = same_readers tree old new others (apart 18 (λ e. cc) (λ e. cc));
}

with_crates : (ids after : IdAssignment) (s : Registry) (publications : List Publication) (yanked : finset.FinSet mark_cmp) (owners : finset.FinSet owner_cmp) (old new : Trees) → Rest old new → StandsBy ids s old → StandCrates after publications yanked new → StandPairs after.crates owners (new 9) → StandPairs after.crates s.readers (new 18)
    → StandMarked after.crates s.restricted (new 17) → StandSummaries after yanked (new 16) → StandsBy after (record s { publications = publications; yanked = yanked; owners = owners }) new
with_crates ids after s publications yanked owners old new rest stands crates pairs readers restricted summaries = record {
  about = ap (map (λ r. drop 1 r)) rest.about ∙ stands.about;
  accounts = accounts_stay s.accounts old new rest.accounts stands.accounts;
  tokens = tokens_stay s.tokens old new rest.tokens rest.scopes stands.tokens;
  crates = crates;
  owners = pairs;
  readers = readers;
  reserved = reserved_stay s.reserved old new rest.reserved stands.reserved;
  restricted = restricted;
  summaries = summaries;
}

-- what a change of the summaries leaves
module _ (old new : Trees) (others : KeepsOthers 16 old new) where
  rest_of_summary : Rest old new
  rest_of_summary = rest_of_other 16 (λ n h k. k) old new others

  still_crates : (ids : IdAssignment) (ps : List Publication) (yanked : finset.FinSet mark_cmp) → StandCrates ids ps yanked old → StandCrates ids ps yanked new
  still_crates ids ps yanked h = crates_stay ids ps yanked old new (same_crates 16 old new others (λ e. cc)) (same_versions 16 old new others (λ e. cc)) (same_archives 16 old new others (λ e. cc)) h

  still_owners : new 9 ≡ old 9
  still_owners = same_owners 16 old new others (λ e. cc)

-- nothing is marked that is not there
unmarked : (s : Registry) (p : Publication) → Sound s → has_version s (canon p.name) p.version ≡ false → finset.contains s.yanked (canon p.name, p.version) ≡ false
unmarked s p sound fresh = not_true _ (λ h. true_not_false (has_version s (canon p.name) p.version) (sound.yanked (canon p.name) p.version h) fresh)

pub adds_first : (ids : IdAssignment) (s : Registry) (id owner key : ℕ) (p : Publication) (old mid new last : Trees) → StandsSoundBy ids s old → exists s p.name ≡ false → AddsCrate id p.name owner old mid → AddsVersion key id p mid new → AddsSummary id key new last
    → (id ≡ next_crate ids) × StandsBy (ids_with_crate p ids) (record s { publications = s.publications ++ p ∷ []; owners = finset.insert s.owners (canon p.name, owner) }) last
adds_first ids s id owner key p old mid new last h fresh crate version summary =
    let stands = h.stands in
    let new_version = none_both (λ q. bytes_eq (canon q.name) (canon p.name)) (λ q. bytes_eq q.version p.version) s.publications fresh in
    let unowned : (account : ℕ) → finset.contains s.owners (canon p.name, account) ≡ false = λ account. not_true _ (λ i. true_not_false (exists s p.name) (h.sound.owners (canon p.name) account i).0 fresh) in
    let rest = rest_then old new last (rest_then old mid new (rest_of_crate old mid crate.others) (rest_of_version mid new version.others)) (rest_of_summary new last summary.others) in
    let same_versions : mid 11 ≡ old 11 = crate.others.1.1.1.1.1.1.0 (λ e. cc) (λ e. cc) in
    let same_archives : mid 13 ≡ old 13 = crate.others.1.1.1.1.1.1.1.0 (λ e. cc) (λ e. cc) in
    let same_crates : new 7 ≡ mid 7 = version.others.1.1.1.1.0 (λ e. cc) (λ e. cc) in
    let same_owners : new 9 ≡ mid 9 = version.others.1.1.1.1.1.0 (λ e. cc) (λ e. cc) in
    let is = id_is ids s.publications s.yanked old mid new stands.crates id owner p crate fresh in
    let unread : (account : ℕ) → finset.contains s.readers (canon p.name, account) ≡ false = λ account. not_true _ (λ i. true_not_false (exists s p.name) (h.sound.readers (canon p.name) account i).0 fresh) in
    let crates = adds_crate ids s.publications s.yanked old mid new stands.crates id owner p crate fresh key (unmarked s p h.sound new_version) same_versions same_archives same_crates version in
    let pairs = first_pair ids s.publications s.yanked old mid new stands.crates id owner p crate fresh s.owners (old 9) stands.owners unowned crate.rowid crate.free in
    let owned = subst (StandPairs (ids_with_crate p ids).crates (finset.insert s.owners (canon p.name, owner))) (sym (still_owners new last summary.others ∙ same_owners ∙ crate.owners)) (subst (λ n. StandPairs (ids.crates ++ (n, p.name) ∷ []) (finset.insert s.owners (canon p.name, owner)) (put_row (Int crate.rowid ∷ owner_columns id owner) (old 9))) is pairs) in
    let no_reader = unpaired ids s.publications s.yanked old mid new stands.crates id owner p crate fresh s.readers (old 18) stands.readers unread in
    let read = subst (λ n. StandPairs (ids.crates ++ (n, p.name) ∷ []) s.readers (last 18)) is (pairs_stay (ids.crates ++ (id, p.name) ∷ []) s.readers (old 18) (last 18) rest.readers no_reader) in
    let unlisted : finset.contains s.restricted (canon p.name) ≡ false = not_true _ (λ i. true_not_false (exists s p.name) (h.sound.restricted (canon p.name) i) fresh) in
    let not_marked = unmarked_crate ids s.publications s.yanked old mid new stands.crates id owner p crate fresh s.restricted (old 17) stands.restricted unlisted in
    let marked = subst (λ n. StandMarked (ids.crates ++ (n, p.name) ∷ []) s.restricted (last 17)) is (marked_stay (ids.crates ++ (id, p.name) ∷ []) s.restricted (old 17) (last 17) rest.restricted not_marked) in
    let kept : new 16 ≡ old 16 = version.others.1.1.1.1.1.1.1.1.1.0 (λ e. cc) (λ e. cc) ∙ crate.others.1.1.1.1.1.1.1.1.1.0 (λ e. cc) (λ e. cc) in
    let before = summaries_stay ids s.yanked (old 16) (new 16) kept stands.summaries in
    let next = next_id_of ids s.yanked key id p mid new version (subst (IsPermutation (map (row_of_version s.yanked) ids.versions)) (sym same_versions) stands.crates.version_rows) in
    let summaries = summaries_first ids s.publications _ s.yanked old new last stands.crates p crates before key next (subst (λ n. AddsSummary n key new last) is summary) in
    (is, with_crates ids (ids_with_crate p ids) s _ s.yanked _ old last rest stands (still_crates new last summary.others _ _ _ crates) owned read marked summaries)

pub adds_next : (ids : IdAssignment) (s : Registry) (id key : ℕ) (p : Publication) (old new last : Trees) → StandsSoundBy ids s old → spelling_at ids id ≡ Some p.name → has_version s (canon p.name) p.version ≡ false → AddsVersion key id p old new → PushesSummary id key new last
    → StandsBy (ids_with_version id p ids) (record s { publications = s.publications ++ p ∷ [] }) last
adds_next ids s id key p old new last h at fresh version summary =
    let there = there_at ids id p.name at in
    let stands = h.stands in
    let after = ids_with_version id p ids in
    let same_crates : new 7 ≡ old 7 = version.others.1.1.1.1.0 (λ e. cc) (λ e. cc) in
    let same_owners : new 9 ≡ old 9 = version.others.1.1.1.1.1.0 (λ e. cc) (λ e. cc) in
    let kept : new 16 ≡ old 16 = version.others.1.1.1.1.1.1.1.1.1.0 (λ e. cc) (λ e. cc) in
    let pairs = pairs_stay ids.crates s.owners (old 9) (last 9) (still_owners new last summary.others ∙ same_owners) stands.owners in
    let rest = rest_then old new last (rest_of_version old new version.others) (rest_of_summary new last summary.others) in
    let readers = pairs_stay ids.crates s.readers (old 18) (last 18) rest.readers stands.readers in
    let restricted = marked_stay ids.crates s.restricted (old 17) (last 17) rest.restricted stands.restricted in
    let crates = adds_version ids s.publications s.yanked old new stands.crates key id p there (unmarked s p h.sound fresh) same_crates version in
    let before = summaries_stay ids s.yanked (old 16) (new 16) kept stands.summaries in
    let next = next_id_of ids s.yanked key id p old new version stands.crates.version_rows in
    let summaries = summaries_next ids s.publications _ s.yanked old new last stands.crates id p crates there before key next summary in
    with_crates ids after s _ s.yanked s.owners old last rest stands (still_crates new last summary.others _ _ _ crates) pairs readers restricted summaries

-- what an update of the mark says, of the version that alone has the release and the text
abbrev ReplacesMark : ℕ → Text → Text → Bool → State → State → Type 0
ReplacesMark id release text b old new =
    (n : ℕ) (digest stem : Text) (description : Option Text) (was : Bool) → filter (is_version id release text) (old.now.trees 11) ≡ version_row n id text release digest stem description was ∷ [] → Replaces 11 n (version_row n id text release digest stem description b) old new

-- a mark of a version is changed, and the summary of its crate follows
module _ (ids : IdAssignment) (s : Registry) (id version : ℕ) (old new : State) (last : Trees) (h : StandsSoundBy ids s old.now.trees) (others : KeepsOthers 11 old.now.trees new.now.trees) (summary : RemarksSummary id version new.now.trees last) where
  with_yanked : (yanked : finset.FinSet mark_cmp) → StandCrates ids s.publications yanked new.now.trees → StandSummaries ids yanked (last 16) → StandsBy ids (record s { yanked = yanked }) last
  with_yanked yanked crates summaries =
      let before = old.now.trees in
      let mid = new.now.trees in
      let rest = rest_then before mid last (rest_of_other 11 (λ n h k. h) before mid others) (rest_of_summary mid last summary.others) in
      let pairs = pairs_stay ids.crates s.owners (before 9) (last 9) (still_owners mid last summary.others ∙ same_owners 11 before mid others (λ e. cc)) h.stands.owners in
      let readers = pairs_stay ids.crates s.readers (before 18) (last 18) rest.readers h.stands.readers in
      let restricted = marked_stay ids.crates s.restricted (before 17) (last 17) rest.restricted h.stands.restricted in
      with_crates ids ids s s.publications yanked s.owners before last rest h.stands (still_crates mid last summary.others _ _ _ crates) pairs readers restricted summaries

  before_them : StandSummaries ids s.yanked (new.now.trees 16)
  before_them = summaries_stay ids s.yanked (old.now.trees 16) (new.now.trees 16) (same_summaries 11 old.now.trees new.now.trees others (λ e. cc)) h.stands.summaries

  module _ (name text : Text) (b : Bool) (there : IsIn (id, name) ids.crates) (v : StoredVersion) (is : IsTarget ids s.publications s.yanked old.now.trees h.stands.crates h.sound.releases id name text there v) where
    mark_at_it : (yanked : finset.FinSet mark_cmp) → is_marked yanked v ≡ finset.contains yanked (canon name, text)
    mark_at_it yanked i = finset.contains yanked (is.canonical i, is.version i)

    mark_changed : finset.contains s.yanked (canon name, text) ≡ not b → IsMarkChange (its_versions ids id) v s.yanked (marks s.yanked (canon name) text b)
    mark_changed was = record {
      there = kept (λ v. v.of_crate == id) ids.versions v is.stored (eq-eqb v.of_crate id is.crate);
      changed = mark_at_it s.yanked ∙ was ∙ ap not (sym (mark_at_it (marks s.yanked (canon name) text b) ∙ mark_is s.yanked (canon name) text b));
      others = λ w i apart. sym (mark_kept ids s.publications s.yanked old.now.trees h.stands.crates h.sound.releases id name text there b v w is (in_filter (λ v. v.of_crate == id) ids.versions w i) apart);
    }

    marks_one : finset.contains s.yanked (canon name, text) ≡ not b → v.id ≡ version → ReplacesMark id (release_key_of text) text b old new → StandsBy ids (record s { yanked = marks s.yanked (canon name) text b }) last
    marks_one was same replaces =
        let before = old.now.trees in
        let after = new.now.trees in
        let stands = h.stands in
        let p = v.publication in
        let row = row_found ids s.publications s.yanked before stands.crates h.sound.releases id name text there v is in
        let replaced = replaces v.id p.digest p.stem p.description (finset.contains s.yanked (canon name, text)) row in
        let changed = yanks ids s.publications s.yanked before stands.crates h.sound.releases id name text there b v is after (same_crates 11 before after others (λ e. cc)) (same_archives 11 before after others (λ e. cc)) replaced.rows_are in
        let marked = marks s.yanked (canon name) text b in
        let has = summary_at ids ids s.yanked marked (after 16) (last 16) stands.crates.up before_them (id, name) there in
        with_yanked marked changed (summaries_marked ids s.publications s.yanked before stands.crates (after 16) (last 16) before_them id name text b there (summary.row ids _ s.yanked marked v changed has same (mark_changed was)))

-- what is told of the version that gets another mark
module _ (ids : IdAssignment) (s : Registry) (id : ℕ) (text : Text) (b : Bool) (db : Trees) (h : StandsSoundBy ids s db) (found : Option ℕ) (told : IsOtherwise id text b db found) where
  none_at : spelling_at ids id ≡ None → found ≡ None
  none_at none = no_id id text b db found told (no_version ids s.publications s.yanked db h.stands.crates id text none)

  none_of_it : (name : Text) → spelling_at ids id ≡ Some name → has_version s (canon name) text ≡ false → found ≡ None
  none_of_it name at none = no_id id text b db found told (no_such_version ids s.publications s.yanked db h.stands.crates h.sound.releases id name text (there_at ids id name at) none)

  target_at : (name : Text) (at : spelling_at ids id ≡ Some name) → has_version s (canon name) text ≡ true → (v : StoredVersion) × IsTarget ids s.publications s.yanked db h.stands.crates h.sound.releases id name text (there_at ids id name at) v
  target_at name at published = target ids s.publications s.yanked db h.stands.crates h.sound.releases id name text (there_at ids id name at) published

  one_of_it : (name : Text) (at : spelling_at ids id ≡ Some name) (v : StoredVersion) → IsTarget ids s.publications s.yanked db h.stands.crates h.sound.releases id name text (there_at ids id name at) v → found ≡ id_unless (finset.contains s.yanked (canon name, text)) b v.id
  one_of_it name at v is =
      one_id id text b db found told v.id v.publication.digest v.publication.stem v.publication.description (finset.contains s.yanked (canon name, text))
      (row_found ids s.publications s.yanked db h.stands.crates h.sound.releases id name text (there_at ids id name at) v is)

other_mark : (was b : Bool) (n : ℕ) → was ≡ cond (is_some (id_unless was b n)) (not b) b
other_mark true true n = refl
other_mark true false n = refl
other_mark false true n = refl
other_mark false false n = refl

-- whether one does
pub marks_other : (ids : IdAssignment) (s : Registry) (id : ℕ) (text : Text) (b : Bool) (db : Trees) (found : Option ℕ) → StandsSoundBy ids s db → IsOtherwise id text b db found → (name : Text) → spelling_at ids id ≡ Some name → has_version s (canon name) text ≡ true
    → finset.contains s.yanked (canon name, text) ≡ cond (is_some found) (not b) b
marks_other ids s id text b db found h told name at published =
    let v = target_at ids s id text b db h found told name at published in
    other_mark (finset.contains s.yanked (canon name, text)) b v.0.id ∙ ap (λ o. cond (is_some o) (not b) b) (sym (one_of_it ids s id text b db h found told name at v.0 v.1))

-- none does: all is as it was
pub marks_none : (ids : IdAssignment) (s : Registry) (id : ℕ) (text : Text) (b : Bool) (db : Trees) → StandsSoundBy ids s db → IsOtherwise id text b db None → StandsBy ids (mark_at ids id text b s) db
marks_none ids s id text b db h told = split (spelling_at ids id) refl
  where
    split : (o : Option Text) → spelling_at ids id ≡ o → StandsBy ids (if_there o (with_mark text b) s) db
    split None none = h.stands
    split (Some name) at = by (has_version s (canon name) text) refl
      where
        by : (c : Bool) → has_version s (canon name) text ≡ c → StandsBy ids (cond c (record s { yanked = marks s.yanked (canon name) text b }) s) db
        by false none = h.stands
        by true published =
            let v = target_at ids s id text b db h None told name at published in
            let was = unless_none _ b v.0.id (one_of_it ids s id text b db h None told name at v.0 v.1) in
            subst (λ y. StandsBy ids (record s { yanked = y }) db) (sym (marks_again s.yanked (canon name) text b was)) h.stands

-- one does
pub marks_some : (ids : IdAssignment) (s : Registry) (id version : ℕ) (text : Text) (b : Bool) (old new : State) (last : Trees) → StandsSoundBy ids s old.now.trees → IsOtherwise id text b old.now.trees (Some version) → MarksYanked id (release_key_of text) text b old new → RemarksSummary id version new.now.trees last
    → StandsBy ids (mark_at ids id text b s) last
marks_some ids s id version text b old new last h told marked summary = split (spelling_at ids id) refl
  where
    not_there : {P : Type 0} → ◌≡◌ {A = Option ℕ} (Some version) None → P
    not_there e = absurd cc

    split : (o : Option Text) → spelling_at ids id ≡ o → StandsBy ids (if_there o (with_mark text b) s) last
    split None none = not_there (none_at ids s id text b old.now.trees h (Some version) told none)
    split (Some name) at = by (has_version s (canon name) text) refl
      where
        by : (c : Bool) → has_version s (canon name) text ≡ c → StandsBy ids (cond c (record s { yanked = marks s.yanked (canon name) text b }) s) last
        by false none = not_there (none_of_it ids s id text b old.now.trees h (Some version) told name at none)
        by true published =
            let v = target_at ids s id text b old.now.trees h (Some version) told name at published in
            let was = unless_some _ b v.0.id version (one_of_it ids s id text b old.now.trees h (Some version) told name at v.0 v.1) in
            marks_one ids s id version old new last h marked.touches.others summary name text b (there_at ids id name at) v.0 v.1 was.0 was.1 marked.replaced
