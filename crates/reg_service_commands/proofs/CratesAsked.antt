-- What was asked of all crates, one after another, makes up the report on crates.
use Rattle.reg_service_commands.proofs.Words.{◌≡◌, ℕ, ◌+◌, ◌<◌, List, [], ◌++◌, length, take, get_or, Ok, Err, Result, refl, ap, ◌∙◌}
use Rattle.reg_service_commands.proofs.Words.{string_bytes, Vec, String, Global, Trees, Ghosts, Text, crate_line, Crate, Version}
use Rattle.reg_service_commands.proofs.Words.{ListsCrates, ListsVersions, StoreFault, Work, Queries, asks_after, asks_both, asks_failed}
use Rattle.reg_service_commands.proofs.Words.{asks_made, HasLines, IsCrate, highest_among, line_of_crate, Reports}
use Rattle.reg_model.specs.Reports.{crates_text}
use Rattle.reg_service_commands.specs.ReportedCrates.{AddsLine}
use Rattle.reg_service_commands.proofs.CrateLines.{crates_told, each_at, line_told}
use Rattle.reg_service_commands.proofs.Behind.{next_line}

pub line_added : (db : Trees) (c : Crate) (vs : List Version) (old new : Text) → ListsVersions c.id db vs → new ≡ old ++ crate_line (string_bytes c.name) (length vs) (highest_among vs) → AddsLine c old new db
line_added db c vs old new lists told ids s h is = told ∙ ap (λ l. old ++ l) (line_told ids s c vs (lists ids s h) is)

more_lines : (db : Trees) (all : List Crate) (i : ℕ) (c : Crate) (old new : Text) → i < length all → c ≡ get_or all i c → HasLines all (take i all) old db → AddsLine c old new db → HasLines all (take (i + 1) all) new db
more_lines db all i c old new lt is lines adds lists ids s h =
    let told = lists ids s h in
    next_line (line_of_crate s) [] all i c old new lt is (adds ids s h (each_at (IsCrate ids s) all i c told.0 lt is)) (lines lists ids s h)

module _ {S : Type 0} (g : Ghosts S) where
  pub one_asked : (all : List Crate) (i : ℕ) (c : Crate) (old new : Text) (u v w : Unit {0}) (x y z : Work S) → i < length all → c ≡ get_or all i c → Queries {E = StoreFault} g x y (Ok u) (λ db _. HasLines all (take i all) old db)
      → Queries {E = StoreFault} g y z (Ok v) (λ db _. AddsLine c old new db) → Queries {E = StoreFault} g x z (Ok w) (λ db _. HasLines all (take (i + 1) all) new db)
  one_asked all i c old new u v w x y z lt is one two = asks_made g (u, v) w x z (λ h. more_lines _ all i c old new lt is h.0 h.1) (asks_both g u v x y z one two)

  pub crates_asked : (all : Vec Crate Global) (r : Result (String Global) StoreFault) (x y z : Work S) → Queries {E = StoreFault} g x y (Ok all) (λ db list. ListsCrates db list.items) → Queries g y z r (λ db text. HasLines all.items all.items (string_bytes text) db) → Queries g x z r (Reports crates_text)
  crates_asked all (Ok text) x y z one two =
      asks_made g (all, text) text x z (λ h ids s holds. let told = h.0 ids s holds in crates_told s all.items (string_bytes text) told.1 told.2 (h.1 h.0 ids s holds)) (asks_both g all text x y z one two)
  crates_asked all (Err e) x y z one two = asks_failed g e (Err e) x z refl (asks_after g all (Err e) x y z one two)
