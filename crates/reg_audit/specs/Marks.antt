-- Versions, grouped by the ids of their crates.
use Rattle.std.specs.Prelude.{ℕ, List, [], Vec, map, unwrap_or}
use Rattle.std.specs.BTreeMap.{BTreeMap, get}
use Rattle.std.specs.Option.{option_map}
use Rattle.std.specs.Ordering.{nat_cmp}
use Rattle.std.specs.declared.alloc.Global.{Global}
use Rattle.reg_tables_sql.specs.declared.versions.VersionMark.{VersionMark}
use Rattle.reg_tables_represent.specs.Summaries.{ShownMark, shown_mark}

abbrev pub Groups : Type 0
Groups = BTreeMap ℕ (Vec VersionMark Global)

-- those of the crate with this id
abbrev pub marks_at : Groups → ℕ → List ShownMark
marks_at groups id =
    map shown_mark (unwrap_or (option_map (λ v. v.items) (get nat_cmp groups id)) [])
