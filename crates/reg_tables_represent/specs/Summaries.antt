-- The kept summary of a crate: which of its versions is the highest, and how long its index file
-- is.
use Rattle.std.specs.Prelude.{ℕ, ◌==◌, ◌+◌, ◌||◌, nat_lt, pos, Bool, if◌then◌else◌, List, [], ◌∷◌, Option, map, length, unwrap_or, slice_get, IsPermutation, string_bytes}
use Rattle.std.specs.FinSet as finset
use Rattle.std.specs.List.{filter, sum_by}
use Rattle.std.specs.Option.{option_and_then, option_map}
use Rattle.sqlite.specs.declared.types.Value.TheVariants.{Int, Text as Words}
use Rattle.sqlite.specs.Order.{Row}
use Rattle.reg_line.specs.File.{end_of, file_text}
use Rattle.reg_model.specs.Registry.{Text, mark_cmp}
use Rattle.reg_names.specs.Names.{canon}
use Rattle.reg_tables_schema.specs.Rows.{sql_bool}
use Rattle.reg_tables_sql.specs.Summaries.{summary_row}
use Rattle.reg_tables_sql.specs.declared.versions.VersionMark.{VersionMark}
use Rattle.reg_tables_represent.specs.Stored.{IdAssignment, StoredCrate, StoredVersion}
use Rattle.reg_versions.specs.Precedence.{Marked, top_place}
use Rattle.reg_versions.specs.Pushed.{takes_over}
use Rattle.reg_versions.specs.Versions.{parts_of}

-- the versions of the crate with this id, in the order of publication
abbrev pub its_versions : IdAssignment → ℕ → List StoredVersion
its_versions ids id = filter (λ v. v.of_crate == id) ids.versions

-- whether a version is yanked, where these are the marks
abbrev pub is_marked : finset.FinSet mark_cmp → StoredVersion → Bool
is_marked yanked v =
    finset.contains yanked (canon v.publication.name, v.publication.version)

-- a version, read, with its mark
abbrev pub marked_of : finset.FinSet mark_cmp → StoredVersion → Marked
marked_of yanked v = (parts_of v.publication.version, is_marked yanked v)

-- the highest of some versions, and how long the index file is that they make
abbrev pub top_among : finset.FinSet mark_cmp → List StoredVersion → Option StoredVersion
top_among yanked vs = option_and_then (slice_get vs) (top_place (map (marked_of yanked) vs))

abbrev pub length_among : finset.FinSet mark_cmp → List StoredVersion → ℕ
length_among yanked vs =
    length (file_text (map (λ v. (v.publication.stem, is_marked yanked v)) vs))

-- the same of the versions of the crate with this id; there the highest is told by its id
abbrev pub top_of : IdAssignment → finset.FinSet mark_cmp → ℕ → Option StoredVersion
top_of ids yanked id = top_among yanked (its_versions ids id)

abbrev pub id_among : finset.FinSet mark_cmp → List StoredVersion → ℕ
id_among yanked vs = unwrap_or (option_map (λ v. v.id) (top_among yanked vs)) 0

abbrev pub highest_of : IdAssignment → finset.FinSet mark_cmp → ℕ → ℕ
highest_of ids yanked id = id_among yanked (its_versions ids id)

abbrev pub length_of : IdAssignment → finset.FinSet mark_cmp → ℕ → ℕ
length_of ids yanked id = length_among yanked (its_versions ids id)

-- the row of a crate
abbrev pub row_among : finset.FinSet mark_cmp → ℕ → List StoredVersion → Row
row_among yanked id vs = summary_row id (id_among yanked vs) (length_among yanked vs)

abbrev pub row_of_summary : IdAssignment → finset.FinSet mark_cmp → StoredCrate → Row
row_of_summary ids yanked c = row_among yanked c.0 (its_versions ids c.0)

-- each crate has its summary
pub record StandSummaries (ids : IdAssignment) (yanked : finset.FinSet mark_cmp) (rows : List Row)
    : Type 0 where
  pub are : IsPermutation (map (row_of_summary ids yanked) ids.crates) rows

-- a version as its mark is shown, and the same of the version itself
pub record ShownMark : Type 0 where
  pub id : ℕ
  pub version : Text
  pub stem_length : ℕ
  pub yanked : Bool

abbrev pub shown_mark : VersionMark → ShownMark
shown_mark m = record {
  id = m.id;
  version = string_bytes m.vers;
  stem_length = m.stem_length;
  yanked = m.yanked;
}

abbrev pub mark_shown : finset.FinSet mark_cmp → StoredVersion → ShownMark
mark_shown yanked v = record {
  id = v.id;
  version = v.publication.version;
  stem_length = length v.publication.stem;
  yanked = is_marked yanked v;
}

-- the same in columns
abbrev pub columns_of_shown : ShownMark → Row
columns_of_shown m =
    Int (pos m.id) ∷ Words m.version ∷ Int (pos m.stem_length) ∷ sql_bool m.yanked ∷ []

-- what they say of the highest and of the index file
abbrev pub read_mark : ShownMark → Marked
read_mark m = (parts_of m.version, m.yanked)

abbrev pub highest_in : List ShownMark → ℕ
highest_in ms =
    unwrap_or (option_map (λ m. m.id)
    (option_and_then (slice_get ms) (top_place (map read_mark ms)))) 0

abbrev pub line_length : ShownMark → ℕ
line_length m = m.stem_length + length (end_of m.yanked)

abbrev pub length_in : List ShownMark → ℕ
length_in ms = sum_by line_length ms

-- the higher of two that follow one another in the order of publication
abbrev pub higher_of : ShownMark → ShownMark → ShownMark
higher_of one next = if takes_over (read_mark one) (read_mark next) then next else one

-- the higher of two, which follow one another as their ids do
abbrev pub higher_by_id : ShownMark → ShownMark → ShownMark
higher_by_id one other =
    if nat_lt one.id other.id then higher_of one other else higher_of other one

-- the highest once the mark of a version is this one, where it was `top`; not where `top` is yanked
abbrev pub higher_marked : ShownMark → ShownMark → ShownMark
higher_marked top now =
    if now.yanked || now.id == top.id then top else higher_by_id now top
