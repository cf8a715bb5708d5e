-- What many proofs here use, passed on to them.
pub use Rattle.std.proofs.Common.{Bool, List, Some, [], ap, arith, cond, drop, false, inl, inr, length, map, nat_lt, refl, rules, subst}
pub use Rattle.std.proofs.Common.{suc, sym, take, true, ℕ, ◌&&◌, ◌++◌, ◌-◌, ◌<◌, ◌==◌, ◌||◌, ◌∙◌, ◌∷◌, ◌≡◌}
pub use Rattle.std.proofs.Math.Seq.{drop-append_seam}
pub use Rattle.std.proofs.lemmas.Bool.{and_from, and_parts}
pub use Rattle.std.proofs.lemmas.Bool.Decides.{Decides-eqb}
pub use Rattle.std.proofs.lemmas.Grind.{common_steps}
pub use Rattle.std.proofs.lemmas.List.{length-append, length-map, take_all}
pub use Rattle.std.proofs.lemmas.List.Folds.{list_all-append}
pub use Rattle.std.proofs.lemmas.Slice.Eq.{bytes_eq-Decides, starts_is}
pub use Rattle.std.specs.Char.{to_ascii_lowercase}
pub use Rattle.std.specs.List.{list_all, starts_with}
pub use Rattle.std.specs.Prelude.{codes}
pub use Rattle.std.specs.Str.{IsAscii, bytes_eq}
pub use Rattle.reg_names.specs.Names.{canon, canon_byte, folder_of, is_name, is_name_byte, lower, name_of, path_of}
pub use Rattle.reg_names.specs.Patterns.{Covers, covers, has_star, is_pattern, prefix_of}
