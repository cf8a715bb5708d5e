-- A version that was judged, as the definition says it.
use Rattle.reg_audit.proofs.Words.{◌≡◌, length, Result, Ok, Err, IfOk, Bool, true, Some, sym, subst, ◌∙◌, ◌↔◌, IsTrue, string_bytes}
use Rattle.reg_audit.proofs.Words.{is_version, release_key_of, IsStemOf, AllRows, IsGenuine}
use Rattle.reg_tables_sql.specs.declared.crates.Crate.{Crate}
use Rattle.reg_tables_sql.specs.declared.versions.Version.{Version}
use Rattle.reg_audit.specs.Checks.{crate_of}

module _ (it : AllRows) (v : Version) (o : Crate) where
  same_crate : (g : IsGenuine it v) → crate_of it v.crate_id ≡ Some o → g.of_crate ≡ o
  same_crate g has =
      let both : Some g.of_crate ≡ Some o = sym g.has_crate ∙ has in
      cc

  pub genuine : {E : Type 0} (r : Result Bool E) → is_version (string_bytes v.vers) ≡ true → release_key_of (string_bytes v.vers) ≡ string_bytes v.release → crate_of it v.crate_id ≡ Some o
      → IfOk r (λ b. IsTrue b ↔ ((length v.digest.items ≡ 32) × IsStemOf v.stem.items (string_bytes o.name) (string_bytes v.vers) v.digest.items)) → IfOk r (λ b. IsTrue b ↔ IsGenuine it v)
  genuine (Err e) version release has h = tt
  genuine (Ok b) version release has h = (
    λ yes. record { version = version; release = release; digest = (h.0 yes).0; of_crate = o; has_crate = has; stem = (h.0 yes).1 },
    λ g. h.1 (g.digest, subst (λ (c : Crate). IsStemOf v.stem.items (string_bytes c.name) (string_bytes v.vers) v.digest.items) (same_crate g has) g.stem),
  )
