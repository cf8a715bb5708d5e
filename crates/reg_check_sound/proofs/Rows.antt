-- Rows that pass all checks stand for the registry that is built from them, and it is sound.
use Rattle.reg_check_sound.proofs.Words.{StandsSoundBy, StandsBy, AreAllRows, KeepsRules, PassAll, ids_from, registry_from, version_from}
use Rattle.reg_check_sound.proofs.Common.{AllRows, maps_twice, Trees}
use Rattle.reg_model.specs.Sound.{Sound}
use Rattle.reg_tables_represent.specs.Stands.{StandCrates}
use Rattle.reg_check_sound.proofs.Accounts.{accounts_sound, accounts_stand}
use Rattle.reg_check_sound.proofs.Archives.{archive_rows}
use Rattle.reg_check_sound.proofs.Crates.{canons_so, crate_rows, up}
use Rattle.reg_check_sound.proofs.Pairs.{owners_stand, readers_stand, restricted_stands}
use Rattle.reg_check_sound.proofs.Passing.{Passing, accounts_are}
use Rattle.reg_check_sound.proofs.Plain.{base_stands, reserved_stand}
use Rattle.reg_check_sound.proofs.SoundCrates.{publications_sound, releases_sound, spelled_sound, yanked_sound}
use Rattle.reg_check_sound.proofs.SoundPairs.{owned_sound, owners_sound, readers_sound, restricted_sound}
use Rattle.reg_check_sound.proofs.SoundTokens.{digests_apart, logins_apart, reserved_sound, tokens_sound}
use Rattle.reg_check_sound.proofs.Summaries.{summaries_stand}
use Rattle.reg_check_sound.proofs.Tokens.{tokens_stand}
use Rattle.reg_check_sound.proofs.Versions.{of_crates, rising, used, version_rows}

module _ (it : AllRows) (db : Trees) (h : Passing it db) where
  crates_stand : StandCrates (ids_from it db) (registry_from it db).publications (registry_from it db).yanked db
  crates_stand = record {
    crate_rows = crate_rows it db h;
    version_rows = version_rows it db h;
    archive_rows = archive_rows it db h;
    canons = canons_so it db h;
    used = used it db h;
    of_crates = of_crates it db h;
    up = up it db h;
    rising = rising it db h;
    published = maps_twice (version_from it db) (λ v. v.publication) it.versions.items;
  }

  stands : StandsBy (ids_from it db) (registry_from it db) db
  stands = record {
    about = base_stands it db h;
    accounts = accounts_stand it db h;
    tokens = tokens_stand it db h;
    crates = crates_stand;
    owners = owners_stand it db h;
    readers = readers_stand it db h;
    reserved = reserved_stand it db h;
    restricted = restricted_stands it db h;
    summaries = summaries_stand it db h;
  }

  sound : Sound (registry_from it db)
  sound = record {
    base = (accounts_are it db h).base;
    accounts = accounts_sound it db h;
    logins = logins_apart it db h;
    tokens = tokens_sound it db h;
    digests = digests_apart it db h;
    publications = publications_sound it db h;
    spelled = spelled_sound it db h;
    releases = releases_sound it db h;
    owned = owned_sound it db h;
    owners = owners_sound it db h;
    yanked = yanked_sound it db h;
    reserved = reserved_sound it db h;
    restricted = restricted_sound it db h;
    readers = readers_sound it db h;
  }

pub passing_holds : (it : AllRows) (db : Trees) → AreAllRows it db → KeepsRules db → PassAll it db → StandsSoundBy (ids_from it db) (registry_from it db) db
passing_holds it db are rules all =
    let h : Passing it db = record { are = are; rules = rules; all = all } in
    record { sound = sound it db h; stands = stands it db h }
