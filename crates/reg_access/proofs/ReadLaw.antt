-- What was asked of a name makes up the readers of a restricted crate.
use Rattle.reg_access.proofs.Words.{◌≡◌, ℕ, true, false, cond, List, [], map, Option, Some, None, refl, sym, ap, ◌∙◌, string_bytes}
use Rattle.reg_access.proofs.Words.{enumerate_from, filter, Trees, canon, exists, Account, not_true, true_not_false, maps_twice, Crate}
use Rattle.reg_access.proofs.Words.{FindsCrate, entry_of_account, reader_of}
use Rattle.std.specs.FinSet as finset
use Rattle.reg_model.specs.Crates.{is_restricted, readers as readers_in}
use Rattle.reg_model.specs.Grants.{who_reads}
use Rattle.reg_model.specs.Registry.{Text as Words}
use Rattle.reg_tables_sql.specs.declared.accounts.Account.{Account as Stored}
use Rattle.reg_tables_represent.specs.Calls.{Tells}
use Rattle.reg_tables_represent.specs.Changes.{told_of as told_where}
use Rattle.reg_access.specs.Grants.{AreReaders, AreReadersOf}
use Rattle.reg_access.proofs.GrantLaw.{first_canon, there_is}

accounts_found : (db : Trees) (n : Words) (found : Option Crate) (list : List Stored) → FindsCrate (canon n) db found → AreReadersOf found db list → Tells (λ ids s. map entry_of_account list ≡ who_reads s n) db
accounts_found db n None list finds none ids s h = ap (map entry_of_account) none ∙ ap (λ r. cond r (readers_in s n) []) (sym (not_true (is_restricted s n) (λ e. true_not_false (exists s n) (h.sound.restricted (canon n) e) (there_is ids s db h n None ((finds ids s h).0 n refl)))))
accounts_found db n (Some c) list finds are ids s h =
    let told = finds ids s h in
    are ids s h ∙ ap (λ o. told_where o [] (who_reads s)) told.1
    ∙ ap (λ x. cond (finset.contains s.restricted x) (filter (λ o. finset.contains s.readers (x, o.0)) (enumerate_from 1 s.accounts)) []) (first_canon s n (string_bytes c.name) (sym (told.0 n refl)))

abbrev login_of : ℕ × Account → ℕ × Words
login_of e = (e.0, e.1.login)

pub readers_found : (db : Trees) (n : Words) (found : Option Crate) (accounts : List Stored) (list : List (ℕ × Words)) → FindsCrate (canon n) db found → AreReadersOf found db accounts → list ≡ map reader_of accounts → AreReaders n db list
readers_found db n found accounts list finds are made ids s h = made ∙ sym (maps_twice entry_of_account login_of accounts) ∙ ap (map login_of) (accounts_found db n found accounts finds are ids s h)
