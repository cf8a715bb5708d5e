-- What was asked of accounts and of tokens makes up the report on tokens.
use Rattle.reg_service_commands.proofs.Words.{◌≡◌, List, Ok, string_bytes, Vec, String, Global, enumerate_from, flat_map, Ghosts, Account}
use Rattle.reg_service_commands.proofs.Words.{ListsAccounts, StoreFault, Work, Queries, asks_both, asks_made, Reports, AreTokens, line_among}
use Rattle.reg_model.specs.Registry as model
use Rattle.reg_model.specs.Reports.{tokens_text}
use Rattle.reg_tables_represent.specs.Calls.{ListsScopes, ListsTokens}
use Rattle.reg_tables_represent.specs.declared.tokens.TokenLists.{TokenLists}
use Rattle.reg_service_commands.proofs.ReportTexts.{tokens_told}

pub tokens_asked : {S : Type 0} (g : Ghosts S) (accounts : Vec Account Global) (both : TokenLists) (text : String Global) (a b c : Work S) → Queries {E = StoreFault} g a b (Ok accounts) (λ db list. ListsAccounts db list.items)
    → Queries {E = StoreFault} g b c (Ok both) (λ db it. ListsTokens db it.tokens.items × ListsScopes db it.scopes.items)
    → ((ts : List model.Token) → AreTokens 1 ts both.tokens.items both.scopes.items → string_bytes text ≡ flat_map (line_among accounts.items) (enumerate_from 1 ts))
    → Queries {E = StoreFault} g a c (Ok text) (Reports tokens_text)
tokens_asked g accounts both text a b c one two told =
    asks_made g (accounts, both) text a c
    (λ h ids s holds. tokens_told s accounts.items (string_bytes text) (h.0 ids s holds) (told s.tokens (record { each = h.1.0 ids s holds; covered = h.1.1 ids s holds })))
    (asks_both g accounts both a b c one two)
