use Rattle.std.proofs.Common.{◌≡◌, string_bytes, sym, subst, IfOk}
use Rattle.reg_reference_lists.specs.Accounts.{id_in}
use Rattle.reg_reference_lists.proofs.Listed.{filter_map_map}
use Rattle.reg_reference_lists.proofs.accounts.Accounts.ids_of.Goals as goal

pub returns : goal.returns
returns c = subst (λ zs. IfOk c.ids_found.result (λ v. v.items ≡ zs)) (sym (filter_map_map (id_in c.args.self.now) string_bytes c.args.logins.now)) c.ids_found.ensures
