use Rattle.std.proofs.Common.{◌≡◌, string_bytes, sym, subst, IfOk}
use Rattle.std.proofs.lemmas.Simd.{map-map}
use Rattle.reg_reference_lists.specs.Accounts.{is_known_in}
use Rattle.reg_reference_lists.proofs.accounts.Accounts.known.Goals as goal

pub returns : goal.returns
returns c = subst (λ zs. IfOk c.each_known.result (λ v. v.items ≡ zs)) (sym (map-map (is_known_in c.args.self.now) string_bytes c.args.logins.now)) c.each_known.ensures
