use Rattle.reg_access.proofs.Words.{◌≡◌, ◌&&◌, map, sym, rules, string_bytes, Endpoint, has_endpoint, is_right, told_of}
use Rattle.reg_names.specs.declared.endpoint.Endpoint.TheVariants as endpoint
use Rattle.reg_access.proofs.GrantLists.{four}
use Rattle.reg_access.proofs.grants.add_of.Goals as goal

pub returns : goal.returns
returns c =
    let row = c.args.row.now in
    let p = λ (e : Endpoint). has_endpoint row.endpoints e && is_right c.args.free c.is_owner.result e in
    let login : c.in-Some.login ≡ string_bytes row.login = search rules in
    rw (c.in_ok-add_one-4.ensures, c.in_ok-add_one-3.ensures, c.in_ok-add_one-2.ensures, c.in_ok-add_one.ensures, login, sym c.is_owner.ensures)
    (four p (λ (e : Endpoint). (row.id, e, string_bytes row.login)) endpoint.PublishNew endpoint.PublishUpdate endpoint.Yank endpoint.ChangeOwners (map told_of c.args.list.now.items))
