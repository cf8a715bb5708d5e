use Rattle.reg_reference.proofs.Words.{ℕ, Option, map, take, sym, ap, ◌∙◌, ◌&&◌, filter, canon, sees, Registry, hit, occurs, registry_of}
use Rattle.reg_reference.proofs.Searches.{found_told}
use Rattle.reg_reference.proofs.plain.PlainRegistry.search.Goals as goal

pub returns : goal.returns
returns c =
    let s : Registry = registry_of c.args.self.now in
    let who : Option ℕ = c.args.viewer in
    let query = ap (λ v. v) c.as_slice.ensures.value ∙ c.in_ok-query.ensures in
    let these = c.in_ok-matching.ensures ∙ ap (λ l. filter (λ n. sees s who n && occurs c.as_slice.result.now (canon n)) (map (λ n. n.now) l)) c.as_slice-2.ensures.value in
    let count = c.len.ensures ∙ c.in_ok-matching.matching.ok.0 in
    let shown = c.in_ok-crates.ensures ∙ ap (map (λ n. hit s n.now)) (c.first_of.ensures ∙ ap (take c.args.most) c.as_slice-3.ensures.value) in
    (λ i. record { total = count i; crates = shown i })
    ∙ sym (found_told s who c.args.query.now c.as_slice.result.now c.args.most c.in_ok-names.names.items c.in_ok-matching.matching.items c.in_ok-names.ensures query these)
