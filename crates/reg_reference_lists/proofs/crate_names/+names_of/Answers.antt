use Rattle.reg_reference_lists.proofs.Words.{map, sym, ap, ◌∙◌, canon, canons_in, publication_of, put_text}
use Rattle.reg_reference_lists.proofs.CrateNames.{canons_more, canons_none, no_length}
use Rattle.reg_reference_lists.proofs.crate_names.+names_of.Goals as goal

pub returns-in-None : goal.returns-in-None
returns-in-None t c = ap (map (λ n. canon n.now)) c.new.ensures.items ∙ canons_none ∙ ap (λ l. canons_in (map publication_of l)) (sym (no_length c.args.list.now c.in-None.ensures.cases))

pub returns-in_ok-put-in-Some : goal.returns-in_ok-put-in-Some
returns-in_ok-put-in-Some t c =
    c.in_ok-put-in-Some.ensures ∙ ap (put_text (canon c.in-Some.publication.now.name)) c.in_ok-names-in-Some.ensures
    ∙ canons_more c.in-Some.publication.now c.in-Some.more.now ∙ ap (λ l. canons_in (map publication_of l)) (sym c.in-Some.ensures.cases.0)
