use Rattle.reg_reference_lists.proofs.Words.{List, refl, ap, ◌∙◌, map, slice_get, filter, option_map, Text, collides, Publication}
use Rattle.reg_reference_lists.proofs.Words.{publication_of, top_in}
use Rattle.reg_reference_lists.proofs.TopVersions.{no_top, read_of, top_found}
use Rattle.reg_reference_lists.proofs.publications.Publications.top.Goals as goal

pub returns-in-Some : goal.returns-in-Some
returns-in-Some c =
    let ps : List Publication = c.self.inside.list.items in
    let n : Text = c.args.name.now in
    let these = c.in_ok-publications.ensures ∙ ap (filter (λ p. collides p.name n)) c.as_slice.ensures.value in
    let are = c.as_slice-3.ensures.value ∙ c.in_ok-releases.ensures ∙ ap (map (read_of c.args.yanked.now c.canon.result)) c.as_slice-2.ensures.value in
    c.publication_at.ensures ∙ ap (λ l. option_map (λ p. publication_of p.now) (slice_get l c.in-Some.place)) c.as_slice-in-Some.ensures.value
    ∙ top_found c.args.yanked.now ps n c.in_ok-publications.publications.items c.as_slice-3.result.now these c.canon.result c.canon.ensures are c.in-Some.place c.in-Some.ensures.top
    ∙ ap (λ l. top_in c.args.yanked.now l n) c.self.view_is

pub returns : goal.returns
returns c =
    let ps : List Publication = c.self.inside.list.items in
    let n : Text = c.args.name.now in
    let these = c.in_ok-publications.ensures ∙ ap (filter (λ p. collides p.name n)) c.as_slice.ensures.value in
    let are = c.as_slice-3.ensures.value ∙ c.in_ok-releases.ensures ∙ ap (map (read_of c.args.yanked.now c.canon.result)) c.as_slice-2.ensures.value in
    no_top c.args.yanked.now ps n c.in_ok-publications.publications.items c.as_slice-3.result.now these c.canon.result c.canon.ensures are (c.in-None.ensures.none.0 refl)
    ∙ ap (λ l. top_in c.args.yanked.now l n) c.self.view_is
