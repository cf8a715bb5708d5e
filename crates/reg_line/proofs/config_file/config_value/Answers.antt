use Rattle.reg_line.proofs.Words.{◌≡◌, ℕ, true, List, codes, ap, ◌∙◌, rules, Data, Members, boolean, no_members, object, put, string}
use Rattle.reg_line.proofs.Words.{members_view, view-Object}
use Rattle.serde_json.specs.declared.value.Value.{the_lemmas}
use Rattle.reg_line.specs.Config.{config_data, download_of}
use Rattle.reg_line.proofs.config_file.config_value.Goals as goal

put_in : (base dl : List ℕ) (auth : Data) (none one two three : Members) → dl ≡ download_of base → none ≡ no_members → one ≡ put (codes "api") (string base) none
    → two ≡ put (codes "auth-required") auth one → three ≡ put (codes "dl") (string dl) two → auth ≡ boolean true → object three ≡ config_data base
put_in base dl auth none one two three d n a b c y =
    ap object (c ∙ ap (λ t. put (codes "dl") (string t) two) d
    ∙ ap (put (codes "dl") (string (download_of base))) (b ∙ ap (λ t. put (codes "auth-required") t one) y ∙ ap (put (codes "auth-required") (boolean true)) (a ∙ ap (put (codes "api") (string base)) n)))

pub returns : goal.returns
returns c =
    view-Object c.put_text-2.new.object
    ∙ put_in c.args.base.now _ _ _ _ _ _ (c.as_str.ensures.value ∙ c.in_ok-dl.ensures) (ap members_view c.new-object.ensures.empty) c.in_ok-put_text.ensures c.in_ok-put.ensures.ok c.in_ok-put_text-2.ensures (search (rules, the_lemmas))
