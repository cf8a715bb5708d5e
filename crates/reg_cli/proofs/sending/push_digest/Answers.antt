use Rattle.std.proofs.Common.{[], ◌∷◌, ◌∙◌, ◌++◌, ap}
use Rattle.std.specs.Prelude.{codes}
use Rattle.hex.specs.Hex.{encode_lower}
use Rattle.reg_cli.specs.Sending.{argument}
use Rattle.reg_cli.proofs.Pushed.{digest_words}
use Rattle.reg_cli.proofs.sending.push_digest.Goals as goal

pub returns : goal.returns
returns c =
    c.in_ok-push.ensures.items ∙ ap (λ l. l ++ 0 ∷ [])
    (c.in_ok-extend_from_slice-2.ensures.items ∙ ap (λ l. l ++ c.digits_of-digits.result) c.in_ok-extend_from_slice.ensures.items)
    ∙ ap (λ d. ((c.args.message.now.items ++ argument (codes "--digest")) ++ d) ++ 0 ∷ []) c.digits_of-digits.ensures
    ∙ digest_words c.args.message.now.items (encode_lower c.args.digest.now)
