use Rattle.std.proofs.Common.{◌≡◌, ◌++◌, IfOk, string_bytes, codes, ap, ap₂, ◌∙◌, subst}
use Rattle.yspec.specs.text.Text.{Text}
use Rattle.ysay_text.specs.Line.{shown}
use Rattle.ysay_nodes.proofs.twice.doubled.Goals as goal

pub returns : goal.returns
returns c = subst (λ (t : Text). IfOk c.concat.result (λ text. string_bytes text ≡ t))
    (ap₂ (λ (seen digits : Text). c.args.front.now ++ (seen ++ (codes "; the other stands in line " ++ (digits ++ codes "."))))
    (c.as_str.ensures.value ∙ (c.in_ok-seen.ensures ∙ ap shown c.as_bytes.ensures.value)) c.format.ensures.text)
    c.concat.ensures.ok
