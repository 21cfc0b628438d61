use Rattle.std.proofs.Common.{List, ◌++◌, ap, ap₂, ◌∙◌}
use Rattle.yspec.specs.text.Text.{Text}
use Rattle.yspec.proofs.DocumentProofs.SortingLemmas.{in_order}
use Rattle.ysay_json.specs.FaultData.{json_text}
use Rattle.ycheck.specs.View.{views}
use Rattle.ycheck.specs.declared.fault.Fault.{Fault}
use Rattle.ycheck_config.specs.Inspecting.{inspection_view}
use Rattle.yapp.proofs.document.json_of.Goals as goal

pub returns : goal.returns
returns c =
    let i = inspection_view c.args.inspection.now in
    c.in_ok-push_str.ensures.bytes ∙ ap₂ (λ (front back : Text). front ++ back) c.in_ok-text.ensures
    (c.as_str.ensures.value ∙ (c.in_ok-told.ensures (in_order i.schema i.tree c.requires.fits)
    ∙ ap (λ (fs : List Fault). json_text i.schema i.tree (views fs)) c.deref.ensures.value))
