use Rattle.std.proofs.Common.{◌++◌, ap, ap₂, codes, ◌∙◌}
use Rattle.yspec.proofs.DocumentProofs.SortingLemmas.{in_order}
use Rattle.yspec.specs.text.Text.{Text}
use Rattle.yspec.specs.document.Writing.{written_text}
use Rattle.yinst_tree.specs.View.{tree_view}
use Rattle.ylive.specs.View.{view}
use Rattle.yapp_talk.proofs.saving.file_text.Goals as goal

pub returns : goal.returns
returns c =
    let tree = tree_view c.in_ok-tree.tree in
    c.in_ok-push_str.ensures.bytes ∙ ap (λ (t : Text). t ++ codes "\n") (c.in_ok-text.ensures.text (in_order (view c.args.live.now).schema tree c.in_ok-tree.ensures.fitting)
    ∙ ap₂ written_text c.schema.ensures c.in_ok-tree.ensures.copy)
