use Rattle.std.proofs.Common.{sym, ap}
use Rattle.yspec.specs.edit.Editing.{within_limit}
use Rattle.yinst_tree.specs.View.{tree_view}
use Rattle.yinst_path.proofs.AnswerLemmas.{answers_same}
use Rattle.yinst.proofs.applying.tree_within_limit.Goals as goal

pub returns : goal.returns
returns c =
    answers_same tree_view c.within_limit.result _ (within_limit (tree_view c.in_ok-with_row.field-0)) (sym (ap within_limit c.in_ok-with_row.ensures)) c.within_limit.ensures
