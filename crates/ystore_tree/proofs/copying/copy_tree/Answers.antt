use Rattle.yinst_tree.specs.View.{tree_view}
use Rattle.ystore.specs.Viewed.{viewed}
use Rattle.ystore_tree.proofs.CopyLemmas.{copied, copied_document}
use Rattle.ystore_tree.proofs.copying.copy_tree.Goals as goal

pub returns-clause-hanging : goal.returns-clause-hanging
returns-clause-hanging c f hangs within = copied c.copy_all.result tree_view (viewed c.args.view) f hangs within c.copy_all.ensures

pub returns-clause-held : goal.returns-clause-held
returns-clause-held c t holds = copied_document c.copy_all.result tree_view (viewed c.args.view) t holds c.copy_all.ensures
