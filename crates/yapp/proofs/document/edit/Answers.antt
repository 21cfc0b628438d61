use Rattle.std.proofs.Common.{subst}
use Rattle.std.proofs.lemmas.Result.{IfOk-weaker}
use Rattle.yspec.specs.edit.Live as live
use Rattle.yspec_run.specs.Script.{lines_of}
use Rattle.yapp_script.specs.Asked.{edits_in, kinds_in}
use Rattle.yapp.specs.Edited.{IsRun, tree_of}
use Rattle.yapp.proofs.DocumentLemmas.{edited_by}
use Rattle.yapp.proofs.document.edit.Goals as goal

pub returns-in-Ok : goal.returns-in-Ok
returns-in-Ok c =
    let kinds = kinds_in c.in_ok-script.script in
    let edits = edits_in c.in_ok-script.script in
    IfOk-weaker c.run_script.result _ _ (λ e run. edited_by c.args.is_strict c.args.document.schema (tree_of c.args.document) kinds edits (lines_of c.args.script.now) e
    c.requires c.in_ok-script.ensures
    (subst (λ (l : live.Live). IsRun l.schema l.tree kinds edits e) c.in-Ok.ensures.opened run))
    c.run_script.ensures
