use Rattle.std.proofs.Common.{arith, refl, subst, Some}
use Rattle.std.proofs.lemmas.Result.{on_ok_weaker}
use Rattle.yspec.specs.Forest.{end, node, size}
use Rattle.yspec.specs.linking.Parts.{part_of, case_for}
use Rattle.yspec.specs.linking.Expansion.{laid}
use Rattle.ybase_preorder.specs.View.{row_by, row_view, label_by}
use Rattle.ylink_grammar.specs.SourceView.{source_view}
use Rattle.yschema_expand.specs.NamedView.{language_of, modules_of}
use Rattle.yschema_expand.specs.Tasks.{toll, toll_for, toll_of, Does, TaskEnds, Leads}
use Rattle.yschema_expand.specs.Walk.{AddsParts}
use Rattle.yschema_expand.specs.declared.expanding.Made.{Made}
use Rattle.yschema_expand.specs.declared.walking.Task.TheVariants.{Close}
use Rattle.yschema_expand.proofs.TaskLemmas.{tolls_node}
use Rattle.yschema_expand.proofs.TurnLemmas.{leaves_behind}
use Rattle.yschema_expand.proofs.WalkLemmas.{adds_node}
use Rattle.yschema_expand.proofs.walking.add_case.Goals as goal

pub returns : goal.returns
returns c =
    let l = language_of c.args.context.now.named.now in
    let m = modules_of c.args.context.now.named.now in
    let parent = c.args.place.parent in
    let owner = c.args.place.owner in
    let depth = c.args.place.depth in
    let s = label_by source_view c.args.statement in
    let below = row_by source_view c.args.statement.children in
    let n = c.in_ok-number.number in
    let old = c.args.made.now in
    let mid : Made = record { table = c.open.new.self; told = old.told } in
    let inner = laid (node s below end) in
    let whole = tolls_node (toll_for l m depth) (case_for (part_of s below)) inner refl in
    on_ok_weaker c.add_alone.result (λ leads. leaves_behind (Does l m) (toll l m) (TaskEnds l m) (AddsParts l m (Some n) owner depth inner) (AddsParts l m parent owner depth (node (case_for (part_of s below)) inner end))
    (toll_of l m depth (size (row_view c.args.statement.children)) inner) (toll_of l m depth (size (row_view c.args.statement.children)) (node (case_for (part_of s below)) inner end)) (Close n) c.args.tasks.now.items
    c.add_alone.new.tasks.items old mid c.add_alone.new.made
    (λ full final added closed. adds_node l m owner depth parent (case_for (part_of s below)) inner c.new-label.result n old mid full final refl c.new-label.ensures
    c.in_ok-number.ensures.laid c.in_ok-number.ensures.number refl added closed.0 closed.1)
    tt (omega (arith, whole))
    (subst (λ ts. Leads l m (AddsParts l m (Some n) owner depth inner) (toll_of l m depth (size (row_view c.args.statement.children)) inner) ts c.add_alone.new.tasks.items mid c.add_alone.new.made) c.in_ok-push.ensures.items leads)) c.add_alone.ensures
