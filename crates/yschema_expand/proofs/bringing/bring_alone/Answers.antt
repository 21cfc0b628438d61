use Rattle.std.proofs.Common.{◌+◌, false, arith, subst}
use Rattle.std.proofs.lemmas.Result.{on_ok_weaker}
use Rattle.yspec.specs.Forest.{end, node, size}
use Rattle.yspec.specs.linking.Expansion.{laid}
use Rattle.ybase_preorder.specs.View.{row_by, row_view, label_by}
use Rattle.ylink_grammar.specs.SourceView.{source_view}
use Rattle.yschema_expand.specs.NamedView.{language_of, modules_of}
use Rattle.yschema_expand.specs.Tasks.{brought, toll, toll_of, Does, TaskEnds, Leads}
use Rattle.yschema_expand.specs.Walk.{breaks_for, Adds, AddsParts}
use Rattle.yschema_expand.specs.declared.walking.Task.{Task}
use Rattle.yschema_expand.specs.declared.walking.Task.TheVariants.{Guard}
use Rattle.yschema_expand.proofs.InnerLemmas.{adds_asked}
use Rattle.yschema_expand.proofs.TurnLemmas.{leaves_behind}
use Rattle.yschema_expand.proofs.bringing.bring_alone.Goals as goal

pub returns : goal.returns
returns c =
    let l = language_of c.args.context.now.named.now in
    let m = modules_of c.args.context.now.named.now in
    let parent = c.args.place.parent in
    let owner = c.args.place.owner in
    let depth = c.args.place.depth in
    let old = c.args.made.now in
    let before = c.args.tasks.now.items in
    let given = row_by source_view c.args.given in
    let parts = laid (node (label_by source_view c.args.statement) (row_by source_view c.args.statement.children) end) in
    let most = toll_of l m depth (size (row_view c.args.statement.children)) parts in
    let t : Task = Guard c.len.result c.args.given in
    on_ok_weaker c.add_alone.result (λ leads. leaves_behind (Does l m) (toll l m) (TaskEnds l m) (AddsParts l m parent owner depth parts)
    (Adds parent (brought l m owner depth false given parts) (breaks_for l m owner depth parts)) most (most + 1) t before c.add_alone.new.tasks.items old old c.add_alone.new.made
    (λ full final adds asks. adds_asked l m owner depth given parent c.len.result parts old full final c.len.ensures c.requires.given adds asks)
    c.requires.given (omega arith)
    (subst (λ ts. Leads l m (AddsParts l m parent owner depth parts) most ts c.add_alone.new.tasks.items old c.add_alone.new.made) c.in_ok-push.ensures.items leads))
    c.add_alone.ensures
