use Rattle.std.proofs.Common.{sym, subst}
use Rattle.std.proofs.lemmas.Result.{on_ok_weaker}
use Rattle.yspec.specs.Forest.{end, node}
use Rattle.yspec.specs.linking.Expansion.{laid}
use Rattle.ybase_preorder.specs.View.{row_by, label_by}
use Rattle.ylink_grammar.specs.SourceView.{source_view}
use Rattle.yschema_expand.specs.NamedView.{language_of, modules_of}
use Rattle.yschema_expand.specs.Tasks.{Does, TaskEnds}
use Rattle.yschema_expand.specs.Turns.{AllGood, Runs}
use Rattle.yschema_expand.specs.Walk.{AddsParts}
use Rattle.yschema_expand.proofs.walking.add_one.Goals as goal

pub finish-requires-clause-ends : goal.finish-requires-clause-ends
finish-requires-clause-ends c =
    let l = language_of c.args.context.now.named.now in
    let m = modules_of c.args.context.now.named.now in
    c.in_ok-add_alone.ensures.good (subst (AllGood (TaskEnds l m)) (sym c.new-tasks.ensures.items) tt)

pub returns : goal.returns
returns c =
    let l = language_of c.args.context.now.named.now in
    let m = modules_of c.args.context.now.named.now in
    let parts = laid (node (label_by source_view c.args.statement) (row_by source_view c.args.statement.children) end) in
    let now = c.args.made.now in
    let final = c.finish.new.made in
    on_ok_weaker c.finish.result (λ runs.
    let all = c.in_ok-add_alone.ensures.runs final runs in
    subst (AddsParts l m c.args.place.parent c.args.place.owner c.args.place.depth parts now)
    (subst (λ ts. Runs (Does l m) ts all.0 final) c.new-tasks.ensures.items all.2) all.1) c.finish.ensures
