use Rattle.std.proofs.Common.{◌+◌, false, Some, arith, refl, subst}
use Rattle.std.proofs.lemmas.Result.{on_ok_weaker}
use Rattle.yspec.specs.Forest.{end, node, size}
use Rattle.yspec.specs.linking.Parts.{case_for, part_of}
use Rattle.yspec.specs.linking.Expansion.{laid, owned_by}
use Rattle.ybase_preorder.specs.View.{row_by, row_view, label_by}
use Rattle.ylink_grammar.specs.SourceView.{source_view}
use Rattle.yschema_expand.specs.NamedView.{language_of, modules_of}
use Rattle.yschema_expand.specs.Tasks.{brought, toll, toll_of, Does, TaskEnds, Leads}
use Rattle.yschema_expand.specs.Walk.{breaks_for, Adds}
use Rattle.yschema_expand.specs.declared.expanding.Made.{Made}
use Rattle.yschema_expand.specs.declared.walking.Task.TheVariants.{Close}
use Rattle.yschema_expand.proofs.TurnLemmas.{leaves_behind}
use Rattle.yschema_expand.proofs.WalkLemmas.{adds_around}
use Rattle.yschema_expand.proofs.bringing.bring_case.Goals as goal

pub returns : goal.returns
returns c =
    let l = language_of c.args.context.now.named.now in
    let m = modules_of c.args.context.now.named.now in
    let parent = c.args.place.parent in
    let owner = c.args.place.owner in
    let depth = c.args.place.depth in
    let s = label_by source_view c.args.statement in
    let below = row_by source_view c.args.statement.children in
    let parts = laid (node s below end) in
    let inner = brought l m owner depth false (row_by source_view c.args.given) parts in
    let told = breaks_for l m owner depth parts in
    let q = owned_by owner (case_for (part_of s below)) in
    let n = c.in_ok-number.number in
    let old = c.args.made.now in
    let mid : Made = record { table = c.open.new.self; told = old.told } in
    let most = toll_of l m depth (size (row_view c.args.statement.children)) parts in
    on_ok_weaker c.bring_alone.result (λ leads. leaves_behind (Does l m) (toll l m) (TaskEnds l m) (Adds (Some n) inner told) (Adds parent (node q inner end) told)
    (most + 1) (most + 2) (Close n) c.args.tasks.now.items c.bring_alone.new.tasks.items old mid c.bring_alone.new.made
    (λ full final adds closed. adds_around parent q inner told c.new-label.result n old mid full final c.new-label.ensures
    c.in_ok-number.ensures.laid c.in_ok-number.ensures.number refl adds closed.0 closed.1)
    tt (omega arith)
    (subst (λ ts. Leads l m (Adds (Some n) inner told) (most + 1) ts c.bring_alone.new.tasks.items mid c.bring_alone.new.made) c.in_ok-push.ensures.items leads))
    c.bring_alone.ensures
