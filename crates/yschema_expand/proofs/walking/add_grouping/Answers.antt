use Rattle.std.proofs.Common.{◌≡◌, ◌++◌, ◌+◌, false, suc, [], ◌∷◌, length, arith, sym, ap, ◌∙◌, subst}
use Rattle.std.proofs.lemmas.Bool.Decides.{Decides-eqb}
use Rattle.std.proofs.lemmas.List.{append-nil}
use Rattle.yspec.specs.Forest.{size}
use Rattle.yspec.specs.linking.Expansion.{laid}
use Rattle.yspec.specs.schema.Breaks.{least_from}
use Rattle.ybase_preorder.specs.Layout.{places}
use Rattle.ybase_preorder.specs.View.{row_by}
use Rattle.ylink_grammar.specs.BreakView.{seen}
use Rattle.ylink_grammar.specs.SourceView.{source_view}
use Rattle.yschema_expand.specs.Counting.{told_list}
use Rattle.yschema_expand.specs.NamedView.{language_of, modules_of, row_named, row_or_none}
use Rattle.yschema_expand.specs.TableView.{parts_in, slots_of}
use Rattle.yschema_expand.specs.Tasks.{toll, toll_for, toll_of, tolls, Does, TaskEnds, Leads}
use Rattle.yschema_expand.specs.Walk.{breaks_for, AllEnd, AddsParts}
use Rattle.yschema_expand.specs.declared.walking.Task.{Task}
use Rattle.yschema_expand.specs.declared.walking.Task.TheVariants.{Add}
use Rattle.yschema_expand.proofs.GroupingLemmas.{laid_end}
use Rattle.yschema_expand.proofs.LeastLemmas.{least_told}
use Rattle.yschema_expand.proofs.TurnLemmas.{leaves_none, leaves_so, leaves_task}
use Rattle.yschema_expand.proofs.WalkLemmas.{adds_nothing}
use Rattle.yschema_expand.proofs.walking.add_grouping.Goals as goal

pub returns-then-is_without_nodes : goal.returns-then-is_without_nodes
returns-then-is_without_nodes c =
    let l = language_of c.args.context.now.named.now in
    let m = modules_of c.args.context.now.named.now in
    let parent = c.args.place.parent in
    let owner = c.args.place.owner in
    let depth = c.args.place.depth in
    let old = c.args.made.now in
    let k = length (slots_of old.table) in
    let row = row_named m c.args.number in
    let none = (Decides-eqb _ _).0 (sym c.is_without_nodes.ensures ∙ c.if-is_without_nodes.true) in
    let known = c.requires.known.1 c.args.number owner depth none c.requires.ends in
    leaves_none (Does l m) (toll l m) (TaskEnds l m) (AddsParts l m parent owner depth row) _ c.args.tasks.now.items old (record { table = old.table; told = c.least_of-made.result }) (
      sym (ap (λ f. parts_in old.table ++ places parent k f) known.0 ∙ append-nil (parts_in old.table)),
      c.least_of-made.ensures ∙ (ap (λ o. least_from (seen old.told) (told_list o)) (c.refine_in.ensures ∙ known.1)
          ∙ least_told (seen old.told) (breaks_for l m owner depth row)),
    )

pub returns-in_ok-push : goal.returns-in_ok-push
returns-in_ok-push c =
    let l = language_of c.args.context.now.named.now in
    let m = modules_of c.args.context.now.named.now in
    let parent = c.args.place.parent in
    let owner = c.args.place.owner in
    let depth = c.args.place.depth in
    let old = c.args.made.now in
    let row = row_named m c.args.number in
    let found = c.in-Some.row in
    let is : laid (row_by source_view found) ≡ row = sym (ap (λ r. laid (row_or_none r)) c.in-Some.is) ∙ c.grouping_used.ensures.row in
    let few = c.in-Some.ensures.within in
    let t : Task = Add c.args.place false found in
    let cost = ap (tolls (toll_for l m depth)) is in
    subst (λ ts. Leads l m (AddsParts l m parent owner depth row) (toll_of l m depth (size m) row + 1) c.args.tasks.now.items ts old old) (sym c.in_ok-push.ensures.items)
    (leaves_so (Does l m) (toll l m) (TaskEnds l m) (Does l m t) (AddsParts l m parent owner depth row) (suc (toll l m t)) (toll_of l m depth (size m) row + 1) c.args.tasks.now.items (c.args.tasks.now.items ++ t ∷ []) old old
    (λ mid does. subst (λ f. AddsParts l m parent owner depth f old mid) is does) (omega (arith, few, cost))
    (leaves_task (Does l m) (toll l m) (TaskEnds l m) t c.args.tasks.now.items old (subst (AllEnd l m depth) (sym is) c.requires.ends, c.in-Some.ensures.kept)))

pub returns-in_default : goal.returns-in_default
returns-in_default c =
    let l = language_of c.args.context.now.named.now in
    let m = modules_of c.args.context.now.named.now in
    let parent = c.args.place.parent in
    let owner = c.args.place.owner in
    let depth = c.args.place.depth in
    let row = row_named m c.args.number in
    leaves_none (Does l m) (toll l m) (TaskEnds l m) (AddsParts l m parent owner depth row) _ c.args.tasks.now.items c.args.made.now c.args.made.now
    (adds_nothing l m owner depth parent row c.args.made.now (sym c.in_default.ensures.row ∙ laid_end))
