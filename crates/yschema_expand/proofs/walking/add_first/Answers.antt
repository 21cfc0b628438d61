use Rattle.std.proofs.Common.{◌≡◌, true, arith, sym, ap, ◌∙◌, subst}
use Rattle.std.proofs.lemmas.Result.{on_ok_weaker}
use Rattle.yspec.specs.Forest.{end, node, size}
use Rattle.yspec.specs.linking.Expansion.{laid}
use Rattle.ybase_preorder.specs.View.{row_by, row_view, label_by}
use Rattle.ybase_preorder.proofs.RowLemmas.{takes_by, takes_none_by}
use Rattle.ylink_grammar.specs.SourceView.{source_view}
use Rattle.yschema_expand.specs.NamedView.{language_of, modules_of}
use Rattle.yschema_expand.specs.Tasks.{toll, toll_for, toll_of, tolls, Does, TaskEnds, Leads}
use Rattle.yschema_expand.specs.Walk.{chosen, AllEnd, AddsParts}
use Rattle.yschema_expand.specs.declared.walking.Task.{Task}
use Rattle.yschema_expand.specs.declared.walking.Task.TheVariants.{Add}
use Rattle.yschema_expand.proofs.TaskLemmas.{tolls_join}
use Rattle.yschema_expand.proofs.TurnLemmas.{leaves_none, leaves_behind}
use Rattle.yschema_expand.proofs.WalkLemmas.{chosen-first, chosen_none, adds_nothing, adds_both, ends_join}
use Rattle.yschema_given.specs.Keeping.{are_kept_right}
use Rattle.yschema_given.proofs.KeepingLemmas.{kept_parts}
use Rattle.yschema_expand.proofs.walking.add_first.Goals as goal

pub returns-in_default : goal.returns-in_default
returns-in_default c =
    let l = language_of c.args.context.now.named.now in
    let m = modules_of c.args.context.now.named.now in
    let parent = c.args.place.parent in
    let owner = c.args.place.owner in
    let depth = c.args.place.depth in
    let before = c.args.statements in
    let none = (takes_none_by source_view before c.next.new.self c.in_default.ensures.steps).0 in
    let parts = chosen c.args.in_choice (laid (row_by source_view before)) in
    leaves_none (Does l m) (toll l m) (TaskEnds l m) (AddsParts l m parent owner depth parts) _ c.args.tasks.now.items c.args.made.now c.args.made.now
    (adds_nothing l m owner depth parent parts c.args.made.now (chosen_none c.args.in_choice (row_by source_view before) none))

pub add_statement-requires-clause-ends : goal.add_statement-requires-clause-ends
add_statement-requires-clause-ends c =
    let l = language_of c.args.context.now.named.now in
    let m = modules_of c.args.context.now.named.now in
    let depth = c.args.place.depth in
    let chooses = c.args.in_choice in
    let before = c.args.statements in
    let after = c.next.new.self in
    let s = label_by source_view c.in-Some.statement in
    let below = row_by source_view c.in-Some.statement.children in
    let rest = row_by source_view after in
    let taken = takes_by source_view before after c.in-Some.statement c.in-Some.ensures.steps in
    let split = ap (λ r. chosen chooses (laid r)) taken ∙ chosen-first chooses s below rest in
    (ends_join l m depth (chosen chooses (laid (node s below end))) (chosen chooses (laid rest)) (subst (AllEnd l m depth) split c.requires.ends)).0

pub add_statement-requires-clause-kept : goal.add_statement-requires-clause-kept
add_statement-requires-clause-kept c =
    let l = language_of c.args.context.now.named.now in
    let before = c.args.statements in
    let after = c.next.new.self in
    let s = label_by source_view c.in-Some.statement in
    let below = row_by source_view c.in-Some.statement.children in
    let taken = takes_by source_view before after c.in-Some.statement c.in-Some.ensures.steps in
    (kept_parts l s below (row_by source_view after) (subst (λ f. are_kept_right l f ≡ true) taken c.requires.kept)).1

pub returns : goal.returns
returns c =
    let l = language_of c.args.context.now.named.now in
    let m = modules_of c.args.context.now.named.now in
    let parent = c.args.place.parent in
    let owner = c.args.place.owner in
    let depth = c.args.place.depth in
    let chooses = c.args.in_choice in
    let before = c.args.statements in
    let after = c.next.new.self in
    let s = label_by source_view c.in-Some.statement in
    let below = row_by source_view c.in-Some.statement.children in
    let rest = row_by source_view after in
    let taken = takes_by source_view before after c.in-Some.statement c.in-Some.ensures.steps in
    let one = chosen chooses (laid (node s below end)) in
    let others = chosen chooses (laid rest) in
    let all = chosen chooses (laid (row_by source_view before)) in
    let split : all ≡ _ = ap (λ r. chosen chooses (laid r)) taken ∙ chosen-first chooses s below rest in
    let sized = ap size c.in-Some.ensures.steps.0 in
    let cost = ap (tolls (toll_for l m depth)) split ∙ tolls_join (toll_for l m depth) one others in
    let t : Task = Add c.args.place chooses after in
    on_ok_weaker c.add_statement.result (λ leads. leaves_behind (Does l m) (toll l m) (TaskEnds l m) (AddsParts l m parent owner depth one) (AddsParts l m parent owner depth all)
    (toll_of l m depth (size (row_view c.in-Some.statement.children)) one) (toll_of l m depth (size (row_view before)) all) t c.args.tasks.now.items c.add_statement.new.tasks.items c.args.made.now c.args.made.now c.add_statement.new.made
    (λ full final first then. subst (λ parts. AddsParts l m parent owner depth parts c.args.made.now final) (sym split) (adds_both l m owner depth parent one others c.args.made.now full final first then)) (
      (ends_join l m depth one others (subst (AllEnd l m depth) split c.requires.ends)).1,
      (kept_parts l s below rest (subst (λ f. are_kept_right l f ≡ true) taken c.requires.kept)).2,
    )
    (omega (arith, cost, sized))
    (subst (λ ts. Leads l m (AddsParts l m parent owner depth one) (toll_of l m depth (size (row_view c.in-Some.statement.children)) one) ts c.add_statement.new.tasks.items c.args.made.now c.add_statement.new.made) c.in_ok-push.ensures.items leads))
    c.add_statement.ensures
