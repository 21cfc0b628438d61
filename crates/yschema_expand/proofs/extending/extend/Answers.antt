use Rattle.std.proofs.Common.{rules, ◌≡◌, ◌+◌, ◌++◌, suc, List, [], ◌∷◌, true, false, arith, sym, ap, ◌∙◌, subst}
use Rattle.std.proofs.lemmas.Bool.{and_parts}
use Rattle.std.proofs.lemmas.Result.{on_ok_weaker}
use Rattle.yspec.specs.Forest.{Forest, size}
use Rattle.yspec.specs.linking.Augments.{Augment}
use Rattle.yspec.specs.linking.Expansion.{groupings_of, laid}
use Rattle.yspec.specs.linking.Rewriting.{all_uses}
use Rattle.yspec.specs.linking.Source.{Source}
use Rattle.yspec_wide.specs.Expansion.{inner_augments}
use Rattle.yspec_wide.specs.Sources.{is_augment_in}
use Rattle.ybase_preorder.specs.View.{row_by, label_by}
use Rattle.ybase_preorder.proofs.RowLemmas.{takes_by, takes_none_by}
use Rattle.ylink_grammar.specs.SourceView.{source_view}
use Rattle.yschema_expand.specs.AugmentView.{augment_view}
use Rattle.yschema_expand.specs.NamedView.{language_of, modules_of}
use Rattle.yschema_expand.specs.Tasks.{inner_tolls, one_toll, toll, toll_for, Does, Extends, TaskEnds, Leads}
use Rattle.yschema_expand.specs.Walk.{all_inner, ends_within_in}
use Rattle.yschema_expand.specs.declared.walking.Task.{Task}
use Rattle.yschema_expand.specs.declared.walking.Task.TheVariants.{Extend}
use Rattle.yschema_expand.proofs.InnerLemmas.{extends_more, extends_none}
use Rattle.yschema_expand.proofs.TaskLemmas.{toll_first}
use Rattle.yschema_expand.proofs.TurnLemmas.{leaves_none, leaves_so, leaves_behind, leaves_task}
use Rattle.yschema_expand.proofs.WalkLemmas.{first_inner, other_inner}
use Rattle.yschema_given.specs.Keeping.{are_kept_right}
use Rattle.yschema_given.proofs.KeepingLemmas.{kept_parts}
use Rattle.yschema_expand.proofs.extending.extend.Goals as goal

pub returns-in_default : goal.returns-in_default
returns-in_default c =
    let l = language_of c.args.context.now.named.now in
    let m = modules_of c.args.context.now.named.now in
    let owner = c.args.place.owner in
    let depth = c.args.place.depth in
    let before = c.args.statements in
    let old = c.args.made.now in
    let none = (takes_none_by source_view before c.next.new.self c.in_default.ensures.steps).0 in
    let t : Task = Extend c.args.place c.args.first before in
    leaves_none (Does l m) (toll l m) (TaskEnds l m) (Does l m t) (toll l m t) c.args.tasks.now.items old old
    (subst (λ (r : Forest Source). Extends l m owner depth c.args.first (inner_augments l r) old old) (sym none) (extends_none l m owner depth c.args.first old))

pub add_inner-requires-clause-kept : goal.add_inner-requires-clause-kept
add_inner-requires-clause-kept c =
    let l = language_of c.args.context.now.named.now in
    let after = c.next.new.self in
    let s = label_by source_view c.in-Some.statement in
    let below = row_by source_view c.in-Some.statement.children in
    let taken = takes_by source_view c.args.statements after c.in-Some.statement c.in-Some.ensures.steps in
    (kept_parts l s below (row_by source_view after) (subst (λ f. are_kept_right l f ≡ true) taken c.requires.kept)).1

pub add_inner-requires-clause-ends : goal.add_inner-requires-clause-ends
add_inner-requires-clause-ends c =
    let l = language_of c.args.context.now.named.now in
    let m = modules_of c.args.context.now.named.now in
    let test = ends_within_in l m (groupings_of m) c.args.place.depth in
    let after = c.next.new.self in
    let s = label_by source_view c.in-Some.statement in
    let below = row_by source_view c.in-Some.statement.children in
    let rest = row_by source_view after in
    let taken = takes_by source_view c.args.statements after c.in-Some.statement c.in-Some.ensures.steps in
    let is : is_augment_in l s ≡ true = first_of (search rules, cc) in
    let split = ap (inner_augments l) taken ∙ first_inner l s below rest is in
    (and_parts (all_uses test (laid below)) (all_inner test (inner_augments l rest)) (subst (λ (those : List Augment). all_inner test those ≡ true) split c.requires.ends)).0

pub returns-then-not-is_augment : goal.returns-then-not-is_augment
returns-then-not-is_augment c =
    let l = language_of c.args.context.now.named.now in
    let m = modules_of c.args.context.now.named.now in
    let owner = c.args.place.owner in
    let depth = c.args.place.depth in
    let first = c.args.first in
    let test = ends_within_in l m (groupings_of m) depth in
    let before = c.args.statements in
    let after = c.next.new.self in
    let old = c.args.made.now in
    let s = label_by source_view c.in-Some.statement in
    let below = row_by source_view c.in-Some.statement.children in
    let rest = row_by source_view after in
    let taken = takes_by source_view before after c.in-Some.statement c.in-Some.ensures.steps in
    let is : is_augment_in l s ≡ false = first_of (search rules, cc) in
    let same : inner_augments l (row_by source_view before) ≡ inner_augments l rest = ap (inner_augments l) taken ∙ other_inner l s below rest is in
    let sized = ap size c.in-Some.ensures.steps.0 in
    let cost = ap (inner_tolls (toll_for l m depth)) same in
    let t : Task = Extend c.args.place first after in
    let whole : Task = Extend c.args.place first before in
    subst (λ ts. Leads l m (Does l m whole) (toll l m whole) c.args.tasks.now.items ts old old) (sym c.in_ok-push.ensures.items)
    (leaves_so (Does l m) (toll l m) (TaskEnds l m) (Does l m t) (Does l m whole) (suc (toll l m t)) (toll l m whole) c.args.tasks.now.items
    (c.args.tasks.now.items ++ t ∷ []) old old
    (λ mid does. subst (λ (those : List Augment). Extends l m owner depth first those old mid) (sym same) does) (omega (arith, sized, cost))
    (leaves_task (Does l m) (toll l m) (TaskEnds l m) t c.args.tasks.now.items old (
      subst (λ (those : List Augment). all_inner test those ≡ true) same c.requires.ends,
      (kept_parts l s below rest (subst (λ f. are_kept_right l f ≡ true) taken c.requires.kept)).2,
    )))

pub returns : goal.returns
returns c =
    let l = language_of c.args.context.now.named.now in
    let m = modules_of c.args.context.now.named.now in
    let owner = c.args.place.owner in
    let depth = c.args.place.depth in
    let first = c.args.first in
    let test = ends_within_in l m (groupings_of m) depth in
    let before = c.args.statements in
    let after = c.next.new.self in
    let old = c.args.made.now in
    let a = augment_view c.in-Some.statement in
    let s = label_by source_view c.in-Some.statement in
    let below = row_by source_view c.in-Some.statement.children in
    let rest = row_by source_view after in
    let taken = takes_by source_view before after c.in-Some.statement c.in-Some.ensures.steps in
    let is : is_augment_in l s ≡ true = first_of (search rules, cc) in
    let others = inner_augments l rest in
    let split : inner_augments l (row_by source_view before) ≡ a ∷ others = ap (inner_augments l) taken ∙ first_inner l s below rest is in
    let sized = ap size c.in-Some.ensures.steps.0 in
    let cost = ap (λ (r : Forest Source). inner_tolls (toll_for l m depth) (inner_augments l r)) taken ∙ toll_first l m (toll_for l m depth) s below rest is in
    let t : Task = Extend c.args.place first after in
    let whole : Task = Extend c.args.place first before in
    on_ok_weaker c.add_inner.result (λ leads. leaves_behind (Does l m) (toll l m) (TaskEnds l m) (Extends l m owner depth first (a ∷ [])) (Does l m whole)
    (one_toll l m depth a) (toll l m whole) t c.args.tasks.now.items c.add_inner.new.tasks.items old old c.add_inner.new.made
    (λ full final one two. subst (λ (those : List Augment). Extends l m owner depth first those old final) (sym split)
    (extends_more l m owner depth first a others old full final one two)) (
      (and_parts (all_uses test (laid below)) (all_inner test others) (subst (λ (those : List Augment). all_inner test those ≡ true) split c.requires.ends)).1,
      (kept_parts l s below rest (subst (λ f. are_kept_right l f ≡ true) taken c.requires.kept)).2,
    )
    (omega (arith, sized, cost))
    (subst (λ ts. Leads l m (Extends l m owner depth first (a ∷ [])) (one_toll l m depth a) ts c.add_inner.new.tasks.items old c.add_inner.new.made) c.in_ok-push.ensures.items leads))
    c.add_inner.ensures
