use Rattle.std.proofs.Common.{rules, true, ◌≡◌, ◌++◌, ◌+◌, ◌-◌, [], ◌∷◌, arith, sym, ap, ◌∙◌, subst}
use Rattle.std.proofs.lemmas.Result.{on_ok_weaker}
use Rattle.yspec.specs.Forest.{Forest, end, node, size}
use Rattle.yspec.specs.linking.Parts.{own_of, part_of}
use Rattle.yspec.specs.linking.Source.{Source}
use Rattle.yspec.specs.linking.Expansion.{row_used, groupings_of}
use Rattle.yspec_wide.specs.Expansion.{conditioned, inner_augments, refined_in, refine_breaks_in}
use Rattle.ybase_preorder.specs.View.{row_by, row_view, label_by}
use Rattle.ylink_grammar.specs.SourceView.{source_view}
use Rattle.yschema_expand.specs.NamedView.{language_of, modules_of, row_named}
use Rattle.yschema_expand.specs.Tasks.{inner_tolls, toll, toll_for, toll_of, Does, Extends, TaskEnds, Leads}
use Rattle.yschema_expand.specs.Walk.{all_inner, ends_within_in, AllEnd, AddsParts, Changes}
use Rattle.yschema_expand.specs.declared.expanding.Place.{Place}
use Rattle.yschema_expand.specs.declared.walking.Task.{Task}
use Rattle.yschema_expand.specs.declared.walking.Task.TheVariants.{Change, Extend, Guard}
use Rattle.yschema_expand.proofs.InnerLemmas.{uses_added}
use Rattle.yschema_expand.proofs.TaskLemmas.{tolls_uses, toll_less}
use Rattle.yschema_expand.proofs.TurnLemmas.{leaves_three}
use Rattle.yschema_expand.proofs.WalkLemmas.{ends_so}
use Rattle.yschema_given.specs.Keeping.{are_kept_right}
use Rattle.yschema_expand.proofs.walking.add_uses.Goals as goal

pub returns-then-place-eq0 : goal.returns-then-place-eq0
returns-then-place-eq0 c =
    let l = language_of c.args.context.now.named.now in
    let m = modules_of c.args.context.now.named.now in
    let s = label_by source_view c.args.uses in
    let below = row_by source_view c.args.uses.children in
    absurd ((ends_so l m s below c.args.place.depth c.requires.ends).0 (first_of (search rules, grind arith, cc)))

pub add_grouping-requires-clause-ends : goal.add_grouping-requires-clause-ends
add_grouping-requires-clause-ends c =
    let l = language_of c.args.context.now.named.now in
    let m = modules_of c.args.context.now.named.now in
    let depth = c.args.place.depth in
    let s = label_by source_view c.args.uses in
    let below = row_by source_view c.args.uses.children in
    subst (λ n. AllEnd l m (depth - 1) (row_named m n)) (sym c.number.ensures) (ends_so l m s below depth c.requires.ends).1

pub returns : goal.returns
returns c =
    let l = language_of c.args.context.now.named.now in
    let m = modules_of c.args.context.now.named.now in
    let parent = c.args.place.parent in
    let owner = c.args.place.owner in
    let depth = c.args.place.depth in
    let old = c.args.made.now in
    let before = c.args.tasks.now.items in
    let s = label_by source_view c.args.uses in
    let below = row_by source_view c.args.uses.children in
    let u = part_of s below in
    let row = row_used m (groupings_of m) u in
    let first = c.len-first.result in
    let own = c.children-own.result in
    let same : row_by source_view own ≡ below = ap (row_by source_view) c.children-own.ensures in
    let so = ends_so l m s below depth c.requires.ends in
    let some = so.0 in
    let kept = subst (λ (r : Forest Source). are_kept_right l r ≡ true) (sym same) c.requires.kept in
    let place : Place = record { parent = parent; owner = owner; depth = depth - 1 } in
    let guard : Task = Guard first own in
    let extend : Task = Extend place first own in
    let change : Task = Change owner first own in
    let most = toll_of l m (depth - 1) (size m) row + 1 in
    let counted = ap (λ r. size (row_view r)) c.children-own.ensures in
    let inside = ap (λ (r : Forest Source). inner_tolls (toll_for l m (depth - 1)) (inner_augments l r)) same in
    let cost = tolls_uses (toll_for l m depth) u c.requires.uses ∙ toll_less l m s below depth some in
    let items : c.push-3.new.self.items ≡ ((before ++ guard ∷ []) ++ extend ∷ []) ++ change ∷ [] =
    c.in_ok-push-3.ensures.items ∙ ap (λ ts. ts ++ change ∷ []) (c.in_ok-push-2.ensures.items ∙ ap (λ ts. ts ++ extend ∷ []) c.in_ok-push.ensures.items) in
    on_ok_weaker c.add_grouping.result (λ leads. leaves_three (Does l m) (toll l m) (TaskEnds l m) (AddsParts l m parent owner (depth - 1) row)
    (AddsParts l m parent owner depth (node u end end)) most (toll_of l m depth (size (row_view c.args.uses.children)) (node u end end)) guard extend change before
    c.add_grouping.new.tasks.items old old c.add_grouping.new.made
    (λ a b d new adds refines extends asks. uses_added l m owner depth s below parent first old a b d new c.requires.uses some c.len-first.ensures adds
    (subst (λ (r : Forest Source). (f : _) → Changes first f (refined_in l m owner r f) (refine_breaks_in l m owner r f) a b) same refines)
    (subst (λ (r : Forest Source). Extends l m owner (depth - 1) first (inner_augments l r) b d) same extends)
    (subst (λ (r : Forest Source). (f : _) → Changes first f (conditioned l (own_of r) f) [] d new) same asks))
    kept
    (subst (λ (r : Forest Source). all_inner (ends_within_in l m (groupings_of m) (depth - 1)) (inner_augments l r) ≡ true) (sym same) so.2, kept)
    kept (omega (arith, cost, counted, inside))
    (subst (λ ts. Leads l m (AddsParts l m parent owner (depth - 1) row) most ts c.add_grouping.new.tasks.items old c.add_grouping.new.made) items
    (subst (λ n. Leads l m (AddsParts l m parent owner (depth - 1) (row_named m n)) (toll_of l m (depth - 1) (size m) (row_named m n) + 1) c.push-3.new.self.items c.add_grouping.new.tasks.items old c.add_grouping.new.made)
    c.number.ensures leads)))
    c.add_grouping.ensures
