use Rattle.std.proofs.Common.{◌≡◌, [], length, sym, ap, ◌∙◌}
use Rattle.std.proofs.lemmas.Bool.{eqb-true}
use Rattle.std.specs.Prelude.{None}
use Rattle.yspec.specs.linking.Augments.{augments_of, in_turn}
use Rattle.yspec.specs.schema.Breaks.{least_from}
use Rattle.yspec_wide.specs.Expansion as spec
use Rattle.ybase_preorder.specs.Layout.{places}
use Rattle.ylink_grammar.specs.BreakView.{seen}
use Rattle.yschema_expand.specs.AugmentView.{augments_seen}
use Rattle.yschema_expand.specs.Bodies.{bodies_of, starts_from}
use Rattle.yschema_expand.specs.NamedView.{language_of, modules_of}
use Rattle.yschema_augment.specs.Picking.{left_of}
use Rattle.yschema_augment.proofs.AugmentingLemmas.{count_in, lie_behind, none_given, none_seen, none_told, told_all}
use Rattle.yschema_augment.proofs.augmenting.augmented.Goals as goal

pub returns-then-is_empty-clause-nodes : goal.returns-then-is_empty-clause-nodes
returns-then-is_empty-clause-nodes c =
    let l = language_of c.args.named.now in
    let m = modules_of c.args.named.now in
    let none : augments_of m ≡ [] = sym c.requires.augments ∙ none_seen c.args.augments.now (eqb-true (length c.args.augments.now) 0 (sym c.if-is_empty.ensures)) in
    c.in_ok-made.ensures.nodes ∙ ap (λ x. places None 0 x.0) (sym (none_given l m none))

pub returns-then-is_empty-clause-told : goal.returns-then-is_empty-clause-told
returns-then-is_empty-clause-told c =
    let l = language_of c.args.named.now in
    let m = modules_of c.args.named.now in
    let none : augments_of m ≡ [] = sym c.requires.augments ∙ none_seen c.args.augments.now (eqb-true (length c.args.augments.now) 0 (sym c.if-is_empty.ensures)) in
    c.in_ok-made.ensures.told ∙ ap (least_from None) (none_told l m none)

pub resolved-requires-clause-laid : goal.resolved-requires-clause-laid
resolved-requires-clause-laid c =
    let l = language_of c.args.named.now in
    let m = modules_of c.args.named.now in
    lie_behind c.in_ok-made.made.table c.add_bodies.new.made.table (spec.expanded_parts_in l m) (bodies_of l m (augments_seen c.args.augments.now))
    c.in_ok-made.ensures.nodes c.in_ok-starts.ensures.nodes.0

pub resolved-requires-clause-starts : goal.resolved-requires-clause-starts
resolved-requires-clause-starts c =
    let l = language_of c.args.named.now in
    let m = modules_of c.args.named.now in
    c.deref.ensures.value ∙ (c.in_ok-starts.ensures.starts
    ∙ ap (λ n. starts_from l m n (augments_seen c.args.augments.now))
    (count_in c.in_ok-made.made.table (spec.expanded_parts_in l m) c.in_ok-made.ensures.nodes))

pub returns-clause-told : goal.returns-clause-told
returns-clause-told c =
    let l = language_of c.args.named.now in
    let m = modules_of c.args.named.now in
    let augments = augments_seen c.args.augments.now in
    let order = c.in_ok-resolved.ensures ∙ ap (λ as_given. in_turn (spec.is_ready_in l m) (spec.applied_in l m) (length as_given) (spec.expanded_parts_in l m) as_given) c.requires.augments in
    told_all l m (seen c.in_ok-made.made.told) (seen c.add_bodies.new.made.told) (seen c.least_left.result) augments (left_of c.deref-5.result.now augments)
    c.in_ok-made.ensures.told c.in_ok-starts.ensures.nodes.1 c.least_left.ensures c.requires.augments
    (ap (λ ws. left_of ws augments) c.deref-5.ensures.value ∙ ap (λ x. x.1) order)
