use Rattle.std.proofs.Common.{◌∙◌, ◌+◌, ◌++◌, suc, true, None, List, [], ◌∷◌, ap₂, drop, get_or, length, sym, ap, subst}
use Rattle.std.proofs.lemmas.List.{append_assoc, drop_more}
use Rattle.std.specs.List.{flat_map}
use Rattle.yspec.specs.Forest.{size}
use Rattle.yspec.specs.linking.Expansion.{laid}
use Rattle.yspec_wide.specs.Expansion.{body_breaks_in}
use Rattle.ybase_preorder.specs.View.{row_by}
use Rattle.ybase_preorder.specs.declared.siblings.Node.{Node}
use Rattle.ylink_grammar.specs.SourceView.{source_view}
use Rattle.ylink_grammar.specs.declared.source.Source.{Source}
use Rattle.yschema_given.specs.Keeping.{are_kept_right}
use Rattle.yschema_expand.specs.AugmentView.{augment_view, augments_seen}
use Rattle.yschema_expand.specs.Bodies.{body_of, bodies_of, starts_from}
use Rattle.yschema_expand.specs.NamedView.{language_of, modules_of}
use Rattle.yschema_expand.specs.TableView.{slots_of}
use Rattle.yschema_expand.specs.Walk.{Adds, AllEnd}
use Rattle.yschema_expand.proofs.BodyLemmas.{kept_there}
use Rattle.yschema_expand.proofs.EndLemmas.{augment_ends}
use Rattle.yschema_expand.proofs.WalkLemmas.{adds_join, adds_length}
use Rattle.yschema_expand.proofs.bodies.add_bodies.Goals as goal

pub add_body-requires-clause-kept : goal.add_body-requires-clause-kept
add_body-requires-clause-kept c =
    let l = language_of c.args.context.now.named.now in
    let m = modules_of c.args.context.now.named.now in
    let item = get_or c.args.augments.now c.loop-augment.augment-index c.augment-item.result in
    let at = drop_more c.args.augments.now c.loop-augment.augment-index c.augment-item.result c.loop-augment-test.true in
    ap (λ (n : Node Source). are_kept_right l (row_by source_view n.children)) c.augment-item.is
    ∙ kept_there l m c.args.augments.now c.loop-augment.augment-index item (drop (c.loop-augment.augment-index + 1) c.args.augments.now)
    c.args.context.now.named.now.kept c.requires.augments at

pub add_body-requires-clause-ends : goal.add_body-requires-clause-ends
add_body-requires-clause-ends c =
    let l = language_of c.args.context.now.named.now in
    let m = modules_of c.args.context.now.named.now in
    let item = get_or c.args.augments.now c.loop-augment.augment-index c.augment-item.result in
    let at = drop_more c.args.augments.now c.loop-augment.augment-index c.augment-item.result c.loop-augment-test.true in
    subst (λ (n : Node Source). AllEnd l m (suc (size m)) (laid (row_by source_view n.children))) (sym c.augment-item.is)
    (augment_ends l m c.args.augments.now c.loop-augment.augment-index item (drop (c.loop-augment.augment-index + 1) c.args.augments.now)
    c.requires.known.0 c.requires.augments at)

pub loop-augment-preserved : goal.loop-augment-preserved
loop-augment-preserved c =
    let l = language_of c.args.context.now.named.now in
    let m = modules_of c.args.context.now.named.now in
    let item = get_or c.args.augments.now c.loop-augment.augment-index c.augment-item.result in
    let a = augment_view item in
    let rest = drop (c.loop-augment.augment-index + 1) c.args.augments.now in
    let at = drop_more c.args.augments.now c.loop-augment.augment-index c.augment-item.result c.loop-augment-test.true in
    let so_far = c.loop-augment.starts.items in
    let now = c.loop-augment.made in
    let mid = c.add_body.new.made in
    let one : Adds None (body_of l m a) (body_breaks_in l m a) now mid =
    subst (λ (n : Node Source). Adds None (body_of l m (augment_view n)) (body_breaks_in l m (augment_view n)) now mid) c.augment-item.is c.in_ok-add_body.ensures in
    record {
      so_far = λ final added. c.loop-augment.invariant.so_far final
          (subst (λ (xs : List (Node Source)). Adds None (bodies_of l m (augments_seen xs)) (flat_map (body_breaks_in l m) (augments_seen xs)) now final) (sym at)
          (adds_join None (body_of l m a) (bodies_of l m (augments_seen rest)) (body_breaks_in l m a) (flat_map (body_breaks_in l m) (augments_seen rest)) now mid final one added));
      starts = ap₂ (λ ns n. ns ++ starts_from l m n (augments_seen rest)) (c.in_ok-push.ensures.items ∙ ap (λ n. so_far ++ n ∷ []) c.len.ensures)
          (adds_length None (body_of l m a) (body_breaks_in l m a) now mid one)
          ∙ (append_assoc so_far (length (slots_of now.table) ∷ []) (starts_from l m (length (slots_of now.table) + size (body_of l m a)) (augments_seen rest))
          ∙ (ap (λ (xs : List (Node Source)). so_far ++ starts_from l m (length (slots_of now.table)) (augments_seen xs)) (sym at)
          ∙ c.loop-augment.invariant.starts));
    }
