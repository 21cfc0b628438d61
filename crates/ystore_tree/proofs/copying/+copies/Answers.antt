use Rattle.std.proofs.Common.{rules, arith, ◌≡◌, None, Some, length, option_map, slice_get}
use Rattle.ytype.specs.View.{raw_of}
use Rattle.yinst_tree.specs.View.{view, row_view}
use Rattle.ystore.specs.Store.{children_at}
use Rattle.ystore.specs.Viewed.{viewed}
use Rattle.ystore_tree.proofs.CopyLemmas.{all_copied, copy_is, deeper, fewer, one_copied, same_if_ok}
use Rattle.ystore_tree.proofs.copying.+copies.Goals as goal

pub copy_children-loop-child-preserved : goal.copy_children-loop-child-preserved
copy_children-loop-child-preserved t c =
    let nodes = viewed c.args.view in
    let child = c.in-Some.child in
    let done = c.loop-child.nodes.items in
    let there : slice_get (children_at nodes c.args.above) (length done) ≡ Some child = search rules in
    one_copied (children_at nodes c.args.above) done _ c.new.result c.in_ok-push.ensures.items child there c.args.levels nodes c.loop-child.invariant
    (copy_is c.args.levels nodes child (view c.new.result) (option_map raw_of c.in_ok-value.value) (option_map (λ raw. raw_of raw.now) c.value.result) (row_view c.in_ok-below.below.items)
    c.new.ensures.node c.in_ok-value.ensures c.value.ensures c.new.ensures.below c.in_ok-below.ensures)

pub copy_children-loop-child-smaller : goal.copy_children-loop-child-smaller
copy_children-loop-child-smaller t c =
    let nodes = viewed c.args.view in
    let done = c.loop-child.nodes.items in
    let there : slice_get (children_at nodes c.args.above) (length done) ≡ Some c.in-Some.child = search rules in
    fewer (children_at nodes c.args.above) done _ c.new.result c.in_ok-push.ensures.items c.in-Some.child there

pub copy_children-returns : goal.copy_children-returns
copy_children-returns t c =
    let nodes = viewed c.args.view in
    let done = c.loop-child.nodes.items in
    let none : slice_get (children_at nodes c.args.above) (length done) ≡ None = search rules in
    all_copied c.args.levels nodes (children_at nodes c.args.above) done c.loop-child.invariant none

pub copy_row-returns : goal.copy_row-returns
copy_row-returns t c =
    same_if_ok c.copy_children.result (λ v. row_view v.items) _ _
    (deeper c.args.levels (viewed c.args.view) c.args.above (omega (arith, c.if-levels-eq0.false)))
    c.copy_children.ensures
