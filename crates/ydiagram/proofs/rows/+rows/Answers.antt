use Rattle.std.proofs.Common.{◌≡◌, ◌≤◌, true, refl, sym, ap, ap₂, ◌∙◌, subst, arith, rules}
use Rattle.yspec.specs.Forest.{size}
use Rattle.yschema_model.specs.View.{label_of, below_of, node_view, row_view, view}
use Rattle.ybase_output.proofs.WritingLemmas.{left_all, left_same, left_after, left_failed, left_last}
use Rattle.ydiagram.specs.View.{indentation_text, rest_written, shown_in}
use Rattle.ydiagram.proofs.RowLemmas.{node_parts, fewer_shown, shows_same, shown_first, with_held, held_more, held_and_first, held_and_none}
use Rattle.ydiagram.proofs.rows.+rows.Goals as goal

pub write_node-returns-in_err-write_line : goal.write_node-returns-in_err-write_line
write_node-returns-in_err-write_line g t c =
    left_failed _ _ _ _ _ _ c.from_residual.result c.from_residual.ensures.0
    (left_same _ _ _ _ _ (node_parts (view c.args.schema.now) c.args.shown (indentation_text c.args.indentation.now) c.args.width (label_of c.args.child) _
    (below_of c.args.child) (below_of c.args.child) c.args.is_followed c.node.ensures refl) (left_all _ _))
    c.in_err-write_line.ensures

pub write_node-returns : goal.write_node-returns
write_node-returns g t c =
    left_last _ _ _ _ _ c.write_row.result
    (left_after _ _ _ _ _ _
    (left_same _ _ _ _ _ (node_parts (view c.args.schema.now) c.args.shown (indentation_text c.args.indentation.now) c.args.width (label_of c.args.child) _
    (below_of c.args.child) (row_view c.children.result) c.args.is_followed c.node.ensures c.children.ensures) (left_all _ _))
    c.in_ok-write_line.ensures) c.write_row.ensures

pub write_row-loop-child-init : goal.write_row-loop-child-init
write_row-loop-child-init g t c =
    let same : c.into_iter-child-iterator.result ≡ c.args.nodes = search rules in
    record {
      more = tt;
      ends = tt;
      smaller = subst (λ it. size (shown_in c.args.owner (row_view it)) ≤ size (row_view c.args.nodes)) (sym same) (fewer_shown c.args.owner (row_view c.args.nodes));
      left = left_same _ _ _ _ _ (ap₂ (λ w it. rest_written (view c.args.schema.now) c.args.shown (indentation_text c.args.indentation.now) w (shown_in c.args.owner (row_view it)))
          (sym c.row_width-width.ensures) (sym same)) (left_all _ _);
    }

pub write_row-loop-child-preserved : goal.write_row-loop-child-preserved
write_row-loop-child-preserved g t c =
    let s = view c.args.schema.now in
    let i = indentation_text c.args.indentation.now in
    let child = c.in-Some.child in
    let rest = row_view c.next.new.self in
    let test : c.is_shown.result ≡ true = search rules in
    let first = shown_first c.args.owner (row_view c.loop-child.child-iterator) (label_of child) (below_of child) rest c.in-Some.ensures.steps
    (shows_same c.args.owner (label_of child) (node_view 0 c.node.result.now) (ap (λ n. n.module_number) (sym c.node.ensures)) ∙ (sym c.is_shown.ensures ∙ test)) in
    record {
      more = tt;
      ends = tt;
      smaller = omega (arith, held_more c.loop-child.held (shown_in c.args.owner (row_view c.loop-child.child-iterator)), ap size first, c.loop-child.invariant.smaller);
      left = left_after _ _ _ _ _ _ (left_same _ _ _ _ _ (ap (λ f. rest_written s c.args.shown i c.row_width-width.result (with_held c.loop-child.held f)) first
          ∙ held_and_first s c.args.shown i c.row_width-width.result c.loop-child.held (label_of child) (below_of child) (shown_in c.args.owner rest)) c.loop-child.invariant.left)
          c.in_ok-write_held.ensures;
    }

pub write_row-returns-in_err-write_held : goal.write_row-returns-in_err-write_held
write_row-returns-in_err-write_held g t c =
    let s = view c.args.schema.now in
    let i = indentation_text c.args.indentation.now in
    let child = c.in-Some.child in
    let rest = row_view c.next.new.self in
    let test : c.is_shown.result ≡ true = search rules in
    let first = shown_first c.args.owner (row_view c.loop-child.child-iterator) (label_of child) (below_of child) rest c.in-Some.ensures.steps
    (shows_same c.args.owner (label_of child) (node_view 0 c.node.result.now) (ap (λ n. n.module_number) (sym c.node.ensures)) ∙ (sym c.is_shown.ensures ∙ test)) in
    left_failed _ _ _ _ _ _ c.from_residual.result c.from_residual.ensures.0
    (left_same _ _ _ _ _ (ap (λ f. rest_written s c.args.shown i c.row_width-width.result (with_held c.loop-child.held f)) first
    ∙ held_and_first s c.args.shown i c.row_width-width.result c.loop-child.held (label_of child) (below_of child) (shown_in c.args.owner rest)) c.loop-child.invariant.left)
    c.in_err-write_held.ensures

pub write_row-returns : goal.write_row-returns
write_row-returns g t c =
    let s = view c.args.schema.now in
    let i = indentation_text c.args.indentation.now in
    left_last _ _ _ _ _ c.write_held-2.result
    (left_same _ _ _ _ _ (ap (λ f. rest_written s c.args.shown i c.row_width-width.result (with_held c.loop-child.held (shown_in c.args.owner f))) c.in-None.ensures.steps.0
    ∙ held_and_none s c.args.shown i c.row_width-width.result c.loop-child.held) c.loop-child.invariant.left)
    c.write_held-2.ensures
