use Rattle.std.proofs.Common.{◌≡◌, false, sym, ap, ◌∙◌}
use Rattle.std.specs.List.{list_any}
use Rattle.yspec.specs.Forest.{row}
use Rattle.yspec.specs.text.Text.{is_text}
use Rattle.yspec.specs.schema.Schema as spec
use Rattle.yspec.specs.schema.Schema.{is_data, data_row}
use Rattle.yschema_model.specs.View.{view, row_view, label_of, below_of}
use Rattle.yinst_tree.proofs.NameLemmas.{any_within, any_found, any_later, told_if_ok}
use Rattle.yinst_tree.proofs.RowLemmas.{fewer_after}
use Rattle.yinst_tree.proofs.names.+others.Goals as goal

pub is_other_at-returns-else-is_data : goal.is_other_at-returns-else-is_data
is_other_at-returns-else-is_data t c =
    let test = λ (n : spec.SchemaNode). is_text c.args.name.now (spec.other_name (view c.args.schema.now) c.args.parent_module n) in
    let child = c.args.child in
    let choice : is_data (label_of child).kind ≡ false = ap (λ (n : spec.SchemaNode). is_data n.kind) (sym c.node.ensures) ∙ (sym c.is_data.ensures ∙ c.if-is_data.false) in
    told_if_ok c.is_other_in.result _ _
    (any_within test (label_of child) (below_of child) choice ∙ ap (λ f. list_any test (row (data_row f))) (sym c.children.ensures)) c.is_other_in.ensures

pub is_other_in-returns-then-branch : goal.is_other_in-returns-then-branch
is_other_in-returns-then-branch t c =
    let test = λ (n : spec.SchemaNode). is_text c.args.name.now (spec.other_name (view c.args.schema.now) c.args.parent_module n) in
    let child = c.in-Some.child in
    any_found test (label_of child) (row_view c.loop-child.child-iterator) (below_of child) (row_view c.next.new.self) _ c.in-Some.ensures.steps
    (sym c.if-branch.true ∙ c.in_ok-is_other_at.ensures) c.loop-child.invariant.found

pub is_other_in-loop-child-preserved : goal.is_other_in-loop-child-preserved
is_other_in-loop-child-preserved t c =
    let test = λ (n : spec.SchemaNode). is_text c.args.name.now (spec.other_name (view c.args.schema.now) c.args.parent_module n) in
    let child = c.in-Some.child in
    record {
      more = tt;
      ends = tt;
      smaller = fewer_after (label_of child) (below_of child) (row_view c.next.new.self) (row_view c.loop-child.child-iterator) _ c.in-Some.ensures.steps c.loop-child.invariant.smaller;
      found = any_later test (label_of child) (row_view c.loop-child.child-iterator) (below_of child) (row_view c.next.new.self) _ c.in-Some.ensures.steps
          (sym c.if-branch.false ∙ c.in_ok-is_other_at.ensures) c.loop-child.invariant.found;
    }
