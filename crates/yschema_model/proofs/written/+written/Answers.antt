use Rattle.std.proofs.Common.{◌≡◌, false, [], Some, sym, ap, ◌∙◌, rules}
use Rattle.yspec.specs.text.Text.{is_text}
use Rattle.yspec.specs.schema.Schema as spec
use Rattle.yspec.specs.schema.Schema.{is_data, written_name, data_row, first_in_row}
use Rattle.yschema_model.specs.Layout.{number_of, schema_view}
use Rattle.yschema_model.specs.View.{row_view, label_of, below_of}
use Rattle.yschema_model.proofs.PassedLemmas.{within_passed, found_first, found_later}
use Rattle.yschema_model.proofs.RowLemmas.{fewer_after}
use Rattle.yschema_model.proofs.written.+written.Goals as goal

pub first_written-returns-in-Some-written_at : goal.first_written-returns-in-Some-written_at
first_written-returns-in-Some-written_at t c =
    let test = λ (n : spec.SchemaNode). is_text c.args.name.now (written_name (schema_view c.args.modules.now []) (Some c.args.parent_module) n) in
    let child = c.in-Some.child in
    found_first test (label_of child) (row_view c.loop-child.child-iterator) (below_of child) (row_view c.next.new.self) _ _ c.in-Some.ensures.steps
    (sym (ap number_of c.in-Some-written_at.is) ∙ c.written_at.ensures) c.loop-child.invariant.found

pub first_written-loop-child-preserved : goal.first_written-loop-child-preserved
first_written-loop-child-preserved t c =
    let test = λ (n : spec.SchemaNode). is_text c.args.name.now (written_name (schema_view c.args.modules.now []) (Some c.args.parent_module) n) in
    let child = c.in-Some.child in
    record {
      more = tt;
      ends = tt;
      smaller = fewer_after (label_of child) (below_of child) (row_view c.next.new.self) (row_view c.loop-child.child-iterator) _ c.in-Some.ensures.steps c.loop-child.invariant.smaller;
      found = found_later test (label_of child) (row_view c.loop-child.child-iterator) (below_of child) (row_view c.next.new.self) _ c.in-Some.ensures.steps
          (sym (ap number_of c.in_default.is) ∙ c.written_at.ensures) c.loop-child.invariant.found;
    }

pub written_at-returns-then-not-is_data : goal.written_at-returns-then-not-is_data
written_at-returns-then-not-is_data t c =
    let test = λ (n : spec.SchemaNode). is_text c.args.name.now (written_name (schema_view c.args.modules.now []) (Some c.args.parent_module) n) in
    let child = c.args.child in
    let passed : is_data (label_of child).kind ≡ false = ap (λ (n : spec.SchemaNode). is_data n.kind) (sym c.node.ensures) ∙ (sym c.is_data.ensures ∙ search rules) in
    c.first_written.ensures ∙ (ap (λ f. first_in_row test (data_row f)) c.children.ensures ∙ sym (within_passed test (label_of child) (below_of child) passed))
