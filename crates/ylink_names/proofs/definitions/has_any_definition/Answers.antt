use Rattle.std.proofs.Common.{◌+◌, ◌||◌, sym, ap, ◌∙◌, arith}
use Rattle.std.specs.List.{list_any}
use Rattle.yspec.specs.linking.Scopes.{is_definition}
use Rattle.ybase_preorder.specs.View.{slots_in}
use Rattle.ybase_preorder.proofs.LabelLemmas.{preorder_by}
use Rattle.ylink_grammar.specs.SourceView.{source_view}
use Rattle.ylink_names.proofs.DefinitionLemmas.{defined_from, defined_next, defined_last}
use Rattle.ylink_names.proofs.definitions.has_any_definition.Goals as goal

pub returns-then-is_definition : goal.returns-then-is_definition
returns-then-is_definition c =
    let rows = slots_in c.args.sources.now.table in
    let i = c.loop-row.row-index in
    sym (ap (list_any is_definition) (preorder_by source_view rows)
    ∙ (sym c.loop-row.invariant
    ∙ (defined_next _ rows c.slots-row-items.ensures i c.row-item.result c.is_definition.result (omega arith) c.row-item.is (c.is_definition.ensures i)
    ∙ ap (λ b. b || defined_from rows (i + 1)) c.if-is_definition.true)))

pub loop-row-preserved : goal.loop-row-preserved
loop-row-preserved c =
    let rows = slots_in c.args.sources.now.table in
    let i = c.loop-row.row-index in
    sym (defined_next _ rows c.slots-row-items.ensures i c.row-item.result c.is_definition.result (omega arith) c.row-item.is (c.is_definition.ensures i)
    ∙ ap (λ b. b || defined_from rows (i + 1)) c.if-is_definition.false) ∙ c.loop-row.invariant

pub returns : goal.returns
returns c =
    let rows = slots_in c.args.sources.now.table in
    sym (ap (list_any is_definition) (preorder_by source_view rows)
    ∙ (sym c.loop-row.invariant ∙ defined_last _ rows c.slots-row-items.ensures c.loop-row.row-index (omega arith)))
