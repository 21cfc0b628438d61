use Rattle.std.proofs.Common.{map, ◌++◌, ap, ap₂, sym, ◌∙◌, [], ◌∷◌, List, Bool}
use Rattle.yschema_model.specs.View as schema_view
use Rattle.ycheck.specs.Walk.{table_of}
use Rattle.ycheck.proofs.checking.repeated_in.Goals as goal

pub returns-in_ok-push-in-LeafList : goal.returns-in_ok-push-in-LeafList
returns-in_ok-push-in-LeafList c =
    let found = c.args.found.now in
    let schema = schema_view.view c.args.schema.now in
    ap (map (λ marks. marks.items)) (c.in_ok-push-in-LeafList.ensures.items ∙ ap (λ vs. vs ++ c.in_ok-repeated_items-in-LeafList.field-0 ∷ []) c.new-table.ensures.items)
    ∙ (ap (λ (ls : List Bool). ls ∷ []) c.in_ok-repeated_items-in-LeafList.ensures
    ∙ sym (ap₂ (λ k b. table_of schema (schema_view.kind_view k) b found) c.in-LeafList.is c.if-node.true))
