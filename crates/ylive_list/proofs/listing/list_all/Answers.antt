use Rattle.std.proofs.Common.{None, ap, ◌∙◌}
use Rattle.yschema_model.specs.View as schema_view
use Rattle.ystore.specs.Viewed.{viewed}
use Rattle.ystore_rows.specs.declared.row.Row.TheVariants.{Top}
use Rattle.ylive_list.specs.Listed.{row_told}
use Rattle.ylive_list.proofs.FoundLemmas.{all_found}
use Rattle.ylive_list.proofs.listing.list_all.Goals as goal

pub returns : goal.returns
returns c = all_found _ _ _ c.new.ensures.items c.new-2.ensures.items c.in_ok-list_row.ensures
    ∙ ap (λ levels. row_told levels (schema_view.view c.args.schema.now) (viewed c.args.view) None Top) c.node_count.ensures
