use Rattle.std.proofs.Common.{ap, sym, ◌∙◌}
use Rattle.std.specs.Prelude.{nat_lt}
use Rattle.yspec.specs.document.Document.{instances_in}
use Rattle.yschema_model.specs.View as schema_view
use Rattle.yinst_tree.specs.View.{row_view}
use Rattle.yinst.proofs.LocatingLemmas.{number_is}
use Rattle.yinst.proofs.applying.is_stored.Goals as goal

pub returns : goal.returns
returns c = ap (λ n. nat_lt 0 n) (c.count_of.ensures
    ∙ sym (ap (λ i. instances_in (row_view c.args.row.now) i) (number_is (schema_view.view c.args.schema.now) c.args.id.0)))
