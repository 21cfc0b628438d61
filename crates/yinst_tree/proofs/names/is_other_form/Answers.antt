use Rattle.std.proofs.Common.{sym, ap₂}
use Rattle.std.specs.List.{list_any}
use Rattle.yspec.specs.Forest.{row}
use Rattle.yspec.specs.text.Text.{is_text}
use Rattle.yspec.specs.schema.Schema.{other_name, data_row}
use Rattle.yschema_model.specs.View.{view}
use Rattle.yinst_tree.proofs.NameLemmas.{told_if_ok}
use Rattle.yinst_tree.proofs.names.is_other_form.Goals as goal

pub returns : goal.returns
returns c = told_if_ok c.is_other_in.result _ _
    (ap₂ (λ m f. list_any (λ n. is_text c.args.name.now (other_name (view c.args.schema.now) m n)) (row (data_row f))) (sym c.module_of-parent_module.ensures) (sym c.children_of.ensures))
    c.is_other_in.ensures
