use Rattle.std.proofs.Common.{option_map, sym, ap, ◌∙◌}
use Rattle.serde_json.specs.View as json
use Rattle.yschema_model.specs.Layout.{form_view}
use Rattle.yinst_tree.specs.View.{place_view}
use Rattle.yinst_tree.specs.Told.{code_number}
use Rattle.yinst_tree.proofs.VisitLemmas.{walks_same, leaf_right}
use Rattle.yinst_tree.proofs.visits.visit_leaf.Goals as goal

pub returns-in-None : goal.returns-in-None
returns-in-None c =
    let place = place_view c.args.place.now in
    walks_same c.args.room _ _ c.one_less.result
    (leaf_right (form_view c.args.form) place (json.view c.args.value.now) (sym (ap (option_map code_number) c.in-None.is) ∙ c.refusal_in.ensures)) (c.one_less.ensures place)
