use Rattle.std.proofs.Common.{ap, sym, ◌∙◌}
use Rattle.json.specs.Json.{object}
use Rattle.json.specs.Value.{members_view, value_view}
use Rattle.json.proofs.Trees.{view-Object}
use Rattle.yschema_model.specs.View.{view}
use Rattle.yinst_tree.specs.View.{place_view}
use Rattle.ysay_repeated.proofs.RepeatedLemmas.{told_same, top_told}
use Rattle.ysay_repeated.proofs.place.first_at_top.Goals as goal

pub returns-in-Object : goal.returns-in-Object
returns-in-Object c =
    let s = view c.args.schema.now in
    let is = ap value_view c.in-Object.is ∙ (view-Object c.in-Object.members ∙ ap (λ vs. object (members_view vs)) (sym c.deref.ensures.value)) in
    told_same c.first_of_members.result _ _
    (top_told s (place_view c.new.result.items) (value_view c.args.value.now) (members_view c.deref.result.now) is (ap place_view c.new.ensures.items))
    c.first_of_members.ensures.found
