use Rattle.std.proofs.Common.{Some, None, ap, sym, ◌∙◌}
use Rattle.std.specs.Prelude.{option_map}
use Rattle.yschema_model.specs.View.{node_view, view}
use Rattle.yinst_tree.specs.View.{place_view, step_view}
use Rattle.ysay_repeated.proofs.RepeatedLemmas.{last_seen, name_of_last}
use Rattle.ysay_repeated.proofs.sentence.name_at.Goals as goal

pub returns-in-Some-kind : goal.returns-in-Some-kind
returns-in-Some-kind c =
    let s = view c.args.schema.now in
    let step = c.in-Some.step.now in
    let node = node_view step.id.0 c.in-Some-kind.node.now in
    c.as_str.ensures.value
    ∙ name_of_last s (place_view c.args.place.now) (step_view step) (Some node) (last_seen c.args.place.now c.in-Some.field-0-1.now step c.in-Some.ensures.cases.0)
    (sym (ap (option_map (λ m. node_view step.id.0 m.now)) c.in-Some-kind.is) ∙ c.kind.ensures)

pub returns-in-None-kind : goal.returns-in-None-kind
returns-in-None-kind c =
    let s = view c.args.schema.now in
    let step = c.in-Some.step.now in
    name_of_last s (place_view c.args.place.now) (step_view step) None (last_seen c.args.place.now c.in-Some.field-0-1.now step c.in-Some.ensures.cases.0)
    (sym (ap (option_map (λ m. node_view step.id.0 m.now)) c.in-None-kind.is) ∙ c.kind.ensures)
