use Rattle.std.proofs.Common.{◌∙◌, Some, ap, map, subst}
use Rattle.yspec.specs.document.RowFaults.{prefixed}
use Rattle.yschema_model.specs.View as schema_view
use Rattle.ystore.specs.Viewed.{viewed}
use Rattle.yinst_tree.specs.View.{place_view}
use Rattle.yspec_play.specs.Merging.{absence_fault}
use Rattle.ylive_list.specs.Listed.{absence_of}
use Rattle.ylive_list.specs.Seen.{seen_view, steps_in}
use Rattle.ylive_list.specs.Walked.{Gives, number_above, step_in}
use Rattle.ylive_list.specs.declared.row_left.Piece.{Piece}
use Rattle.ylive_list.proofs.WalkLemmas.{absence_given, child_given, given_at, row_given}
use Rattle.ylive_list.proofs.walk.Walk.turn_in_row.Goals as goal

pub returns-in-Some-Absence : goal.returns-in-Some-Absence
returns-in-Some-Absence c =
    let w = c.args.self.now in
    let schema = schema_view.view w.schema.now in
    let absence = absence_of c.in-Some-Absence.absence in
    let place = place_view (steps_in c.place_of-place.result) in
    let gives = subst (λ (piece : Piece). Gives c.remaining_capacity-levels.result schema (viewed w.view) c.in-Some.row (Some piece) c.next_piece.new.self)
    c.in-Some-Absence.field-0-is (c.in-Some-Absence.ensures.gives schema) in
    given_at _ _ (map (step_in schema) c.pop.new.self.items) place (absence_fault schema (number_above c.in-Some.row.above) absence) (seen_view c.absence_seen.result)
    (absence_given schema (viewed w.view) w.rows.items c.pop.new.self.items c.remaining_capacity-levels.result c.in-Some.row c.in-Some.ensures.items
    c.remaining_capacity-levels.ensures c.next_piece.new.self c.push.new.self.items w.node (absence_fault schema (number_above c.in-Some.row.above) absence)
    c.push.ensures.items c.requires gives)
    (c.place_of-place.ensures.steps ∙ ap (map (step_in schema)) c.as_slice.ensures.value)
    (c.absence_seen.ensures ∙ ap (λ above. prefixed place (absence_fault schema above absence)) (c.schema_above.ensures ∙ ap number_above c.next_piece.ensures.above))

pub returns-in-Some-Child : goal.returns-in-Some-Child
returns-in-Some-Child c =
    let w = c.args.self.now in
    let schema = schema_view.view w.schema.now in
    let gives = subst (λ (piece : Piece). Gives c.remaining_capacity-levels.result schema (viewed w.view) c.in-Some.row (Some piece) c.next_piece.new.self)
    c.in-Some-Child.field-0-is (c.in-Some-Child.ensures.gives schema) in
    child_given schema (viewed w.view) w.rows.items c.pop.new.self.items c.remaining_capacity-levels.result c.in-Some.row c.in-Some.ensures.items
    c.remaining_capacity-levels.ensures c.next_piece.new.self c.push-in-Some-Child.new.self.items c.in-Some-Child.child c.node_at-self.result
    c.push-in-Some-Child.ensures.items gives c.node_at-self.ensures

pub returns-in-None : goal.returns-in-None
returns-in-None c =
    let w = c.args.self.now in
    let schema = schema_view.view w.schema.now in
    row_given schema (viewed w.view) w.rows.items c.pop.new.self.items c.remaining_capacity-levels.result c.in-Some.row c.in-Some.ensures.items
    c.remaining_capacity-levels.ensures w.node c.requires (c.in-None.ensures.gives schema)
