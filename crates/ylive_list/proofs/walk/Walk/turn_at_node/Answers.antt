use Rattle.std.proofs.Common.{◌∙◌, ap, map}
use Rattle.yschema_model.specs.View as schema_view
use Rattle.ystore.specs.Viewed.{viewed}
use Rattle.yinst_tree.specs.View.{place_view}
use Rattle.ylive_list.specs.Seen.{seen_view, steps_in, words_view}
use Rattle.ylive_list.specs.Walked.{step_in}
use Rattle.ylive_list.proofs.WalkLemmas.{entered, given_at, node_given}
use Rattle.ylive_list.proofs.walk.Walk.turn_at_node.Goals as goal

pub returns-in-Some : goal.returns-in-Some
returns-in-Some c =
    let w = c.args.self.now in
    let schema = schema_view.view w.schema.now in
    given_at _ _ (map (step_in schema) w.rows.items) (place_view (steps_in c.place_of.result)) (words_view c.in-Some.words) (seen_view c.at.result)
    (node_given schema (viewed w.view) w.rows.items c.args.node c.next_words.new.self (words_view c.in-Some.words) c.requires.room
    c.next_words.ensures.child c.in-Some.ensures.told)
    (c.place_of.ensures.steps ∙ ap (map (step_in schema)) c.as_slice.ensures.value)
    c.at.ensures

pub returns-in-None : goal.returns-in-None
returns-in-None c =
    let w = c.args.self.now in
    entered (schema_view.view w.schema.now) (viewed w.view) w.rows.items c.push.new.self.items c.args.node c.next_words.new.self.child w.node c.of.result
    c.requires.room c.next_words.ensures.child c.of.ensures c.push.ensures.items c.requires.free c.in-None.ensures.none
