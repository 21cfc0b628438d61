use Rattle.std.proofs.Common.{◌∙◌, ◌≡◌, ap, arith, length, sym}
use Rattle.std.proofs.lemmas.Bool.{eqb-true}
use Rattle.yspec.specs.schema.Breaks.{level_limit}
use Rattle.yschema_model.specs.View as schema_view
use Rattle.ystore.specs.Viewed.{viewed}
use Rattle.ylive_list.specs.Walked.{left_at, visits_at}
use Rattle.ylive_list.proofs.WalkLemmas.{comes_same, full_left, full_visits}
use Rattle.ylive_list.proofs.walk.Walk.turn.Goals as goal

pub returns-then-is_full : goal.returns-then-is_full
returns-then-is_full c =
    let w = c.args.self.now in
    let schema = schema_view.view w.schema.now in
    let nodes = viewed w.view in
    let full : length w.rows.items ≡ 61 = eqb-true (length w.rows.items) 61 (sym c.is_full.ensures.value ∙ c.if-is_full.true) in
    comes_same _ _ _ _ _ _ (full_left schema nodes w.rows.items level_limit w.node (omega (arith, full)))
    (full_visits schema nodes w.rows.items level_limit w.node (omega (arith, full))) c.turn_in_row.ensures

pub returns-else-is_full : goal.returns-else-is_full
returns-else-is_full c =
    let w = c.args.self.now in
    let is = sym c.take.ensures.value ∙ c.in-Some.is in
    comes_same _ _ _ _ _ _ (ap (left_at w) is) (ap (visits_at w) is) c.turn_at_node.ensures

pub returns-in-None : goal.returns-in-None
returns-in-None c =
    let w = c.args.self.now in
    let is = sym c.take.ensures.value ∙ c.in-None.is in
    comes_same _ _ _ _ _ _ (ap (left_at w) is) (ap (visits_at w) is) c.turn_in_row-in-None.ensures
