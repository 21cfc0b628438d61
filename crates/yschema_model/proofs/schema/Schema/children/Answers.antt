use Rattle.std.proofs.Common.{◌≡◌, [], refl, ◌∷◌, min, length, drop, ap, ◌∙◌, rules, arith}
use Rattle.std.specs.Prelude.{unwrap_or}
use Rattle.yspec.specs.Forest.{end}
use Rattle.yschema_model.specs.View.{row_view}
use Rattle.yschema_model.proofs.QueryLemmas.{rows_below, no_rows_below, laid_out_fits}
use Rattle.yschema_model.proofs.RowLemmas.{no_node}
use Rattle.yschema_model.proofs.schema.Schema.children.Goals as goal

pub returns-in-Some : goal.returns-in-Some
returns-in-Some c =
    let slots = c.args.self.now.slots.items in
    let from = c.split_at.result.1.now in
    let from_is : from ≡ drop (min c.args.id.0 (length slots)) slots = first_of (search rules, grind arith, cc) in
    let split : from ≡ c.in-Some.first.now ∷ c.in-Some.rest.now = search rules in
    ap (λ o. unwrap_or o end) (rows_below slots from c.in-Some.rest.now c.split_at-in-Some.result.0.now c.in-Some.first.now c.args.id.0 c.min-in-Some.result
    (row_view c.new.result) (laid_out_fits slots c.args.self.now.laid_out) from_is split c.min-in-Some.ensures c.split_at-in-Some.ensures.front c.new.ensures)

pub returns-in-None : goal.returns-in-None
returns-in-None c =
    let slots = c.args.self.now.slots.items in
    let from = c.split_at.result.1.now in
    let from_is : from ≡ drop (min c.args.id.0 (length slots)) slots = first_of (search rules, grind arith, cc) in
    let empty : length from ≡ 0 = search rules in
    (c.new-in-None.ensures ∙ no_node 0 [] refl) ∙ ap (λ o. unwrap_or o end) (no_rows_below slots from c.args.id.0 (laid_out_fits slots c.args.self.now.laid_out) from_is empty)
