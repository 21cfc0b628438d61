use Rattle.std.proofs.Common.{◌<◌, ◌≤◌, rules, false, length, get_or, refl, ap, ◌∙◌, arith}
use Rattle.std.specs.Prelude.{◌&&◌}
use Rattle.std.specs.Option.{option_map_or}
use Rattle.std.proofs.lemmas.List.{length-replicate}
use Rattle.yspec.specs.linking.Scopes.{statement_at}
use Rattle.ybase_preorder.specs.View.{slots_in}
use Rattle.ylink_grammar.specs.LinkView.{view}
use Rattle.ylink_standing.specs.ConditionView.{all_asked, is_in}
use Rattle.ylink_standing.proofs.StepLemmas.{told_more, told_at_last, rows_size, set_length}
use Rattle.ylink_standing.proofs.standing.told_in_order.Goals as goal

pub loop-number-init : goal.loop-number-init
loop-number-init c = record {
  count = ap length (c.in_ok-on.ensures.items_if_clones_equal (λ y h. h))
      ∙ (length-replicate (length c.slots.result.now) false ∙ (ap length c.slots.ensures ∙ rows_size (slots_in c.args.sources.now.table)));
  told = λ language known j before. absurd (omega (arith, before));
}

pub loop-number-preserved : goal.loop-number-preserved
loop-number-preserved c =
    let rows = slots_in c.args.sources.now.table in
    let asked = c.args.conditions.now in
    let chosen = c.args.chosen.now in
    let nodes = c.args.order.now in
    let i = c.loop-number.number-index in
    let number = get_or nodes i 0 in
    let on = c.loop-number.on.items in
    let within : i < length nodes = first_of (search rules, omega arith) in
    record {
      count = set_length on c.put.new.on.items number c.is_on_by-told.result _ c.put.ensures c.loop-number.invariant.count;
      told = told_more rows asked chosen nodes on c.put.new.on.items i number c.is_on_by-told.result c.loop-number.invariant.count within refl c.put.ensures
          (c.is_on_by-told.ensures ∙ ap (λ l. option_map_or (λ p. is_in chosen number && all_asked asked (is_in l) p.below) (statement_at (view c.args.sources.now) number) false) c.as_slice.ensures.value)
          c.loop-number.invariant.told;
    }

pub returns : goal.returns
returns c language known =
    let nodes = c.args.order.now in
    let ended : length nodes ≤ c.loop-number.number-index = first_of (search rules, omega arith) in
    told_at_last (slots_in c.args.sources.now.table) c.args.conditions.now c.args.chosen.now nodes c.loop-number.on.items c.loop-number.number-index ended
    c.loop-number.invariant.told language known
