use Rattle.std.proofs.Common.{◌≡◌, length, rules, arith, vec_len}
use Rattle.ylink_grammar.specs.BreakView.{seen}
use Rattle.ylink_features.proofs.LostLemmas.{own_flag, other_flags, next_lost, all_lost}
use Rattle.ylink_features.proofs.lost.least_of.Goals as goal

pub loop-condition-preserved : goal.loop-condition-preserved
loop-condition-preserved c circular are =
    let conditions = c.args.conditions.now in
    let i = c.loop-condition.condition-index in
    let condition = c.condition-item.result in
    let so_far = c.loop-condition.invariant circular are in
    let sized : vec_len condition.edges ≡ length condition.edges.items = first_of (omega arith, omega (arith, condition.edges.ok.0), search rules) in
    let count : c.len.result ≡ length condition.edges.items = first_of (omega (arith, sized), search rules, cc, grind arith) in (
      other_flags circular conditions i condition (omega arith) c.condition-item.is c.loop-condition.left.now so_far.0 c.len.result
          c.first_flags-is_circular.result.1.now count c.first_flags-is_circular.ensures.others,
      next_lost circular conditions i condition (seen c.loop-condition.told) (seen c.least_lost-told.result) _ (omega arith) c.condition-item.is
          (c.least_lost-told.ensures circular
          (own_flag circular conditions i condition (omega arith) c.condition-item.is c.loop-condition.left.now so_far.0 c.len.result
          c.first_flags-is_circular.result.0 count c.first_flags-is_circular.ensures.first)) so_far.1,
    )

pub returns : goal.returns
returns c circular are =
    all_lost circular c.args.conditions.now c.loop-condition.condition-index (seen c.loop-condition.told) _ (omega arith) (c.loop-condition.invariant circular are).1
