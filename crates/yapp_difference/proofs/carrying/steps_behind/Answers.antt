use Rattle.std.proofs.Common.{◌≡◌, true, false, arith, ◌∙◌}
use Rattle.yinst.specs.Locating.{spots_view}
use Rattle.yapp_difference.specs.Carried.{leads_below}
use Rattle.yapp_difference.specs.KeyView.{steps_view}
use Rattle.yapp_difference.specs.Turning.{turn_view}
use Rattle.yapp_difference.proofs.CarryLemmas.{none_there, place_within, put_there, stays}
use Rattle.yapp_difference.proofs.carrying.steps_behind.Goals as goal

pub returns-then-not-leads_below : goal.returns-then-not-leads_below
returns-then-not-leads_below c =
    let above = c.args.turn.now.above.items in
    let steps = c.args.steps.now.items in
    let below : leads_below (spots_view above) (steps_view steps) ≡ false =
    cc (c.leads_below.ensures, c.if-not-leads_below.true, c.as_slice.ensures.value, c.as_slice-2.ensures.value) in
    stays (turn_view c.args.turn.now) (spots_view above) (steps_view steps) below

pub index-requires : goal.index-requires
index-requires c =
    let above = c.args.turn.now.above.items in
    let steps = c.args.steps.now.items in
    let below : leads_below (spots_view above) (steps_view steps) ≡ true =
    cc (c.leads_below.ensures, c.if-not-leads_below.false, c.as_slice.ensures.value, c.as_slice-2.ensures.value) in
    omega (arith, place_within above steps below, c.len-place.ensures, c.args.turn.now.above.ok.0, c.args.steps.now.ok.0)

pub index_mut-requires : goal.index_mut-requires
index_mut-requires c =
    let above = c.args.turn.now.above.items in
    let steps = c.args.steps.now.items in
    let below : leads_below (spots_view above) (steps_view steps) ≡ true =
    cc (c.leads_below.ensures, c.if-not-leads_below.false, c.as_slice.ensures.value, c.as_slice-2.ensures.value) in
    omega (arith, place_within above steps below, c.len-place.ensures, c.args.turn.now.above.ok.0, c.args.steps.now.ok.0)

pub returns-in-Some : goal.returns-in-Some
returns-in-Some c =
    let above = c.args.turn.now.above.items in
    let steps = c.args.steps.now.items in
    let below : leads_below (spots_view above) (steps_view steps) ≡ true =
    cc (c.leads_below.ensures, c.if-not-leads_below.false, c.as_slice.ensures.value, c.as_slice-2.ensures.value) in
    put_there (turn_view c.args.turn.now) above steps c.len-place.result c.index.result.now c.in_ok-step.field-0 c.in-Some.step below
    (c.len-place.ensures ∙ c.args.turn.now.above.ok.0) c.index.ensures c.in_ok-step.ensures c.in-Some.is

pub returns-in-None : goal.returns-in-None
returns-in-None c =
    let above = c.args.turn.now.above.items in
    let steps = c.args.steps.now.items in
    let below : leads_below (spots_view above) (steps_view steps) ≡ true =
    cc (c.leads_below.ensures, c.if-not-leads_below.false, c.as_slice.ensures.value, c.as_slice-2.ensures.value) in
    none_there (turn_view c.args.turn.now) above steps c.len-place.result c.index.result.now c.in_ok-step.field-0 below
    (c.len-place.ensures ∙ c.args.turn.now.above.ok.0) c.index.ensures c.in_ok-step.ensures c.in-None.is
