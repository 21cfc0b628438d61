use Rattle.std.proofs.Common.{◌≡◌, ◌-◌, ◌+◌, subst, arith}
use Rattle.yschema_augment.specs.Placing.{FindsFrom}
use Rattle.yschema_augment.proofs.PlacingLemmas.{found_past}
use Rattle.yschema_augment.proofs.places.Places.of.Goals as goal

pub loop-place-init : goal.loop-place-init
loop-place-init c = record {
  within = omega arith;
  known = found_past c.in_ok-vec.field-0.items c.in_ok-vec-2.field-0.items c.args.order.now;
}

pub put_first-requires-clause-within : goal.put_first-requires-clause-within
put_first-requires-clause-within c = omega (arith, c.loop-place.invariant.within, c.loop-place-test.true)

pub put_first-requires-clause-known : goal.put_first-requires-clause-known
put_first-requires-clause-known c =
    let now = c.loop-place.places in
    let next : c.loop-place.place ≡ c.loop-place.place - 1 + 1 = omega (arith, c.loop-place-test.true) in
    subst (FindsFrom now.first.items now.next.items c.args.order.now) next c.loop-place.invariant.known

pub loop-place-preserved : goal.loop-place-preserved
loop-place-preserved c = record {
  within = omega (arith, c.loop-place.invariant.within, c.loop-place-test.true);
  known = c.put_first.ensures;
}

pub returns : goal.returns
returns c =
    let now = c.loop-place.places in
    let none : c.loop-place.place ≡ 0 = omega (arith, c.loop-place-test.false) in
    subst (FindsFrom now.first.items now.next.items c.args.order.now) none c.loop-place.invariant.known
