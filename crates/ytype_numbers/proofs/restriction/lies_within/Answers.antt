use Rattle.std.proofs.Common.{◌≡◌, ◌<◌, true, length, ◌∙◌, sym, rules}
use Rattle.yspec.specs.types.Ranges.{is_covered}
use Rattle.ytype_numbers.proofs.CoverLemmas.{rest_behind, ascending_next, alike_next}
use Rattle.ytype_numbers.proofs.restriction.lies_within.Goals as goal

pub inner-preserved : goal.inner-preserved
inner-preserved c =
    let whole = c.args.inner.now in
    let i = c.inner.part-index in
    let p = c.part-item.result in
    let left = c.inner.left.now in
    let more = c.without_parts_below-left.result.now in
    let all = c.args.outer.now in
    let within : i < length whole = search rules in
    let covered : is_covered more p.low p.high ≡ true = search rules in
    let cut = c.without_parts_below-left.ensures in
    let is = c.part-item.is in
    record {
      rest = sym (rest_behind whole i p left more all within is c.inner.invariant.alike c.inner.invariant.ascending cut covered) ∙ c.inner.invariant.rest;
      ascending = ascending_next whole i p left more all within is c.inner.invariant.alike c.inner.invariant.ascending cut covered;
      alike = alike_next whole i p left more all within is c.inner.invariant.alike c.inner.invariant.ascending cut covered;
    }
