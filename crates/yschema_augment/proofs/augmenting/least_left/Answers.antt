use Rattle.std.proofs.Common.{ap, sym, ◌∙◌, arith, drop}
use Rattle.std.proofs.lemmas.List.{drop_all}
use Rattle.yspec.specs.schema.Breaks.{least_from}
use Rattle.ylink_grammar.specs.BreakView.{seen}
use Rattle.yschema_expand.specs.AugmentView.{augments_seen}
use Rattle.yschema_augment.specs.Augmenting.{breaks_of}
use Rattle.yschema_augment.specs.Picking.{left_of}
use Rattle.yschema_augment.proofs.AugmentingLemmas.{left_none}
use Rattle.yschema_augment.proofs.augmenting.least_left.Goals as goal

pub returns : goal.returns
returns c =
    let waits = drop c.loop-place.place c.args.waits.now in
    let told = seen c.loop-place.told in
    let none = drop_all c.loop-place.place c.args.augments.now (omega (arith, c.loop-place-test.false)) in
    sym (ap (λ left. least_from told (breaks_of left)) (ap (λ xs. left_of waits (augments_seen xs)) none ∙ left_none waits)) ∙ c.loop-place.invariant
