use Rattle.std.proofs.Common.{◌+◌, ◌||◌, ◌∷◌, List, drop, sym, ap, ◌∙◌}
use Rattle.std.specs.List.{list_any}
use Rattle.std.proofs.lemmas.List.{at_drop_more}
use Rattle.yspec.specs.types.Types.{Val}
use Rattle.yspec.specs.types.Order.{same_value}
use Rattle.yschema_resolve.specs.Values.{comes_twice}
use Rattle.yschema_resolve.proofs.DefaultLemmas.{holds_value, value_added, twice_first, twice_more, was_not}
use Rattle.yschema_resolve.proofs.defaults.comes_twice.Goals as goal

pub loop-value-init : goal.loop-value-init
loop-value-init c = twice_first c.new-seen.result c.args.values.now c.new-seen.ensures.empty

pub loop-value-preserved : goal.loop-value-preserved
loop-value-preserved c =
    let before = holds_value c.loop-value.seen in
    let after = holds_value c.insert.new.self in
    let values = c.args.values.now in
    let i = c.loop-value.value-index in
    let v = c.value-item.result in
    let left = λ (vs : List Val). list_any before vs || comes_twice same_value vs in
    twice_more before after v (drop (i + 1) values) (value_added c.loop-value.seen c.insert.new.self v c.in_ok-insert.ensures.updates.0)
    (was_not (before v) (sym c.if-not-branch.false ∙ c.in_ok-insert.ensures.added))
    ∙ (ap (λ w. left (w ∷ drop (i + 1) values)) c.value-item.is ∙ (sym (at_drop_more left values i v c.loop-value-test.true) ∙ c.loop-value.invariant))
