use Rattle.std.proofs.Common.{◌≡◌, drop, map}
use Rattle.ytext.specs.View.{row_view}
use Rattle.ysay_types.specs.Defaults.{of_values}
use Rattle.ysay_types.proofs.defaults.of_values.Given as goal

abbrev pub invariant-loop-text : goal.invariant-loop-text
invariant-loop-text l = of_values (map (λ r. row_view r.now) l.rows) l.name l.base (map (λ t. t.now) (drop l.text-index l.texts))
    ≡ of_values (map (λ r. row_view r.now) l.rows) l.name l.base (map (λ t. t.now) l.texts)
