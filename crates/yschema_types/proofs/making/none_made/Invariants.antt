use Rattle.std.proofs.Common.{◌≡◌, replicate}
use Rattle.yschema_types.specs.MadeTypes.{nothing}
use Rattle.yschema_types.specs.MadeView.{rows_view}
use Rattle.yschema_types.proofs.making.none_made.Given as goal

abbrev pub invariant-loop-number : goal.invariant-loop-number
invariant-loop-number l = rows_view l.made.items ≡ replicate l._number nothing
