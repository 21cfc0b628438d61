use Rattle.std.proofs.Common.{suc}
use Rattle.std.specs.Option.{option_map_or}
use Rattle.yspec.specs.schema.Schema.{row_at}
use Rattle.yschema_model.specs.Layout.{number_of}
use Rattle.yschema_model.specs.View.{view}
use Rattle.ylive_facts.proofs.PassedLemmas.{Passed}
use Rattle.ylive_facts.proofs.over.child_over.Given as goal

abbrev pub invariant-loop-here : goal.invariant-loop-here
invariant-loop-here l = Passed (view l.schema) (row_at (view l.schema) (number_of l.above)) l.fn.id.0 (number_of l.here)

-- the node above comes before
abbrev pub decreases-loop-here : goal.decreases-loop-here
decreases-loop-here l = option_map_or (λ id. suc id.0) l.here 0
