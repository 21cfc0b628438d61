use Rattle.std.proofs.Common.{◌≡◌}
use Rattle.ybase_preorder.specs.View.{slots_in}
use Rattle.ylink_names.proofs.DefinitionLemmas.{defined_from}
use Rattle.ylink_names.proofs.definitions.has_any_definition.Given as goal

abbrev pub invariant-loop-row : goal.invariant-loop-row
invariant-loop-row l = let rows = slots_in l.sources.table in defined_from rows l.row-index ≡ defined_from rows 0
