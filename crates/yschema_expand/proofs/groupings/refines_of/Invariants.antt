use Rattle.std.proofs.Common.{◌≡◌, length}
use Rattle.yspec.specs.Forest.{size}
use Rattle.ybase_preorder.specs.View.{forest_in}
use Rattle.yschema_expand.specs.Counting.{refine_at}
use Rattle.yschema_expand.specs.NamedView.{language_of, modules_of}
use Rattle.yschema_expand.proofs.ToldLemmas.{AreTold}
use Rattle.yschema_expand.proofs.groupings.refines_of.Given as goal

abbrev pub invariant-loop-number : goal.invariant-loop-number
invariant-loop-number l = record {
  count : length l.refines.items ≡ size (modules_of l.named);
  known : AreTold (language_of l.named) (forest_in l.named.sources.now.table) l.order (refine_at l.refines.items) l.number-index;
}
