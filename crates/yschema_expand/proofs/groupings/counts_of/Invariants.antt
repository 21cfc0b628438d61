use Rattle.std.proofs.Common.{◌≡◌, length}
use Rattle.yspec.specs.Forest.{size}
use Rattle.ybase_preorder.specs.View.{forest_in}
use Rattle.yschema_expand.specs.Counting.{count_at}
use Rattle.yschema_expand.specs.NamedView.{language_of, modules_of}
use Rattle.yschema_expand.proofs.CountLemmas.{AreCounted}
use Rattle.yschema_expand.proofs.groupings.counts_of.Given as goal

abbrev pub invariant-loop-number : goal.invariant-loop-number
invariant-loop-number l = record {
  count : length l.counts.items ≡ size (modules_of l.named);
  known : AreCounted (language_of l.named) (forest_in l.named.sources.now.table) l.order (count_at l.counts.items) l.number-index;
}
