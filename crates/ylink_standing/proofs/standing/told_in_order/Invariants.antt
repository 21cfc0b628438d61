use Rattle.std.proofs.Common.{◌≡◌, length}
use Rattle.yspec.specs.Forest.{size}
use Rattle.ybase_preorder.specs.View.{slots_in}
use Rattle.ylink_grammar.specs.LinkView.{view}
use Rattle.ylink_standing.proofs.StepLemmas.{Told}
use Rattle.ylink_standing.proofs.standing.told_in_order.Given as goal

abbrev pub invariant-loop-number : goal.invariant-loop-number
invariant-loop-number l = record {
  count : length l.on.items ≡ size (view l.sources);
  told : Told (slots_in l.sources.table) l.conditions l.chosen l.order l.on.items l.number-index;
}
