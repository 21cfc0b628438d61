use Rattle.std.proofs.Common.{◌≡◌, length}
use Rattle.yspec.specs.Forest.{size}
use Rattle.ybase_preorder.specs.View.{forest_in}
use Rattle.ylink_names.specs.MeaningView.{AreMeanings}
use Rattle.ylink_grammar.specs.LinkView.{view}
use Rattle.ylink_values.specs.KeptView.{kept_view}
use Rattle.ylink_types.specs.TypedefView.{known_at, RestsOn}
use Rattle.ylink_types.proofs.OrderLemmas.{IsLearned}
use Rattle.ylink_types.proofs.typedefs.Typedefs.learned.Given as goal

abbrev pub invariant-loop-number : goal.invariant-loop-number
invariant-loop-number l = record {
  meant : AreMeanings l.typedefs.meanings.items (view l.sources);
  rests : RestsOn (kept_view l.kept) l.typedefs (view l.sources);
  count : length l.typedefs.known.items ≡ size (view l.sources);
  known : IsLearned (kept_view l.kept) (forest_in l.sources.table) l.order (known_at l.typedefs.known.items) l.number-index;
}
