use Rattle.std.proofs.Common.{◌≡◌, length}
use Rattle.ybase_preorder.specs.View.{slots_in}
use Rattle.ylink_grammar.specs.LanguageView.{language_view}
use Rattle.ylink_standing.proofs.AskingLemmas.{AreFilled}
use Rattle.ylink_standing.proofs.asking.conditions_of.Given as goal

abbrev pub invariant-loop-row : goal.invariant-loop-row
invariant-loop-row l = record {
  count : length l.conditions.items ≡ l.row-index;
  asked : AreFilled (slots_in l.sources.table) (language_view l.language) l.conditions.items l.row-index;
}
