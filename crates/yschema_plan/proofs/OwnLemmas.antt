-- The statements of a keyword in a row, one after another.
use Rattle.std.proofs.Common.{◌≡◌, true, false, cond, ◌∷◌, Some, ap, ◌∙◌}
use Rattle.yspec.specs.linking.Keyword.{Keyword}
use Rattle.yspec.specs.linking.Source.{all_with, is_source_of}
use Rattle.ybase_preorder.specs.View.{TakesFirst, row_by, label_by}
use Rattle.ybase_preorder.specs.declared.siblings.Node.{Node}
use Rattle.ybase_preorder.specs.declared.siblings.Siblings.{Siblings}
use Rattle.ybase_preorder.proofs.RowLemmas.{takes_by}
use Rattle.ylink_grammar.specs.SourceView.{source_view}
use Rattle.ylink_grammar.specs.declared.source.Source.{Source}

module _ (k : Keyword) (before after : Siblings Source) (n : Node Source) (taken : TakesFirst before (Some n) after) where
  pub one_found : is_source_of k (label_by source_view n) ≡ true
      → all_with k (row_by source_view before) ≡ label_by source_view n ∷ all_with k (row_by source_view after)
  one_found e =
      let rest = all_with k (row_by source_view after) in
      ap (all_with k) (takes_by source_view before after n taken) ∙ ap (λ b. cond b (label_by source_view n ∷ rest) rest) e

  pub one_passed : is_source_of k (label_by source_view n) ≡ false
      → all_with k (row_by source_view before) ≡ all_with k (row_by source_view after)
  one_passed e =
      let rest = all_with k (row_by source_view after) in
      ap (all_with k) (takes_by source_view before after n taken) ∙ ap (λ b. cond b (label_by source_view n ∷ rest) rest) e
