use Rattle.std.proofs.Common.{◌≡◌, Option, Some, None, refl, ap, ◌∙◌}
use Rattle.std.specs.Prelude.{option_map}
use Rattle.ybase_preorder.specs.View.{row_by, label_by}
use Rattle.ybase_preorder.specs.declared.siblings.Node.{Node}
use Rattle.ybase_words.specs.KeywordView.{keyword_view}
use Rattle.ylink_grammar.specs.SourceView.{source_view, node_view}
use Rattle.ylink_grammar.specs.declared.source.Source.{Source}
use Rattle.ylink_grammar.proofs.SourceLemmas.{first_found}
use Rattle.ylink_grammar.proofs.row.first_with.Goals as goal

pub returns : goal.returns
returns c = labels c.found_with.result
    ∙ (ap (option_map (λ s. s.0)) c.found_with.ensures ∙ first_found (keyword_view c.args.keyword) (row_by source_view c.args.statements))
  where
    labels : (o : Option (Node Source)) → option_map (label_by source_view) o ≡ option_map (λ s. s.0) (option_map node_view o)
    labels (Some n) = refl
    labels None = refl
