use Rattle.std.proofs.Common.{◌≡◌, ◌&&◌, not, count_by, drop}
use Rattle.std.specs.List.{list_any}
use Rattle.yspec.specs.Forest.{row}
use Rattle.yspec.specs.linking.Keyword.{same_keyword}
use Rattle.yspec.specs.linking.Source.{is_source_of}
use Rattle.yspec.specs.linking.Table.{Allowed}
use Rattle.yspec.specs.schema.Breaks.{is_wrong_count}
use Rattle.ybase_preorder.specs.View.{row_by}
use Rattle.ybase_words.specs.KeywordView.{keyword_view}
use Rattle.ylink_grammar.specs.SourceView.{source_view}
use Rattle.ylink_grammar.specs.TableView.{allowed_views}
use Rattle.ylink_grammar.proofs.refining.is_borne.Given as goal

-- among those that are left
abbrev pub invariant-loop-one : goal.invariant-loop-one
invariant-loop-one l =
    let k = keyword_view l.keyword in
    let fits = (λ (a : Allowed). same_keyword a.keyword k && not (is_wrong_count a.count (count_by (is_source_of k) (row (row_by source_view l.given))))) in
    list_any fits (allowed_views (drop l.one-index l.allowed)) ≡ list_any fits (allowed_views l.allowed)
