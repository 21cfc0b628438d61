use Rattle.std.proofs.Common.{◌≡◌, Some, None, sym, ap, ◌∙◌}
use Rattle.std.specs.Prelude.{option_map}
use Rattle.yspec.specs.linking.TypeStatements as spec
use Rattle.ybase_preorder.specs.View.{row_by, label_by}
use Rattle.ybase_preorder.proofs.RowLemmas.{takes_by, takes_none_by}
use Rattle.ylink_grammar.specs.SourceView.{source_view}
use Rattle.ylink_types.specs.TypeView.{meant_view}
use Rattle.ylink_types.proofs.TypeLemmas.{restricted_more, restricted_all}
use Rattle.ylink_types.proofs.types.restricted_in.Goals as goal

pub loop-statement-preserved : goal.loop-statement-preserved
loop-statement-preserved c =
    let before = c.loop-statement.statement-iterator in
    let s = c.in-Some.statement in
    let after = row_by source_view c.next.new.self in
    let first = takes_by source_view before c.next.new.self s c.in-Some.ensures.steps in
    let made : Some (meant_view c.in-Some-2.restricted) ≡ spec.restricted_by (label_by source_view s) (row_by source_view s.children) (meant_view c.loop-statement.made) =
    sym (ap (option_map meant_view) c.in-Some-2.is) ∙ c.in_ok-restricted.ensures in
    record {
      more = tt;
      ends = tt;
      made = restricted_more (label_by source_view s) (row_by source_view s.children) after (row_by source_view before) (meant_view c.loop-statement.made) _ first made
          ∙ c.loop-statement.invariant.made;
    }

pub returns-in-None-2 : goal.returns-in-None-2
returns-in-None-2 c =
    let before = c.loop-statement.statement-iterator in
    let s = c.in-Some.statement in
    let after = row_by source_view c.next.new.self in
    let first = takes_by source_view before c.next.new.self s c.in-Some.ensures.steps in
    let made : None ≡ spec.restricted_by (label_by source_view s) (row_by source_view s.children) (meant_view c.loop-statement.made) =
    sym (ap (option_map meant_view) c.in-None-2.is) ∙ c.in_ok-restricted.ensures in
    restricted_more (label_by source_view s) (row_by source_view s.children) after (row_by source_view before) (meant_view c.loop-statement.made) None first made
    ∙ c.loop-statement.invariant.made

pub returns : goal.returns
returns c =
    let before = c.loop-statement.statement-iterator in
    let ended = (takes_none_by source_view before c.next.new.self c.in-None.ensures.steps).0 in
    restricted_all (row_by source_view before) (meant_view c.loop-statement.made) ended ∙ c.loop-statement.invariant.made
