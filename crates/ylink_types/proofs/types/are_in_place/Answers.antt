use Rattle.std.proofs.Common.{◌≡◌, true, false, ap, ◌∙◌, rules}
use Rattle.yspec.specs.linking.TypeStatements as spec
use Rattle.ybase_preorder.specs.View.{row_by, label_by}
use Rattle.ybase_preorder.proofs.RowLemmas.{takes_by}
use Rattle.ybase_words.specs.BuiltInView.{built_in_view}
use Rattle.ylink_grammar.specs.SourceView.{source_view}
use Rattle.ylink_types.proofs.TypeLemmas.{one_in_place, one_misplaced}
use Rattle.ylink_types.proofs.types.are_in_place.Goals as goal

pub returns-then-not-is_in_place : goal.returns-then-not-is_in_place
returns-then-not-is_in_place c =
    let before = c.loop-statement.statement-iterator in
    let after = c.next.new.self in
    let s = c.in-Some.statement in
    let type = built_in_view c.args.type_name in
    let fails : c.is_in_place.result ≡ false = first_of (search rules, cc) in
    one_misplaced type (label_by source_view s) (row_by source_view s.children) (row_by source_view after) (row_by source_view before)
    (takes_by source_view before after s c.in-Some.ensures.steps) c.is_in_place.result _
    (c.is_in_place.ensures s.number ∙ ap (λ l. spec.is_in_place type (source_view s.number l)) c.label.ensures) fails c.loop-statement.invariant.rest

pub loop-statement-preserved : goal.loop-statement-preserved
loop-statement-preserved c =
    let before = c.loop-statement.statement-iterator in
    let after = c.next.new.self in
    let s = c.in-Some.statement in
    let type = built_in_view c.args.type_name in
    let holds : c.is_in_place.result ≡ true = first_of (search rules, cc) in
    record {
      more = tt;
      ends = tt;
      rest = one_in_place type (label_by source_view s) (row_by source_view s.children) (row_by source_view after) (row_by source_view before)
          (takes_by source_view before after s c.in-Some.ensures.steps) c.is_in_place.result _
          (c.is_in_place.ensures s.number ∙ ap (λ l. spec.is_in_place type (source_view s.number l)) c.label.ensures) holds c.loop-statement.invariant.rest;
    }
