use Rattle.std.proofs.Common.{◌≡◌, ◌||◌, sym, ap, ◌∙◌}
use Rattle.std.specs.List.{list_any}
use Rattle.yspec.specs.Forest.{row}
use Rattle.yspec.specs.linking.Scopes.{is_definition}
use Rattle.ybase_preorder.specs.View.{row_by, label_by}
use Rattle.ybase_preorder.proofs.RowLemmas.{takes_by}
use Rattle.ylink_grammar.specs.SourceView.{source_view}
use Rattle.ylink_names.proofs.DefinitionLemmas.{defined_step}
use Rattle.ylink_names.proofs.definitions.has_definitions.Goals as goal

pub returns-then-is_definition : goal.returns-then-is_definition
returns-then-is_definition c =
    let before = c.loop-statement.statement-iterator in
    let after = row_by source_view c.next.new.self in
    let s = label_by source_view c.in-Some.statement in
    let below = row_by source_view c.in-Some.statement.children in
    let first = takes_by source_view before c.next.new.self c.in-Some.statement c.in-Some.ensures.steps in
    let judged : c.is_definition.result ≡ is_definition s =
    c.is_definition.ensures c.in-Some.statement.number ∙ ap (λ l. is_definition (source_view c.in-Some.statement.number l)) c.label.ensures in
    sym (sym c.loop-statement.invariant.rest
    ∙ (defined_step s below after (row_by source_view before) first c.is_definition.result judged
    ∙ ap (λ b. b || list_any is_definition (row after)) c.if-is_definition.true))

pub loop-statement-preserved : goal.loop-statement-preserved
loop-statement-preserved c =
    let before = c.loop-statement.statement-iterator in
    let after = row_by source_view c.next.new.self in
    let s = label_by source_view c.in-Some.statement in
    let below = row_by source_view c.in-Some.statement.children in
    let first = takes_by source_view before c.next.new.self c.in-Some.statement c.in-Some.ensures.steps in
    let judged : c.is_definition.result ≡ is_definition s =
    c.is_definition.ensures c.in-Some.statement.number ∙ ap (λ l. is_definition (source_view c.in-Some.statement.number l)) c.label.ensures in
    record {
      more = tt;
      ends = tt;
      rest = sym (defined_step s below after (row_by source_view before) first c.is_definition.result judged
          ∙ ap (λ b. b || list_any is_definition (row after)) c.if-is_definition.false) ∙ c.loop-statement.invariant.rest;
    }
