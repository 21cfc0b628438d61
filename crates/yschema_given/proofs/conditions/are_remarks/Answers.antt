use Rattle.std.proofs.Common.{rules, ◌≡◌, ◌&&◌, ◌∙◌, true, false, sym, ap}
use Rattle.std.specs.List.{list_all}
use Rattle.yspec.specs.Forest.{row}
use Rattle.yspec_wide.specs.Expansion as spec
use Rattle.ybase_preorder.specs.View.{row_by, label_by}
use Rattle.ybase_preorder.proofs.RowLemmas.{takes_by}
use Rattle.ylink_grammar.specs.SourceView.{source_view}
use Rattle.yschema_given.proofs.conditions.are_remarks.Goals as goal

pub returns-then-not-is_remark : goal.returns-then-not-is_remark
returns-then-not-is_remark c =
    let before = c.loop-statement.statement-iterator in
    let after = c.next.new.self in
    let s = c.in-Some.statement in
    let taken = takes_by source_view before after s c.in-Some.ensures.steps in
    let told : c.is_remark.result ≡ spec.is_remark (label_by source_view s) = c.is_remark.ensures s.number
    ∙ ap (λ l. spec.is_remark (source_view s.number l)) c.label.ensures in
    let fails : c.is_remark.result ≡ false = first_of (search rules, cc) in
    sym (sym c.loop-statement.invariant.so_far ∙ (ap (λ f. list_all spec.is_remark (row f)) taken
    ∙ ap (λ b. b && list_all spec.is_remark (row (row_by source_view after))) (sym told ∙ fails)))

pub loop-statement-preserved : goal.loop-statement-preserved
loop-statement-preserved c =
    let before = c.loop-statement.statement-iterator in
    let after = c.next.new.self in
    let s = c.in-Some.statement in
    let taken = takes_by source_view before after s c.in-Some.ensures.steps in
    let told : c.is_remark.result ≡ spec.is_remark (label_by source_view s) = c.is_remark.ensures s.number
    ∙ ap (λ l. spec.is_remark (source_view s.number l)) c.label.ensures in
    let holds : c.is_remark.result ≡ true = first_of (search rules, cc) in
    record {
      more = tt;
      ends = tt;
      so_far = sym (ap (λ f. list_all spec.is_remark (row f)) taken ∙ ap (λ b. b && list_all spec.is_remark (row (row_by source_view after))) (sym told ∙ holds))
          ∙ c.loop-statement.invariant.so_far;
    }
