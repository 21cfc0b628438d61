use Rattle.std.proofs.Common.{◌≡◌, true, false, rules, sym, ap, ◌∙◌}
use Rattle.ybase_preorder.specs.View.{row_by, label_by}
use Rattle.ybase_preorder.proofs.RowLemmas.{takes_by, takes_none_by}
use Rattle.ylink_grammar.specs.SourceView.{source_view}
use Rattle.ylink_standing.specs.ConditionView.{holds_at, is_in}
use Rattle.ylink_standing.proofs.RowLemmas.{row_fails, row_goes_on, row_ended}
use Rattle.ylink_standing.proofs.standing.all_hold.Goals as goal

pub returns-then-not-holds_at : goal.returns-then-not-holds_at
returns-then-not-holds_at c =
    let asked = c.args.conditions.now in
    let on = is_in c.args.on.now in
    let before = c.loop-statement.statement-iterator in
    let after = c.next.new.self in
    let s = c.in-Some.statement in
    let fails : c.holds_at.result ≡ false = first_of (search rules, cc) in
    row_fails asked on (row_by source_view before) (row_by source_view s.children) (row_by source_view after) (label_by source_view s) _
    (takes_by source_view before after s c.in-Some.ensures.steps)
    (sym (ap (holds_at asked on) c.number.ensures) ∙ (sym c.holds_at.ensures ∙ fails))
    c.loop-statement.invariant.rest

pub loop-statement-preserved : goal.loop-statement-preserved
loop-statement-preserved c =
    let asked = c.args.conditions.now in
    let on = is_in c.args.on.now in
    let before = c.loop-statement.statement-iterator in
    let after = c.next.new.self in
    let s = c.in-Some.statement in
    let holds : c.holds_at.result ≡ true = first_of (search rules, cc) in
    record {
      more = tt;
      ends = tt;
      rest = row_goes_on asked on (row_by source_view before) (row_by source_view s.children) (row_by source_view after) (label_by source_view s) _
          (takes_by source_view before after s c.in-Some.ensures.steps)
          (sym (ap (holds_at asked on) c.number.ensures) ∙ (sym c.holds_at.ensures ∙ holds))
          c.loop-statement.invariant.rest;
    }

pub returns : goal.returns
returns c =
    let before = c.loop-statement.statement-iterator in
    row_ended c.args.conditions.now (is_in c.args.on.now) (row_by source_view before) _
    (takes_none_by source_view before c.next.new.self c.in-None.ensures.steps).0 c.loop-statement.invariant.rest
