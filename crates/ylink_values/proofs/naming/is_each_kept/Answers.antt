use Rattle.std.proofs.Common.{◌≡◌, true, false, rules}
use Rattle.ybase_preorder.specs.View.{row_by, label_by}
use Rattle.ybase_preorder.proofs.RowLemmas.{takes_by, takes_none_by}
use Rattle.ylink_grammar.specs.SourceView.{source_view}
use Rattle.ylink_values.specs.KeptView.{kept_view}
use Rattle.ylink_values.specs.KindView.{naming_word}
use Rattle.ylink_values.proofs.NamingLemmas.{left_out, none_left_out, no_more}
use Rattle.ylink_values.proofs.naming.is_each_kept.Goals as goal

pub returns-then-is_left_out : goal.returns-then-is_left_out
returns-then-is_left_out c =
    let before = c.loop-statement.statement-iterator in
    let after = c.next.new.self in
    let s = c.in-Some.statement in
    let holds : c.is_left_out.result ≡ true = first_of (search rules, cc) in
    left_out (kept_view c.args.kept) (naming_word c.args.kind) (label_by source_view s) (row_by source_view s.children) (row_by source_view after) (row_by source_view before)
    c.is_left_out.result _ (takes_by source_view before after s c.in-Some.ensures.steps) c.is_left_out.ensures holds c.loop-statement.invariant.rest

pub loop-statement-preserved : goal.loop-statement-preserved
loop-statement-preserved c =
    let before = c.loop-statement.statement-iterator in
    let after = c.next.new.self in
    let s = c.in-Some.statement in
    let fails : c.is_left_out.result ≡ false = first_of (search rules, cc) in
    record {
      more = tt;
      ends = tt;
      rest = none_left_out (kept_view c.args.kept) (naming_word c.args.kind) (label_by source_view s) (row_by source_view s.children) (row_by source_view after) (row_by source_view before)
          c.is_left_out.result _ (takes_by source_view before after s c.in-Some.ensures.steps) c.is_left_out.ensures fails c.loop-statement.invariant.rest;
    }

pub returns : goal.returns
returns c =
    let before = c.loop-statement.statement-iterator in
    no_more (kept_view c.args.kept) (naming_word c.args.kind) (row_by source_view before) _
    (takes_none_by source_view before c.next.new.self c.in-None.ensures.steps).0 c.loop-statement.invariant.rest
