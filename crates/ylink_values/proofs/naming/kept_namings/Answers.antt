use Rattle.std.proofs.Common.{◌≡◌, true, false, ap, ◌∙◌, rules}
use Rattle.yspec.specs.text.Text.{Text}
use Rattle.yspec.specs.linking.Source.{argument_in}
use Rattle.ybase_preorder.specs.View.{row_by, label_by}
use Rattle.ybase_preorder.proofs.RowLemmas.{takes_by, takes_none_by}
use Rattle.ylink_grammar.specs.SourceView.{source_view}
use Rattle.ylink_values.specs.KeptView.{kept_view}
use Rattle.ylink_values.specs.KindView.{naming_in, naming_word}
use Rattle.ylink_values.proofs.NamingLemmas.{not_kept, one_kept, all_made}
use Rattle.ylink_values.proofs.naming.kept_namings.Goals as goal

pub loop-statement-preserved-then-not-is_kept : goal.loop-statement-preserved-then-not-is_kept
loop-statement-preserved-then-not-is_kept c =
    let before = c.loop-statement.statement-iterator in
    let after = c.next.new.self in
    let s = c.in-Some.statement in
    let fails : c.is_kept.result ≡ false = first_of (search rules, cc) in
    record {
      more = tt;
      ends = tt;
      so_far = not_kept (kept_view c.args.kept) (naming_word c.args.kind) c.args.names.now (label_by source_view s) (row_by source_view s.children) (row_by source_view after)
          (row_by source_view before) (takes_by source_view before after s c.in-Some.ensures.steps) c.is_kept.result c.is_kept.ensures
          c.loop-statement.namings.items _ fails c.loop-statement.invariant.so_far;
    }

pub loop-statement-preserved : goal.loop-statement-preserved
loop-statement-preserved c =
    let before = c.loop-statement.statement-iterator in
    let after = c.next.new.self in
    let s = c.in-Some.statement in
    let holds : c.is_kept.result ≡ true = first_of (search rules, cc) in
    let named : c.in_ok-named.named ≡ naming_in c.args.names.now (argument_in (label_by source_view s)) =
    c.in_ok-named.ensures
    ∙ ap (λ n. record { name = argument_in (label_by source_view s); number = n })
    (c.number_of-number.ensures ∙ ap (λ (t : Text). (naming_in c.args.names.now t).number) c.argument_of.ensures) in
    record {
      more = tt;
      ends = tt;
      so_far = one_kept (kept_view c.args.kept) (naming_word c.args.kind) c.args.names.now (label_by source_view s) (row_by source_view s.children) (row_by source_view after)
          (row_by source_view before) (takes_by source_view before after s c.in-Some.ensures.steps) c.is_kept.result c.is_kept.ensures
          c.loop-statement.namings.items _ c.in_ok-named.named _ holds (search rules) named c.loop-statement.invariant.so_far;
    }

pub returns : goal.returns
returns c =
    let before = c.loop-statement.statement-iterator in
    all_made (kept_view c.args.kept) (naming_word c.args.kind) c.args.names.now c.loop-statement.namings.items (row_by source_view before) _
    (takes_none_by source_view before c.next.new.self c.in-None.ensures.steps).0 c.loop-statement.invariant.so_far
