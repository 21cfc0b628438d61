use Rattle.std.proofs.Common.{◌≡◌, ◌&&◌, true, false, sym, ap, ◌∙◌, rules}
use Rattle.yspec.specs.linking.Source.{argument_in}
use Rattle.yspec.specs.linking.TypeStatements.{is_restricting}
use Rattle.yspec_wide.specs.Types.{is_restriction_kept}
use Rattle.ybase_preorder.specs.View.{row_by, label_by}
use Rattle.ybase_preorder.proofs.RowLemmas.{takes_by, takes_none_by}
use Rattle.ylink_grammar.specs.SourceView.{source_view}
use Rattle.ylink_values.specs.KeptView.{kept_view}
use Rattle.ylink_values.specs.KindView.{naming_text, number_by}
use Rattle.ylink_values.proofs.NamingLemmas.{no_naming, next_naming, all_namings}
use Rattle.ylink_values.proofs.restricting.namings_left.Goals as goal

pub loop-statement-preserved-then-not-is_left : goal.loop-statement-preserved-then-not-is_left
loop-statement-preserved-then-not-is_left c =
    let before = c.loop-statement.statement-iterator in
    let after = c.next.new.self in
    let s = c.in-Some.statement in
    let fails : c.is_left.result ≡ false = first_of (search rules, cc) in
    record {
      more = tt;
      ends = tt;
      so_far = no_naming (λ s inner. is_restricting (naming_text c.args.kind) s && is_restriction_kept (kept_view c.args.kept) c.args.outer.now s inner)
          (number_by c.args.kind) c.loop-statement.namings.items (label_by source_view s) (row_by source_view s.children) (row_by source_view after)
          (row_by source_view before) _ (takes_by source_view before after s c.in-Some.ensures.steps) (sym c.is_left.ensures ∙ fails) c.loop-statement.invariant.so_far;
    }

pub loop-statement-preserved : goal.loop-statement-preserved
loop-statement-preserved c =
    let before = c.loop-statement.statement-iterator in
    let after = c.next.new.self in
    let s = c.in-Some.statement in
    let holds : c.is_left.result ≡ true = first_of (search rules, cc) in
    let number : c.number_stated-number.result ≡ number_by c.args.kind (row_by source_view s.children) =
    c.number_stated-number.ensures ∙ ap (λ n. number_by c.args.kind (row_by source_view n)) c.children.ensures in
    record {
      more = tt;
      ends = tt;
      so_far = next_naming (λ s inner. is_restricting (naming_text c.args.kind) s && is_restriction_kept (kept_view c.args.kept) c.args.outer.now s inner)
          (number_by c.args.kind) c.loop-statement.namings.items _ c.in_ok-named.named (label_by source_view s) (row_by source_view s.children) (row_by source_view after)
          (row_by source_view before) _ (takes_by source_view before after s c.in-Some.ensures.steps) (sym c.is_left.ensures ∙ holds) (search rules)
          (c.in_ok-named.ensures ∙ ap (λ m. record { name = argument_in (label_by source_view s); number = m }) number) c.loop-statement.invariant.so_far;
    }

pub returns : goal.returns
returns c =
    let before = c.loop-statement.statement-iterator in
    all_namings (λ s inner. is_restricting (naming_text c.args.kind) s && is_restriction_kept (kept_view c.args.kept) c.args.outer.now s inner)
    (number_by c.args.kind) c.loop-statement.namings.items (row_by source_view before) _
    (takes_none_by source_view before c.next.new.self c.in-None.ensures.steps).0 c.loop-statement.invariant.so_far
