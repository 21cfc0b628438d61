use Rattle.std.proofs.Common.{◌∷◌, [], ap, ◌∙◌, arith}
use Rattle.std.specs.List.{flat_map}
use Rattle.yspec.specs.Forest.{size}
use Rattle.yspec.specs.linking.Scopes.{placed}
use Rattle.yspec.specs.schema.Breaks.{broken, least_from, when}
use Rattle.yspec_wide.specs.VersionBreaks.{version_import_break}
use Rattle.ytext.specs.View.{view}
use Rattle.ybase_preorder.specs.View.{row_by, label_by}
use Rattle.ybase_preorder.proofs.RowLemmas.{takes_by, takes_none_by}
use Rattle.ylink_grammar.specs.BreakView.{break_view, seen}
use Rattle.ylink_grammar.specs.SourceView.{source_view}
use Rattle.ylink_grammar.specs.declared.source.Source.{Source}
use Rattle.ylink_features.proofs.WalkedLemmas.{next_walked, all_walked}
use Rattle.ylink_features.proofs.importing.+judge_imports.Goals as goal

pub loop-statement-preserved : goal.loop-statement-preserved
loop-statement-preserved t c =
    let taken = c.in-Some.ensures.steps in
    let before = c.loop-statement.statement-iterator in
    let after = row_by source_view c.next.new.self in
    let node = c.in-Some.statement in
    let s = label_by source_view node in
    let below = row_by source_view node.children in
    let sized = ap size taken.0 in
    let told = seen c.loop-statement.told in
    let own = seen c.least_when-own.result in
    record {
      more = tt;
      ends = tt;
      smaller = omega (arith, sized, c.loop-statement.invariant.smaller);
      so_far = λ language modules ancestors are named.
          let breaks = version_import_break language modules in
          next_walked breaks ancestors s below after (row_by source_view before) told own (seen c.judge_imports-told.result) _
          (takes_by source_view before c.next.new.self node taken)
          (c.least_when-own.ensures ∙ (ap (λ b. least_from told (when c.is_import_of_later-is_later.result (break_view b ∷ []))) c.broken-rule.ensures
          ∙ (ap (λ (l : Source). least_from told (when c.is_import_of_later-is_later.result (broken 5 l.home (view l.statement.now).0.line))) c.label-source.ensures
          ∙ ap (λ b. least_from told (when b (broken 5 s.home s.statement.line))) (c.is_import_of_later-is_later.ensures language modules are named))))
          (c.judge_imports-told.ensures language modules ((s, below) ∷ ancestors) are named
          ∙ ap (λ n. least_from own (flat_map breaks (placed ((s, below) ∷ ancestors) (row_by source_view n)))) c.children.ensures)
          (c.loop-statement.invariant.so_far language modules ancestors are named);
    }

pub returns : goal.returns
returns t c language modules ancestors are named =
    let before = c.loop-statement.statement-iterator in
    let ended = (takes_none_by source_view before c.next.new.self c.in-None.ensures.steps).0 in
    all_walked (version_import_break language modules) ancestors (row_by source_view before) (seen c.loop-statement.told) _ ended
    (c.loop-statement.invariant.so_far language modules ancestors are named)
