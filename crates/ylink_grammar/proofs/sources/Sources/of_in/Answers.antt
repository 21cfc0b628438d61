use Rattle.std.proofs.Common.{◌+◌, ◌++◌, false, None, length, drop, arith, ap, ◌∙◌}
use Rattle.std.proofs.lemmas.List.{at_drop_all}
use Rattle.yspec.specs.Forest.{node, end}
use Rattle.yspec_wide.specs.Sources.{kept_in, sources_in}
use Rattle.ytext.specs.View.{view, modules_view}
use Rattle.ybase_preorder.specs.View.{slots_in}
use Rattle.ybase_preorder.proofs.LayoutLemmas.{shown}
use Rattle.ylink_grammar.specs.LanguageView.{language_view}
use Rattle.ylink_grammar.specs.SourceView.{source_view, seen_rows, whole_rows, listed}
use Rattle.ylink_grammar.proofs.SourceLemmas.{next_module, all_modules, modules_view_at}
use Rattle.ylink_grammar.proofs.WholeLemmas.{then_more, no_more}
use Rattle.ylink_grammar.proofs.sources.Sources.of_in.Goals as goal

pub loop-home-preserved : goal.loop-home-preserved
loop-home-preserved c =
    let ms = c.args.modules.now in
    let i = c.loop-home.home in
    let m = c.index-modules-home.result in (
      next_module (language_view c.args.language.now) ms i m c.loop-home.table c.add_statement.new.table _
          (omega arith) c.index-modules-home.is (c.in_ok-add_statement.ensures.listed
          ∙ ap (λ may. seen_rows c.loop-home.table ++ listed None may i (length (slots_in c.loop-home.table))
          (kept_in (language_view c.args.language.now) may false (node (view m.top).0 (view m.top).1 end))) c.may_restrict-may.ensures)
          c.loop-home.invariant.0,
      then_more (language_view c.args.language.now) (whole_rows c.loop-home.table) (whole_rows c.add_statement.new.table) _ (view m.top) (modules_view (drop i ms)) (modules_view (drop (i + 1) ms))
          (modules_view_at ms i m (omega arith) c.index-modules-home.is) c.in_ok-add_statement.ensures.whole c.loop-home.invariant.1,
    )

pub invariant_of-result : goal.invariant_of-result
invariant_of-result c = record {
  laid_out =
      (shown source_view (sources_in (language_view c.args.language.now) (modules_view c.args.modules.now)) (slots_in c.loop-home.table)
      (all_modules (language_view c.args.language.now) c.args.modules.now c.loop-home.home c.loop-home.table _ (omega arith) c.loop-home.invariant.0)).1;
}

pub returns-clause-numbered : goal.returns-clause-numbered
returns-clause-numbered c =
    (shown source_view (sources_in (language_view c.args.language.now) (modules_view c.args.modules.now)) (slots_in c.loop-home.table)
    (all_modules (language_view c.args.language.now) c.args.modules.now c.loop-home.home c.loop-home.table _ (omega arith) c.loop-home.invariant.0)).0

pub returns-clause-whole : goal.returns-clause-whole
returns-clause-whole c =
    let ms = c.args.modules.now in
    let i = c.loop-home.home in
    no_more (language_view c.args.language.now) (whole_rows c.loop-home.table) _ (modules_view (drop i ms)) (at_drop_all modules_view ms i (omega arith)) c.loop-home.invariant.1
