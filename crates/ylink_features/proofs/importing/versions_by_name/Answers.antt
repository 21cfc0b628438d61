use Rattle.std.proofs.Common.{ap, option_map, ◌∙◌}
use Rattle.yspec_wide.specs.Language.{version_of}
use Rattle.ybase_preorder.specs.View.{row_by, label_by}
use Rattle.ybase_preorder.proofs.RowLemmas.{takes_by, takes_none_by}
use Rattle.ylink_conditions.specs.View.{version_view}
use Rattle.ylink_grammar.specs.LinkView.{view}
use Rattle.ylink_grammar.specs.SourceView.{source_view}
use Rattle.ylink_grammar.specs.declared.source.Source.{Source}
use Rattle.ylink_names.specs.FirstNamedView.{named}
use Rattle.ylink_names.proofs.FirstNamedLemmas.{first_ended}
use Rattle.ylink_features.specs.VersionView.{version_called}
use Rattle.ylink_features.proofs.ImportingLemmas.{next_called}
use Rattle.ylink_features.proofs.importing.versions_by_name.Goals as goal

pub loop-top-preserved : goal.loop-top-preserved
loop-top-preserved c =
    let before = c.loop-top.top-iterator in
    let after = c.next.new.self in
    let top = c.in-Some.top in
    let modules = view c.args.sources.now in
    record {
      more = tt;
      ends = tt;
      so_far = λ language are name. next_called version_view (version_of language modules) (named c.loop-top.by_name name) (named c.add.new.self name)
          c.version_of.result c.argument_of.result.now name (label_by source_view top) (row_by source_view top.children) (row_by source_view after) (row_by source_view before) _
          (takes_by source_view before after top c.in-Some.ensures.steps) (c.in_ok-add.ensures name) c.argument_of.ensures
          (c.version_of.ensures language modules are ∙ ap (λ (s : Source). version_of language modules s.home) c.label.ensures)
          (c.loop-top.invariant.so_far language are name);
    }

pub returns : goal.returns
returns c language are name =
    let before = c.loop-top.top-iterator in
    let modules = view c.args.sources.now in
    first_ended (option_map version_view (named c.loop-top.by_name name)) (version_called language modules (row_by source_view before) name) _
    (ap (λ f. version_called language modules f name) (takes_none_by source_view before c.next.new.self c.in-None.ensures.steps).0)
    (c.loop-top.invariant.so_far language are name)
