use Rattle.std.proofs.Common.{ap, ◌∙◌}
use Rattle.yspec.specs.Forest.{row}
use Rattle.ybase_preorder.specs.View.{row_by, label_by}
use Rattle.ybase_preorder.proofs.RowLemmas.{takes_by, takes_none_by}
use Rattle.ylink_grammar.specs.SourceView.{source_view}
use Rattle.ylink_names.specs.DefinitionView.{first_in, first_number, kind_word}
use Rattle.ylink_names.specs.MeaningView.{top_number}
use Rattle.ylink_names.proofs.PlaceLemmas.{next_place, all_places}
use Rattle.ylink_names.proofs.meanings.tops_of.Goals as goal

pub loop-module-preserved : goal.loop-module-preserved
loop-module-preserved c =
    let before = c.loop-module.module-iterator in
    let after = c.next.new.self in
    let m = c.in-Some.module in
    record {
      more = tt;
      ends = tt;
      tops = λ kind name. next_place (λ d. first_in kind d name) (top_number kind name) c.loop-module.tops.items c.push.new.self.items c.in_ok-of.field-0
          (label_by source_view m) (row_by source_view m.children) (row_by source_view after) (row_by source_view before) _
          (takes_by source_view before after m c.in-Some.ensures.steps) c.in_ok-push.ensures.items
          (c.in_ok-of.ensures kind name ∙ ap (λ n. first_number (kind_word kind) name (row (row_by source_view n))) c.children.ensures)
          (c.loop-module.invariant.tops kind name);
    }

pub returns : goal.returns
returns c kind name =
    let before = c.loop-module.module-iterator in
    all_places (λ d. first_in kind d name) (top_number kind name) c.loop-module.tops.items (row_by source_view before) _
    (takes_none_by source_view before c.next.new.self c.in-None.ensures.steps).0 (c.loop-module.invariant.tops kind name)
