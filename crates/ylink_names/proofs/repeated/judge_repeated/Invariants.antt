use Rattle.std.proofs.Common.{◌≡◌, List, [], drop, map}
use Rattle.yspec.specs.text.Text.{Text}
use Rattle.yspec.specs.linking.Imports.{repeated}
use Rattle.yspec.specs.schema.Breaks.{least_from}
use Rattle.ybase_preorder.specs.View.{label_by}
use Rattle.ylink_grammar.specs.BreakView.{seen}
use Rattle.ylink_grammar.specs.SourceView.{source_view}
use Rattle.ylink_names.proofs.RepeatedLemmas.{AreHeld}
use Rattle.ylink_names.proofs.repeated.judge_repeated.Given as goal

abbrev pub invariant-loop-statement : goal.invariant-loop-statement
invariant-loop-statement l = (before : List Text) × AreHeld l.names before
    × (least_from (seen l.told) (repeated before (map (label_by source_view) (drop l.statement-index l.statements)))
    ≡ least_from (seen l.fn.so_far) (repeated [] (map (label_by source_view) l.statements)))
