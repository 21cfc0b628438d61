use Rattle.std.proofs.Common.{◌≡◌, length, IsUtf8}
use Rattle.std.specs.List.{slice_split}
use Rattle.yspec.specs.edit.EditText.{all_or_none}
use Rattle.yspec.specs.linking.Arguments.{name_of, is_slash, trimmed}
use Rattle.ylink_arguments.specs.NameView.{names_view}
use Rattle.ylink_arguments.proofs.ListLemmas.{with_more}
use Rattle.ylink_arguments.proofs.name.spaced_path.Given as goal

abbrev pub invariant-loop-step : goal.invariant-loop-step
invariant-loop-step l = (with_more (names_view l.path.items) (all_or_none (λ step. name_of (trimmed step)) (slice_split is_slash l.rest))
    ≡ all_or_none (λ step. name_of (trimmed step)) (slice_split is_slash l.fn.text)) × IsUtf8 l.rest

abbrev pub decreases-loop-step : goal.decreases-loop-step
decreases-loop-step l = length l.rest
