use Rattle.std.proofs.Common.{◌≡◌, length, IsUtf8}
use Rattle.std.specs.List.{slice_split}
use Rattle.yspec.specs.edit.EditText.{all_or_none}
use Rattle.yspec.specs.linking.Arguments.{span_of, is_bar}
use Rattle.ylink_arguments.proofs.ListLemmas.{with_more}
use Rattle.ylink_arguments.proofs.span.spans.Given as goal

abbrev pub invariant-loop-part : goal.invariant-loop-part
invariant-loop-part l = (with_more l.spans.items (all_or_none span_of (slice_split is_bar l.rest))
    ≡ all_or_none span_of (slice_split is_bar l.fn.text)) × IsUtf8 l.rest

abbrev pub decreases-loop-part : goal.decreases-loop-part
decreases-loop-part l = length l.rest
