use Rattle.std.proofs.Common.{◌≡◌, length, IsUtf8}
use Rattle.yspec.specs.edit.EditText.{all_or_none}
use Rattle.yspec.specs.linking.Arguments.{name_of, words_between}
use Rattle.ylink_arguments.specs.NameView.{names_view}
use Rattle.ylink_arguments.proofs.ListLemmas.{with_more}
use Rattle.ylink_arguments.proofs.name.key_names.Given as goal

abbrev pub invariant-loop-word : goal.invariant-loop-word
invariant-loop-word l = (with_more (names_view l.key.items) (all_or_none name_of (words_between l.rest))
    ≡ all_or_none name_of (words_between l.fn.text)) × IsUtf8 l.rest

abbrev pub decreases-loop-word : goal.decreases-loop-word
decreases-loop-word l = length l.rest
