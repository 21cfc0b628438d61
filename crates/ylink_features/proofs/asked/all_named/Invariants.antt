use Rattle.std.proofs.Common.{◌≡◌, drop}
use Rattle.ylink_arguments.specs.NameView.{names_view}
use Rattle.ylink_names.specs.PrefixView.{IsOf}
use Rattle.ylink_features.specs.AskedView as spec
use Rattle.ylink_features.specs.FeatureView.{AreFeaturesOf}
use Rattle.ylink_features.proofs.AskedLemmas.{left_named}
use Rattle.ylink_features.proofs.asked.all_named.Given as goal

abbrev pub invariant-loop-name : goal.invariant-loop-name
invariant-loop-name l = (language : _) (modules : _) → IsOf l.prefixes modules → AreFeaturesOf l.features language modules
    → left_named language modules l.home l.numbers.items (drop l.name-index l.names) ≡ spec.all_named language modules l.home (names_view l.names)
