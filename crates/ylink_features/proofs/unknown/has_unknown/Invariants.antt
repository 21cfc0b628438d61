use Rattle.std.proofs.Common.{◌≡◌, drop}
use Rattle.std.specs.List.{list_any}
use Rattle.yspec.specs.linking.Prefixes.{is_unknown_prefix}
use Rattle.ylink_arguments.specs.NameView.{names_view}
use Rattle.ylink_names.specs.PrefixView.{IsOf}
use Rattle.ylink_features.proofs.unknown.has_unknown.Given as goal

abbrev pub invariant-loop-name : goal.invariant-loop-name
invariant-loop-name l = (modules : _) → IsOf l.prefixes modules
    → list_any (is_unknown_prefix modules l.home) (names_view (drop l.name-index l.names)) ≡ list_any (is_unknown_prefix modules l.home) (names_view l.names)
