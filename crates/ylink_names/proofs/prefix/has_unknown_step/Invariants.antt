use Rattle.std.proofs.Common.{◌≡◌, drop, map}
use Rattle.std.specs.List.{list_any}
use Rattle.yspec.specs.linking.Prefixes.{is_unknown_prefix}
use Rattle.ylink_arguments.specs.NameView.{names_view}
use Rattle.ylink_names.specs.PrefixView.{IsOf}
use Rattle.ylink_names.proofs.prefix.has_unknown_step.Given as goal

abbrev pub invariant-loop-path : goal.invariant-loop-path
invariant-loop-path l = (modules : _) → IsOf l.prefixes modules
    → list_any (list_any (is_unknown_prefix modules l.home)) (map (λ p. names_view p.items) (drop l.path-index l.paths))
    ≡ list_any (list_any (is_unknown_prefix modules l.home)) (map (λ p. names_view p.items) l.paths)
