use Rattle.std.proofs.Common.{◌≡◌, drop, map, is_some, string_bytes}
use Rattle.std.specs.Prelude.{◌||◌}
use Rattle.std.specs.List.{list_any}
use Rattle.yspec.specs.text.Text.{Text, is_text}
use Rattle.ylink_names.specs.FirstNamedView.{named}
use Rattle.ylink_standing.proofs.chosen.names_of.Given as goal

abbrev pub invariant-loop-feature : goal.invariant-loop-feature
invariant-loop-feature l = (name : Text) → (is_some (named l.names name) || list_any (is_text name) (map string_bytes (drop l.feature-index l.features)))
    ≡ list_any (is_text name) (map string_bytes l.features)
