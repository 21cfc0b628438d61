-- Conditions among the statements of a set.
use Rattle.std.proofs.Common.{◌≡◌, List, [], ◌∷◌, ◌++◌, refl, sym, ap, ap₂, ◌∙◌}
use Rattle.std.specs.List.{flat_map}
use Rattle.std.proofs.lemmas.Grind.{flat_map-append}
use Rattle.yspec.proofs.LinkingProofs.PlacedLemmas.{flat_placed}
use Rattle.yspec.specs.Forest.{Forest, end, node, preorder}
use Rattle.yspec.specs.linking.Scopes.{Placed, placed}
use Rattle.yspec.specs.linking.Source.{Source}
use Rattle.yspec_wide.specs.Features.{condition_prefix_breaks}
use Rattle.yspec_wide.specs.Language.{Language}
use Rattle.ylink_features.specs.ConditionView.{unknown_break}

pub unknown_breaks : (language : Language) (modules : Forest Source)
    → flat_map (unknown_break language modules) (preorder modules) ≡ condition_prefix_breaks language modules
unknown_breaks language modules = sym (flat_placed (unknown_break language modules) [] modules)
