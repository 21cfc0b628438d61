-- Patterns among the statements of a set.
use Rattle.std.proofs.Common.{◌≡◌, List, [], ◌∷◌, ◌++◌, refl, sym, ap, ap₂, ◌∙◌}
use Rattle.std.specs.List.{flat_map}
use Rattle.std.proofs.lemmas.Grind.{flat_map-append}
use Rattle.yspec.proofs.LinkingProofs.PlacedLemmas.{flat_placed}
use Rattle.yspec.specs.Forest.{Forest, end, node, preorder}
use Rattle.yspec.specs.linking.Scopes.{Placed, placed}
use Rattle.yspec.specs.linking.Source.{Source}
use Rattle.yspec_wide.specs.Language.{Language}
use Rattle.yspec_wide.specs.Patterns.{pattern_breaks}
use Rattle.ylink.specs.PatternView.{unspelled_break}

pub unspelled_breaks : (language : Language) (modules : Forest Source) → flat_map (unspelled_break language) (preorder modules) ≡ pattern_breaks language modules
unspelled_breaks language modules = sym (flat_placed (unspelled_break language) [] modules)
