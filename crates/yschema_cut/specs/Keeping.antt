-- Tables without the nodes that don't stand.
use Rattle.std.specs.Prelude.{ℕ, zero, suc, ◌+◌, ◌-◌, ◌==◌, Bool, List, [], ◌∷◌, option_map, if◌then◌else◌}
use Rattle.yspec.specs.Forest.{Forest, end, node}
use Rattle.yspec.specs.linking.Parts.{Part}
use Rattle.yspec_wide.specs.Standing.{standing_by, with_default_on}
use Rattle.ybase_preorder.specs.Layout.{Place}
use Rattle.yschema_cut.specs.Totals.{at}

module _ {L : Type 0} (totals : List ℕ) where
  -- a node where it comes to stand
  abbrev pub moved : ℕ → Place L → Place L
  moved number p = record {
    parent = option_map (λ above. at totals 0 - at totals above) p.parent;
    label = p.label;
    below = at totals (number + 1) - at totals (number + 1 + p.below);
  }

  -- those from a number on that stand, the next so many being cut with one above them
  abbrev pub kept_from : ℕ → ℕ → List (Place L) → List (Place L)
  kept_from number skipped [] = []
  kept_from number (suc skipped) (p ∷ ps) = kept_from (number + 1) skipped ps
  kept_from number zero (p ∷ ps) = if at totals number == at totals (number + 1 + p.below)
      then kept_from (number + 1) p.below ps else moved number p ∷ kept_from (number + 1) 0 ps

module _ (holds : Part → Bool) where
  -- a forest with its default cases that don't stand as no defaults
  abbrev pub with_defaults_on : Forest Part → Forest Part
  with_defaults_on end = end
  with_defaults_on (node p below after) =
      node (with_default_on p below (standing_by holds below)) (with_defaults_on below) (with_defaults_on after)
