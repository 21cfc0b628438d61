-- Default cases that don't stand, by the numbers of nodes.
use Rattle.std.specs.Prelude.{ℕ, zero, suc, ◌+◌, ◌&&◌, ◌==◌, ◌++◌, Bool, true, false, not, List, [], ◌∷◌, take, drop, get_or, if◌then◌else◌}
use Rattle.std.specs.List.{list_any}
use Rattle.std.specs.Option.{option_map_or}
use Rattle.yspec.specs.Forest.{Forest, end, node, row, size}
use Rattle.yspec.specs.text.Text.{Text, is_text}
use Rattle.yspec.specs.linking.Source.{Source, is_source_of, argument_in, argument_with}
use Rattle.yspec.specs.linking.Keyword as word
use Rattle.yspec.specs.linking.Parts.{Part}
use Rattle.yspec_wide.specs.Standing.{is_default_off, without_default, standing_by}
use Rattle.ybase_preorder.specs.Layout.{Place, forest_of, numbered_by}
use Rattle.ybase_preorder.specs.declared.slot.Slot.{Slot}
use Rattle.yschema_expand.specs.NumberedView.{Numbered}

abbrev pub counted_by : {L : Type 0} → (ℕ → L → Part) → ℕ → L → Numbered Part
counted_by see number l = record { number = number; label = see number l }

-- whether the node of a number stands where the one above it does
abbrev pub stands_in : List Bool → ℕ → Bool
stands_in standing number = get_or standing number false

-- whether a node has a name, and belongs to a module
abbrev pub is_named : ℕ → Text → Part → Bool
is_named owner name p = p.owner == owner && is_text (argument_in p.source) name

-- whether some nodes of a row pass a test, and none of those that stand
abbrev pub is_lost : List Bool → (Part → Bool) → Forest (Numbered Part) → Bool
is_lost standing test f = list_any (λ c. test c.label) (row f)
    && not (list_any (λ c. test c.label && stands_in standing c.number) (row f))

-- whether the default of a choice is among its cases, and not among those that stand
abbrev pub is_off : List Bool → Part → Forest (Numbered Part) → Bool
is_off standing p cases = is_source_of word.choice_word p.source
    && option_map_or (λ name. is_lost standing (is_named p.owner name) cases) (argument_with word.default_word p.own) false

module _ {L : Type 0} (see : ℕ → L → Part) (standing : List Bool) where
  -- of each node of a table, from a number on
  abbrev pub off_in : ℕ → List (Slot L) → List Bool
  off_in number [] = []
  off_in number (r ∷ slots) =
      is_off standing (see number r.label) (numbered_by (counted_by see) (number + 1) (forest_of (take r.below slots)))
      ∷ off_in (number + 1) slots

-- nodes of which some lose their default
abbrev pub with_off : List Bool → List (Place Part) → List (Place Part)
with_off off [] = []
with_off [] (p ∷ ps) = p ∷ ps
with_off (b ∷ off) (p ∷ ps) =
    (if b then record p { label = record p.label { own = without_default p.label.own } } else p) ∷ with_off off ps

module _ (holds : Part → Bool) where
  -- of each node of a forest
  abbrev pub off_of : Forest Part → List Bool
  off_of end = []
  off_of (node p below after) = is_default_off p below (standing_by holds below) ∷ (off_of below ++ off_of after)

-- the same from a number on
abbrev pub with_off_from : ℕ → List Bool → List (Place Part) → List (Place Part)
with_off_from zero off ps = with_off off ps
with_off_from (suc number) off [] = []
with_off_from (suc number) off (p ∷ ps) = p ∷ with_off_from number off ps

-- a part that loses its default
abbrev pub without_default_part : Part → Part
without_default_part p = record p { own = without_default p.own }
