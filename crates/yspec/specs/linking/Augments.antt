-- Augments: nodes that are added below others, those of other modules too (RFC 7950, 7.17).
use Rattle.std.specs.Prelude.{ℕ, zero, suc, ◌+◌, ◌&&◌, Bool, true, false, not, List, [], ◌∷◌, ◌++◌, map, length, Option, Some, None, is_some, option_map, unwrap_or, if◌then◌else◌}
use Rattle.std.specs.List.{flat_map}
use Rattle.std.specs.Option.{option_map_or}
use Rattle.yspec.specs.Forest.{Forest, end, node, join, size}
use Rattle.yspec.specs.schema.Breaks.{Break, broken}
use Rattle.yspec.specs.linking.Keyword.{Keyword}
use Rattle.yspec.specs.linking.Keyword as word
use Rattle.yspec.specs.linking.Arguments.{absolute_path_of}
use Rattle.yspec.specs.linking.Source.{Source, is_source_of, argument_in, first_with}
use Rattle.yspec.specs.linking.Prefixes.{NodeName, node_name}
use Rattle.yspec.specs.linking.Parts.{Part, within}
use Rattle.yspec.specs.linking.Expansion.{laid, groupings_of, expanded, expanded_parts, part_at, changed_at, unfit_in, unfit_for}

-- ---- what is done in turn

module _ {A : Type 0} where
  -- the first of a list that passes a test, and the others
  abbrev pub first_that : (A → Bool) → List A → Option (A × List A)
  first_that test [] = None
  first_that test (a ∷ others) =
      if test a then Some (a, others) else option_map (λ found. (found.0, a ∷ found.1)) (first_that test others)

module _ {S A : Type 0} where
  abbrev pub done_first : (A → S → S) → (S → List A → S × List A) → S → List A → Option (A × List A) → S × List A
  done_first apply more state waiting None = (state, waiting)
  done_first apply more state waiting (Some found) = more (apply found.0 state) found.1

  -- Always the first that is ready by then, until none is, so many times at most: what comes of it, and what still waits.
  unfoldable pub in_turn : (S → A → Bool) → (A → S → S) → ℕ → S → List A → S × List A
  in_turn ready apply zero state waiting = (state, waiting)
  in_turn ready apply (suc times) state waiting =
      done_first apply (in_turn ready apply times) state waiting (first_that (ready state) waiting)

-- ---- augments

-- an `augment` statement with what it states
pub record Augment : Type 0 where
  pub source : Source
  pub given : Forest Source

-- those of a row of statements, and those of all modules, in order
abbrev pub augments_in : Forest Source → List Augment
augments_in end = []
augments_in (node s given after) = if is_source_of word.augment_word s
    then record { source = s; given = given } ∷ augments_in after else augments_in after

abbrev pub augments_of : Forest Source → List Augment
augments_of end = []
augments_of (node s below after) = augments_in below ++ augments_of after

-- The path to its target; a name without a prefix is of its own module.
abbrev pub target_steps : Forest Source → Augment → List NodeName
target_steps modules a =
    map (node_name modules a.source.home a.source.home) (unwrap_or (absolute_path_of (argument_in a.source)) [])

-- the nodes that it adds, which belong to its module
abbrev pub added_nodes : Forest Source → Augment → Forest Part
added_nodes modules a = expanded modules (groupings_of modules) a.source.home (laid a.given)

-- how many nodes some of them add
abbrev pub sizes_added : Forest Source → List Augment → ℕ
sizes_added modules [] = 0
sizes_added modules (a ∷ others) = size (added_nodes modules a) + sizes_added modules others

-- ---- its target

abbrev pub may_be_augmented : Keyword → Bool
may_be_augmented word.container_word = true
may_be_augmented word.list_word = true
may_be_augmented word.choice_word = true
may_be_augmented word.case_word = true
may_be_augmented _ = false

-- a `uses` can't stand in a choice, nor a case elsewhere
abbrev pub kept_out : Part → Keyword
kept_out p = if is_source_of word.choice_word p.source then word.uses_word else word.case_word

abbrev pub may_take : Part → Forest Source → Bool
may_take p given = may_be_augmented p.source.keyword && not (is_some (first_with (kept_out p) given))

-- whether there is a target among some nodes that may take all that an augment adds
abbrev pub is_ready : Forest Source → Forest Part → Augment → Bool
is_ready modules nodes a = option_map_or (λ p. may_take p a.given) (part_at (target_steps modules a) nodes) false

-- ---- what it adds

-- the nodes of a row, told by which augment they came
abbrev pub marked : ℕ → Forest Part → Forest Part
marked number end = end
marked number (node p below after) = node (record p { added_by = Some number }) below (marked number after)

-- It comes last below the target; in a choice single nodes stand for cases.
abbrev pub added_below : ℕ → Forest Part → Part → Forest Part → Forest Part → Forest Part
added_below number added p below after = node p (join below (marked number (within p.source added))) after

abbrev pub applied : Forest Source → Augment → Forest Part → Forest Part
applied modules a nodes =
    changed_at (target_steps modules a) (added_below a.source.number (added_nodes modules a)) nodes

-- The nodes of a set of modules with all augments that find a target, always the first that does by then; and the augments
-- that are left.
abbrev pub augmented : Forest Source → Forest Part × List Augment
augmented modules = let augments = augments_of modules in
    in_turn (is_ready modules) (applied modules) (length augments) (expanded_parts modules) augments

-- ---- C14: those that are left, and refines in what augments add that aren't fit

abbrev pub left_breaks : Forest Source → List Break
left_breaks modules = flat_map (λ a. broken 14 a.source.home a.source.statement.line) (augmented modules).1

abbrev pub body_breaks : Forest Source → Augment → List Break
body_breaks modules a =
    unfit_in (unfit_for modules (groupings_of modules) a.source.home (suc (size modules))) (laid a.given)

abbrev pub augment_breaks : Forest Source → List Break
augment_breaks modules = flat_map (body_breaks modules) (augments_of modules) ++ left_breaks modules
