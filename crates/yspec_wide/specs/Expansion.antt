-- Groupings and augments with guards: the conditions of a `uses`, a refine or an `augment` are asked of each node that it brings or
-- changes, and its `when` too (RFC 7950, 7.13, 7.13.2, 7.17, 7.20.2 and 7.21.5). What operations take of refines and augments. An
-- `augment` below a `uses` adds nodes to those that this brings (7.13 and 7.17).
use Rattle.std.specs.Prelude.{ℕ, zero, suc, ◌&&◌, ◌||◌, Bool, not, false, List, [], ◌∷◌, ◌++◌, length, is_some, if◌then◌else◌}
use Rattle.std.specs.List.{list_all, list_any, flat_map}
use Rattle.std.specs.Option.{option_map_or}
use Rattle.yspec.specs.Forest.{Forest, end, node, row, join, size}
use Rattle.yspec.specs.schema.Breaks.{Break, broken, when}
use Rattle.yspec.specs.linking.Keyword.{Keyword}
use Rattle.yspec.specs.linking.Keyword as word
use Rattle.yspec.specs.linking.Source.{Source, is_source_of, first_with}
use Rattle.yspec.specs.linking.Parts.{Part, within}
use Rattle.yspec.specs.linking.Expansion.{Grouping, groupings_of, laid, row_used, is_refine, refine_steps, is_borne, part_at, changed_at, others, replaced, unfit_in}
use Rattle.yspec.specs.linking.Augments.{Augment, augments_in, augments_of, target_steps, may_be_augmented, kept_out, marked, in_turn}
use Rattle.yspec_wide.specs.Language.{Language, core, rfc, version_of, is_yang_1}
use Rattle.yspec_wide.specs.Sources.{is_guard, guard_row, without_guards, is_call, is_operation, is_operation_part, is_anything}

-- a statement that says something to people alone
abbrev pub is_remark : Source → Bool
is_remark s = is_source_of word.description_word s || is_source_of word.reference_word s

-- ---- `augment` below `uses`

-- those among what a `uses` states; the core has none there
abbrev pub inner_augments : Language → Forest Source → List Augment
inner_augments core own = []
inner_augments (rfc wide) own = augments_in own

-- What one adds comes last below its target; in a choice single nodes stand for cases.
abbrev pub put_below : Forest Part → Part → Forest Part → Forest Part → Forest Part
put_below added p below after = node p (join below (within p.source added)) after

module _ (language : Language) where
  -- ---- guards that nodes get

  -- the nodes of a row, each with the guards of a row of statements besides its own
  abbrev pub conditioned : Forest Source → Forest Part → Forest Part
  conditioned given end = end
  conditioned given (node p below after) =
      node (record p { own = join p.own (guard_row language given) }) below (conditioned given after)

  -- ---- refine

  -- every node of a document may bear a guard
  abbrev pub is_borne_in : Keyword → Forest Source → Source → Bool
  is_borne_in k given s = is_guard language s || is_borne k given s

  -- An operation, its `input` and its `output` bear no more than remarks; a node without a type is as a leaf, but has no default.
  abbrev pub may_bear_in : Part → Forest Source → Bool
  may_bear_in p given = if is_operation_part language p.source then list_all is_remark (row given)
      else (if is_anything language p.source && is_some (first_with word.default_word given) then false
      else list_all (is_borne_in p.source.keyword given) (row given))

  abbrev pub is_fit_in : Forest Source → ℕ → Source → Forest Source → Forest Part → Bool
  is_fit_in modules owner s given nodes =
      option_map_or (λ p. may_bear_in p given) (part_at (refine_steps modules owner s) nodes) false

  -- The guards of a refine come to those of its target; what else it gives takes the place of all of those kinds.
  abbrev pub overridden_in : Forest Source → Part → Forest Part → Forest Part → Forest Part
  overridden_in given p below after = node (record p { own = join (others (without_guards language given) p.own) given }) below after

  abbrev pub after_refine_in : Forest Source → ℕ → Source → Forest Source → Forest Part → Forest Part
  after_refine_in modules owner s given nodes = if is_refine s && is_fit_in modules owner s given nodes
      then changed_at (refine_steps modules owner s) (overridden_in given) nodes else nodes

  unfoldable pub refined_in : Forest Source → ℕ → Forest Source → Forest Part → Forest Part
  refined_in modules owner end nodes = nodes
  refined_in modules owner (node s given after) nodes =
      refined_in modules owner after (after_refine_in modules owner s given nodes)

  -- ---- what may take an augment

  -- In YANG 1 a choice has no choice for a case (RFC 6020, 7.9.2).
  abbrev pub is_choice_in_choice : Forest Source → Augment → Part → Bool
  is_choice_in_choice modules a p = is_yang_1 (version_of language modules a.source.home)
      && (is_source_of word.choice_word p.source && is_some (first_with word.choice_word a.given))

  -- Containers and lists take operations, and not those that are parts of operations themselves.
  abbrev pub takes_operations : Source → Bool
  takes_operations s = not (is_operation_part language s) && (is_source_of word.container_word s || is_source_of word.list_word s)

  -- An `rpc` or an `action` is no target, though its `input` and its `output` are.
  abbrev pub is_closed : Forest Source → Source → Bool
  is_closed given s = is_call language s || (list_any (is_operation language) (row given) && not (takes_operations s))

  abbrev pub may_take_in : Forest Source → Augment → Part → Bool
  may_take_in modules a p = (may_be_augmented p.source.keyword
      && (not (is_some (first_with (kept_out p) a.given)) && not (is_choice_in_choice modules a p))) && not (is_closed a.given p.source)

  -- ---- `augment` below `uses` (RFC 7950, 7.13 and 7.17): what comes of them

  -- what one adds for the module that uses, given what each `uses` stands for
  abbrev pub brought_by : (Part → Forest Part) → ℕ → Augment → Forest Part
  brought_by meant owner a = conditioned a.given (replaced meant owner (laid a.given))

  -- whether its path, as that of a refine, leads to a node among some that may take all that it adds
  abbrev pub is_fit_augment : Forest Source → ℕ → Forest Part → Augment → Bool
  is_fit_augment modules owner nodes a =
      option_map_or (may_take_in modules a) (part_at (refine_steps modules owner a.source) nodes) false

  -- it adds all of it there; one that isn't fit changes nothing
  abbrev pub after_augment : (Part → Forest Part) → Forest Source → ℕ → Augment → Forest Part → Forest Part
  after_augment meant modules owner a nodes = if is_fit_augment modules owner nodes a
      then changed_at (refine_steps modules owner a.source) (put_below (brought_by meant owner a)) nodes else nodes

  -- One after another, as they stand in the text: a later one may lead to what an earlier one adds.
  unfoldable pub extended_by : (Part → Forest Part) → Forest Source → ℕ → List Augment → Forest Part → Forest Part
  extended_by meant modules owner [] nodes = nodes
  extended_by meant modules owner (a ∷ others) nodes =
      extended_by meant modules owner others (after_augment meant modules owner a nodes)

  -- ---- `uses`

  -- the nodes of its grouping, refined, given what each `uses` stands for
  abbrev pub refined_for : (Part → Forest Part) → Forest Source → List Grouping → ℕ → Part → Forest Part
  refined_for meant modules groupings owner u =
      refined_in modules owner u.own (replaced meant owner (row_used modules groupings u))

  -- What a `uses` stands for, by way of so many others at most: those in its grouping, and those in its augments, which come behind
  -- its refines.
  unfoldable pub stands_for_in : Forest Source → List Grouping → ℕ → ℕ → Part → Forest Part
  stands_for_in modules groupings owner zero u = end
  stands_for_in modules groupings owner (suc depth) u = let meant = stands_for_in modules groupings owner depth in
      conditioned u.own (extended_by meant modules owner (inner_augments language u.own) (refined_for meant modules groupings owner u))

  abbrev pub expanded_in : Forest Source → List Grouping → ℕ → Forest Part → Forest Part
  expanded_in modules groupings owner nodes =
      replaced (stands_for_in modules groupings owner (suc (size modules))) owner nodes

  abbrev pub expanded_in_from : Forest Source → List Grouping → Forest Source → Forest Part
  expanded_in_from modules groupings end = end
  expanded_in_from modules groupings (node s below after) =
      join (expanded_in modules groupings s.home (laid below)) (expanded_in_from modules groupings after)

  abbrev pub expanded_parts_in : Forest Source → Forest Part
  expanded_parts_in modules = expanded_in_from modules (groupings_of modules) modules

  -- ---- C14: refines, and augments below a `uses`, that aren't fit

  abbrev pub refine_breaks_in : Forest Source → ℕ → Forest Source → Forest Part → List Break
  refine_breaks_in modules owner end nodes = []
  refine_breaks_in modules owner (node s given after) nodes =
      when (is_refine s && not (is_fit_in modules owner s given nodes)) (broken 14 s.home s.statement.line)
      ++ refine_breaks_in modules owner after (after_refine_in modules owner s given nodes)

  -- of augments, and of what they add, given what is told of each `uses`
  unfoldable pub inner_breaks : (Part → List Break) → (Part → Forest Part) → Forest Source → ℕ → List Augment → Forest Part → List Break
  inner_breaks told meant modules owner [] nodes = []
  inner_breaks told meant modules owner (a ∷ others) nodes = unfit_in told (laid a.given)
      ++ (when (not (is_fit_augment modules owner nodes a)) (broken 14 a.source.home a.source.statement.line)
      ++ inner_breaks told meant modules owner others (after_augment meant modules owner a nodes))

  unfoldable pub unfit_for_in : Forest Source → List Grouping → ℕ → ℕ → Part → List Break
  unfit_for_in modules groupings owner zero u = []
  unfit_for_in modules groupings owner (suc depth) u =
      let told = unfit_for_in modules groupings owner depth in let meant = stands_for_in modules groupings owner depth in
      unfit_in told (row_used modules groupings u)
      ++ (inner_breaks told meant modules owner (inner_augments language u.own) (refined_for meant modules groupings owner u)
      ++ refine_breaks_in modules owner u.own (replaced meant owner (row_used modules groupings u)))

  abbrev pub unfit_in_from : Forest Source → List Grouping → Forest Source → List Break
  unfit_in_from modules groupings end = []
  unfit_in_from modules groupings (node s below after) =
      unfit_in (unfit_for_in modules groupings s.home (suc (size modules))) (laid below)
      ++ unfit_in_from modules groupings after

  abbrev pub unfit_breaks_in : Forest Source → List Break
  unfit_breaks_in modules = unfit_in_from modules (groupings_of modules) modules

  -- ---- augments

  abbrev pub added_nodes_in : Forest Source → Augment → Forest Part
  added_nodes_in modules a = conditioned a.given (expanded_in modules (groupings_of modules) a.source.home (laid a.given))

  abbrev pub is_ready_in : Forest Source → Forest Part → Augment → Bool
  is_ready_in modules nodes a = option_map_or (may_take_in modules a) (part_at (target_steps modules a) nodes) false

  -- It comes last below the target; in a choice single nodes stand for cases.
  abbrev pub added_below_in : Augment → Forest Part → Part → Forest Part → Forest Part → Forest Part
  added_below_in a added p below after = node p (join below (marked a.source.number (within p.source added))) after

  abbrev pub applied_in : Forest Source → Augment → Forest Part → Forest Part
  applied_in modules a nodes = changed_at (target_steps modules a) (added_below_in a (added_nodes_in modules a)) nodes

  abbrev pub augmented_in : Forest Source → Forest Part × List Augment
  augmented_in modules = let augments = augments_of modules in
      in_turn (is_ready_in modules) (applied_in modules) (length augments) (expanded_parts_in modules) augments

  abbrev pub left_breaks_in : Forest Source → List Break
  left_breaks_in modules = flat_map (λ a. broken 14 a.source.home a.source.statement.line) (augmented_in modules).1

  abbrev pub body_breaks_in : Forest Source → Augment → List Break
  body_breaks_in modules a =
      unfit_in (unfit_for_in modules (groupings_of modules) a.source.home (suc (size modules))) (laid a.given)

  abbrev pub augment_breaks_in : Forest Source → List Break
  augment_breaks_in modules = flat_map (body_breaks_in modules) (augments_of modules) ++ left_breaks_in modules
