-- Under the core groupings and augments are expanded as without a language, and nothing is cut.
use Rattle.std.proofs.Common.{◌≡◌, ℕ, zero, suc, Bool, true, false, not, ◌&&◌, ◌++◌, List, [], ◌∷◌, length, is_some, refl, ap, ap₂, ◌∙◌}
use Rattle.std.proofs.Math.Path.{fun_ext}
use Rattle.std.specs.Prelude.{if◌then◌else◌}
use Rattle.std.specs.List.{flat_map, list_any}
use Rattle.std.specs.Option.{option_map_or}
use Rattle.yspec.specs.Forest.{Forest, end, node, row, join, size}
use Rattle.yspec.specs.schema.Breaks.{broken, when}
use Rattle.yspec.specs.linking.Source.{Source, first_with}
use Rattle.yspec.specs.linking.Parts.{Part}
use Rattle.yspec.specs.linking.Expansion.{Grouping, groupings_of, laid, row_used, is_refine, refine_steps, part_at, changed_at, others, overridden, is_fit, after_refine, refined, replaced, stands_for, expanded, expanded_from, expanded_parts, refine_breaks, unfit_in, unfit_for, unfit_from, unfit_breaks}
use Rattle.yspec.specs.linking.Augments.{Augment, augments_of, target_steps, may_be_augmented, kept_out, in_turn, may_take, is_ready, added_below, applied, augmented, body_breaks, augment_breaks}
use Rattle.yspec.proofs.ForestLemmas.{join_end}
use Rattle.yspec_wide.specs.Language.{core}
use Rattle.yspec_wide.specs.Sources.{guard_row, without_guards, is_operation}
use Rattle.yspec_wide.specs.Expansion.{conditioned, takes_operations, overridden_in, after_refine_in, refined_in, extended_by, stands_for_in, expanded_in, expanded_in_from, expanded_parts_in, refine_breaks_in, inner_breaks, unfit_for_in, unfit_in_from, unfit_breaks_in, added_nodes_in, may_take_in, is_ready_in, applied_in, augmented_in, body_breaks_in, augment_breaks_in}
use Rattle.yspec_wide.specs.Standing.{is_standing, standing, all_stand}
use Rattle.yspec_wide.proofs.CoreLinkingLemmas.{all_stand_in_core}
use Rattle.yspec_wide.proofs.StandingLemmas.{all_stand_alike}

-- ---- conditions that nodes get

pub row_none : (given : Forest Source) → guard_row core given ≡ end
row_none end = refl
row_none (node s below after) = row_none after

pub row_whole : (given : Forest Source) → without_guards core given ≡ given
row_whole end = refl
row_whole (node s below after) = ap (node s below) (row_whole after)

pub conditioned_alike : (given : Forest Source) (nodes : Forest Part) → conditioned core given nodes ≡ nodes
conditioned_alike given end = refl
conditioned_alike given (node p below after) = ap₂ (λ own rest. node (record p { own = own }) below rest)
    (ap (join p.own) (row_none given) ∙ join_end p.own) (conditioned_alike given after)

-- ---- refines

pub overridden_alike : (given : Forest Source) → overridden_in core given ≡ overridden given
overridden_alike given =
    ap (λ g. λ (p : Part) (below after : Forest Part). node (record p { own = join (others g p.own) given }) below after) (row_whole given)

pub after_alike : (modules : Forest Source) (owner : ℕ) (s : Source) (given : Forest Source) (nodes : Forest Part)
    → after_refine_in core modules owner s given nodes ≡ after_refine modules owner s given nodes
after_alike modules owner s given nodes = ap (λ change. if is_refine s && is_fit modules owner s given nodes
    then changed_at (refine_steps modules owner s) change nodes else nodes) (overridden_alike given)

pub refined_alike : (modules : Forest Source) (owner : ℕ) (given : Forest Source) (nodes : Forest Part)
    → refined_in core modules owner given nodes ≡ refined modules owner given nodes
unfolding refined_in refined
refined_alike modules owner end nodes = refl
refined_alike modules owner (node s given after) nodes =
    ap (refined_in core modules owner after) (after_alike modules owner s given nodes)
    ∙ refined_alike modules owner after (after_refine modules owner s given nodes)

pub refine_breaks_alike : (modules : Forest Source) (owner : ℕ) (given : Forest Source) (nodes : Forest Part)
    → refine_breaks_in core modules owner given nodes ≡ refine_breaks modules owner given nodes
refine_breaks_alike modules owner end nodes = refl
refine_breaks_alike modules owner (node s given after) nodes =
    ap (λ later. when (is_refine s && not (is_fit modules owner s given nodes)) (broken 14 s.home s.statement.line) ++ later)
    (ap (refine_breaks_in core modules owner after) (after_alike modules owner s given nodes)
    ∙ refine_breaks_alike modules owner after (after_refine modules owner s given nodes))

-- ---- `uses`

module _ (modules : Forest Source) (groupings : List Grouping) (owner : ℕ) where
  pub stands_for_alike : (depth : ℕ) → stands_for_in core modules groupings owner depth ≡ stands_for modules groupings owner depth
  unfolding stands_for_in stands_for extended_by
  stands_for_alike zero = refl
  stands_for_alike (suc depth) = fun_ext (λ u.
      conditioned_alike u.own (refined_in core modules owner u.own
      (replaced (stands_for_in core modules groupings owner depth) owner (row_used modules groupings u)))
      ∙ (refined_alike modules owner u.own
      (replaced (stands_for_in core modules groupings owner depth) owner (row_used modules groupings u))
      ∙ ap (λ meant. refined modules owner u.own (replaced meant owner (row_used modules groupings u))) (stands_for_alike depth)))

  pub expanded_alike : (nodes : Forest Part) → expanded_in core modules groupings owner nodes ≡ expanded modules groupings owner nodes
  expanded_alike nodes = ap (λ meant. replaced meant owner nodes) (stands_for_alike (suc (size modules)))

  pub unfit_for_alike : (depth : ℕ) → unfit_for_in core modules groupings owner depth ≡ unfit_for modules groupings owner depth
  unfolding unfit_for_in unfit_for inner_breaks
  unfit_for_alike zero = refl
  unfit_for_alike (suc depth) = fun_ext (λ u. ap₂ (λ inside here. inside ++ here)
      (ap (λ told. unfit_in told (row_used modules groupings u)) (unfit_for_alike depth))
      (refine_breaks_alike modules owner u.own
      (replaced (stands_for_in core modules groupings owner depth) owner (row_used modules groupings u))
      ∙ ap (λ meant. refine_breaks modules owner u.own (replaced meant owner (row_used modules groupings u))) (stands_for_alike depth)))

pub expanded_from_alike : (modules : Forest Source) (groupings : List Grouping) (f : Forest Source)
    → expanded_in_from core modules groupings f ≡ expanded_from modules groupings f
expanded_from_alike modules groupings end = refl
expanded_from_alike modules groupings (node s below after) =
    ap₂ (λ here others. join here others) (expanded_alike modules groupings s.home (laid below)) (expanded_from_alike modules groupings after)

pub parts_alike : (modules : Forest Source) → expanded_parts_in core modules ≡ expanded_parts modules
parts_alike modules = expanded_from_alike modules (groupings_of modules) modules

unfit_from_alike : (modules : Forest Source) (groupings : List Grouping) (f : Forest Source)
    → unfit_in_from core modules groupings f ≡ unfit_from modules groupings f
unfit_from_alike modules groupings end = refl
unfit_from_alike modules groupings (node s below after) = ap₂ (λ here others. here ++ others)
    (ap (λ told. unfit_in told (laid below)) (unfit_for_alike modules groupings s.home (suc (size modules))))
    (unfit_from_alike modules groupings after)

pub unfit_alike : (modules : Forest Source) → unfit_breaks_in core modules ≡ unfit_breaks modules
unfit_alike modules = unfit_from_alike modules (groupings_of modules) modules

-- ---- augments

pub added_alike : (modules : Forest Source) (a : Augment) → added_nodes_in core modules a ≡ expanded modules (groupings_of modules) a.source.home (laid a.given)
added_alike modules a = conditioned_alike a.given (expanded_in core modules (groupings_of modules) a.source.home (laid a.given))
    ∙ expanded_alike modules (groupings_of modules) a.source.home (laid a.given)

and_true : (b : Bool) → (b && true) ≡ b
and_true true = refl
and_true false = refl

none_given : (statements : List Source) → list_any (is_operation core) statements ≡ false
none_given [] = refl
none_given (s ∷ statements) = none_given statements

pub may_take_alike : (modules : Forest Source) (a : Augment) → may_take_in core modules a ≡ (λ p. may_take p a.given)
may_take_alike modules a = fun_ext (λ p. ap₂ (λ b closed. (may_be_augmented p.source.keyword && b) && not closed)
    (and_true (not (is_some (first_with (kept_out p) a.given))))
    (ap (λ some. some && not (takes_operations core p.source)) (none_given (row a.given)))
    ∙ and_true (may_take p a.given))

pub ready_alike : (modules : Forest Source) → is_ready_in core modules ≡ is_ready modules
ready_alike modules = fun_ext (λ nodes. fun_ext (λ a.
    ap (λ test. option_map_or test (part_at (target_steps modules a) nodes) false) (may_take_alike modules a)))

pub applied_alike : (modules : Forest Source) → applied_in core modules ≡ applied modules
applied_alike modules = fun_ext (λ a. ap (λ added. λ nodes. changed_at (target_steps modules a) (added_below a.source.number added) nodes)
    (added_alike modules a))

pub augmented_alike : (modules : Forest Source) → augmented_in core modules ≡ augmented modules
augmented_alike modules =
    ap₂ (λ ready apply. in_turn ready apply (length (augments_of modules)) (expanded_parts_in core modules) (augments_of modules))
    (ready_alike modules) (applied_alike modules)
    ∙ ap (λ parts. in_turn (is_ready modules) (applied modules) (length (augments_of modules)) parts (augments_of modules))
    (parts_alike modules)

pub body_alike : (modules : Forest Source) → body_breaks_in core modules ≡ body_breaks modules
body_alike modules = fun_ext (λ a. ap (λ told. unfit_in told (laid a.given))
    (unfit_for_alike modules (groupings_of modules) a.source.home (suc (size modules))))

pub augment_breaks_alike : (modules : Forest Source) → augment_breaks_in core modules ≡ augment_breaks modules
augment_breaks_alike modules = ap₂ (λ told left. flat_map told (augments_of modules)
    ++ flat_map (λ (a : Augment). broken 14 a.source.home a.source.statement.line) left)
    (body_alike modules) (ap (λ done. done.1) (augmented_alike modules))

-- ---- the cut

all_true : (parts : Forest Part) → all_stand (λ p. true) parts ≡ true
unfolding all_stand
all_true end = refl
all_true (node p below after) = ap₂ (λ a b. a && b) (all_true below) (all_true after)

pub standing_alike : (modules : Forest Source) (parts : Forest Part) → standing core modules parts ≡ parts
standing_alike modules parts =
    all_stand_alike (is_standing core modules) parts (ap (λ holds. all_stand (λ (p : Part). holds p.own) parts) (all_stand_in_core modules) ∙ all_true parts)
