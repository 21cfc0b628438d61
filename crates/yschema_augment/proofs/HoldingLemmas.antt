-- Whether a node may take what an augment states.
use Rattle.std.proofs.Common.{◌≡◌, ◌∙◌, ℕ, false, List, Option, Some, None, refl, sym, ap, ap₂}
use Rattle.std.specs.Prelude.{slice_get, option_map}
use Rattle.std.specs.Option.{option_map_or}
use Rattle.std.proofs.lemmas.Option.{slice_get-map}
use Rattle.yspec.specs.Forest.{end}
use Rattle.yspec.specs.linking.Source.{Source}
use Rattle.ybase_preorder.specs.View.{row_by}
use Rattle.ybase_preorder.specs.declared.siblings.Node.{Node}
use Rattle.ybase_preorder.specs.declared.slot.Slot.{Slot}
use Rattle.ylink_grammar.specs.SourceView.{source_view}
use Rattle.ylink_grammar.specs.declared.source.Source as held
use Rattle.yschema_expand.specs.AugmentView.{augment_view, augments_seen}
use Rattle.yschema_expand.specs.NodeView.{part_view}
use Rattle.yschema_expand.specs.declared.nodes.ExpandedNode.{ExpandedNode}
use Rattle.yschema_augment.specs.Picking.{given_at, holds_at, home_at, nothing, source_at}
use Rattle.yschema_augment.specs.Resolving.{Asking, may_hold}

abbrev label_at : List (Slot ExpandedNode) → ℕ → Option ExpandedNode
label_at slots target = option_map (λ (r : Slot ExpandedNode). r.label) (slice_get slots target)

source_is : (slots : List (Slot ExpandedNode)) (target : ℕ) → source_at slots target ≡ option_map_or (λ l. (part_view l).source) (label_at slots target) nothing
source_is slots target = by (slice_get slots target)
  where
    by : (o : Option (Slot ExpandedNode)) → option_map_or (λ (r : Slot ExpandedNode). (part_view r.label).source) o nothing
        ≡ option_map_or (λ l. (part_view l).source) (option_map (λ (r : Slot ExpandedNode). r.label) o) nothing
    by None = refl
    by (Some r) = refl

pub none_holds : (askings : ℕ → Asking) (slots : List (Slot ExpandedNode)) (augments : List (Node held.Source)) (target j : ℕ) → label_at slots target ≡ None
    → false ≡ holds_at askings slots (augments_seen augments) target j
none_holds askings slots augments target j none =
    let all = augments_seen augments in
    sym (ap (λ (s : Source). may_hold (askings (home_at all j)) s (given_at all j))
    (source_is slots target ∙ ap (λ o. option_map_or (λ l. (part_view l).source) o nothing) none))

pub held_there : (askings : ℕ → Asking) (slots : List (Slot ExpandedNode)) (augments : List (Node held.Source)) (target j : ℕ)
    (n : Node held.Source) → slice_get augments j ≡ Some n → (x : ExpandedNode) → label_at slots target ≡ Some x
    → may_hold (askings n.label.now.home) (part_view x).source (row_by source_view n.children) ≡ holds_at askings slots (augments_seen augments) target j
held_there askings slots augments target j n there x is =
    let all = augments_seen augments in
    let seen : slice_get all j ≡ Some (augment_view n) = slice_get-map augment_view augments j ∙ ap (option_map augment_view) there in
    let source = source_is slots target ∙ ap (λ o. option_map_or (λ l. (part_view l).source) o nothing) is in
    sym (ap₂ (λ h g. may_hold (askings h) (source_at slots target) g)
    (ap (λ o. option_map_or (λ a. a.source.home) o 0) seen) (ap (λ o. option_map_or (λ a. a.given) o end) seen)
    ∙ ap (λ (s : Source). may_hold (askings n.label.now.home) s (row_by source_view n.children)) source)
