-- What values of types refer to, as code asks it.
use Rattle.std.proofs.Common.{◌≡◌, ℕ, suc, ◌≢◌, Bool, true, false, not, cond, eqb, ◌&&◌, ◌||◌, List, [], ◌∷◌, length, Option, Some, None, refl, sym, ap, ap₂, ◌∙◌, arith}
use Rattle.std.specs.Prelude.{is_some, option_and_then, option_map, slice_get, unwrap_or}
use Rattle.std.specs.Option.{option_map_or}
use Rattle.std.proofs.lemmas.Bool.{ne_eqb}
use Rattle.std.proofs.lemmas.Option.{slice_get-map}
use Rattle.yspec.specs.types.Types.{Val, value}
use Rattle.yspec.specs.schema.Schema as spec
use Rattle.yspec.specs.schema.References.{Reference, requires_instance, has_leafrefs, may_require, whole_reference, member_target, member_reference, reference_in}
use Rattle.yschema_model.specs.declared.node.LeafType.{LeafType}
use Rattle.yschema_model.specs.declared.node.MemberTarget.{MemberTarget}
use Rattle.yschema_model.specs.declared.node.MemberTargets.{MemberTargets}
use Rattle.yschema_model.specs.declared.node.SchemaId.{SchemaId}
use Rattle.yschema_model.specs.Layout.{leaf_type_view, member_target_view, number_of, targets_view}

-- ---- whether anything may be required

pub required_by : (t : LeafType) (members : Bool) (target : Option SchemaId) (required : Bool) → members ≡ has_leafrefs (targets_view t.targets.items)
    → t.target ≡ target → required ≡ requires_instance t.value_type → cond members true (cond (is_some target) required false) ≡ may_require (leaf_type_view t)
required_by t members target required has is requires =
    by members target required
    ∙ ap₂ (λ a b. a || b) (ap₂ (λ (o : Option SchemaId) (b : Bool). is_some (number_of o) && b) (sym is) requires) has
  where
    by : (a : Bool) (o : Option SchemaId) (b : Bool) → cond a true (cond (is_some o) b false) ≡ ((is_some (number_of o) && b) || a)
    by true None b = refl
    by true (Some id) true = refl
    by true (Some id) false = refl
    by false None b = refl
    by false (Some id) true = refl
    by false (Some id) false = refl

-- ---- what a value refers to

-- the member that took a value
pub member_seen : (targets : List MemberTargets) (v : Val) (number : ℕ) (found : Option spec.MemberTarget) → Some number ≡ v.member
    → found ≡ unwrap_or (slice_get (targets_view targets) number) None → found ≡ member_target (targets_view targets) v
member_seen targets v number found is at = at ∙ ap (option_and_then (λ n. unwrap_or (slice_get (targets_view targets) n) None)) is

pub member_unseen : (targets : List MemberTargets) (v : Val) → None ≡ v.member → None ≡ member_target (targets_view targets) v
member_unseen targets v is = ap (option_and_then (λ n. unwrap_or (slice_get (targets_view targets) n) None)) is

abbrev made : ℕ → Val → Bool → Option Reference
made target v required = Some (record { target = target; value = v; is_required = required })

-- one by a member
pub made_by_member : (v w : Val) (m : MemberTarget) (o : Option spec.MemberTarget) → Some (member_target_view m) ≡ o → w ≡ value m.member v.content
    → made m.target.0 w m.is_required ≡ option_map (member_reference v) o
made_by_member v w m o is same = ap (λ x. made m.target.0 x m.is_required) same ∙ ap (option_map (member_reference v)) is

-- one of a leafref, and of any other type
pub made_by_target : (t : LeafType) (v : Val) (id : SchemaId) (required : Bool) → t.target ≡ Some id → required ≡ requires_instance t.value_type
    → made id.0 v required ≡ reference_in (leaf_type_view t) v
made_by_target t v id required is requires =
    ap (made id.0 v) requires
    ∙ sym (ap (λ (o : Option SchemaId). option_map_or (λ n. Some (whole_reference (leaf_type_view t) v n)) (number_of o)
    (option_map (member_reference v) (member_target (targets_view t.targets.items) v))) is)

pub made_else : (t : LeafType) (v : Val) (r : Option Reference) → t.target ≡ None → r ≡ option_map (member_reference v) (member_target (targets_view t.targets.items) v)
    → r ≡ reference_in (leaf_type_view t) v
made_else t v r is same =
    same ∙ sym (ap (λ (o : Option SchemaId). option_map_or (λ n. Some (whole_reference (leaf_type_view t) v n)) (number_of o)
    (option_map (member_reference v) (member_target (targets_view t.targets.items) v))) is)
