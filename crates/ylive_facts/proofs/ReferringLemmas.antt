-- What a node refers to where an instance is required: nothing, or a value of a schema node.
use Rattle.std.proofs.Common.{◌≡◌, ℕ, Bool, true, false, cond, ◌&&◌, ◌||◌, List, [], ◌∷◌, Option, Some, None, refl, sym, ap, ◌∙◌}
use Rattle.std.specs.Prelude.{is_some, option_map, option_and_then, slice_get, unwrap_or}
use Rattle.std.specs.Option.{option_map_or}
use Rattle.std.proofs.lemmas.Bool.{false≢true}
use Rattle.std.proofs.lemmas.Option.{none-some, same_Some}
use Rattle.yspec.specs.types.Types.{Val}
use Rattle.yspec.specs.schema.Schema.{Schema, Kind, LeafType, MemberTarget, type_in}
use Rattle.yspec.specs.schema.References.{Reference, requires_instance, has_leafrefs, may_require, whole_reference, member_reference, member_target, reference_in}
use Rattle.yspec.specs.document.Document.{Stored}
use Rattle.yspec.specs.document.Instances.{value_of}
use Rattle.ylive_facts.specs.Keys.{Key, value_key, required_key, leaf_key, type_asked, asking_type, kind_reference}

-- whatever is said of both is said of it
module _ (P : Option Key → Type 0) (nothing : P None) (a_value : (target : ℕ) (v : Val) → P (Some (value_key target v))) where
  by_reference : (o : Option Reference) → P (option_and_then required_key o)
  by_reference None = nothing
  by_reference (Some r) = by r.is_required
    where
      by : (b : Bool) → P (cond b (Some (value_key r.target r.value)) None)
      by true = a_value r.target r.value
      by false = nothing

  by_value : (type : LeafType) (o : Option Val) → P (option_and_then (leaf_key type) o)
  by_value type None = nothing
  by_value type (Some v) = by_reference (reference_in type v)

  by_type : (o : Option Val) (t : Option LeafType) → P (option_and_then (λ type. option_and_then (leaf_key type) o) t)
  by_type o None = nothing
  by_type o (Some type) = by_value type o

  pub refers_as : (schema : Schema) (kind : Kind) (s : Stored) → P (kind_reference schema kind s)
  refers_as schema kind s = by_type (value_of schema s) (type_in kind)

-- ---- a type that asks for nothing

always : (b : Bool) → (b || true) ≡ true
always true = refl
always false = refl

no_key : (type : LeafType) (v : Val) → may_require type ≡ false → leaf_key type v ≡ None
no_key type v e = by type.target type.targets (requires_instance type.type) refl e
  where
    of_none : (n : Option ℕ) → option_and_then required_key (option_map (member_reference v) (option_and_then (λ k. unwrap_or (slice_get [] k) None) n)) ≡ None
    of_none None = refl
    of_none (Some k) = refl

    by : (target : Option ℕ) (targets : List (Option MemberTarget)) (required : Bool) → requires_instance type.type ≡ required
        → ((is_some target && required) || has_leafrefs targets) ≡ false
        → option_and_then required_key (option_map_or (λ t. Some (whole_reference type v t)) target (option_map (member_reference v) (member_target targets v))) ≡ None
    by target (m ∷ ms) required is e = absurd (false≢true (sym e ∙ always (is_some target && required)))
    by None [] required is e = of_none v.member
    by (Some t) [] true is e = absurd (false≢true (sym e))
    by (Some t) [] false is e = ap (λ b. cond b (Some (value_key t v)) None) is

no_keys : (type : LeafType) (o : Option Val) → may_require type ≡ false → option_and_then (leaf_key type) o ≡ None
no_keys type None e = refl
no_keys type (Some v) e = no_key type v e

-- ---- what is asked of a node

module _ (schema : Schema) (kind : Kind) (s : Stored) where
  pub asked_of : (type : LeafType) → Some type ≡ asking_type kind → option_and_then (leaf_key type) (value_of schema s) ≡ kind_reference schema kind s
  asked_of type is = by (type_in kind) is
    where
      of_type : (u : LeafType) (b : Bool) → Some type ≡ cond b (Some u) None → option_and_then (leaf_key type) (value_of schema s) ≡ option_and_then (leaf_key u) (value_of schema s)
      of_type u true e = ap (λ (t : LeafType). option_and_then (leaf_key t) (value_of schema s)) (same_Some type u e)
      of_type u false e = absurd (none-some type (sym e))

      by : (t : Option LeafType) → Some type ≡ option_and_then type_asked t
          → option_and_then (leaf_key type) (value_of schema s) ≡ option_and_then (λ u. option_and_then (leaf_key u) (value_of schema s)) t
      by None e = absurd (none-some type (sym e))
      by (Some u) e = of_type u (may_require u) e

  pub not_asked : None ≡ asking_type kind → None ≡ kind_reference schema kind s
  not_asked is = by (type_in kind) is
    where
      of_type : (u : LeafType) (b : Bool) → may_require u ≡ b → None ≡ cond b (Some u) None → None ≡ option_and_then (leaf_key u) (value_of schema s)
      of_type u true asks e = absurd (none-some u e)
      of_type u false asks e = sym (no_keys u (value_of schema s) asks)

      by : (t : Option LeafType) → None ≡ option_and_then type_asked t → None ≡ option_and_then (λ u. option_and_then (leaf_key u) (value_of schema s)) t
      by None e = refl
      by (Some u) e = of_type u (may_require u) refl e
