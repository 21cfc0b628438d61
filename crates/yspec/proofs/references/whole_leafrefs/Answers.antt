use Rattle.std.proofs.Common.{◌≡◌, ℕ, Bool, true, false, cond, eqb, ◌&&◌, List, [], ◌∷◌, Option, Some, None, option_map, refl, ap, ◌∙◌}
use Rattle.std.specs.Prelude.{option_and_then, slice_get, unwrap_or}
use Rattle.std.specs.Option.{option_map_or}
use Rattle.yspec.specs.types.Types.{Val}
use Rattle.yspec.specs.schema.Schema.{LeafType}
use Rattle.yspec.specs.schema.References.{Reference, requires_instance, whole_reference, member_target, member_reference}
use Rattle.yspec.specs.document.Fault.{Fault, plain_fault}
use Rattle.yspec.specs.document.FaultCode.{V11}
use Rattle.yspec.specs.document.Faults.{Times, lacks_instance}
use Rattle.yspec.proofs.references.whole_leafrefs.Goals as goal

module _ (times : Times) (type : LeafType) (v : Val) where
  abbrev told : Option Reference → List Fault
  told o = option_map_or (λ r. cond (lacks_instance times r) (plain_fault V11 [] ∷ []) []) o []

  no_member : (n : Option ℕ) → option_map (member_reference v) (option_and_then (λ k. unwrap_or (slice_get [] k) None) n) ≡ None
  no_member None = refl
  no_member (Some k) = refl

  by : (target : Option ℕ) (required : Bool) → requires_instance type.type ≡ required
      → told (option_map_or (λ t. Some (whole_reference type v t)) target None)
      ≡ cond required (option_map_or (λ t. cond (eqb (times t v) 0) (plain_fault V11 [] ∷ []) []) target []) []
  by None true e = refl
  by None false e = refl
  by (Some t) true e = ap (λ b. cond (b && eqb (times t v) 0) (plain_fault V11 [] ∷ []) []) e
  by (Some t) false e = ap (λ b. cond (b && eqb (times t v) 0) (plain_fault V11 [] ∷ []) []) e

  whole : type.targets ≡ [] → told (option_map_or (λ t. Some (whole_reference type v t)) type.target (option_map (member_reference v) (member_target type.targets v)))
      ≡ cond (requires_instance type.type) (option_map_or (λ t. cond (eqb (times t v) 0) (plain_fault V11 [] ∷ []) []) type.target []) []
  whole none = ap (λ later. told (option_map_or (λ t. Some (whole_reference type v t)) type.target later))
      (ap (λ targets. option_map (member_reference v) (member_target targets v)) none ∙ no_member v.member)
      ∙ by type.target (requires_instance type.type) refl

pub returns : goal.returns
returns c = whole
