-- What an index finds of the places of slots, once one more is added.
use Rattle.std.proofs.Common.{◌≡◌, ℕ, Bool, true, false, cond, ◌&&◌, List, [], ◌∷◌, ◌++◌, Option, Some, None, refl, sym, ap, ap₂, ◌∙◌}
use Rattle.std.specs.Prelude.{◌==◌, string_bytes}
use Rattle.yspec.specs.Forest.{first_of}
use Rattle.yspec.specs.text.Text.{Text, is_text}
use Rattle.yspec.specs.linking.Planned.{same_number}
use Rattle.yspec.specs.schema.Schema.{is_data, is_called}
use Rattle.ybase_index.specs.Names.{is_at}
use Rattle.ybase_index.specs.declared.keys.Among.TheVariants.{Children, DataNodes}
use Rattle.yschema_model.specs.declared.children.Slot.{Slot}
use Rattle.yschema_model.specs.Layout.{Place, data_place_of, kind_view, place_of}
use Rattle.yschema_model.specs.Lookup.{first_below, indexed, is_data_called}
use Rattle.yschema_model.proofs.ChildLemmas.{first_below-append}

module _ (above : Option ℕ) (m : ℕ) (t : Text) where
  pub child_added : (ps : List Place) (i : ℕ) (r : Slot) (data_above before after : Option ℕ)
      → after ≡ first_of before (cond (is_at Children above m t (indexed i r data_above) (string_bytes r.node.name)) (Some i) None)
      → before ≡ first_below above (is_called m t) ps → after ≡ first_below above (is_called m t) (ps ++ place_of i r ∷ [])
  child_added ps i r data_above before after added was =
      added ∙ (ap (λ o. first_of o (first_below above (is_called m t) (place_of i r ∷ []))) was ∙ sym (first_below-append above (is_called m t) ps (place_of i r ∷ [])))

  turned : (a b c : Bool) → (a && (b && c)) ≡ (b && (a && c))
  turned true b c = refl
  turned false true c = refl
  turned false false c = refl

  pub data_added : (ps : List Place) (i : ℕ) (r : Slot) (data_above before after : Option ℕ)
      → after ≡ first_of before (cond (is_at DataNodes above m t (indexed i r data_above) (string_bytes r.node.name)) (Some i) None)
      → before ≡ first_below above (is_data_called m t) ps → after ≡ first_below above (is_data_called m t) (ps ++ data_place_of data_above i r ∷ [])
  data_added ps i r data_above before after added was =
      added
      ∙ (ap₂ (λ (o : Option ℕ) (b : Bool). first_of o (cond b (Some i) None)) was
      (turned (is_data (kind_view r.node.kind)) (same_number above data_above) (m == r.node.«module» && is_text t (string_bytes r.node.name)))
      ∙ sym (first_below-append above (is_data_called m t) ps (data_place_of data_above i r ∷ [])))
