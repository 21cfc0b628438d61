-- The nodes above a node, from itself up, until one is a child of a row.
use Rattle.std.proofs.Common.{◌≡◌, ℕ, ◌+◌, Bool, true, false, cond, eqb, eqb-true, List, [], ◌++◌, Option, Some, None, refl, sym, ap, ◌∙◌, subst, append_assoc}
use Rattle.std.specs.Prelude.{is_some}
use Rattle.std.proofs.lemmas.List.{append-nil}
use Rattle.yspec.specs.Forest.{Forest, end, node, first_of}
use Rattle.yspec.specs.schema.Schema.{Schema, SchemaNode, way_to, node_at, node_in, row_at, child_in}
use Rattle.yspec.specs.document.Fitting.{IsNumbered}
use Rattle.yschema_model.specs.Lookup.{alone, way_above}
use Rattle.yspec_play.specs.Over.{child_over}
use Rattle.yspec_play.proofs.KnownLemmas.{Known, schema_known, row_known}
use Rattle.yspec_play.proofs.OverLemmas.{All, all_both, found_over, none_over}

-- a row has no child of a node's number
abbrev IsNoChild : Forest SchemaNode → SchemaNode → Type 0
IsNoChild f x = is_some (child_in f x.number) ≡ false

-- the way to a node is that to one above it, and behind it stand nodes that are no children of the row
pub record Passed (schema : Schema) (f : Forest SchemaNode) (s : ℕ) (here : Option ℕ) : Type 0 where
  pub rest : List SchemaNode
  pub whole : way_to schema s ≡ way_above schema here ++ rest
  pub none : All (IsNoChild f) rest

pub passed_begins : (schema : Schema) (f : Forest SchemaNode) (s : ℕ) → Passed schema f s (Some s)
passed_begins schema f s = record { rest = []; whole = sym (append-nil (way_to schema s)); none = tt }

number_found : (f : Forest SchemaNode) (s : ℕ) (x : SchemaNode) → node_in f s ≡ Some x → x.number ≡ s
number_found end s x e = absurd cc
number_found (node n below after) s x e = by (eqb n.number s) refl e (node_in below s) refl (number_found below s x) (number_found after s x)
  where
    by : (b : Bool) → eqb n.number s ≡ b → cond b (Some n) (first_of (node_in below s) (node_in after s)) ≡ Some x
        → (o : Option SchemaNode) → node_in below s ≡ o → (node_in below s ≡ Some x → x.number ≡ s) → (node_in after s ≡ Some x → x.number ≡ s) → x.number ≡ s
    by true same is o inner_is inner later = let n_is : n ≡ x = cc in ap (λ (m : SchemaNode). m.number) (sym n_is) ∙ eqb-true n.number s same
    by false other is (Some m) inner_is inner later = inner (inner_is ∙ (sym (ap (λ o. first_of o (node_in after s)) inner_is) ∙ is))
    by false other is None inner_is inner later = later (sym (ap (λ o. first_of o (node_in after s)) inner_is) ∙ is)

pub passed_next : (schema : Schema) (f : Forest SchemaNode) (s h : ℕ) (p : Option ℕ) → child_in f h ≡ None
    → way_to schema h ≡ way_above schema p ++ alone (node_at schema h) → Passed schema f s (Some h) → Passed schema f s p
passed_next schema f s h p none way so =
    let here = alone (node_at schema h) in
    record {
      rest = here ++ so.rest;
      whole = so.whole ∙ (ap (λ w. w ++ so.rest) way ∙ append_assoc (way_above schema p) here so.rest);
      none = all_both (IsNoChild f) here so.rest (by (node_at schema h) refl) so.none;
    }
  where
    by : (o : Option SchemaNode) → node_at schema h ≡ o → All (IsNoChild f) (alone o)
    by None e = tt
    by (Some x) e = (ap (λ m. is_some (child_in f m)) (number_found schema.nodes h x e) ∙ ap is_some none, tt)

known_at : (schema : Schema) (above : Option ℕ) → IsNumbered 0 schema.nodes → Known schema (way_above schema above) (row_at schema above)
known_at schema None numbered = schema_known schema numbered
known_at schema (Some p) numbered = (row_known schema p numbered).known

pub over_found : (schema : Schema) (above : Option ℕ) (s h : ℕ) (child : SchemaNode × Forest SchemaNode) → IsNumbered 0 schema.nodes
    → Some child ≡ child_in (row_at schema above) h → Passed schema (row_at schema above) s (Some h) → Some child ≡ child_over (row_at schema above) s
over_found schema above s h child numbered is so =
    sym (found_over schema numbered (schema_known schema numbered) (row_at schema above) (way_above schema above) h s child.0 child.1 so.rest (known_at schema above numbered) (sym is) so.whole)

pub over_none : (schema : Schema) (above : Option ℕ) (s : ℕ) (here : Option ℕ) → here ≡ None → IsNumbered 0 schema.nodes
    → Passed schema (row_at schema above) s here → None ≡ child_over (row_at schema above) s
over_none schema above s here ended numbered so =
    sym (none_over schema numbered (schema_known schema numbered) (row_at schema above) (way_above schema above) s (known_at schema above numbered)
    (subst (All (IsNoChild (row_at schema above))) (sym (so.whole ∙ ap (λ o. way_above schema o ++ so.rest) ended)) so.none))
