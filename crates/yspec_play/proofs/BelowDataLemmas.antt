-- Below a data node no case stands right away.
use Rattle.std.proofs.Common.{◌≡◌, ℕ, Bool, true, false, cond, eqb, Option, Some, None, is_some, refl, sym, ap, ◌∙◌, subst}
use Rattle.std.specs.Prelude.{unwrap_or}
use Rattle.yspec.specs.Forest.{Forest, end, node, first_of, joined_below, find_below}
use Rattle.yspec.specs.schema.Schema.{Schema, SchemaNode, is_data, node_in, node_at, children_of}
use Rattle.yspec_fit.specs.Fit.{CasesInChoices, is_choice}
use Rattle.yspec_play.proofs.ListLemmas.{data_is_no_choice}

abbrev below_in : Forest SchemaNode → ℕ → Option (Forest SchemaNode)
below_in f m = find_below (λ (n : SchemaNode). eqb n.number m) f

-- a node is found where the row below it is
both_found : (f : Forest SchemaNode) (m : ℕ) → is_some (node_in f m) ≡ is_some (below_in f m)
both_found end m = refl
both_found (node n below after) m = by (eqb n.number m) (node_in below m) (below_in below m) (both_found below m) (both_found after m)
  where
    by : (b : Bool) (o : Option SchemaNode) (g : Option (Forest SchemaNode)) → is_some o ≡ is_some g → is_some (node_in after m) ≡ is_some (below_in after m)
        → is_some (cond b (Some n) (first_of o (node_in after m))) ≡ is_some (cond b (Some below) (joined_below g (below_in after m)))
    by true o g inner later = refl
    by false (Some x) (Some y) inner later = refl
    by false None None inner later = later
    by false (Some x) None inner later = absurd cc
    by false None (Some y) inner later = absurd cc

cases_found : (f : Forest SchemaNode) (in_choice : Bool) (m : ℕ) (n : SchemaNode) (g : Forest SchemaNode) → CasesInChoices in_choice f
    → node_in f m ≡ Some n → below_in f m ≡ Some g → is_data n.kind ≡ true → CasesInChoices false g
cases_found end in_choice m n g cased here there is = absurd cc
cases_found (node l below after) in_choice m n g cased here there is =
    by (eqb l.number m) (node_in below m) (below_in below m) refl refl (both_found below m) here there
    (λ first second. cases_found below (is_choice l.kind) m n g cased.1 first second is) (λ first second. cases_found after in_choice m n g cased.2 first second is)
  where
    by : (b : Bool) (o : Option SchemaNode) (h : Option (Forest SchemaNode)) → node_in below m ≡ o → below_in below m ≡ h → is_some (node_in below m) ≡ is_some (below_in below m)
        → cond b (Some l) (first_of o (node_in after m)) ≡ Some n → cond b (Some below) (joined_below h (below_in after m)) ≡ Some g
        → (node_in below m ≡ Some n → below_in below m ≡ Some g → CasesInChoices false g)
        → (node_in after m ≡ Some n → below_in after m ≡ Some g → CasesInChoices false g) → CasesInChoices false g
    by true o h os hs both here there inner later =
        let is_node : l ≡ n = cc in
        let is_below : below ≡ g = cc in
        subst (CasesInChoices false) is_below
        (subst (λ b. CasesInChoices b below) (ap (λ (x : SchemaNode). is_choice x.kind) is_node ∙ data_is_no_choice n.kind is) cased.1)
    by false (Some x) (Some y) os hs both here there inner later = inner (os ∙ here) (hs ∙ there)
    by false None None os hs both here there inner later = later here there
    by false (Some x) None os hs both here there inner later = absurd (let f : true ≡ false = sym (ap is_some os) ∙ (both ∙ ap is_some hs) in cc)
    by false None (Some y) os hs both here there inner later = absurd (let f : false ≡ true = sym (ap is_some os) ∙ (both ∙ ap is_some hs) in cc)

pub cases_below : (schema : Schema) (number : ℕ) (n : SchemaNode) → CasesInChoices false schema.nodes → node_at schema number ≡ Some n → is_data n.kind ≡ true
    → CasesInChoices false (children_of schema number)
cases_below schema number n cased here is = by (below_in schema.nodes number) refl
  where
    by : (o : Option (Forest SchemaNode)) → below_in schema.nodes number ≡ o → CasesInChoices false (unwrap_or o end)
    by (Some g) there = cases_found schema.nodes false number n g cased here there is
    by None there = tt
