-- A schema whose nodes are numbered in preorder has each of them under its number.
use Rattle.std.proofs.Common.{◌≡◌, ℕ, ◌+◌, ◌≤◌, ◌<◌, true, false, cond, eqb, Option, Some, None, refl, ap, ap₂, ◌∙◌, arith}
use Rattle.std.specs.Prelude.{unwrap_or}
use Rattle.std.proofs.lemmas.Bool.{eq-eqb}
use Rattle.yspec.specs.Forest.{Forest, end, node, size, first_of, joined_below, find_below}
use Rattle.yspec.specs.schema.Schema.{Schema, SchemaNode, node_in}
use Rattle.yspec.specs.document.Fitting.{IsNumbered}
use Rattle.yspec.proofs.DocumentProofs.CheckingRowLemmas.{Has}
use Rattle.yspec.proofs.DocumentProofs.FittingLemmas.{eqb_other}

abbrev pub below_in : Forest SchemaNode → ℕ → Option (Forest SchemaNode)
below_in f m = find_below (λ (n : SchemaNode). eqb n.number m) f

-- a number behind those of a row names none of its nodes
no_node_in : (f : Forest SchemaNode) (k m : ℕ) → IsNumbered k f → k + size f ≤ m → (node_in f m ≡ None) × (below_in f m ≡ None)
no_node_in end k m numbered behind = (refl, refl)
no_node_in (node n below after) k m numbered behind =
    let other : eqb n.number m ≡ false = eqb_other n.number m (λ e. absurd (omega (arith, numbered.0, e))) in
    let first = no_node_in below (k + 1) m numbered.1 (omega arith) in
    let second = no_node_in after (k + 1 + size below) m numbered.2 (omega arith) in (
      ap (λ t. cond t (Some n) (first_of (node_in below m) (node_in after m))) other ∙ ap₂ first_of first.0 second.0,
      ap (λ t. cond t (Some below) (joined_below (below_in below m) (below_in after m))) other ∙ ap₂ joined_below first.1 second.1,
    )

-- nor one before them
no_node_before : (f : Forest SchemaNode) (k m : ℕ) → IsNumbered k f → m < k → (node_in f m ≡ None) × (below_in f m ≡ None)
no_node_before end k m numbered before = (refl, refl)
no_node_before (node n below after) k m numbered before =
    let other : eqb n.number m ≡ false = eqb_other n.number m (λ e. absurd (omega (arith, numbered.0, e))) in
    let first = no_node_before below (k + 1) m numbered.1 (omega arith) in
    let second = no_node_before after (k + 1 + size below) m numbered.2 (omega arith) in (
      ap (λ t. cond t (Some n) (first_of (node_in below m) (node_in after m))) other ∙ ap₂ first_of first.0 second.0,
      ap (λ t. cond t (Some below) (joined_below (below_in below m) (below_in after m))) other ∙ ap₂ joined_below first.1 second.1,
    )

first_alone : (o : Option SchemaNode) → first_of o None ≡ o
first_alone (Some n) = refl
first_alone None = refl

below_alone : (o : Option (Forest SchemaNode)) → joined_below o None ≡ o
below_alone (Some f) = refl
below_alone None = refl

-- a whole forest finds under the numbers of a row what the row finds
abbrev pub Finds : Forest SchemaNode → ℕ → Forest SchemaNode → Type 0
Finds whole k f = (m : ℕ) → k ≤ m → m < k + size f → (node_in whole m ≡ node_in f m) × (below_in whole m ≡ below_in f m)

pub has_all : (schema : Schema) (f : Forest SchemaNode) (k : ℕ) → IsNumbered k f → Finds schema.nodes k f → Has schema f
has_all schema end k numbered finds = tt
has_all schema (node n below after) k numbered finds =
    let here = finds n.number (omega (arith, numbered.0)) (omega (arith, numbered.0)) in
    let own : eqb n.number n.number ≡ true = eq-eqb n.number n.number refl in (
      here.0 ∙ ap (λ t. cond t (Some n) (first_of (node_in below n.number) (node_in after n.number))) own,
      ap (λ (o : Option (Forest SchemaNode)). unwrap_or o end) (here.1 ∙ ap (λ t. cond t (Some below) (joined_below (below_in below n.number) (below_in after n.number))) own),
      has_all schema below (k + 1) numbered.1 (λ m from to.
          let other : eqb n.number m ≡ false = eqb_other n.number m (λ e. absurd (omega (arith, numbered.0, e, from))) in
          let none = no_node_before after (k + 1 + size below) m numbered.2 (omega (arith, to)) in
          let found = finds m (omega (arith, from)) (omega (arith, to)) in (
            found.0 ∙ (ap (λ t. cond t (Some n) (first_of (node_in below m) (node_in after m))) other ∙ (ap (first_of (node_in below m)) none.0 ∙ first_alone (node_in below m))),
            found.1 ∙ (ap (λ t. cond t (Some below) (joined_below (below_in below m) (below_in after m))) other ∙ (ap (joined_below (below_in below m)) none.1 ∙ below_alone (below_in below m))),
          )),
      has_all schema after (k + 1 + size below) numbered.2 (λ m from to.
          let other : eqb n.number m ≡ false = eqb_other n.number m (λ e. absurd (omega (arith, numbered.0, e, from))) in
          let none = no_node_in below (k + 1) m numbered.1 (omega (arith, from)) in
          let found = finds m (omega (arith, from)) (omega (arith, to)) in (
            found.0 ∙ (ap (λ t. cond t (Some n) (first_of (node_in below m) (node_in after m))) other ∙ ap (λ (o : Option SchemaNode). first_of o (node_in after m)) none.0),
            found.1 ∙ (ap (λ t. cond t (Some below) (joined_below (below_in below m) (below_in after m))) other ∙ ap (λ (o : Option (Forest SchemaNode)). joined_below o (below_in after m)) none.1),
          )),
    )

pub schema_has_all : (schema : Schema) → IsNumbered 0 schema.nodes → Has schema schema.nodes
schema_has_all schema numbered = has_all schema schema.nodes 0 numbered (λ m from to. (refl, refl))
