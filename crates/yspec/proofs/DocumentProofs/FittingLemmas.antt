-- Where the numbers of a row of schema nodes lie, and which of them are stored.
use Rattle.std.proofs.Common.{◌≡◌, ◌≢◌, ℕ, ◌+◌, ◌≤◌, ◌<◌, Bool, true, false, cond, eqb, Some, None, refl, sym, ap, ap₂, ◌∙◌, zero-add, arith}
use Rattle.std.proofs.lemmas.Bool.{eqb-true}
use Rattle.std.proofs.lemmas.List.Sums.{sum_by-cons}
use Rattle.yspec.specs.Forest.{Forest, end, node, size, row, first_of, joined_below, find_below}
use Rattle.yspec.specs.schema.Schema.{SchemaNode, node_in}
use Rattle.yspec.specs.document.Document.{Stored, Tree, instances_in}
use Rattle.yspec.specs.document.Fitting.{IsNumbered}

pub eqb_other : (a b : ℕ) → a ≢ b → eqb a b ≡ false
eqb_other a b other = elim_test (eqb a b) refl where
  elim_test : (t : Bool) → eqb a b ≡ t → eqb a b ≡ false
  elim_test true e = absurd (other (eqb-true a b e))
  elim_test false e = e

-- a number behind those of a row names none of its nodes
pub no_node_in : (f : Forest SchemaNode) (k m : ℕ) → IsNumbered k f → k + size f ≤ m → node_in f m ≡ None
no_node_in end k m numbered behind = refl
no_node_in (node n below after) k m numbered behind =
    let other : eqb n.number m ≡ false = eqb_other n.number m (λ e. absurd (omega (arith, numbered.0, e))) in
    ap (λ t. cond t (Some n) (first_of (node_in below m) (node_in after m))) other
    ∙ ap₂ first_of (no_node_in below (k + 1) m numbered.1 (omega arith)) (no_node_in after (k + 1 + size below) m numbered.2 (omega arith))

-- a number before those of a row names none of its nodes
pub no_node_before : (f : Forest SchemaNode) (k m : ℕ) → IsNumbered k f → m < k → node_in f m ≡ None
no_node_before end k m numbered before = refl
no_node_before (node n below after) k m numbered before =
    let other : eqb n.number m ≡ false = eqb_other n.number m (λ e. absurd (omega (arith, numbered.0, e))) in
    ap (λ t. cond t (Some n) (first_of (node_in below m) (node_in after m))) other
    ∙ ap₂ first_of (no_node_before below (k + 1) m numbered.1 (omega arith)) (no_node_before after (k + 1 + size below) m numbered.2 (omega arith))

pub no_row_in : (f : Forest SchemaNode) (k m : ℕ) → IsNumbered k f → k + size f ≤ m → find_below (λ (n : SchemaNode). eqb n.number m) f ≡ None
no_row_in end k m numbered behind = refl
no_row_in (node n below after) k m numbered behind =
    let other : eqb n.number m ≡ false = eqb_other n.number m (λ e. absurd (omega (arith, numbered.0, e))) in
    ap (λ t. cond t (Some below) (joined_below (find_below (λ (n : SchemaNode). eqb n.number m) below) (find_below (λ (n : SchemaNode). eqb n.number m) after))) other
    ∙ ap₂ joined_below (no_row_in below (k + 1) m numbered.1 (omega arith)) (no_row_in after (k + 1 + size below) m numbered.2 (omega arith))

pub instances-cons : (s : Stored) (below after : Tree) (m : ℕ) → instances_in (node s below after) m ≡ cond (eqb s.schema_number m) 1 0 + instances_in after m
instances-cons s below after m = sum_by-cons (λ (x : Stored). cond (eqb x.schema_number m) 1 0) s (row after)

one_less : (t : Bool) (x : ℕ) → cond t 1 0 + x ≡ 0 → t ≡ false
one_less true x e = absurd (omega arith)
one_less false x e = refl

-- where none of a number is stored, the first isn't of that number
pub first_is_other : (s : Stored) (below after : Tree) (m : ℕ) → instances_in (node s below after) m ≡ 0 → eqb s.schema_number m ≡ false
first_is_other s below after m none =
    one_less (eqb s.schema_number m) (instances_in after m) (sym (instances-cons s below after m) ∙ none)

pub none_of_others : (s : Stored) (below after : Tree) (m : ℕ) → eqb s.schema_number m ≡ false → instances_in (node s below after) m ≡ instances_in after m
none_of_others s below after m other =
    instances-cons s below after m ∙ (ap (λ t. cond t 1 0 + instances_in after m) other ∙ zero-add (instances_in after m))
