-- A child of a node, or a top node, by its number.
use Rattle.std.proofs.Common.{◌≡◌, ℕ, suc, zero, ◌+◌, ◌<◌, Bool, true, false, cond, ◌&&◌, List, [], ◌∷◌, Option, Some, None, refl, sym, ap, ap₂, ◌∙◌, subst, arith}
use Rattle.std.specs.Prelude.{◌==◌, option_map, option_and_then, unwrap_or, find, slice_get}
use Rattle.std.proofs.lemmas.Bool.{eq-eqb, ne_eqb, eqb-true}
use Rattle.yspec.specs.Forest.{Forest, node, end, row, find_below, joined_below}
use Rattle.yspec.specs.schema.Schema.{Schema, SchemaNode, node_at, children_of, row_at, child_in, first_in_row}
use Rattle.yspec.specs.linking.Planned.{same_number}
use Rattle.yspec.proofs.DocumentProofs.CheckingRowLemmas.{Has}
use Rattle.yspec.proofs.DocumentProofs.HeldNodeLemmas.{schema_has_all}
use Rattle.yschema_model.specs.declared.children.Slot.{Slot}
use Rattle.yschema_model.specs.declared.schema.SchemaModule.{SchemaModule}
use Rattle.yschema_model.specs.Layout.{laid, number_of, schema_view, forest_of, node_view, IsLaidOut}
use Rattle.yschema_model.specs.Lookup.{first_below}
use Rattle.yschema_model.proofs.ChildLemmas.{numbered_laid, first_child}
use Rattle.yschema_model.proofs.QueryLemmas.{label_at, laid_out_fits}

-- what a schema has of a row, it has of the row below one of its nodes
has_below : (s : Schema) (test : SchemaNode → Bool) (f : Forest SchemaNode) → Has s f → Has s (unwrap_or (find_below test f) end)
has_below s test end has = tt
has_below s test (node n below after) has =
    by (test n) (find_below test below) (has_below s test below has.2) (has_below s test after has.3)
  where
    by : (b : Bool) (o : Option (Forest SchemaNode)) → Has s (unwrap_or o end) → Has s (unwrap_or (find_below test after) end)
        → Has s (unwrap_or (cond b (Some below) (joined_below o (find_below test after))) end)
    by true o inner rest = has.2
    by false (Some f) inner rest = inner
    by false None inner rest = rest

has_row : (s : Schema) (p : Option ℕ) → Has s s.nodes → Has s (row_at s p)
has_row s None has = has
has_row s (Some p) has = has_below s (λ n. n.number == p) s.nodes has

-- a node and what stands below it, as a schema has them under a number
abbrev pub known : Schema → ℕ → Option ℕ → Option (SchemaNode × Forest SchemaNode)
known s k found = option_and_then (λ m. option_map (λ n. (n, children_of s k)) (node_at s k)) found

child_known : (s : Schema) (k : ℕ) (f : Forest SchemaNode) → Has s f → child_in f k ≡ known s k (first_in_row (λ n. n.number == k) f)
child_known s k end has = refl
child_known s k (node n below after) has = by (n.number == k) refl (child_known s k after has.3)
  where
    by : (b : Bool) → (n.number == k) ≡ b → child_in after k ≡ known s k (first_in_row (λ n. n.number == k) after)
        → cond b (Some (n, below)) (child_in after k)
        ≡ known s k (option_map (λ m. m.number) (cond b (Some n) (find (λ m. m.number == k) (row after))))
    by true e rest =
        let same = eqb-true n.number k e in
        let here : node_at s k ≡ Some n = subst (λ m. node_at s m ≡ Some n) same has.0 in
        let under : children_of s k ≡ below = subst (λ m. children_of s m ≡ below) same has.1 in
        sym (ap₂ (λ o g. option_map (λ m. (m, g)) o) here under)
    by false e rest = rest

-- whether a slot stands below a node, or at the top
abbrev pub below_it : Option ℕ → ℕ → Option Slot → Option ℕ
below_it p k found = option_and_then (λ r. cond (same_number p (number_of r.parent)) (Some k) None) found

by_slot : (p : Option ℕ) (j i k : ℕ) (slots : List Slot) → k ≡ j + i
    → first_below p (λ n. n.number == k) (laid j slots) ≡ below_it p k (slice_get slots i)
by_slot p j i k [] e = refl
by_slot p j zero k (r ∷ slots) e =
    let here : (j == k) ≡ true = eq-eqb j k (omega arith) in
    by (same_number p (number_of r.parent)) here (behind (j + 1) slots (omega arith))
  where
    behind : (m : ℕ) (others : List Slot) → k < m → first_below p (λ n. n.number == k) (laid m others) ≡ None
    behind m [] less = refl
    behind m (q ∷ others) less =
        let other : (m == k) ≡ false = ne_eqb m k (omega arith) in
        never (same_number p (number_of q.parent)) other (behind (m + 1) others (omega arith))
      where
        never : (b : Bool) → (m == k) ≡ false → first_below p (λ n. n.number == k) (laid (m + 1) others) ≡ None
            → cond (b && (m == k)) (Some m) (first_below p (λ n. n.number == k) (laid (m + 1) others)) ≡ None
        never true other rest = ap (λ t. cond t (Some m) (first_below p (λ n. n.number == k) (laid (m + 1) others))) other ∙ rest
        never false other rest = rest

    by : (b : Bool) → (j == k) ≡ true → first_below p (λ n. n.number == k) (laid (j + 1) slots) ≡ None
        → cond (b && (j == k)) (Some j) (first_below p (λ n. n.number == k) (laid (j + 1) slots)) ≡ cond b (Some k) None
    by true here none = ap (λ t. cond t (Some j) (first_below p (λ n. n.number == k) (laid (j + 1) slots))) here ∙ ap Some (eqb-true j k here)
    by false here none = none
by_slot p j (suc i) k (r ∷ slots) e =
    let other : (j == k) ≡ false = ne_eqb j k (omega arith) in
    by (same_number p (number_of r.parent)) other (by_slot p (j + 1) i k slots (omega arith))
  where
    by : (b : Bool) → (j == k) ≡ false → first_below p (λ n. n.number == k) (laid (j + 1) slots) ≡ below_it p k (slice_get slots i)
        → cond (b && (j == k)) (Some j) (first_below p (λ n. n.number == k) (laid (j + 1) slots)) ≡ below_it p k (slice_get slots i)
    by true other rest = ap (λ t. cond t (Some j) (first_below p (λ n. n.number == k) (laid (j + 1) slots))) other ∙ rest
    by false other rest = rest

-- a child of a number, from its slot
pub child_of_slot : (modules : List SchemaModule) (slots : List Slot) (p : Option ℕ) (k : ℕ) → IsLaidOut slots
    → child_in (row_at (schema_view modules slots) p) k ≡ known (schema_view modules slots) k (below_it p k (slice_get slots k))
child_of_slot modules slots p k laid_out =
    let s = schema_view modules slots in
    let has = schema_has_all s (numbered_laid (forest_of 0 slots) None 0 slots laid_out) in
    let start : k ≡ 0 + k = omega arith in
    child_known s k (row_at s p) (has_row s p has)
    ∙ ap (known s k) (sym (first_child modules slots p (λ n. n.number == k) laid_out) ∙ by_slot p 0 k k slots start)

-- one that is none, as there is no such slot, or as it stands elsewhere
pub no_child_of : (modules : List SchemaModule) (slots : List Slot) (p : Option ℕ) (k : ℕ) → IsLaidOut slots → below_it p k (slice_get slots k) ≡ None
    → None ≡ child_in (row_at (schema_view modules slots) p) k
no_child_of modules slots p k laid_out none =
    sym (child_of_slot modules slots p k laid_out ∙ ap (known (schema_view modules slots) k) none)

pub child_of : (modules : List SchemaModule) (slots : List Slot) (p : Option ℕ) (k : ℕ) (r : Slot) (n : SchemaNode) (below : Forest SchemaNode) → IsLaidOut slots
    → slice_get slots k ≡ Some r → same_number p (number_of r.parent) ≡ true → n ≡ node_view k r.node → below ≡ children_of (schema_view modules slots) k
    → Some (n, below) ≡ child_in (row_at (schema_view modules slots) p) k
child_of modules slots p k r n below laid_out there above n_is below_is =
    let s = schema_view modules slots in
    let found : below_it p k (slice_get slots k) ≡ Some k = ap (below_it p k) there
    ∙ ap (λ b. cond b (Some k) None) above in
    let here : node_at s k ≡ Some (node_view k r.node) =
    label_at slots k (laid_out_fits slots laid_out) ∙ ap (option_map (λ x. node_view k x.node)) there in
    sym (child_of_slot modules slots p k laid_out ∙ (ap (known s k) found
    ∙ (ap (option_map (λ m. (m, children_of s k))) here ∙ sym (ap₂ (λ m g. Some (m, g)) n_is below_is))))
