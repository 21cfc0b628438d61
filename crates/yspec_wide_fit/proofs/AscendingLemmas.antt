-- In the schema of parts that are numbered the nodes that an augment adds ascend by their numbers.
use Rattle.std.proofs.Common.{◌≡◌, ℕ, zero, suc, ◌+◌, ◌≤◌, Bool, true, false, cond, List, [], ◌∷◌, ◌++◌, map, filter, Option, Some, None, refl, sym, ap, ◌∙◌, subst, arith}
use Rattle.std.specs.Prelude.{nat_le, option_map, slice_get}
use Rattle.std.specs.List.{filter_map, cons_option}
use Rattle.std.specs.Option.{option_map_or}
use Rattle.std.proofs.lemmas.Bool.{le-leb, and_from}
use Rattle.std.proofs.lemmas.List.{map-append}
use Rattle.std.proofs.lemmas.List.Elements.{filter-append}
use Rattle.yspec.specs.Forest.{Forest, end, node, size, preorder}
use Rattle.yspec.specs.linking.Augments as augments
use Rattle.yspec.specs.linking.Compiling.{schema_augment, schema_modules, target_found}
use Rattle.yspec.specs.linking.Parts.{Part}
use Rattle.yspec.specs.linking.Planned.{Plan, Planned, Around, at_top, around_below, planned, planned_node, same_number}
use Rattle.yspec.specs.linking.SchemaNodes.{number_in}
use Rattle.yspec.specs.linking.Source.{Source}
use Rattle.yspec.specs.schema.Schema.{SchemaModule, SchemaNode, augments_in}
use Rattle.yspec_fit.specs.Fit.{ascends_from, all_ascend}

-- they ascend, from a least one on and below another
abbrev Between : ℕ → ℕ → List ℕ → Type 0
Between least last [] = least ≤ last
Between least last (n ∷ ns) = (least ≤ n) × Between (suc n) last ns

between_from : (least less last : ℕ) (ns : List ℕ) → less ≤ least → Between least last ns → Between less last ns
between_from least less last [] h b = omega (arith, h, b)
between_from least less last (n ∷ ns) h b = (omega (arith, h, b.0), b.1)

between_joined : (least middle last : ℕ) (ms ns : List ℕ) → Between least middle ms → Between middle last ns → Between least last (ms ++ ns)
between_joined least middle last [] ns b c = between_from middle least last ns b c
between_joined least middle last (m ∷ ms) ns b c = (b.0, between_joined (suc m) middle last ms ns b.1 c)

between_ascends : (least last : ℕ) (ns : List ℕ) → Between least last ns → ascends_from least ns ≡ true
between_ascends least last [] b = refl
between_ascends least last (n ∷ ns) b =
    and_from (nat_le least n) (ascends_from (suc n) ns) (le-leb least n b.0) (between_ascends (suc n) last ns b.1)

-- the numbers of those nodes of a row that pass a test
abbrev numbers_for : (Planned → Bool) → List Planned → List ℕ
numbers_for test ps = map number_in (filter test ps)

numbers-append : (test : Planned → Bool) (ps qs : List Planned) → numbers_for test (ps ++ qs) ≡ numbers_for test ps ++ numbers_for test qs
numbers-append test ps qs = ap (map number_in) (filter-append test ps qs) ∙ map-append number_in (filter test ps) (filter test qs)

planned_between : (test : Planned → Bool) (next : ℕ) (around : Around) (f : Forest Part)
    → Between next (next + size f) (numbers_for test (preorder (planned next around f)))
unfolding planned
planned_between test next around end = omega arith
planned_between test next around (node p below after) =
    let inner = preorder (planned (next + 1) (around_below next around p) below) in
    let rest = preorder (planned (next + suc (size below)) around after) in
    let q = planned_node next around p in
    let first = subst (λ m. Between (suc next) m (numbers_for test inner)) (omega arith) (subst (λ m. Between m (next + 1 + size below) (numbers_for test inner)) (omega arith)
    (planned_between test (next + 1) (around_below next around p) below)) in
    let second = subst (λ m. Between (next + suc (size below)) m (numbers_for test rest)) (omega arith) (planned_between test (next + suc (size below)) around after) in
    let both = subst (Between (suc next) (next + suc (size below + size after))) (sym (numbers-append test inner rest))
    (between_joined (suc next) (next + suc (size below)) (next + suc (size below + size after)) (numbers_for test inner) (numbers_for test rest) first second) in
    by (test q) (inner ++ rest) both
  where
    by : (b : Bool) (others : List Planned) → Between (suc next) (next + suc (size below + size after)) (numbers_for test others)
        → Between next (next + suc (size below + size after)) (map number_in (cond b (planned_node next around p ∷ filter test others) (filter test others)))
    by true others h = (omega arith, h)
    by false others h = between_from (suc next) next (next + suc (size below + size after)) (numbers_for test others) (omega arith) h

-- ---- those of augments

-- whatever is asked of the nodes of a plan, their numbers ascend
abbrev Ascends : Plan → Type 0
Ascends plan = (test : Planned → Bool) → ascends_from 0 (numbers_for test (preorder plan.nodes)) ≡ true

augments_ascend_in : (plan : Plan) → Ascends plan → (given : List augments.Augment) → all_ascend (filter_map (schema_augment plan) given) ≡ true
augments_ascend_in plan ascends [] = refl
augments_ascend_in plan ascends (a ∷ given) = by (target_found plan a) (augments_ascend_in plan ascends given)
  where
    by : (o : Option Planned) → all_ascend (filter_map (schema_augment plan) given) ≡ true
        → all_ascend (cons_option (option_map (λ p. record { target = p.number; nodes = numbers_for (λ q. same_number (Some a.source.number) q.part.added_by) (preorder plan.nodes) }) o) (filter_map (schema_augment plan) given)) ≡ true
    by None rest = rest
    by (Some p) rest = and_from _ _ (ascends (λ q. same_number (Some a.source.number) q.part.added_by)) rest

modules_ascend : (plan : Plan) → Ascends plan → (f : Forest Source) (m : ℕ)
    → all_ascend (option_map_or (λ (s : SchemaModule). s.augments) (slice_get (schema_modules plan f) m) []) ≡ true
modules_ascend plan ascends end m = refl
modules_ascend plan ascends (node s below after) zero = augments_ascend_in plan ascends (augments.augments_in below)
modules_ascend plan ascends (node s below after) (suc m) = modules_ascend plan ascends after m

pub augments_ascend : (plan : Plan) (f : Forest Part) (nodes : Forest SchemaNode) → planned 0 at_top f ≡ plan.nodes → (m : ℕ)
    → all_ascend (augments_in (record { modules = schema_modules plan plan.modules; nodes = nodes }) m) ≡ true
augments_ascend plan f nodes is m = modules_ascend plan
    (λ test. subst (λ (g : Forest Planned). ascends_from 0 (numbers_for test (preorder g)) ≡ true) is
    (between_ascends 0 (0 + size f) _ (planned_between test 0 at_top f))) plan.modules m
