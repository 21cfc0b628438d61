-- How many defaults are in use in a row: no more for each schema node that is near in it than one has at most.
use Rattle.std.proofs.Common.{◌≡◌, ℕ, suc, ◌+◌, ◌*◌, ◌≤◌, Bool, true, false, cond, ltb, max, List, [], ◌∷◌, ◌++◌, map, filter, length, length-append, refl, sym, ap, ◌∙◌, arith}
use Rattle.std.proofs.lemmas.List.{length-map}
use Rattle.std.proofs.lemmas.Nat.{mul-le}
use Rattle.yspec.specs.Forest.{Forest, end, node}
use Rattle.yspec.specs.types.Types.{Val}
use Rattle.yspec.specs.schema.Schema.{SchemaNode, Kind, container, leaf, leaf_list, list, choice, case, Absence, allowed, default_used, mandatory, key}
use Rattle.yspec.specs.document.Play.{cases, stored_inside, is_among}
use Rattle.yspec_play.specs.Absences.{Default, absent_leaf_default, defaults_in, node_defaults}
use Rattle.yspec_reach.specs.Sizes.{absence_defaults, default_count, most_defaults, near_count, starts_anew}

either : {A : Type 0} (b : Bool) (xs : List A) (most : ℕ) → length xs ≤ most → length (cond b [] xs) ≤ most
either true xs most few = omega arith
either false xs most few = few

leaf_few : (number : ℕ) (absence : Absence) → length (absent_leaf_default number absence) ≤ absence_defaults absence
leaf_few number allowed = omega arith
leaf_few number (default_used v) = omega arith
leaf_few number mandatory = omega arith
leaf_few number key = omega arith

node_few : (stored : ℕ → ℕ) (chosen : List ℕ) (n : SchemaNode) (k : Kind) (inside : List Default) (most near : ℕ) → default_count k ≤ most → length inside ≤ most * near
    → length (node_defaults stored chosen n k inside) ≤ most * (1 + cond (starts_anew k) 0 near)
node_few stored chosen n (container true) inside most near own few = either (ltb 0 (stored n.number)) [] _ (omega arith)
node_few stored chosen n (container false) inside most near own few = either (ltb 0 (stored n.number)) inside _ (omega (arith, few))
node_few stored chosen n (leaf type absence) inside most near own few =
    let one = leaf_few n.number absence in either (ltb 0 (stored n.number)) (absent_leaf_default n.number absence) _ (omega (arith, one, own))
node_few stored chosen n (leaf_list type defaults amount) inside most near own few =
    let same = length-map defaults (λ v. let d : Default = (n.number, v) in d) in
    either (ltb 0 (stored n.number)) (map (λ v. (n.number, v)) defaults) _ (omega (arith, same, own))
node_few stored chosen n (list tuples amount) inside most near own few = omega arith
node_few stored chosen n (choice default_case is_mandatory) inside most near own few = omega (arith, few)
node_few stored chosen n case inside most near own few = by (is_among chosen n.number)
  where
    by : (b : Bool) → length (cond b inside []) ≤ most * (1 + near)
    by true = omega (arith, few)
    by false = omega arith

-- of a row
pub few_defaults : (stored : ℕ → ℕ) (chosen : List ℕ) (f : Forest SchemaNode) (most : ℕ) → most_defaults f ≤ most
    → length (defaults_in stored chosen f) ≤ most * near_count f
unfolding defaults_in
few_defaults stored chosen end most up = omega arith
few_defaults stored chosen (node n below after) most up =
    let inside = defaults_in (stored_inside n.kind stored) (cases stored n.kind below) below in
    let inner = few_defaults (stored_inside n.kind stored) (cases stored n.kind below) below most (omega (arith, up)) in
    let here = node_few stored chosen n n.kind inside most (near_count below) (omega (arith, up)) inner in
    let rest = few_defaults stored chosen after most (omega (arith, up)) in
    let both = length-append (node_defaults stored chosen n n.kind inside) (defaults_in stored chosen after) in
    omega (arith, here, rest, both)
