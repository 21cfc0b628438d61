-- What is told of nodes that aren't stored ascends by their numbers, and is at most one a node; defaults in use are those
-- that are in play.
use Rattle.std.proofs.Common.{ap, ◌≡◌, ℕ, suc, ◌+◌, ◌≤◌, ◌<◌, Bool, true, false, cond, eqb, ltb, ◌&&◌, List, [], ◌∷◌, ◌++◌, map, length, refl, sym, ap₂, ◌∙◌, arith, length-append}
use Rattle.std.specs.Prelude.{count_by, sum_by}
use Rattle.std.proofs.lemmas.List.Sums.{sum_by-cons, sum_by-append}
use Rattle.yspec.specs.Forest.{Forest, end, node, size, weigh_nodes}
use Rattle.yspec.specs.types.Types.{Val}
use Rattle.yspec.specs.types.Order.{same_value}
use Rattle.yspec.specs.schema.Schema.{SchemaNode, Kind, container, leaf, leaf_list, list, choice, case, Absence, allowed, default_used, mandatory, key, Amount, Schema, children_of}
use Rattle.yspec.specs.document.Document.{Step, step_to, Tree, instances_in}
use Rattle.yspec.specs.document.Fault.{plain_fault}
use Rattle.yspec.specs.document.FaultCode.{FaultCode, V2, V3, V4, V5, V6, V7}
use Rattle.yspec.specs.document.Fitting.{IsNumbered}
use Rattle.yspec.specs.document.Play.{Item, tell, in_use, visit, visit_each, cases, stored_cases, choice_faults, absent_leaf, absent_items, exceeds, amount_faults, is_among, node_items, stored_inside, steps_inside, items_in_play}
use Rattle.yspec.specs.document.Instances.{times_in_use, times_at, times_in, is_value, value_of}
use Rattle.yspec_play.specs.Absences.{Absent, absent_leaf_told, choice_told, node_absences, absences_in, Default, is_default, absent_leaf_default, node_defaults, defaults_in, defaults_below, given_at}
use Rattle.yspec_play.specs.Merging.{Ascends}

-- ---- in order

-- each is told of a node behind that of the one before it, from a number on and before another
abbrev pub Between : ℕ → ℕ → List Absent → Type 0
Between least limit [] = Unit {0}
Between least limit (a ∷ absences) = (least ≤ a.1) × (a.1 < limit) × Between (suc a.1) limit absences

pub between_wider : (least limit low high : ℕ) (absences : List Absent) → low ≤ least → limit ≤ high → Between least limit absences → Between low high absences
between_wider least limit low high [] lower upper b = tt
between_wider least limit low high (a ∷ absences) lower upper b =
    (omega (arith, b.0, lower), omega (arith, b.1, upper), between_wider (suc a.1) limit (suc a.1) high absences (omega arith) upper b.2)

pub between_joined : (least middle limit : ℕ) (xs ys : List Absent) → least ≤ middle → middle ≤ limit → Between least middle xs → Between middle limit ys
    → Between least limit (xs ++ ys)
between_joined least middle limit [] ys lower upper first second = between_wider middle limit least limit ys lower (omega arith) second
between_joined least middle limit (a ∷ xs) ys lower upper first second =
    (first.0, omega (arith, first.1, upper), between_joined (suc a.1) middle limit xs ys (omega (arith, first.1)) upper first.2 second)

pub between_ascends : (least limit : ℕ) (absences : List Absent) → Between least limit absences → Ascends least absences
between_ascends least limit [] b = tt
between_ascends least limit (a ∷ absences) b = (b.0, between_ascends (suc a.1) limit absences b.2)

alone : (code : FaultCode) (number limit : ℕ) → number < limit → Between number limit ((code, number) ∷ [])
alone code number limit within = (omega arith, omega (arith, within), tt)

leaf_between : (number limit : ℕ) (absence : Absence) → number < limit → Between number limit (absent_leaf_told number absence)
leaf_between number limit allowed within = tt
leaf_between number limit (default_used v) within = tt
leaf_between number limit mandatory within = alone V3 number limit within
leaf_between number limit key within = alone V2 number limit within

amount_between : (a b : Bool) (number limit : ℕ) → number < limit → Between number limit (cond a ((V6, number) ∷ []) (cond b ((V7, number) ∷ []) []))
amount_between true b number limit within = alone V6 number limit within
amount_between false true number limit within = alone V7 number limit within
amount_between false false number limit within = tt

choice_between : (number limit : ℕ) (is_mandatory : Bool) (with_stored : List ℕ) → number < limit → Between number limit (choice_told number is_mandatory with_stored)
choice_between number limit true [] within = alone V4 number limit within
choice_between number limit false [] within = tt
choice_between number limit is_mandatory (first ∷ []) within = tt
choice_between number limit is_mandatory (first ∷ second ∷ more) within = alone V5 number limit within

either_between : (b : Bool) (least limit : ℕ) (xs ys : List Absent) → Between least limit xs → Between least limit ys → Between least limit (cond b xs ys)
either_between true least limit xs ys first second = first
either_between false least limit xs ys first second = second

node_between : (stored : ℕ → ℕ) (chosen : List ℕ) (n : SchemaNode) (kind : Kind) (below : Forest SchemaNode) (inside : List Absent) (limit : ℕ)
    → n.number < limit → Between (n.number + 1) limit inside → Between n.number limit (node_absences stored chosen n kind below inside)
node_between stored chosen n (container presence) below inside limit within inner =
    either_between (ltb 0 (stored n.number)) n.number limit [] _ tt
    (either_between presence n.number limit [] inside tt (between_wider (n.number + 1) limit n.number limit inside (omega arith) (omega arith) inner))
node_between stored chosen n (leaf type absence) below inside limit within inner =
    either_between (ltb 0 (stored n.number)) n.number limit [] _ tt (leaf_between n.number limit absence within)
node_between stored chosen n (leaf_list type defaults amount) below inside limit within inner =
    amount_between (ltb (stored n.number) amount.min_elements) (exceeds (stored n.number) amount.max_elements) n.number limit within
node_between stored chosen n (list tuples amount) below inside limit within inner =
    amount_between (ltb (stored n.number) amount.min_elements) (exceeds (stored n.number) amount.max_elements) n.number limit within
node_between stored chosen n (choice default_case is_mandatory) below inside limit within inner =
    between_joined n.number (n.number + 1) limit (choice_told n.number is_mandatory (stored_cases stored below)) inside (omega arith) (omega (arith, within))
    (choice_between n.number (n.number + 1) is_mandatory (stored_cases stored below) (omega arith)) inner
node_between stored chosen n case below inside limit within inner =
    either_between (is_among chosen n.number) n.number limit inside [] (between_wider (n.number + 1) limit n.number limit inside (omega arith) (omega arith) inner) tt

-- of a numbered row each is told of another node, in order
pub absences_between : (f : Forest SchemaNode) (k : ℕ) (stored : ℕ → ℕ) (chosen : List ℕ) → IsNumbered k f
    → Between k (k + size f) (absences_in stored chosen f)
unfolding absences_in
absences_between end k stored chosen numbered = tt
absences_between (node n below after) k stored chosen numbered =
    let inside = absences_in (stored_inside n.kind stored) (cases stored n.kind below) below in
    let next = k + 1 + size below in
    let inner = absences_between below (k + 1) (stored_inside n.kind stored) (cases stored n.kind below) numbered.1 in
    let later = absences_between after next stored chosen numbered.2 in
    let here = node_between stored chosen n n.kind below inside next (omega (arith, numbered.0))
    (between_wider (k + 1) next (n.number + 1) next inside (omega (arith, numbered.0)) (omega arith) inner) in
    between_joined k next (k + suc (size below + size after)) (node_absences stored chosen n n.kind below inside) (absences_in stored chosen after) (omega arith) (omega arith)
    (between_wider n.number next k next (node_absences stored chosen n n.kind below inside) (omega (arith, numbered.0)) (omega arith) here)
    (between_wider next (next + size after) next (k + suc (size below + size after)) (absences_in stored chosen after) (omega arith) (omega arith) later)

-- ---- their number

leaf_few : (number : ℕ) (absence : Absence) → length (absent_leaf_told number absence) ≤ 1
leaf_few number allowed = omega arith
leaf_few number (default_used v) = omega arith
leaf_few number mandatory = omega arith
leaf_few number key = omega arith

amount_few : (a b : Bool) (number : ℕ) → length {A = Absent} (cond a ((V6, number) ∷ []) (cond b ((V7, number) ∷ []) [])) ≤ 1
amount_few true b number = omega arith
amount_few false true number = omega arith
amount_few false false number = omega arith

choice_few : (number : ℕ) (is_mandatory : Bool) (with_stored : List ℕ) → length (choice_told number is_mandatory with_stored) ≤ 1
choice_few number true [] = omega arith
choice_few number false [] = omega arith
choice_few number is_mandatory (first ∷ []) = omega arith
choice_few number is_mandatory (first ∷ second ∷ more) = omega arith

either_few : (b : Bool) (most : ℕ) (xs ys : List Absent) → length xs ≤ most → length ys ≤ most → length (cond b xs ys) ≤ most
either_few true most xs ys first second = first
either_few false most xs ys first second = second

node_few : (stored : ℕ → ℕ) (chosen : List ℕ) (n : SchemaNode) (kind : Kind) (below : Forest SchemaNode) (inside : List Absent) (most : ℕ)
    → length inside ≤ most → length (node_absences stored chosen n kind below inside) ≤ suc most
node_few stored chosen n (container presence) below inside most inner =
    either_few (ltb 0 (stored n.number)) (suc most) [] _ (omega arith) (either_few presence (suc most) [] inside (omega arith) (omega (arith, inner)))
node_few stored chosen n (leaf type absence) below inside most inner =
    either_few (ltb 0 (stored n.number)) (suc most) [] _ (omega arith) (let few = leaf_few n.number absence in omega (arith, few))
node_few stored chosen n (leaf_list type defaults amount) below inside most inner =
    let few = amount_few (ltb (stored n.number) amount.min_elements) (exceeds (stored n.number) amount.max_elements) n.number in omega (arith, few)
node_few stored chosen n (list tuples amount) below inside most inner =
    let few = amount_few (ltb (stored n.number) amount.min_elements) (exceeds (stored n.number) amount.max_elements) n.number in omega (arith, few)
node_few stored chosen n (choice default_case is_mandatory) below inside most inner =
    let few = choice_few n.number is_mandatory (stored_cases stored below) in
    let both = length-append (choice_told n.number is_mandatory (stored_cases stored below)) inside in omega (arith, few, both, inner)
node_few stored chosen n case below inside most inner =
    either_few (is_among chosen n.number) (suc most) inside [] (omega (arith, inner)) (omega arith)

-- no more than the row has schema nodes
pub few_absences : (f : Forest SchemaNode) (stored : ℕ → ℕ) (chosen : List ℕ) → length (absences_in stored chosen f) ≤ size f
unfolding absences_in
few_absences end stored chosen = omega arith
few_absences (node n below after) stored chosen =
    let inside = absences_in (stored_inside n.kind stored) (cases stored n.kind below) below in
    let here = node_few stored chosen n n.kind below inside (size below) (few_absences below (stored_inside n.kind stored) (cases stored n.kind below)) in
    let later = few_absences after stored chosen in
    let both = length-append (node_absences stored chosen n n.kind below inside) (absences_in stored chosen after) in
    omega (arith, here, later, both)

-- ---- defaults

past_none : (a b c : ℕ) → a ≡ 0 → b ≡ c → a + b ≡ c
past_none a b c none same = omega (arith, none, same)

module _ (number : ℕ) (v : Val) where
  abbrev used : List Item → ℕ
  used items = sum_by (times_in_use number v) items

  abbrev counted : List Default → ℕ
  counted defaults = count_by (is_default number v) defaults

  some_counted : (b : Bool) (m : ℕ) (vs : List Val) → eqb m number ≡ b → cond b (count_by (same_value v) vs) 0 ≡ counted (map (λ w. (m, w)) vs)
  some_counted true m [] same = refl
  some_counted false m [] other = refl
  some_counted true m (w ∷ vs) same =
      sum_by-cons (λ x. cond (same_value v x) 1 0) w vs
      ∙ (ap₂ (λ (b : Bool) (c : ℕ). cond (b && same_value v w) 1 0 + c) (sym same) (some_counted true m vs same)
      ∙ sym (sum_by-cons (λ d. cond (is_default number v d) 1 0) (m, w) (map (λ w. (m, w)) vs)))
  some_counted false m (w ∷ vs) other =
      ap₂ (λ (b : Bool) (c : ℕ). cond (b && same_value v w) 1 0 + c) (sym other) (some_counted false m vs other)
      ∙ sym (sum_by-cons (λ d. cond (is_default number v d) 1 0) (m, w) (map (λ w. (m, w)) vs))

  one_used : (m : ℕ) (vs : List Val) → used (in_use m vs ∷ []) ≡ counted (map (λ w. (m, w)) vs)
  one_used m vs = sum_by-cons (times_in_use number v) (in_use m vs) [] ∙ (let last : cond (eqb m number) (count_by (same_value v) vs) 0 + 0 ≡ cond (eqb m number) (count_by (same_value v) vs) 0 = omega arith in last ∙ some_counted (eqb m number) m vs refl)

  none_told : (steps : List Step) (amount : Amount) (count : ℕ) → used (amount_faults steps amount count) ≡ 0
  none_told steps amount count = by (ltb count amount.min_elements) (exceeds count amount.max_elements)
    where
      by : (a b : Bool) → used (cond a (tell (plain_fault V6 steps) ∷ []) (cond b (tell (plain_fault V7 steps) ∷ []) [])) ≡ 0
      by true b = refl
      by false true = refl
      by false false = refl

  choice_unused : (above : List Step) (n : SchemaNode) (is_mandatory : Bool) (with_stored : List ℕ) → used (choice_faults above n is_mandatory with_stored) ≡ 0
  choice_unused above n true [] = refl
  choice_unused above n false [] = refl
  choice_unused above n is_mandatory (first ∷ []) = refl
  choice_unused above n is_mandatory (first ∷ second ∷ more) = refl

  leaf_used : (m : ℕ) (steps : List Step) (absence : Absence) → used (absent_leaf m steps absence) ≡ counted (absent_leaf_default m absence)
  leaf_used m steps allowed = refl
  leaf_used m steps (default_used w) = one_used m (w ∷ [])
  leaf_used m steps mandatory = refl
  leaf_used m steps key = refl

  items_used : (m : ℕ) (vs : List Val) → used (absent_items m vs) ≡ counted (map (λ w. (m, w)) vs)
  items_used m [] = refl
  items_used m (w ∷ vs) = one_used m (w ∷ vs)

  nothing_used : (b : Bool) (m : ℕ) → used (cond b (visit_each m ∷ []) []) ≡ 0
  nothing_used true m = refl
  nothing_used false m = refl

  either_used : (b : Bool) (xs ys : List Item) (ds es : List Default) → used xs ≡ counted ds → used ys ≡ counted es → used (cond b xs ys) ≡ counted (cond b ds es)
  either_used true xs ys ds es first second = first
  either_used false xs ys ds es first second = second

  node_used : (stored : ℕ → ℕ) (chosen : List ℕ) (above : List Step) (n : SchemaNode) (kind : Kind) (below : Forest SchemaNode) (items : List Item) (inside : List Default)
      → used items ≡ counted inside → used (node_items stored chosen above n kind below items) ≡ counted (node_defaults stored chosen n kind inside)
  node_used stored chosen above n (container presence) below items inside inner =
      either_used (ltb 0 (stored n.number)) (visit n.number ∷ []) _ [] _ refl (either_used presence [] items [] inside refl inner)
  node_used stored chosen above n (leaf type absence) below items inside inner =
      either_used (ltb 0 (stored n.number)) (visit n.number ∷ []) _ [] _ refl (leaf_used n.number (above ++ step_to n.number ∷ []) absence)
  node_used stored chosen above n (leaf_list type defaults amount) below items inside inner =
      let rest = cond (ltb 0 (stored n.number)) (visit_each n.number ∷ []) (absent_items n.number defaults) in
      sum_by-append (times_in_use number v) (amount_faults (above ++ step_to n.number ∷ []) amount (stored n.number)) rest
      ∙ past_none (used (amount_faults (above ++ step_to n.number ∷ []) amount (stored n.number))) (used rest) _ (none_told (above ++ step_to n.number ∷ []) amount (stored n.number))
      (either_used (ltb 0 (stored n.number)) (visit_each n.number ∷ []) (absent_items n.number defaults) [] _ refl (items_used n.number defaults))
  node_used stored chosen above n (list tuples amount) below items inside inner =
      let rest = cond (ltb 0 (stored n.number)) (visit_each n.number ∷ []) [] in
      sum_by-append (times_in_use number v) (amount_faults (above ++ step_to n.number ∷ []) amount (stored n.number)) rest
      ∙ past_none (used (amount_faults (above ++ step_to n.number ∷ []) amount (stored n.number))) (used rest) _ (none_told (above ++ step_to n.number ∷ []) amount (stored n.number))
      (nothing_used (ltb 0 (stored n.number)) n.number)
  node_used stored chosen above n (choice default_case is_mandatory) below items inside inner =
      sum_by-append (times_in_use number v) (choice_faults above n is_mandatory (stored_cases stored below)) items
      ∙ past_none (used (choice_faults above n is_mandatory (stored_cases stored below))) (used items) _ (choice_unused above n is_mandatory (stored_cases stored below)) inner
  node_used stored chosen above n case below items inside inner =
      either_used (is_among chosen n.number) items [] inside [] inner refl

  -- how often a value is a default in use of a schema node
  pub defaults_used : (f : Forest SchemaNode) (stored : ℕ → ℕ) (chosen : List ℕ) (above : List Step)
      → sum_by (times_in_use number v) (items_in_play stored chosen above f) ≡ count_by (is_default number v) (defaults_in stored chosen f)
  unfolding items_in_play defaults_in
  defaults_used end stored chosen above = refl
  defaults_used (node n below after) stored chosen above =
      let items = items_in_play (stored_inside n.kind stored) (cases stored n.kind below) (steps_inside n.kind above n.number) below in
      let inside = defaults_in (stored_inside n.kind stored) (cases stored n.kind below) below in
      sum_by-append (times_in_use number v) (node_items stored chosen above n n.kind below items) (items_in_play stored chosen above after)
      ∙ (ap₂ ◌+◌ (node_used stored chosen above n n.kind below items inside
      (defaults_used below (stored_inside n.kind stored) (cases stored n.kind below) (steps_inside n.kind above n.number)))
      (defaults_used after stored chosen above)
      ∙ sym (sum_by-append (λ d. cond (is_default number v d) 1 0) (node_defaults stored chosen n n.kind inside) (defaults_in stored chosen after)))

-- in a whole document
pub given_in : (schema : Schema) (number : ℕ) (v : Val) (tree : Tree) → weigh_nodes (times_at schema number v) tree ≡ weigh_nodes (given_at schema number v) tree
given_in schema number v end = refl
given_in schema number v (node s below after) =
    ap₂ ◌+◌ (ap (λ c. cond (eqb s.schema_number number) (cond (is_value v (value_of schema s)) 1 0) 0 + c)
    (defaults_used number v (children_of schema s.schema_number) (instances_in below) [] []))
    (ap₂ ◌+◌ (given_in schema number v below) (given_in schema number v after))

pub instances_given : (schema : Schema) (tree : Tree) (number : ℕ) (v : Val) → times_in schema tree number v
    ≡ defaults_below number v schema.nodes tree + weigh_nodes (given_at schema number v) tree
instances_given schema tree number v = ap₂ ◌+◌ (defaults_used number v schema.nodes (instances_in tree) [] []) (given_in schema number v tree)
