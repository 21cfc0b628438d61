-- Below a choice stand cases alone, and what is near below them is near below it.
use Rattle.std.proofs.Common.{◌≡◌, ℕ, suc, ◌+◌, ◌*◌, ◌≤◌, Bool, true, false, cond, Option, Some, None, Ok, refl, sym, ap, ◌∙◌, subst, arith}
use Rattle.std.proofs.lemmas.Nat.{mul-le}
use Rattle.yspec.specs.Forest.{Forest, end, node, size, levels, weigh, relabelled, find_below, joined_below}
use Rattle.std.specs.Prelude.{◌==◌, ◌||◌, is_some, unwrap_or}
use Rattle.std.specs.Option.{option_map_or}
use Rattle.yspec.specs.schema.Schema.{Schema, SchemaNode, Kind, container, leaf, leaf_list, list, choice, case, is_data, node_in, row_at}
use Rattle.yspec_fit.specs.Fit.{is_case, AreCases, HoldCases, ChoicesHoldCases, IsFit}
use Rattle.yspec_fit.proofs.FitLemmas.{choices_of}
use Rattle.yspec_play.specs.Over.{child_over}
use Rattle.yspec_reach.specs.Sizes as sizes
use Rattle.yspec_reach.specs.Sizes.{breadth, name_count, near_count, starts_anew}
use Rattle.ylive_facts.specs.Reads.{cases_reads, choice_reads, play_reads}

-- ---- cases alone

-- what is near below the nodes of a row is near in it
abbrev AreOpen : Forest SchemaNode → Type 0
AreOpen end = Unit {0}
AreOpen (node n below after) = (starts_anew n.kind ≡ false) × AreOpen after

open_case : (k : Kind) → is_case k ≡ true → starts_anew k ≡ false
open_case (container presence) is = absurd cc
open_case (leaf type absence) is = absurd cc
open_case (leaf_list type defaults amount) is = absurd cc
open_case (list tuples amount) is = absurd cc
open_case (choice default_case is_mandatory) is = absurd cc
open_case case is = refl

open_cases : (f : Forest SchemaNode) → AreCases f → AreOpen f
open_cases end cases = tt
open_cases (node n below after) cases = (open_case n.kind cases.0, open_cases after cases.1)

-- ---- what is read there

cases_near : (f : Forest SchemaNode) → AreOpen f → cases_reads f ≤ near_count f
cases_near end open_row = omega arith
cases_near (node n below after) open_row =
    let e : near_count (node n below after) ≡ 1 + (near_count below + near_count after) = ap (λ b. 1 + (cond b 0 (near_count below) + near_count after)) open_row.0 in
    omega (arith, e, cases_near after open_row.1)

choice_near : (k : Kind) (below : Forest SchemaNode) → HoldCases k below → choice_reads k below ≤ near_count below
choice_near (container presence) below is = omega arith
choice_near (leaf type absence) below is = omega arith
choice_near (leaf_list type defaults amount) below is = omega arith
choice_near (list tuples amount) below is = omega arith
choice_near (choice default_case is_mandatory) below is = cases_near below (open_cases below is)
choice_near case below is = omega arith

sums : (l lower later near_below near_after asked below after : ℕ) → suc lower ≤ l → later ≤ l → asked ≤ near_below → below ≤ lower * near_below → after ≤ later * near_after
    → 1 + ((asked + below) + after) ≤ l * (1 + (near_below + near_after))
sums l lower later near_below near_after asked below after inner behind few below_few after_few =
    let x : suc lower * near_below ≤ l * near_below = mul-le _ _ _ _ inner (omega arith) in
    let y : later * near_after ≤ l * near_after = mul-le _ _ _ _ behind (omega arith) in
    omega (arith, x, y, inner, few, below_few, after_few)

last_sums : (l later near_after after : ℕ) → 1 ≤ l → later ≤ l → after ≤ later * near_after → 1 + (0 + after) ≤ l * (1 + (0 + near_after))
last_sums l later near_after after some behind few =
    let y : later * near_after ≤ l * near_after = mul-le _ _ _ _ behind (omega arith) in
    omega (arith, y, some, few)

play_near : (f : Forest SchemaNode) → ChoicesHoldCases f → play_reads f ≤ levels f * near_count f
play_near end hold = omega arith
play_near (node n below after) hold = by (starts_anew n.kind) (play_near below hold.1) (play_near after hold.2)
  where
    by : (b : Bool) → play_reads below ≤ levels below * near_count below → play_reads after ≤ levels after * near_count after
        → 1 + (cond b 0 (choice_reads n.kind below + play_reads below) + play_reads after)
        ≤ levels (node n below after) * (1 + (cond b 0 (near_count below) + near_count after))
    by true inner rest = last_sums (levels (node n below after)) (levels after) (near_count after) (play_reads after) (omega arith) (omega arith) rest
    by false inner rest =
        sums (levels (node n below after)) (levels below) (levels after) (near_count below) (near_count after) (choice_reads n.kind below) (play_reads below) (play_reads after)
        (omega arith) (omega arith) (choice_near n.kind below hold.0) inner rest

-- ---- a row from its front

pub near_parts : (n : SchemaNode) (below after : Forest SchemaNode) → near_count (node n below after) ≡ near_count (node n below end) + near_count after
near_parts n below after = omega arith

not_anew : (k : Kind) → is_data k ≡ false → starts_anew k ≡ false
not_anew (container presence) is = absurd cc
not_anew (leaf type absence) is = absurd cc
not_anew (leaf_list type defaults amount) is = absurd cc
not_anew (list tuples amount) is = absurd cc
not_anew (choice default_case is_mandatory) is = refl
not_anew case is = refl

-- what is near below a choice or case is near where it stands
pub near_inside : (n : SchemaNode) (below : Forest SchemaNode) → is_data n.kind ≡ false → near_count below ≤ near_count (node n below end)
near_inside n below is =
    let e : near_count (node n below end) ≡ 1 + (near_count below + 0) = ap (λ b. 1 + (cond b 0 (near_count below) + 0)) (not_anew n.kind is) in omega (arith, e)

pub play_parts : (n : SchemaNode) (below after : Forest SchemaNode) → play_reads (node n below after) ≡ play_reads (node n below end) + play_reads after
play_parts n below after = omega arith

-- what is read of a node, by its kind
pub play_at : (n : SchemaNode) (below : Forest SchemaNode) (k : Kind) → n.kind ≡ k
    → play_reads (node n below end) ≡ 1 + (cond (starts_anew k) 0 (choice_reads k below + play_reads below) + 0)
play_at n below k is = ap (λ x. 1 + (cond (starts_anew x) 0 (choice_reads x below + play_reads below) + 0)) is

-- ---- the row below a node

found_below : (test : SchemaNode → Bool) (f : Forest SchemaNode) → ChoicesHoldCases f
    → ChoicesHoldCases (unwrap_or (find_below test f) end) × (levels (unwrap_or (find_below test f) end) ≤ levels f)
found_below test end hold = (tt, omega arith)
found_below test (node n below after) hold = by (test n) (find_below test below) (found_below test below hold.1) (found_below test after hold.2)
  where
    by : (b : Bool) (o : Option (Forest SchemaNode)) → ChoicesHoldCases (unwrap_or o end) × (levels (unwrap_or o end) ≤ levels below)
        → ChoicesHoldCases (unwrap_or (find_below test after) end) × (levels (unwrap_or (find_below test after) end) ≤ levels after)
        → ChoicesHoldCases (unwrap_or (cond b (Some below) (joined_below o (find_below test after))) end)
        × (levels (unwrap_or (cond b (Some below) (joined_below o (find_below test after))) end) ≤ levels (node n below after))
    by true o inner rest = (hold.1, omega arith)
    by false None inner rest = (rest.0, let few = rest.1 in omega (arith, few))
    by false (Some f) inner rest = (inner.0, let few = inner.1 in omega (arith, few))

found_row : (s : Schema) (above : Option ℕ) → ChoicesHoldCases s.nodes → ChoicesHoldCases (row_at s above) × (levels (row_at s above) ≤ levels s.nodes)
found_row s None hold = (hold, omega arith)
found_row s (Some number) hold = found_below (λ n. n.number == number) s.nodes hold

-- what is in play in a row: so many calls at most as there are levels for each node that is near
row_reads : (s : Schema) (above : Option ℕ) → ∥ IsFit s ∥₁ → play_reads (row_at s above) ≤ sizes.levels s * near_count (row_at s above)
row_reads s above fit =
    let row = found_row s above (choices_of s fit) in
    let here = play_near (row_at s above) row.0 in
    let up : levels (row_at s above) * near_count (row_at s above) ≤ sizes.levels s * near_count (row_at s above) =
    mul-le _ _ _ _ (let x = row.1 in omega (arith, x)) (omega arith) in omega (arith, here, up)

pub row_read : (s : Schema) (above : Option ℕ) (f : Forest SchemaNode) (was now : ℕ) → ∥ IsFit s ∥₁ → f ≡ row_at s above → now ≤ was + play_reads f
    → now ≤ was + sizes.levels s * near_count (row_at s above)
row_read s above f was now fit is so =
    let same = ap play_reads is in
    let few = row_reads s above fit in
    omega (arith, so, same, few)

-- no more are near in a row than the schema has nodes
near_within : (f : Forest SchemaNode) → near_count f ≤ weigh (λ (n : SchemaNode). 1 + name_count n.kind) f
near_within end = omega arith
near_within (node n below after) = by (starts_anew n.kind) (near_within below) (near_within after)
  where
    by : (b : Bool) → near_count below ≤ weigh (λ (n : SchemaNode). 1 + name_count n.kind) below → near_count after ≤ weigh (λ (n : SchemaNode). 1 + name_count n.kind) after
        → 1 + (cond b 0 (near_count below) + near_count after)
        ≤ (1 + name_count n.kind) + (weigh (λ (n : SchemaNode). 1 + name_count n.kind) below + weigh (λ (n : SchemaNode). 1 + name_count n.kind) after)
    by true inner rest = omega (arith, inner, rest)
    by false inner rest = omega (arith, inner, rest)

lighter_below : (w : SchemaNode → ℕ) (test : SchemaNode → Bool) (f : Forest SchemaNode) → weigh w (unwrap_or (find_below test f) end) ≤ weigh w f
lighter_below w test end = omega arith
lighter_below w test (node n below after) = by (test n) (find_below test below) (lighter_below w test below) (lighter_below w test after)
  where
    by : (b : Bool) (o : Option (Forest SchemaNode)) → weigh w (unwrap_or o end) ≤ weigh w below → weigh w (unwrap_or (find_below test after) end) ≤ weigh w after
        → weigh w (unwrap_or (cond b (Some below) (joined_below o (find_below test after))) end) ≤ w n + (weigh w below + weigh w after)
    by true o inner rest = omega arith
    by false None inner rest = omega (arith, rest)
    by false (Some f) inner rest = omega (arith, inner)

pub near_breadth : (s : Schema) (above : Option ℕ) → near_count (row_at s above) ≤ breadth s
near_breadth s None = near_within s.nodes
near_breadth s (Some number) =
    let near = near_within (row_at s (Some number)) in
    let light = lighter_below (λ (n : SchemaNode). 1 + name_count n.kind) (λ n. n.number == number) s.nodes in
    omega (arith, near, light)

-- ---- one child of a row

abbrev pub child_reads : Option (SchemaNode × Forest SchemaNode) → ℕ
child_reads child = option_map_or (λ (c : SchemaNode × Forest SchemaNode). play_reads (node c.0 c.1 end)) child 0

child_within : (f : Forest SchemaNode) (number : ℕ) → child_reads (child_over f number) ≤ play_reads f
child_within end number = omega arith
child_within (node n below after) number = by (n.number == number || is_some (node_in below number)) (child_within after number)
  where
    by : (b : Bool) → child_reads (child_over after number) ≤ play_reads after → child_reads (cond b (Some (n, below)) (child_over after number)) ≤ play_reads (node n below after)
    by true rest = let parts = play_parts n below after in omega (arith, parts)
    by false rest = let parts = play_parts n below after in omega (arith, rest, parts)

pub child_read : (s : Schema) (above : Option ℕ) (number : ℕ) (child : Option (SchemaNode × Forest SchemaNode)) (was now : ℕ) → ∥ IsFit s ∥₁
    → child ≡ child_over (row_at s above) number → now ≤ was + child_reads child → now ≤ was + sizes.levels s * near_count (row_at s above)
child_read s above number child was now fit is so =
    let same = ap child_reads is in
    let few = child_within (row_at s above) number in
    row_read s above (row_at s above) was now fit refl (omega (arith, so, same, few))
