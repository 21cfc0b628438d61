-- How what is read for a change of a row adds up, over plain numbers: how deep a schema is, how many defaults one node has at most,
-- and how wide it is; what the parts weigh, and how many nodes refer to values that come or go.
use Rattle.std.proofs.Common.{ℕ, ◌+◌, ◌*◌, ◌≤◌, arith}
use Rattle.std.proofs.lemmas.Nat.{mul-le}

module _ (deep most wide old new pairs near play way names : ℕ) (near_few : near ≤ wide) (play_few : play ≤ wide) (way_few : way + names ≤ wide) where
  -- for the plan
  pub plan_spent : (first last : ℕ)
      → last ≤ first + ((3 + ((deep + most + 7) * old + (deep + most + 9) * new) + 2 * ((deep + most) * near + (4 * way + (deep + most + 4) * names))) + 2 * play)
      → last ≤ first + (3 + ((deep + most + 7) * old + (deep + most + 9) * new) + ((4 * deep + 4 * most + 10) * wide))
  plan_spent first last read =
      let one = mul-le near deep wide deep near_few (omega arith) in
      let two = mul-le near most wide most near_few (omega arith) in
      let three = mul-le (way + names) deep wide deep way_few (omega arith) in
      let four = mul-le (way + names) most wide most way_few (omega arith) in
      omega (arith, read, one, two, three, four, play_few, way_few)

  -- for keys that are left and joined, each with two climbs
  pub keys_spent : (keys weight climb : ℕ) → keys ≤ 2 * weight + 2 * (way + names) → climb ≤ deep
      → keys * (2 + 2 * climb) ≤ (4 + 4 * deep) * (weight + wide)
  keys_spent keys weight climb few low =
      let all = mul-le keys (2 + 2 * climb) (2 * weight + 2 * wide) (2 + 2 * deep) (omega (arith, few, way_few)) (omega (arith, low)) in
      omega (arith, all)

  -- for values that come or go, and those that refer to them
  pub values_spent : (values judged weight climb : ℕ) → values ≤ (1 + most) * weight + most * near → judged ≤ pairs → climb ≤ deep
      → 2 * values + judged * (1 + climb) ≤ (2 + 2 * most) * weight + (2 * most * wide + (1 + deep) * pairs)
  values_spent values judged weight climb few paid low =
      let one = mul-le near most wide most near_few (omega arith) in
      let two = mul-le judged (1 + climb) pairs (1 + deep) paid (omega (arith, low)) in
      omega (arith, few, one, two)

  pub news_spent : (news climb : ℕ) → news ≤ new → climb ≤ deep → news * (1 + 2 * climb) ≤ (1 + 2 * deep) * new
  news_spent news climb few low = let all = mul-le news (1 + 2 * climb) new (1 + 2 * deep) few (omega (arith, low)) in omega (arith, all)

  -- all of it
  pub all_spent : (first planned last leaving coming going telling joining climb : ℕ)
      → planned ≤ first + (3 + ((deep + most + 7) * old + (deep + most + 9) * new) + ((4 * deep + 4 * most + 10) * wide))
      → leaving ≤ (4 + 4 * deep) * (old + wide) → joining ≤ (4 + 4 * deep) * (new + wide)
      → coming ≤ (2 + 2 * most) * new + (2 * most * wide + (1 + deep) * pairs)
      → going ≤ (2 + 2 * most) * old + (2 * most * wide + (1 + deep) * pairs)
      → telling ≤ (1 + 2 * deep) * new → climb ≤ deep
      → last ≤ planned + ((leaving + (coming + going)) + ((2 + (way + climb)) + (telling + joining)))
      → last ≤ first + (deep + most + 2) * (8 * (old + (new + pairs)) + (16 * wide + 3))
  all_spent first planned last leaving coming going telling joining climb plan leave join come go tell low read =
      omega (arith, plan, leave, join, come, go, tell, low, read, way_few)
