use Rattle.std.proofs.Common.{◌≤◌, ◌<◌, ◌^◌, arith}
use Rattle.std.proofs.Math.Nat.{pow-le-pow_right}
use Rattle.ytype_numbers.proofs.DecimalLemmas.{ten_pos}
use Rattle.ytype_numbers.proofs.restriction.power_of_ten.Goals as goal

pub returns-clause-bound : goal.returns-clause-bound
returns-clause-bound c =
    let ten : 0 < 10 = omega arith in
    let bound : 10 ^ c.args.exponent ≤ 10 ^ 18 = pow-le-pow_right ten c.requires in omega (arith, bound)

pub returns-clause-some : goal.returns-clause-some
returns-clause-some c = rw c.pow.ensures (ten_pos c.args.exponent)
