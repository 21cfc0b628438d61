use Rattle.std.proofs.Common.{arith, ◌≡◌, ◌≤◌, ◌∙◌, ◌+◌, ◌*◌, ap, insert}
use Rattle.ybase_tiers.specs.Tiers.{end_of, tiered}
use Rattle.ybase_tiers.proofs.tiers.Tiers.pass_on.Goals as goal

pub loop-at-preserved : goal.loop-at-preserved
loop-at-preserved g c =
    let now = c.loop-at in
    let to : (now.at + 1) * 1024 ≡ now.at * 1024 + 1024 = omega arith in
    record {
      row = ap (λ k. insert (tiered c.push_front-carried.new.self) k c.push_front-carried.result) to ∙ (c.push_front-carried.ensures.row ∙ now.invariant.row);
      len = c.push_front-carried.ensures.len ∙ now.invariant.len;
      tiers = c.push_front-carried.ensures.tiers ∙ now.invariant.tiers;
      room = c.push_front-carried.ensures.room ∙ now.invariant.room;
    }

pub push_front-carried-requires : goal.push_front-carried-requires
push_front-carried-requires g c = omega (arith, c.loop-at-test.true, c.loop-at.invariant.tiers, c.len-tiers.ensures, c.args.self.now.starts.ok.0)

pub returns-clause-row : goal.returns-clause-row
returns-clause-row g c =
    let now = c.loop-at in
    let within : c.args.tier ≤ c.len-tiers.result = omega (arith, c.requires, c.len-tiers.ensures, c.args.self.now.starts.ok.0) in
    let there : end_of now.self ≡ now.at * 1024 =
    omega (arith, c.loop-at-test.false, now.auto.at-end within, now.invariant.tiers, c.len-tiers.ensures, c.args.self.now.starts.ok.0) in
    ap (λ k. insert (tiered now.self) k now.carried) there ∙ now.invariant.row
