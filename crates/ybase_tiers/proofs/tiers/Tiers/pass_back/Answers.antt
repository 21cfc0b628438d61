use Rattle.std.proofs.Common.{arith, ◌≡◌, ◌∙◌, ◌+◌, ◌-◌, ◌*◌, ap, insert, refl}
use Rattle.ybase_tiers.specs.Tiers.{end_of, tiered}
use Rattle.ybase_tiers.proofs.tiers.Tiers.pass_back.Goals as goal

pub loop-passed-preserved : goal.loop-passed-preserved
loop-passed-preserved g c =
    let now = c.loop-passed in
    let tiers = c.len-tiers.result in
    let at = tiers - 1 - now.passed in
    let to : (tiers - (now.passed + 1)) * 1024 ≡ at * 1024 = omega arith in
    let from : at * 1024 + 1024 ≡ (tiers - now.passed) * 1024 = omega (arith, c.loop-passed-test.true) in
    record {
      row = ap (λ k. insert (tiered c.push_back-carried.new.self) k c.push_back-carried.result) to
          ∙ (c.push_back-carried.ensures.row ∙ (ap (λ k. insert (tiered now.self) k now.carried) from ∙ now.invariant.row));
      len = c.push_back-carried.ensures.len ∙ now.invariant.len;
      tiers = c.push_back-carried.ensures.tiers ∙ now.invariant.tiers;
      room = c.push_back-carried.ensures.room ∙ now.invariant.room;
    }

pub push_back-carried-requires : goal.push_back-carried-requires
push_back-carried-requires g c =
    omega (arith, c.loop-passed-test.true, c.loop-passed.invariant.tiers, c.len-tiers.ensures, c.args.self.now.starts.ok.0)

pub loop-passed-init : goal.loop-passed-init
loop-passed-init g c =
    let old = c.args.self.now in
    let all : (c.len-tiers.result - 0) * 1024 ≡ end_of old = omega (arith, c.len-tiers.ensures, old.starts.ok.0) in
    record { row = ap (λ k. insert (tiered old) k c.args.x) all; len = refl; tiers = refl; room = refl }

pub returns-clause-row : goal.returns-clause-row
returns-clause-row g c =
    let now = c.loop-passed in
    let there : c.args.tier * 1024 ≡ (c.len-tiers.result - now.passed) * 1024 =
    omega (arith, c.loop-passed-test.false, now.auto.passed-end, c.requires, c.len-tiers.ensures, c.args.self.now.starts.ok.0) in
    ap (λ k. insert (tiered now.self) k now.carried) there ∙ now.invariant.row
