use Rattle.std.proofs.Common.{arith, of_calls, true, false, ◌≡◌, ◌∙◌, ◌+◌, ◌-◌, ◌/◌, length, refl, sym}
use Rattle.std.proofs.lemmas.Fn.{called}
use Rattle.ybase_tiers.specs.Tiers.{tiered}
use Rattle.ybase_tiers.proofs.HalfLemmas.{after_passing, answers_next, at_failing, failed, held, passed, unhalved}
use Rattle.ybase_tiers.proofs.OrderLemmas.{length_in_order}
use Rattle.ybase_tiers.proofs.tiers.Tiers.partition_point.Goals as goal

pub returns-then-size-eq0 : goal.returns-then-size-eq0
returns-then-size-eq0 g c =
    let long = length_in_order 1024 c.args.self.now.starts.items c.args.self.now.places.items in
    let all = c.args.self.now.places.ok.0 in
    record { bound = omega arith; partitioned = λ p h. λ _. (λ k d a b. absurd (omega arith), λ k d a b. absurd (omega (arith, long, all))) }

pub loop-size-init : goal.loop-size-init
loop-size-init g c =
    let row = tiered c.args.self.now in
    let long : length row ≡ c.len-size.result = length_in_order 1024 c.args.self.now.starts.items c.args.self.now.places.items ∙ sym (c.len-size.ensures ∙ c.args.self.now.places.ok.0) in
    (omega arith, omega (arith, long), search of_calls, λ p h. (h, unhalved p row c.len-size.result (omega (arith, long))))

pub loop-size-preserved-then-pred : goal.loop-size-preserved-then-pred
loop-size-preserved-then-pred g c =
    let row = tiered c.args.self.now in
    let long = length_in_order 1024 c.args.self.now.starts.items c.args.self.now.places.items in
    let base = c.loop-size.base in
    let size = c.loop-size.size in
    let mid = base + size / 2 in
    let k = called g.P.FnMut c.if-pred.ensures refl in (
      omega arith,
      omega arith,
      search of_calls,
      λ p h. let i = c.loop-size.invariant.3 p h in let n = answers_next g.P.FnMut _ _ _ _ _ k i.0 in
          (n.1, passed p row base size mid (size - size / 2) (omega arith) i.1 (held p row (λ y. p y ≡ true) mid c.at.result.now (omega (arith, long)) c.at.ensures (sym n.0))),
    )

pub loop-size-preserved : goal.loop-size-preserved
loop-size-preserved g c =
    let row = tiered c.args.self.now in
    let long = length_in_order 1024 c.args.self.now.starts.items c.args.self.now.places.items in
    let base = c.loop-size.base in
    let size = c.loop-size.size in
    let mid = base + size / 2 in
    let k = called g.P.FnMut c.if-pred.ensures refl in (
      omega arith,
      omega arith,
      search of_calls,
      λ p h. let i = c.loop-size.invariant.3 p h in let n = answers_next g.P.FnMut _ _ _ _ _ k i.0 in
          (n.1, failed p row base size mid (size - size / 2) (omega arith) i.1 (held p row (λ y. p y ≡ false) mid c.at.result.now (omega (arith, long)) c.at.ensures (sym n.0))),
    )

pub returns-then-pred-2 : goal.returns-then-pred-2
returns-then-pred-2 g c =
    let row = tiered c.args.self.now in
    let long = length_in_order 1024 c.args.self.now.starts.items c.args.self.now.places.items in
    let base = c.loop-size.base in
    let size = c.loop-size.size in
    let k = called g.P.FnMut c.if-pred-2.ensures refl in
    record {
      bound = omega (arith, long);
      partitioned = λ p h. let i = c.loop-size.invariant.3 p h in let n = answers_next g.P.FnMut _ _ _ _ _ k i.0 in
          after_passing p row base size (omega arith) (omega (arith, long)) i.1 (held p row (λ y. p y ≡ true) base c.at-2.result.now (omega (arith, long)) c.at-2.ensures (sym n.0));
    }

pub returns : goal.returns
returns g c =
    let row = tiered c.args.self.now in
    let long = length_in_order 1024 c.args.self.now.starts.items c.args.self.now.places.items in
    let base = c.loop-size.base in
    let size = c.loop-size.size in
    let k = called g.P.FnMut c.if-pred-2.ensures refl in
    record {
      bound = omega (arith, long);
      partitioned = λ p h. let i = c.loop-size.invariant.3 p h in let n = answers_next g.P.FnMut _ _ _ _ _ k i.0 in
          at_failing p row base size i.1 (held p row (λ y. p y ≡ false) base c.at-2.result.now (omega (arith, long)) c.at-2.ensures (sym n.0));
    }
