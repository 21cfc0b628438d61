use Rattle.std.proofs.Common.{◌≡◌, drop, find, map}
use Rattle.ysay_nodes.specs.Needed.{is_amount}
use Rattle.ysay_nodes.proofs.needed.first_amount.Given as goal

abbrev pub invariant-loop-amount : goal.invariant-loop-amount
invariant-loop-amount l = find is_amount (map (λ t. t.now) (drop l.amount-index l.amounts)) ≡ find is_amount (map (λ t. t.now) l.amounts)
