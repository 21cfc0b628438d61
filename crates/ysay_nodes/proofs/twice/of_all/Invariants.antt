use Rattle.std.proofs.Common.{◌≡◌, drop}
use Rattle.ysay_text.specs.Labels.{labels}
use Rattle.ysay_nodes.specs.Twice.{of_nodes}
use Rattle.ysay_nodes.proofs.twice.of_all.Given as goal

abbrev pub invariant-loop-node : goal.invariant-loop-node
invariant-loop-node l = of_nodes l.front l.line (labels l.all) (labels (drop l.node-index l.all)) ≡ of_nodes l.front l.line (labels l.all) (labels l.all)
