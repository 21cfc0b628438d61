use Rattle.std.proofs.Common.{◌≡◌, drop}
use Rattle.ysay_text.specs.Labels.{labels}
use Rattle.ysay_nodes.specs.Twice.{other_line}
use Rattle.ysay_nodes.proofs.twice.other_line.Given as goal

abbrev pub invariant-loop-node : goal.invariant-loop-node
invariant-loop-node l = other_line l.line l.name (labels (drop l.node-index l.nodes)) ≡ other_line l.line l.name (labels l.nodes)
