use Rattle.std.proofs.Common.{◌≡◌, drop, map}
use Rattle.std.specs.Prelude.{find}
use Rattle.yspec.specs.text.Text.{is_text}
use Rattle.yschema_model.specs.View.{label_of}
use Rattle.ysay_refusal.proofs.member.named_node.Given as goal

abbrev pub invariant-loop-child : goal.invariant-loop-child
invariant-loop-child l = find (λ n. is_text l.name n.name) (map label_of (drop l.child-index l.nodes)) ≡ find (λ n. is_text l.name n.name) (map label_of l.nodes)
