use Rattle.std.proofs.Common.{◌≡◌, drop, map}
use Rattle.std.specs.Prelude.{find}
use Rattle.yspec.specs.text.Text.{is_text}
use Rattle.yspec.specs.schema.Schema.{other_name}
use Rattle.yschema_model.specs.View.{label_of, view}
use Rattle.ysay_refusal.proofs.member.other_node.Given as goal

abbrev pub invariant-loop-child : goal.invariant-loop-child
invariant-loop-child l = find (λ n. is_text l.name (other_name (view l.schema) l.parent_module n)) (map label_of (drop l.child-index l.nodes))
    ≡ find (λ n. is_text l.name (other_name (view l.schema) l.parent_module n)) (map label_of l.nodes)
