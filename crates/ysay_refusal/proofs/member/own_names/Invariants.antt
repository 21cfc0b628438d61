use Rattle.std.proofs.Common.{◌≡◌, ◌++◌, drop, map}
use Rattle.yschema_model.specs.View.{label_of}
use Rattle.ysay_refusal.proofs.member.own_names.Given as goal

abbrev pub invariant-loop-child : goal.invariant-loop-child
invariant-loop-child l = map (λ t. t.now) l.names.items ++ map (λ n. n.name) (map label_of (drop l.child-index l.nodes))
    ≡ map (λ n. n.name) (map label_of l.nodes)
