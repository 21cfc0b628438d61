use Rattle.std.proofs.Common.{map, ap, ◌∙◌}
use Rattle.yspec.specs.schema.Schema.{module_at}
use Rattle.yschema_model.specs.Layout.{number_of}
use Rattle.yschema_model.specs.View.{label_of, view}
use Rattle.ysay_refusal.specs.Member.{due_among, nodes_below}
use Rattle.ysay_refusal.proofs.MemberLemmas.{as_below}
use Rattle.ysay_refusal.proofs.member.due_name.Goals as goal

pub returns : goal.returns
returns c =
    let s = view c.args.schema.now in
    let p = number_of c.args.parent in
    as_below c.due_among.result (λ m nodes. due_among s m nodes c.args.name.now) c.module_of-parent_module.result (module_at s p) (map label_of c.deref.result.now)
    (nodes_below s p) c.module_of-parent_module.ensures (ap (map label_of) c.deref.ensures.value ∙ c.in_ok-nodes.ensures) c.due_among.ensures
