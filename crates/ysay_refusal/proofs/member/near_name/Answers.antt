use Rattle.std.proofs.Common.{map, ap, ◌∙◌}
use Rattle.yspec.specs.schema.Schema.{module_at, written_name}
use Rattle.yschema_model.specs.Layout.{number_of}
use Rattle.yschema_model.specs.View.{label_of, view}
use Rattle.ysay_refusal.specs.Member.{near_among, nodes_below}
use Rattle.ysay_refusal.proofs.MemberLemmas.{as_below}
use Rattle.ysay_refusal.proofs.member.near_name.Goals as goal

pub returns : goal.returns
returns c =
    let s = view c.args.schema.now in
    let p = number_of c.args.parent in
    as_below c.near_among.result (λ m nodes. near_among (written_name s m) nodes c.args.name.now) c.module_of-parent_module.result (module_at s p)
    (map label_of c.deref.result.now) (nodes_below s p) c.module_of-parent_module.ensures (ap (map label_of) c.deref.ensures.value ∙ c.in_ok-nodes.ensures)
    c.near_among.ensures
