use Rattle.std.proofs.Common.{◌≡◌}
use Rattle.serde_json.specs.View as json
use Rattle.yschema_model.specs.Layout.{number_of}
use Rattle.yschema_model.specs.View.{view}
use Rattle.ysay_refusal.specs.Member.{strange_in}
use Rattle.ysay_refusal.proofs.member.strange_in.Given as goal

abbrev pub invariant-loop-name : goal.invariant-loop-name
invariant-loop-name l = strange_in (view l.schema) (number_of l.parent) (json.members_view l.name-iterator)
    ≡ strange_in (view l.schema) (number_of l.parent) (json.members_view l.members.entries)
