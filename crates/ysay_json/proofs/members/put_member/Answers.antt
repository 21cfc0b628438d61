use Rattle.std.proofs.Common.{ap, ◌∙◌}
use Rattle.serde_json.specs.View as json
use Rattle.serde_json.proofs.Views.{members_view-insert_entry}
use Rattle.ysay_json.proofs.members.put_member.Goals as goal

pub returns : goal.returns
returns c = ap json.members_view c.in_ok-insert.ensures.entries ∙ members_view-insert_entry c.args.members.now.entries c.args.name c.args.value
