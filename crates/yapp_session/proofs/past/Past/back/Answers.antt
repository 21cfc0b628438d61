use Rattle.std.proofs.Common.{refl, take, None}
use Rattle.yspec_session.specs.Remembering.{until}
use Rattle.yapp_session.specs.View.{groups_view, past_view}
use Rattle.yapp_session.proofs.PastLemmas.{first_groups, past_as}
use Rattle.yapp_session.proofs.past.Past.back.Goals as goal

pub returns : goal.returns
returns c =
    let k = past_view c.args.self.now in
    let n = c.args.since.groups in
    past_as k (groups_view c.truncate.new.self.items) (take n k.groups) c.args.since.kept c.args.since.kept None _ (until n k.later)
    (first_groups n c.args.self.now.groups.items c.truncate.new.self.items c.truncate.ensures.items) refl c.forget_behind.ensures
