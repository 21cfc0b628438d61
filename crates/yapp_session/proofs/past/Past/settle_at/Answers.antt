use Rattle.std.proofs.Common.{sym, Some}
use Rattle.std.specs.Prelude.{option_map}
use Rattle.yspec_session.specs.Remembering.{Kept}
use Rattle.yapp_session.specs.View.{groups_view, later_view, past_view, since_view}
use Rattle.yapp_session.proofs.PastLemmas.{last_groups}
use Rattle.yapp_session.proofs.SettleLemmas.{counted_as, settled_now}
use Rattle.yapp_session.proofs.past.Past.settle_at.Goals as goal

pub returns-then-stands_behind : goal.returns-then-stands_behind
returns-then-stands_behind c =
    let l = later_view c.args.later in
    let now = past_view c.args.self.now in
    let k : Kept = record now { later = Some l } in
    settled_now l k _ (sym c.if-stands_behind.ensures)
    (counted_as l k (groups_view c.forget_first.new.groups.items) (option_map since_view c.less_groups-self.result) now.later
    (last_groups l.groups c.args.self.now.groups.items c.forget_first.new.groups.items c.forget_first.ensures) c.less_groups-self.ensures c.requires)
