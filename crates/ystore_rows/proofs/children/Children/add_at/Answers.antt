use Rattle.std.proofs.Common.{rules, ◌≡◌}
use Rattle.ystore_rows.specs.Children.{nodes_of}
use Rattle.ystore_rows.specs.Rows.{brought}
use Rattle.ybase_tiers.specs.Tiers.{tiered}
use Rattle.ystore_rows.proofs.RowLemmas.{ascends_brought}
use Rattle.ystore_rows.proofs.children.Children.add_at.Goals as goal

pub invariant_of-self : goal.invariant_of-self
invariant_of-self c =
    let row = nodes_of c.args.self.now in
    let now : tiered c.insert.new.self ≡ brought c.args.child c.args.place row = search rules in
    record { ascending = rw now (ascends_brought row c.args.child c.args.place c.args.self.now.ascending) }
