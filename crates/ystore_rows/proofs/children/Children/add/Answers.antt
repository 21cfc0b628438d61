use Rattle.std.proofs.Common.{rules, ◌≡◌}
use Rattle.ystore_rows.specs.Children.{nodes_of}
use Rattle.ystore_rows.specs.Rows.{added}
use Rattle.ybase_tiers.specs.Tiers.{tiered}
use Rattle.ystore_rows.proofs.RowLemmas.{ascends_added}
use Rattle.ystore_rows.proofs.children.Children.add.Goals as goal

pub invariant_of-self : goal.invariant_of-self
invariant_of-self c =
    let row = nodes_of c.args.self.now in
    let now : tiered c.insert.new.self ≡ added c.args.child row = search rules in
    record { ascending = rw now (ascends_added row c.args.child c.args.self.now.ascending) }
