use Rattle.std.proofs.Common.{rules, ◌≡◌, Some}
use Rattle.ystore_rows.specs.Rows.{without_at}
use Rattle.ystore.specs.Store.{record_at}
use Rattle.ystore.proofs.StoreLemmas.{extent_changed}
use Rattle.ystore.proofs.nodes.counted.Counted.take_child_at.Goals as goal

pub returns-in-Some-clause-store : goal.returns-in-Some-clause-store
returns-in-Some-clause-store c =
    let nodes = c.args.self.now.nodes.now in
    let was = c.in-Some.record.now in
    let found : record_at nodes c.args.row ≡ Some was = search rules in
    extent_changed nodes c.args.row was c.take_at.new.self (without_at c.args.schema c.args.place) found c.take_at.ensures
