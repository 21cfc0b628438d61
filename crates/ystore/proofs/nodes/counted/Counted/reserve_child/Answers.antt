use Rattle.std.proofs.Common.{rules, ◌≡◌, Some}
use Rattle.ystore.specs.Store.{record_at}
use Rattle.ystore.proofs.StoreLemmas.{extent_kept, on_err, on_ok, room_made}
use Rattle.ystore.proofs.nodes.counted.Counted.reserve_child.Goals as goal

pub returns-in-Some-clause-ok : goal.returns-in-Some-clause-ok
returns-in-Some-clause-ok c =
    let nodes = c.args.self.now.nodes.now in
    let was = c.in-Some.record.now in
    let found : record_at nodes c.args.row ≡ Some was = search rules in
    on_ok c.reserve.result c.reserve.ensures.room
    (λ more. room_made nodes c.args.row was c.reserve.new.self found c.reserve.ensures.kept more)

pub returns-in-Some-clause-err : goal.returns-in-Some-clause-err
returns-in-Some-clause-err c =
    let nodes = c.args.self.now.nodes.now in
    let was = c.in-Some.record.now in
    let found : record_at nodes c.args.row ≡ Some was = search rules in
    on_err c.reserve.result c.reserve.ensures.err
    (λ same. extent_kept nodes c.args.row was c.reserve.new.self found same)
