use Rattle.std.proofs.Common.{rules}
use Rattle.ycheck.proofs.TargetLemmas.{value_added, key_found}
use Rattle.ycheck.proofs.targets.Targets.add.Goals as goal

pub returns-in_ok-insert : goal.returns-in_ok-insert
returns-in_ok-insert c =
    let old = c.args.self.now.sets in
    let set = c.in-Some.values.now in
    let written = c.get_mut.follows.holds c.insert.new.self in
    value_added old (c.get_mut.follows.lender c.insert.new.self) c.args.id set c.insert.new.self c.args.value
    (key_found old c.args.id.0 set c.in-Some.ensures.value) c.in_ok-insert.ensures.updates.0 (written.3 (search rules)).0
