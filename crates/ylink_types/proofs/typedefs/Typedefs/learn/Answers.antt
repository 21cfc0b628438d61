use Rattle.ylink_types.proofs.OrderLemmas.{known_set}
use Rattle.ylink_types.proofs.typedefs.Typedefs.learn.Goals as goal

pub returns-in-Some-clause-known : goal.returns-in-Some-clause-known
returns-in-Some-clause-known c e within = known_set c.args.self.now.known.items c.args.number e c.in_ok-known.known _ within c.in_ok-known.ensures
