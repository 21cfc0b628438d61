use Rattle.yschema_resolve.proofs.tuples.is_leaf.Goals as goal

pub returns : goal.returns
returns c = c.is_leaf.ensures c.args.node.now.number
