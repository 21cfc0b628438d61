use Rattle.yschema_resolve.proofs.resolved.Resolved.has_distinct_items.Goals as goal

pub returns : goal.returns
returns c = λ language plan number is. c.do_items_differ.ensures language plan number is.versions
