use Rattle.std.proofs.Common.{rules}
use Rattle.yapp_session.proofs.PastLemmas.{group_put}
use Rattle.yapp_session.proofs.past.put_last.Goals as goal

pub returns-in_ok-insert-clause-ok : goal.returns-in_ok-insert-clause-ok
returns-in_ok-insert-clause-ok c =
    group_put c.args.number c.args.group c.args.groups.now.items c.insert.new.self.items c.truncate.new.self.items (search rules) c.in_ok-insert.ensures.items
    c.truncate.ensures.items
