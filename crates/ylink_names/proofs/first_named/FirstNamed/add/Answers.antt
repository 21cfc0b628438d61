use Rattle.std.proofs.Common.{sym}
use Rattle.ylink_names.proofs.FirstNamedLemmas.{one_more}
use Rattle.ylink_names.proofs.first_named.FirstNamed.add.Goals as goal

pub returns : goal.returns
returns g c = one_more c.args.self.now.by_name c.insert.new.self c.args.name.now c.args.value
    (sym c.if-contains_key.ensures) c.in_ok-insert.ensures.updates
