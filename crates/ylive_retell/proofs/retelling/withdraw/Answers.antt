use Rattle.ylive_retell.proofs.retelling.withdraw.Goals as goal
use Rattle.ystore.specs.Views.{store_of}
use Rattle.ylive_retell.proofs.JoiningLemmas.{keeps_on, awaited_on}
use Rattle.ylive_retell.proofs.WithdrawnLemmas.{withdrawn_follows, withdrawn_instances, withdrawn_reads}

pub returns-clause-follows : goal.returns-clause-follows
returns-clause-follows c w =
    withdrawn_follows (store_of c.args.counted.now) (store_of c.leave_all.new.counted) (store_of c.add_all.new.counted) (store_of c.take_all.new.counted)
    c.args.leaves.now c.args.comes.items c.args.goes.items c.leave_all.ensures.follows c.leave_all.ensures.kept c.leave_all.ensures.instances
    c.leave_all.ensures.there c.add_all.ensures.follows c.add_all.ensures.instances c.add_all.ensures.kept c.take_all.ensures.follows
    c.take_all.ensures.instances w.there w.most w.few

pub returns-clause-instances : goal.returns-clause-instances
returns-clause-instances c w =
    withdrawn_instances (store_of c.args.counted.now) (store_of c.leave_all.new.counted) (store_of c.add_all.new.counted) (store_of c.take_all.new.counted)
    c.args.leaves.now c.args.comes.items c.args.goes.items c.leave_all.ensures.follows c.leave_all.ensures.kept c.leave_all.ensures.instances
    c.leave_all.ensures.there c.add_all.ensures.follows c.add_all.ensures.instances c.add_all.ensures.kept c.take_all.ensures.follows
    c.take_all.ensures.instances w.there w.most w.few

pub returns-clause-kept : goal.returns-clause-kept
returns-clause-kept c =
    keeps_on (store_of c.args.counted.now) (store_of c.leave_all.new.counted) (store_of c.take_all.new.counted) c.leave_all.ensures.kept
    (keeps_on (store_of c.leave_all.new.counted) (store_of c.add_all.new.counted) (store_of c.take_all.new.counted) c.add_all.ensures.kept c.take_all.ensures.kept)

pub returns-clause-awaited : goal.returns-clause-awaited
returns-clause-awaited c =
    awaited_on (store_of c.args.counted.now) (store_of c.leave_all.new.counted) (store_of c.take_all.new.counted) c.leave_all.ensures.awaited
    (awaited_on (store_of c.leave_all.new.counted) (store_of c.add_all.new.counted) (store_of c.take_all.new.counted) c.add_all.ensures.awaited c.take_all.ensures.awaited)

pub returns-clause-reads : goal.returns-clause-reads
returns-clause-reads c w =
    withdrawn_reads (store_of c.args.counted.now) (store_of c.leave_all.new.counted) (store_of c.add_all.new.counted) (store_of c.take_all.new.counted)
    c.args.leaves.now c.args.comes.items c.args.goes.items c.leave_all.ensures.follows c.leave_all.ensures.kept c.leave_all.ensures.instances
    c.leave_all.ensures.there c.add_all.ensures.follows c.add_all.ensures.instances c.add_all.ensures.kept c.take_all.ensures.follows
    c.take_all.ensures.instances w.there w.most w.few c.leave_all.ensures.reads c.add_all.ensures.reads c.take_all.ensures.reads
