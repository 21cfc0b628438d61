use Rattle.std.proofs.Common.{arith, ◌∙◌}
use Rattle.yapp_difference.specs.KeyView.{key_view}
use Rattle.yapp_difference.specs.Counting.{all_of}
use Rattle.yapp_difference.proofs.ComparingLemmas.{all_counted, first_counted, has_room, one_counted}
use Rattle.yapp_difference.proofs.comparing.counts_of.Goals as goal

pub loop-fault-init : goal.loop-fault-init
loop-fault-init c = record { all = first_counted c.args.faults.now (all_of c.in_ok-counts.counts) c.in_ok-counts.ensures.all; taken = c.in_ok-counts.ensures.taken }

pub add-requires : goal.add-requires
add-requires c =
    let key = key_view c.in_ok-key_of.field-0 in
    has_room c.args.faults.now c.loop-fault.fault-index c.fault-item.result (omega arith) c.fault-item.is key c.in_ok-key_of.ensures
    (all_of c.loop-fault.counts key) (c.loop-fault.invariant.all key) (omega arith)

pub loop-fault-preserved : goal.loop-fault-preserved
loop-fault-preserved c =
    record {
      all = one_counted c.args.faults.now c.loop-fault.fault-index c.fault-item.result (omega arith) c.fault-item.is (key_view c.in_ok-key_of.field-0) c.in_ok-key_of.ensures
          (all_of c.loop-fault.counts) (all_of c.add.new.self) c.in_ok-add.ensures.all c.loop-fault.invariant.all;
      taken = λ k. c.in_ok-add.ensures.taken k ∙ c.loop-fault.invariant.taken k;
    }

pub returns-clause-all : goal.returns-clause-all
returns-clause-all c = all_counted c.args.faults.now c.loop-fault.fault-index (omega arith) (all_of c.loop-fault.counts) c.loop-fault.invariant.all
