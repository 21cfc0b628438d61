use Rattle.std.proofs.Common.{ap, ◌∙◌}
use Rattle.ycheck.specs.View.{views}
use Rattle.yapp_difference.specs.Counting.{among, taken_of}
use Rattle.yapp_difference.specs.Turning.{turn_views}
use Rattle.yapp_difference.proofs.CountLemmas.{compared}
use Rattle.yapp_difference.proofs.comparing.difference_of.Goals as goal

pub returns : goal.returns
returns c =
    let later = views c.args.later.items in
    compared (turn_views c.args.turns.now) (views c.args.earlier.items) later (taken_of c.in_ok-counts.counts) (taken_of c.take_same.new.counts) c.in_ok-counts.ensures.taken
    (views c.in_ok-told.told.items) (views c.in_ok-gone.gone.items) c.in_ok-told.ensures
    (c.in_ok-gone.ensures later (λ k. c.in_ok-counts.ensures.all k ∙ ap (λ fs. among (views fs) k) c.deref.ensures.value))
