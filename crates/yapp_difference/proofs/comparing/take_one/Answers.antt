use Rattle.std.proofs.Common.{sym, ap, ◌∙◌}
use Rattle.std.specs.Prelude.{option_map}
use Rattle.ycheck.specs.View.{view}
use Rattle.yapp_difference.specs.KeyView.{key_view}
use Rattle.yapp_difference.specs.Counting.{all_of, taken_of}
use Rattle.yapp_difference.specs.Turning.{turn_views}
use Rattle.yapp_difference.proofs.CountLemmas.{taken_there}
use Rattle.yapp_difference.proofs.comparing.take_one.Goals as goal

pub returns-in-Some-clause-taken : goal.returns-in-Some-clause-taken
returns-in-Some-clause-taken c =
    taken_there (turn_views c.args.turns.now) (view c.args.fault.now) (key_view c.in-Some.key) (sym (ap (option_map key_view) c.in-Some.is) ∙ c.in_ok-key.ensures)
    (all_of c.args.counts.now) (taken_of c.args.counts.now) (taken_of c.take.new.self) c.take.result c.take.ensures.result c.take.ensures.taken
