use Rattle.std.proofs.Common.{◌≡◌, ◌+◌, ◌≤◌}
use Rattle.std.specs.Prelude.{option_map}
use Rattle.ycheck.specs.View.{code_view}
use Rattle.yschema_model.specs.View.{child_view}
use Rattle.ystore.specs.Store.{play_at, reads}
use Rattle.ystore.specs.Views.{store_of, lent}
use Rattle.ystore_tree.specs.Parts.{OnlyReads}
use Rattle.yspec_play.specs.Over.{number_over}
use Rattle.ylive_retell.proofs.InsteadLemmas.{Passed}
use Rattle.ylive_retell.proofs.instead.told_before.Given as goal

abbrev pub invariant-loop-place : goal.invariant-loop-place
invariant-loop-place l =
    record {
      same_reference : lent l.counted ≡ lent l.fn.counted;
      kept : OnlyReads (store_of l.fn.counted) (store_of l.counted);
      reads : reads (store_of l.counted) ≤ reads (store_of l.fn.counted) + (1 + l.place);
      passed : Passed (λ a. (code_view a.0, a.1.0)) (number_over (option_map child_view l.child)) (play_at (store_of l.fn.counted) l.row) l.place;
    }
