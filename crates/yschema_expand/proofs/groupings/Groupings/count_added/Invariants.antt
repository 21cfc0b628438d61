use Rattle.std.proofs.Common.{◌≡◌, ◌+◌, ◌≤◌, min, drop}
use Rattle.yspec_wide.specs.NodeCounts.{all_counts_in, counted_by_augments}
use Rattle.yschema_expand.specs.AugmentView.{augments_seen}
use Rattle.yschema_expand.specs.Counting.{many}
use Rattle.yschema_expand.specs.NamedView.{language_of, modules_of}
use Rattle.yschema_expand.proofs.groupings.Groupings.count_added.Given as goal

-- those so far, with those of the augments that are left
abbrev pub invariant-loop-augment : goal.invariant-loop-augment
invariant-loop-augment l =
    let language = language_of l.named in
    let m = modules_of l.named in
    record {
      few : l.count ≤ many;
      so_far : min (l.count + counted_by_augments language m (all_counts_in language m) (augments_seen (drop l.augment-index l.augments))) many
          ≡ min (counted_by_augments language m (all_counts_in language m) (augments_seen l.augments)) many;
    }
