use Rattle.std.proofs.Common.{◌≡◌, ◌++◌, None, drop, length}
use Rattle.yspec_wide.specs.Expansion.{body_breaks_in}
use Rattle.std.specs.List.{flat_map}
use Rattle.yschema_expand.specs.AugmentView.{augments_seen}
use Rattle.yschema_expand.specs.Bodies.{bodies_of, starts_from}
use Rattle.yschema_expand.specs.NamedView.{language_of, modules_of}
use Rattle.yschema_expand.specs.TableView.{slots_of}
use Rattle.yschema_expand.specs.Walk.{Adds}
use Rattle.yschema_expand.specs.declared.expanding.Made.{Made}
use Rattle.yschema_expand.proofs.bodies.add_bodies.Given as goal

-- whatever adds what the augments that are left add comes to what all add
abbrev pub invariant-loop-augment : goal.invariant-loop-augment
invariant-loop-augment l =
    let language = language_of l.context.named.now in
    let m = modules_of l.context.named.now in
    let all = augments_seen l.augments in
    let left = augments_seen (drop l.augment-index l.augments) in
    record {
      so_far : (final : Made) → Adds None (bodies_of language m left) (flat_map (body_breaks_in language m) left) l.made final
          → Adds None (bodies_of language m all) (flat_map (body_breaks_in language m) all) l.fn.made final;
      starts : l.starts.items ++ starts_from language m (length (slots_of l.made.table)) left ≡ starts_from language m (length (slots_of l.fn.made.table)) all;
    }
