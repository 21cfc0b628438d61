use Rattle.std.proofs.Common.{◌≡◌, ◌++◌, ◌<◌, ◌^◌, drop, length, map}
use Rattle.std.specs.List.{flat_map}
use Rattle.yschema_augment.specs.Asking.{paths_from, row_name, texts_of_path, texts_seen}
use Rattle.yschema_expand.specs.AugmentView.{augments_seen}
use Rattle.yschema_expand.specs.NamedView.{modules_of}
use Rattle.yschema_expand.specs.TableView.{slots_of}
use Rattle.yschema_augment.proofs.paths.asked_names.Given as goal

abbrev pub invariant-loop-augment : goal.invariant-loop-augment
invariant-loop-augment l =
    let m = modules_of l.named in
    let all = augments_seen l.augments in
    let left = augments_seen (drop l.augment-index l.augments) in
    record {
      few : length l.texts.items < 2 ^ 32;
      texts : texts_seen l.texts.items ++ flat_map texts_of_path left
          ≡ map row_name (slots_of l.nodes) ++ flat_map texts_of_path all;
      paths : map (λ p. p.items) l.paths.items ++ paths_from m (length l.texts.items) left
          ≡ paths_from m (length (slots_of l.nodes)) all;
    }
