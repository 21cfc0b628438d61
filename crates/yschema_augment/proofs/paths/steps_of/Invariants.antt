use Rattle.std.proofs.Common.{◌≡◌, ◌++◌, ◌<◌, ◌^◌, drop, length}
use Rattle.yspec.specs.Forest.{Forest}
use Rattle.yspec.specs.linking.Source as sources
use Rattle.ylink_arguments.specs.NameView.{names_view}
use Rattle.ylink_names.specs.PrefixView.{IsOf}
use Rattle.yschema_augment.specs.Asking.{identifiers, steps_from, texts_seen}
use Rattle.yschema_augment.proofs.paths.steps_of.Given as goal

abbrev pub invariant-loop-name : goal.invariant-loop-name
invariant-loop-name l = record {
  few : length l.texts.items < 2 ^ 32;
  texts : texts_seen l.texts.items ++ identifiers (names_view (drop l.name-index l.path))
      ≡ texts_seen l.fn.texts.items ++ identifiers (names_view l.path);
  steps : (modules : Forest sources.Source) → IsOf l.prefixes modules
      → l.steps.items ++ steps_from modules l.home (length l.texts.items) (names_view (drop l.name-index l.path))
      ≡ steps_from modules l.home (length l.fn.texts.items) (names_view l.path);
}
