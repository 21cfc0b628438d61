-- What slots ask of configuration alone.
use Rattle.std.specs.Prelude.{◌≡◌, List, map}
use Rattle.yspec.specs.schema.Configuration.{asked_node}
use Rattle.yschema_model.specs.declared.children.Slot.{Slot}
use Rattle.yschema_model.specs.Layout.{Place, place_of}

-- nothing is asked of state
abbrev pub asked_place : Place → Place
asked_place p = record p { label = asked_node p.label }

-- some slots, and those that ask of configuration what they do
abbrev pub AreAsked : List Slot → List Slot → Type 0
AreAsked slots asked = map (place_of 0) asked ≡ map asked_place (map (place_of 0) slots)
