-- Classes of a pattern's text as the specification's.
use Rattle.std.specs.Prelude.{◌&&◌, List, [], Option, Some, None, reverse, map, option_map}
use Rattle.std.specs.Global.{Vec}
use Rattle.regex_class.specs.Ranges.{Range, in_ranges}
use Rattle.regex_class.specs.declared.Class.{Class}
use Rattle.yspec_patterns.specs.Sets.{Set, is_character}
use Rattle.yspec_patterns.specs.Escapes as escapes
use Rattle.yspec_patterns.specs.Classes as spec
use Rattle.ytype_patterns.specs.SymbolView.{named_view}
use Rattle.ytype_patterns.specs.declared.classes.Item.{Item}
use Rattle.ytype_patterns.specs.declared.classes.Item.TheVariants as items
use Rattle.ytype_patterns.specs.declared.classes.Pending.{Pending}
use Rattle.ytype_patterns.specs.declared.classes.Pending.TheVariants as pending
use Rattle.ytype_patterns.specs.declared.classes.Member.{Member}
use Rattle.ytype_patterns.specs.declared.classes.Member.TheVariants as members
use Rattle.ytype_patterns.specs.declared.classes.OpenClass.{OpenClass}
use Rattle.ytype_patterns.specs.declared.classes.ClassState.{ClassState}
use Rattle.ytype_patterns.specs.declared.classes.ClassState.TheVariants as states

-- the characters of ranges as they stand
abbrev pub collected : List Range → Set
collected rs = λ c. is_character c && in_ranges rs c

abbrev pub held_ranges : Option (Vec Range) → List Range
held_ranges None = []
held_ranges (Some rs) = rs.items

abbrev pub held_view : Option (Vec Range) → Option Set
held_view held = option_map (λ rs. collected rs.items) held

-- the innermost first
abbrev pub around_view : List Class → List Set
around_view around = reverse (map (λ class. in_ranges class.ranges.items) around)

abbrev pub open_view : OpenClass → spec.Class
open_view class = record { around = around_view class.around.items; inverted = class.inverted; held = held_view class.held }

abbrev pub holding : spec.Class → Option Set → spec.Class
holding class held = record class { held = held }

abbrev pub pending_view : Pending → spec.Pending
pending_view pending.Nothing = spec.none_pending
pending_view pending.LoneDash = spec.lone_dash
pending_view (pending.First c) = spec.first c
pending_view (pending.Range c) = spec.range c

abbrev pub member_view : Member → spec.Member
member_view members.OpenBracket = spec.open_bracket
member_view members.CloseBracket = spec.close_bracket
member_view members.Dash = spec.dash
member_view (members.One c) = spec.one_member c
member_view (members.Set name outside) = spec.set_member (escapes.turned outside (named_view name))

abbrev pub item_view : Item → spec.Item
item_view (items.Sign c) = spec.sign_item c
item_view (items.Set class) = spec.set_item (in_ranges class.ranges.items)

abbrev pub state_view : ClassState → spec.ClassState
state_view states.NoClass = spec.no_class
state_view (states.Opened around) = spec.opened (around_view around.items)
state_view (states.Inside class pending) = spec.inside (open_view class) (pending_view pending)
state_view (states.Ended inner outer around) = spec.ended (in_ranges inner.ranges.items) (in_ranges outer.ranges.items) (around_view around.items)

-- what a step gives
abbrev pub made_item : Option Item × ClassState → Option spec.Item × spec.ClassState
made_item step = (option_map item_view step.0, state_view step.1)
