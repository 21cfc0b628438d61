-- A walk, as the definition's.
use Rattle.std.specs.Prelude.{List, map, option_map, reverse}
use Rattle.ytext.specs.Shown.{scanned_of}
use Rattle.ysay_slips.specs.Walk as spec
use Rattle.ysay_slips.specs.declared.walk.Due.{Due}
use Rattle.ysay_slips.specs.declared.walk.Due.TheVariants as due
use Rattle.ysay_slips.specs.declared.walk.Beginning.{Beginning}
use Rattle.ysay_slips.specs.declared.walk.Doubt.{Doubt}
use Rattle.ysay_slips.specs.declared.walk.Walk.{Walk}
use Rattle.ysay_slips.specs.declared.walk.Stop.{Stop}
use Rattle.ysay_slips.specs.declared.walk.Stop.TheVariants as stop

abbrev pub due_view : Due → spec.Due
due_view due.Keyword = spec.a_keyword
due_view due.Argument = spec.an_argument
due_view due.Body = spec.a_body
due_view due.Plus = spec.a_plus
due_view due.String = spec.a_string
due_view due.End = spec.the_end

abbrev pub beginning_view : Beginning → spec.Beginning
beginning_view b = record { start = b.start; indent = b.indent }

abbrev pub doubt_view : Doubt → spec.Doubt
doubt_view d = record { outer = beginning_view d.outer; inner = beginning_view d.inner }

abbrev pub blocks_view : List Beginning → List spec.Beginning
blocks_view blocks = reverse (map beginning_view blocks)

abbrev pub walk_view : Walk → spec.Walk
walk_view w = record {
  due = due_view w.due;
  blocks = blocks_view w.blocks.items;
  statement = beginning_view w.statement;
  last = w.last;
  doubt = option_map doubt_view w.doubt;
}

abbrev pub stop_view : Stop → spec.Stop
stop_view (stop.AtToken w t) = spec.at_token (walk_view w) (scanned_of t)
stop_view (stop.AtEnd w) = spec.at_end (walk_view w)
stop_view stop.Elsewhere = spec.elsewhere
