-- Faults that a walk gives, as the specification's.
use Rattle.std.specs.Prelude.{List, take, option_map}
use Rattle.yspec.specs.document.Fault as faults
use Rattle.yinst_tree.specs.View.{place_view}
use Rattle.yinst_tree.specs.declared.tree.Step.{Step}
use Rattle.ycheck.specs.Found.{given_fault}
use Rattle.ycheck.specs.View.{code_view, lent_info_view, tag_name}
use Rattle.ylive_list.specs.declared.place.Place.{Place}
use Rattle.ylive_list.specs.declared.seen.Words.{Words}
use Rattle.ylive_list.specs.declared.seen.Seen.{Seen}

abbrev pub steps_in : Place → List Step
steps_in p = take p.count p.table

-- of the node at hand
abbrev pub words_view : Words → faults.Fault
words_view w = given_fault (code_view w.code) (option_map (λ t. t.now) w.app_tag) (lent_info_view w.info)

abbrev pub seen_view : Seen → faults.Fault
seen_view s = record {
  code = code_view s.code;
  tag = tag_name s.tag;
  app_tag = option_map (λ t. t.now) s.app_tag;
  steps = place_view (steps_in s.place);
  info = lent_info_view s.info;
}
