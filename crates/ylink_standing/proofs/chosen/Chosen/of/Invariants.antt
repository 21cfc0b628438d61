use Rattle.std.proofs.Common.{◌≡◌, drop, map, option_map}
use Rattle.std.specs.Prelude.{find}
use Rattle.std.specs.List.{list_any}
use Rattle.yspec.specs.Forest.{first_of}
use Rattle.yspec.specs.text.Text.{Text, is_text}
use Rattle.ylink_grammar.specs.LanguageView.{choosing_view}
use Rattle.ylink_standing.specs.ChosenView.{held_of}
use Rattle.ylink_standing.proofs.chosen.Chosen.of.Given as goal

abbrev pub invariant-loop-choosing : goal.invariant-loop-choosing
invariant-loop-choosing l = (module_name feature : Text)
    → first_of (held_of l.chosen module_name feature)
    (option_map (λ c. list_any (is_text feature) c.features) (find (λ c. is_text module_name c.module_name) (map choosing_view (drop l.choosing-index l.choosings))))
    ≡ option_map (λ c. list_any (is_text feature) c.features) (find (λ c. is_text module_name c.module_name) (map choosing_view l.choosings))
