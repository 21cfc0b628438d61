use Rattle.std.proofs.Common.{◌≡◌, ◌++◌, drop, map}
use Rattle.ybase_preorder.specs.declared.slot.Slot.{Slot}
use Rattle.ylink_grammar.specs.declared.source.Source as held
use Rattle.ylink_grammar.specs.LanguageView.{language_view}
use Rattle.ylink_grammar.specs.SourceView.{source_view}
use Rattle.ylink_standing.specs.ChosenView.{is_chosen_by, is_chosen_in}
use Rattle.ylink_standing.proofs.choosing.chosen_among.Given as goal

abbrev pub invariant-loop-row : goal.invariant-loop-row
invariant-loop-row l =
    let says = λ (r : Slot held.Source). is_chosen_by (language_view l.language) (is_chosen_in l.chosen) (map (λ t. t.now) l.names) (source_view 0 r.label) in
    l.made.items ++ map says (drop l.row-index l.rows) ≡ map says l.rows
