use Rattle.std.proofs.Common.{◌≡◌, ◌++◌, drop, map}
use Rattle.ylink_grammar.specs.LanguageView.{language_view}
use Rattle.yschema_expand.specs.NodeView.{part_view}
use Rattle.yschema_cut.specs.Cutting.{stands_by}
use Rattle.yschema_cut.proofs.nodes.own_standing_of.Given as goal

-- those so far, and the others
abbrev pub invariant-loop-slot : goal.invariant-loop-slot
invariant-loop-slot l =
    l.standing.items ++ map (λ r. stands_by (language_view l.language) l.holding (part_view r.label)) (drop l.slot-index l.slots)
    ≡ map (λ r. stands_by (language_view l.language) l.holding (part_view r.label)) l.slots
