use Rattle.std.proofs.Common.{◌≡◌, ◌++◌, drop, map, not}
use Rattle.yspec_wide.specs.Sources as spec
use Rattle.ylink_grammar.specs.LanguageView.{language_view}
use Rattle.ylink_grammar.specs.SourceView.{source_view}
use Rattle.yschema_cut.proofs.guarding.others_in.Given as goal

-- those so far, and the others
abbrev pub invariant-loop-slot : goal.invariant-loop-slot
invariant-loop-slot l =
    l.others.items ++ map (λ r. not (spec.is_when (language_view l.language) (source_view 0 r.label))) (drop l.slot-index l.slots)
    ≡ map (λ r. not (spec.is_when (language_view l.language) (source_view 0 r.label))) l.slots
