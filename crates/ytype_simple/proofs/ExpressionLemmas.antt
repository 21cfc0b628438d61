-- One step of a loop over restrictions with expressions.
use Rattle.std.proofs.Common.{◌≡◌, List, ◌++◌, ℕ, ◌+◌, drop, sym, ap, ◌∙◌}
use Rattle.std.specs.Prelude.{Bool, slice_get, option_to_list}
use Rattle.std.proofs.lemmas.Grind.{flat_map-append}
use Rattle.yspec.specs.text.Text.{Text}
use Rattle.yspec.specs.types.Ranges.{Limit}
use Rattle.ytype_simple.specs.Patterns.{expression_of, expressions_in}
use Rattle.ytype_simple.proofs.RowLemmas.{at_place}

pub expressions_more : (ls : List Limit) (i : ℕ) → expressions_in (option_to_list (slice_get ls i)) ++ expressions_in (drop (i + 1) ls) ≡ expressions_in (drop i ls)
expressions_more ls i =
    sym (flat_map-append (λ (l : Limit). option_to_list (expression_of l.test)) (option_to_list (slice_get ls i)) (drop (i + 1) ls))
    ∙ ap expressions_in (at_place ls i)
