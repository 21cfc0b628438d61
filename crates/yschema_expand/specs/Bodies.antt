-- What augments add, as it lies before any of it is added: each single node in the case for which it stands in a choice, and
-- the nodes themselves asked the conditions of their augment (RFC 7950, 7.9.2, 7.17 and 7.20.2).
use Rattle.std.specs.Prelude.{ℕ, suc, ◌+◌, List, [], ◌∷◌, if◌then◌else◌}
use Rattle.yspec.specs.Forest.{Forest, end, node, size, join}
use Rattle.yspec.specs.linking.Keyword.{case_word}
use Rattle.yspec.specs.linking.Source.{Source, is_source_of}
use Rattle.yspec.specs.linking.Parts.{Part, case_for}
use Rattle.yspec.specs.linking.Expansion.{laid, owned_by}
use Rattle.yspec.specs.linking.Augments.{Augment}
use Rattle.yspec_wide.specs.Language.{Language}
use Rattle.yspec_wide.specs.Expansion.{conditioned}
use Rattle.yschema_expand.specs.Walk.{nodes_for}

-- the nodes of parts, by way of so many groupings at most, asked the conditions of a row
abbrev pub asked_nodes : Language → Forest Source → ℕ → ℕ → Forest Source → Forest Part → Forest Part
asked_nodes language modules owner depth given parts = conditioned language given (nodes_for language modules owner depth parts)

-- each in its case
abbrev pub body_nodes : Language → Forest Source → ℕ → ℕ → Forest Source → Forest Part → Forest Part
body_nodes language modules owner depth given end = end
body_nodes language modules owner depth given (node p below after) = join
    (if is_source_of case_word p.source then asked_nodes language modules owner depth given (node p below end)
    else node (owned_by owner (case_for p)) (asked_nodes language modules owner depth given (node p below end)) end)
    (body_nodes language modules owner depth given after)

abbrev pub body_of : Language → Forest Source → Augment → Forest Part
body_of language modules a = body_nodes language modules a.source.home (suc (size modules)) a.given (laid a.given)

abbrev pub bodies_of : Language → Forest Source → List Augment → Forest Part
bodies_of language modules [] = end
bodies_of language modules (a ∷ others) = join (body_of language modules a) (bodies_of language modules others)

-- where each begins, the first at a number
abbrev pub starts_from : Language → Forest Source → ℕ → List Augment → List ℕ
starts_from language modules next [] = []
starts_from language modules next (a ∷ others) =
    next ∷ starts_from language modules (next + size (body_of language modules a)) others
