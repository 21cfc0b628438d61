use Rattle.std.proofs.Common.{◌≡◌, ◌++◌, ◌+◌, ◌*◌, ◌∷◌, drop, length, map}
use Rattle.yinst_tree.specs.View.{row_view, place_view, step_view}
use Rattle.ysay_value.specs.NearWords.{texts_on}
use Rattle.ysay_value.proofs.near.+texts.Given as goal

-- the way is shorter below
abbrev pub decreases-add_texts : goal.decreases-add_texts
decreases-add_texts l = 2 * length l.way.now

abbrev pub decreases-add_texts_behind : goal.decreases-add_texts_behind
decreases-add_texts_behind l = 2 * length l.rest.now + 1

-- the texts so far, and those behind the nodes that are left
abbrev pub invariant-add_texts_behind-loop-stored : goal.invariant-add_texts_behind-loop-stored
invariant-add_texts_behind-loop-stored l = map (λ t. t.now) l.texts.items ++ texts_on (step_view l.step ∷ place_view l.rest) (row_view (drop l.stored-index l.row))
    ≡ map (λ t. t.now) l.fn.texts.items ++ texts_on (step_view l.step ∷ place_view l.rest) (row_view l.row)
