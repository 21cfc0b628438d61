use Rattle.std.proofs.Common.{arith, ap, ◌∷◌, ◌++◌, ◌∙◌, sym}
use Rattle.std.proofs.lemmas.List.{append-nil}
use Rattle.yspec.specs.Forest.{end, node}
use Rattle.ystore_tree.specs.Copies.{ids_of}
use Rattle.ystore_tree.proofs.CopyLemmas.{levels_within}
use Rattle.ystore_tree.proofs.GrowLemmas.{ids_node}
use Rattle.ylive_edit.proofs.amending.numbers_of.Goals as goal

pub returns-clause-numbers : goal.returns-clause-numbers
returns-clause-numbers c = λ above n below same stands fits.
    let deep = levels_within (node n below end) in
    let count = c.node_count-depth.ensures in
    let copied = c.in_ok-copy_part.ensures.part above n below same stands (omega (arith, deep, fits, count)) in
    copied.numbers
    ∙ (ap (λ had. had ++ n.id ∷ ids_of below) c.new-numbers.ensures.items
    ∙ (ap (λ xs. n.id ∷ xs) (sym (append-nil (ids_of below))) ∙ sym (ids_node n below end)))

pub returns-clause-reads : goal.returns-clause-reads
returns-clause-reads c = λ above n below same stands fits.
    let deep = levels_within (node n below end) in
    let count = c.node_count-depth.ensures in
    let copied = c.in_ok-copy_part.ensures.part above n below same stands (omega (arith, deep, fits, count)) in
    let read = copied.reads in
    omega (arith, read)
