use Rattle.std.proofs.Common.{rules, ◌≡◌, ◌∙◌, ◌+◌, ◌-◌, arith, ap, min, sym}
use Rattle.ystore_rows.specs.Children.{nodes_of}
use Rattle.ystore_rows.proofs.NearLemmas.{found_ahead, found_behind, found_nowhere, ids_of, none_further, part, part_long, stands, stands_not}
use Rattle.ystore_rows.proofs.children.Children.place_near.Goals as goal
use Rattle.ystore_rows.proofs.children.Children.place_near.Goals.{else-step-near-via-then-step-near+else-is_among, else-step-near-via-else-step-near}

pub returns-then-is_ahead : goal.returns-then-is_ahead
returns-then-is_ahead c =
    let of = part c.args.first c.args.end (nodes_of c.args.self.now) c.requires.order c.requires.within in
    let long = part_long c.args.first c.args.end (nodes_of c.args.self.now) c.requires.order c.requires.within in
    let near = c.min-near.result in
    let step = c.loop-step.step in
    let is : near ≡ min c.args.near (c.args.end - c.args.first) = search rules in
    found_ahead c.args.node of near c.args.near (is ∙ ap (min c.args.near) (sym long)) step c.loop-step.invariant
    (stands c.args.node of (near + step) (sym c.is_ahead.ensures ∙ c.if-is_ahead.true))

pub returns-then-is_among : goal.returns-then-is_among
returns-then-is_among c =
    let of = part c.args.first c.args.end (nodes_of c.args.self.now) c.requires.order c.requires.within in
    let long = part_long c.args.first c.args.end (nodes_of c.args.self.now) c.requires.order c.requires.within in
    let near = c.min-near.result in
    let step = c.loop-step.step in
    let is : near ≡ min c.args.near (c.args.end - c.args.first) = search rules in
    found_behind c.args.node of near c.args.near (is ∙ ap (min c.args.near) (sym long)) step c.loop-step.invariant
    (stands_not c.args.node of (near + step) (sym c.is_ahead.ensures ∙ c.if-is_ahead.false))
    (omega (arith, c.if-step-near.true))
    (stands c.args.node of (near - 1 - step) (sym c.is_among.ensures ∙ c.if-is_among.true))

pub loop-step-preserved : goal.loop-step-preserved
loop-step-preserved c =
    let of = part c.args.first c.args.end (nodes_of c.args.self.now) c.requires.order c.requires.within in
    let near = c.min-near.result in
    let step = c.loop-step.step in
    none_further c.args.node (ids_of of) near step c.loop-step.invariant
    (stands_not c.args.node of (near + step) (sym c.is_ahead.ensures ∙ c.if-is_ahead.false))
    (elim c.else-step-near.branch [
      | else-step-near-via-then-step-near+else-is_among w ↦ λ less.
          stands_not c.args.node of (near - 1 - step) (sym w.is_among.ensures ∙ w.if-is_among.false)
      | else-step-near-via-else-step-near w ↦ λ less. absurd (omega (arith, less, w.if-step-near.false))
    ])

pub returns : goal.returns
returns c =
    let of = part c.args.first c.args.end (nodes_of c.args.self.now) c.requires.order c.requires.within in
    let long = part_long c.args.first c.args.end (nodes_of c.args.self.now) c.requires.order c.requires.within in
    let near = c.min-near.result in
    let is : near ≡ min c.args.near (c.args.end - c.args.first) = search rules in
    sym long
    ∙ found_nowhere c.args.node of near c.args.near (is ∙ ap (min c.args.near) (sym long)) c.loop-step.step c.loop-step.invariant
    (omega (arith, long, c.loop-step-test.false))
