use Rattle.std.proofs.Common.{◌≡◌, ◌∙◌, ◌+◌, None, Some, [], ◌∷◌, drop, get_or, take, sym, subst, refl}
use Rattle.std.proofs.lemmas.List.{drop_more, at_drop_all}
use Rattle.ybase_index.specs.declared.index.NodeIndex.{NodeIndex}
use Rattle.ybase_index.specs.Index.{texts_of}
use Rattle.yschema_augment.specs.Searching.{reached}
use Rattle.yschema_augment.specs.SearchView.{look_by, names_by, path_at}
use Rattle.yschema_augment.specs.Settling.{Moves}
use Rattle.yschema_augment.specs.declared.waiting.Waiter.{Waiter}
use Rattle.yschema_augment.proofs.SettlingLemmas.{moves_none, moves_both, moves_one, among_at}
use Rattle.yschema_augment.proofs.search.Search.settle.Goals as goal

pub follow-requires-clause-within : goal.follow-requires-clause-within
follow-requires-clause-within c =
    let woken = c.args.woken.now in
    let d : Waiter = record { augment = 0; found = 0 } in
    (c.requires (get_or woken c.loop-waiter.waiter-index d) (among_at woken c.loop-waiter.waiter-index (get_or woken c.loop-waiter.waiter-index d) d c.loop-waiter-test.true refl)).0

pub follow-requires-clause-so_far : goal.follow-requires-clause-so_far
follow-requires-clause-so_far c =
    let woken = c.args.woken.now in
    let d : Waiter = record { augment = 0; found = 0 } in
    let w = get_or woken c.loop-waiter.waiter-index d in
    subst (λ (i : NodeIndex). reached (look_by i) None (take w.found (names_by (texts_of i) (path_at c.args.paths.now w.augment))) ≡ Some c.args.above) (sym c.loop-waiter.invariant.index)
    (c.requires w (among_at woken c.loop-waiter.waiter-index w d c.loop-waiter-test.true refl)).1

pub loop-waiter-preserved : goal.loop-waiter-preserved
loop-waiter-preserved c =
    let woken = c.args.woken.now in
    let d : Waiter = record { augment = 0; found = 0 } in
    let w = get_or woken c.loop-waiter.waiter-index d in
    let rest = drop (c.loop-waiter.waiter-index + 1) woken in
    let within = (c.requires w (among_at woken c.loop-waiter.waiter-index w d c.loop-waiter-test.true refl)).0 in
    let one = moves_one c.args.paths.now w c.loop-waiter.self c.follow.new.self within c.in_ok-follow.ensures in
    record {
      index = one.index ∙ c.loop-waiter.invariant.index;
      so_far = λ final more. c.loop-waiter.invariant.so_far final
          (subst (λ xs. Moves c.args.paths.now xs c.loop-waiter.self final) (sym (drop_more woken c.loop-waiter.waiter-index d c.loop-waiter-test.true))
          (moves_both c.args.paths.now (w ∷ []) rest c.loop-waiter.self c.follow.new.self final one more));
    }

pub returns : goal.returns
returns c = c.loop-waiter.invariant.so_far c.loop-waiter.self
    (subst (λ xs. Moves c.args.paths.now xs c.loop-waiter.self c.loop-waiter.self) (sym (at_drop_all (λ xs. xs) c.args.woken.now c.loop-waiter.waiter-index c.loop-waiter-test.false))
    (moves_none c.args.paths.now c.loop-waiter.self))
