use Rattle.std.proofs.Common.{◌≡◌, ℕ, ◌-◌, ◌+◌, ◌<◌, ◌∷◌, ◌++◌, [], List, get_or, length, length-set, map, refl, sym, ap, subst, ◌∙◌, arith, rules}
use Rattle.std.proofs.lemmas.List.{length-map}
use Rattle.ybase_index.specs.Names.{number_among, text_in}
use Rattle.ybase_index.specs.Sorted.{Named, Stands}
use Rattle.ybase_index.proofs.SortedLemmas.{all_kept, get_or_any, kept_next, no_less_at, not_none, stands_first, was_or_is}
use Rattle.ybase_index.proofs.names.names_of.Goals as goal

pub loop-at-init : goal.loop-at-init
loop-at-init c =
    let text_at = text_in (map (λ t. t.now) c.args.texts.now) in
    let sorted = c.in_ok-sorted.sorted.items in
    let first = c.index-last.result.now in
    let some : 0 < length sorted = omega (arith, not_none c.in_ok-sorted.sorted.len (sym c.is_empty.ensures ∙ c.if-is_empty.false), c.in_ok-sorted.sorted.ok.0) in
    let own : text_at first.1 ≡ first.0.now = subst (λ (e : Named). text_at e.1 ≡ e.0.now) (sym c.index-last.ensures) (c.in_ok-sorted.ensures.own 0 first some) in
    record {
      counted = search rules;
      last = λ d. ap (λ e. e.0.now) (get_or_any sorted 0 d first some ∙ sym c.index-last.ensures);
      stands = subst (λ (ns : List ℕ). Stands text_at ns first) (sym (c.in_ok-push.ensures.items ∙ ap (λ ns. ns ++ first.1 ∷ []) c.new-ordered.ensures.items))
          (stands_first text_at first own);
      each = λ k d within. absurd (omega (arith, within));
    }

pub index_mut-requires : goal.index_mut-requires
index_mut-requires c =
    let e = c.index.result.now in
    let low : e.1 < length c.args.texts.now = subst (λ (x : Named). x.1 < length c.args.texts.now) (sym c.index.ensures) (c.in_ok-sorted.ensures.below c.loop-at.at e (omega arith)) in
    omega (arith, low, c.loop-at.invariant.counted, c.loop-at.of_nodes.ok.0)

pub loop-at-preserved : goal.loop-at-preserved
loop-at-preserved c =
    let text_at = text_in (map (λ t. t.now) c.args.texts.now) in
    let sorted = c.in_ok-sorted.sorted.items in
    let k = c.loop-at.at in
    let e = c.index.result.now in
    let is = c.index.ensures in
    let within : k < length sorted = omega arith in
    let own : text_at e.1 ≡ e.0.now = subst (λ (x : Named). text_at x.1 ≡ x.0.now) (sym is) (c.in_ok-sorted.ensures.own k e within) in
    let low : e.1 < length c.args.texts.now = subst (λ (x : Named). x.1 < length c.args.texts.now) (sym is) (c.in_ok-sorted.ensures.below k e within) in
    let counted = c.loop-at.invariant.counted in
    let kept = c.loop-at.of_nodes.items in
    let new = number_among text_at c.number_in_turn.new.ordered.items in
    let number = c.in_ok-number.number in
    let no_less = no_less_at sorted k (k - 1) c.loop-at.last.0.now e c.in_ok-sorted.ensures.ascend within refl is c.loop-at.invariant.last in
    let stands = c.in_ok-number.ensures.stands text_at c.loop-at.invariant.stands no_less own in
    let back : k + 1 - 1 ≡ k = omega arith in
    record {
      counted = length-set kept e.1 number ∙ counted;
      last = λ d. ap (λ x. x.0.now) (ap (λ n. get_or sorted n d) back ∙ (get_or_any sorted k d e within ∙ sym is));
      stands = stands;
      each = λ j d less.
          let other = (get_or sorted j d).1 in
          let was = was_or_is new text_at sorted (get_or kept other 0) k j d e less (get_or_any sorted k d e within ∙ sym is)
          (λ before. c.in_ok-number.ensures.kept text_at (text_at other) (get_or kept other 0) (c.loop-at.invariant.each j d before)) in
          kept_next new text_at kept e.1 number other (omega (arith, low, counted)) (ap new own ∙ stands.2) was;
    }

pub returns : goal.returns
returns c =
    let text_at = text_in (map (λ t. t.now) c.args.texts.now) in
    let ended = c.loop-at-test.false in (
      c.loop-at.invariant.counted ∙ sym (length-map c.args.texts.now (λ t. t.now)),
      c.loop-at.invariant.stands.0,
      all_kept (number_among text_at c.loop-at.ordered.items) text_at c.in_ok-sorted.sorted.items c.loop-at.of_nodes.items (length c.args.texts.now) c.loop-at.at
          c.in_ok-sorted.ensures.whole c.loop-at.invariant.counted (omega (arith, ended)) c.loop-at.invariant.each,
    )
