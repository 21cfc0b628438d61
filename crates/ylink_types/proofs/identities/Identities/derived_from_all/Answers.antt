use Rattle.std.proofs.Common.{◌≡◌, ◌+◌, ◌∷◌, pos, filter, get_or, map, take, arith, ap, ap₂, subst, ◌∙◌, ℕ, ℤ, List}
use Rattle.std.specs.BTreeSet.{BTreeSet, contains}
use Rattle.std.specs.Ordering.{int_cmp}
use Rattle.std.proofs.lemmas.List.{take_all, take_more}
use Rattle.ylink_types.specs.DerivedView.{Ascend}
use Rattle.ylink_types.proofs.IdentityLemmas.{all_derived, derived_numbers, first_kept, next_kept}
use Rattle.ylink_types.proofs.identities.Identities.derived_from_all.Goals as goal

pub loop-base-init : goal.loop-base-init
loop-base-init c kept modules is =
    c.in_ok-numbers.ensures
    ∙ (ap₂ (λ (ns : List ℕ) (s : BTreeSet ℤ). filter (λ n. contains int_cmp s (pos n)) ns) c.deref.ensures.value c.deref-2.ensures
    ∙ first_kept kept modules c.args.self.now.numbers.items is.numbers c.args.first _ (c.in_ok-derived.ensures kept modules is))

pub loop-base-preserved : goal.loop-base-preserved
loop-base-preserved c kept modules is =
    let i = c.loop-base.base-index in
    let others = c.args.others.now in
    c.in_ok-numbers-2.ensures
    ∙ (ap₂ (λ (ns : List ℕ) (s : BTreeSet ℤ). filter (λ n. contains int_cmp s (pos n)) ns) (c.deref-in-loop-base.ensures.value ∙ c.loop-base.invariant kept modules is) c.deref-in-loop-base-2.ensures
    ∙ next_kept kept modules c.args.self.now.numbers.items is.numbers (c.args.first ∷ take i others) (get_or others i 0) (c.args.first ∷ take (i + 1) others) _
    (ap (λ l. c.args.first ∷ l) (take_more others i 0 c.loop-base-test.true)) (c.in_ok-other.ensures kept modules is))

pub returns : goal.returns
returns c kept modules is =
    let others = c.args.others.now in
    let all : take c.loop-base.base-index others ≡ others = take_all c.loop-base.base-index others (omega arith) in
    ap (λ s. s.keys) c.in_ok-new.ensures.ok
    ∙ all_derived kept modules c.args.self.now.numbers.items is.numbers (c.args.first ∷ others) c.loop-base.numbers.items _ is.ascend
    (subst (λ (ns : List ℕ). Ascend 0 ns → c.in_ok-set_of.field-0.keys ≡ map pos ns) c.deref-3.ensures.value c.in_ok-set_of.ensures)
    (c.loop-base.invariant kept modules is ∙ ap (λ l. derived_numbers kept modules c.args.self.now.numbers.items is.numbers (c.args.first ∷ l)) all)
