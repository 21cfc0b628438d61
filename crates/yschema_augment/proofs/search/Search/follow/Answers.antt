use Rattle.std.proofs.Common.{refl, length, nat_cmp, ◌≡◌, ◌∙◌, ◌+◌, suc, Some, None, take, sym, ap, subst, arith, true, inl}
use Rattle.std.specs.Prelude.{slice_get, option_map}
use Rattle.std.specs.BTreeSet.{Updates}
use Rattle.std.proofs.lemmas.Option.{slice_get-map, slice_get_read, slice_get_past}
use Rattle.std.proofs.lemmas.Bool.{ltb-true}
use Rattle.yschema_augment.specs.Searching.{reached}
use Rattle.yschema_augment.specs.SearchView.{look_in, name_in, names_in, path_at}
use Rattle.yschema_augment.specs.declared.search.Search.{Search}
use Rattle.yschema_augment.proofs.ReachedLemmas.{onward}
use Rattle.yschema_augment.proofs.search.Search.follow.Goals as goal

pub loop-step-preserved : goal.loop-step-preserved
loop-step-preserved c =
    let look = look_in c.args.self.now in
    let path = path_at c.args.paths.now c.args.waiter.augment in
    let steps = names_in c.args.self.now path in
    let step = c.in-Some.step.now in
    let at : slice_get path c.loop-step.found ≡ Some step = subst (λ xs. slice_get xs c.loop-step.found ≡ Some step) (c.deref.ensures.value ∙ c.loop-step.invariant.path)
    (slice_get_read c.deref.result.now (length c.deref.result.now) c.loop-step.found step refl (ltb-true _ _ (sym c.in-Some.ensures.lookup.0)) c.in-Some.ensures.lookup.1) in
    let named : slice_get steps c.loop-step.found ≡ Some (name_in c.args.self.now step) = slice_get-map (name_in c.args.self.now) path c.loop-step.found ∙ ap (option_map (name_in c.args.self.now)) at in
    let found : look c.loop-step.above (name_in c.args.self.now step) ≡ Some c.in-Some-child.next = subst (λ (s : Search). look_in s c.loop-step.above (name_in s step) ≡ Some c.in-Some-child.next) c.loop-step.invariant.same (sym c.in-Some-child.ensures) in
    let next : suc c.loop-step.found ≡ c.loop-step.found + 1 = omega arith in
    record {
      same = c.loop-step.invariant.same;
      path = c.loop-step.invariant.path;
      so_far = subst (λ n. reached look None (take n steps) ≡ Some (Some c.in-Some-child.next)) next
          (onward look None c.loop-step.above steps c.loop-step.found c.in-Some-child.next (name_in c.args.self.now step) c.loop-step.invariant.so_far named found);
    }

pub returns : goal.returns
returns c = (
  c.loop-step.above,
  c.loop-step.found,
  c.loop-step.invariant.so_far,
  inl (
    subst (λ xs. slice_get xs c.loop-step.found ≡ None) (c.deref.ensures.value ∙ c.loop-step.invariant.path)
        (slice_get_past c.deref.result.now c.loop-step.found c.in_default.ensures.lookup.3),
    record { index = ap (λ (s : Search). s.index) c.loop-step.invariant.same; names = ap (λ (s : Search). s.names) c.loop-step.invariant.same; waiting = ap (λ (s : Search). s.waiting) c.loop-step.invariant.same; arrived = subst (λ (s : Search). Updates nat_cmp s.arrived c.insert.new.self c.args.waiter.augment true) c.loop-step.invariant.same c.in_ok-insert.ensures.updates },
  ),
)
