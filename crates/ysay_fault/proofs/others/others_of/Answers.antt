use Rattle.std.proofs.Common.{◌≡◌, ◌+◌, Some, None, option_copied, sym, ap, ◌∙◌, arith}
use Rattle.std.specs.Prelude.{option_and_then}
use Rattle.std.specs.Ordering.{eq_by_cmp}
use Rattle.ysay_fault.specs.Others.{first_same, others_from}
use Rattle.ysay_fault.proofs.OtherLemmas.{told, told_more}
use Rattle.ysay_fault.proofs.others.others_of.Goals as goal
use Rattle.ysay_fault.proofs.others.others_of.Goals.{in-Some+in-Some-get, in-Some+in-None-get, in-None}

pub tell-preserved : goal.tell-preserved
tell-preserved g c =
    let same = eq_by_cmp g.K.Ord.cmp in
    let keys = c.args.keys.now in
    let own = c.tell.place + 1 in
    let other : c.match-keys-place.other ≡ option_and_then (λ x. first_same same own 1 x keys) c.index-keys-place.result = elim c.match-keys-place.branch [
      | in-Some+in-Some-get w ↦
          let key = w.in-Some.key in
          w.other-is ∙ (w.first_but.ensures
          ∙ (told same own key keys (Some w.in-Some-get.two.now) (sym (ap option_copied w.in-Some-get.is) ∙ (w.get.ensures.value ∙ c.in_ok-known.ensures key))
          ∙ sym (ap (option_and_then (λ x. first_same same own 1 x keys)) w.in-Some.is)))
      | in-Some+in-None-get w ↦
          let key = w.in-Some.key in
          w.other-is ∙ (told same own key keys None (sym (ap option_copied w.in-None-get.is) ∙ (w.get.ensures.value ∙ c.in_ok-known.ensures key))
          ∙ sym (ap (option_and_then (λ x. first_same same own 1 x keys)) w.in-Some.is))
      | in-None w ↦ w.other-is ∙ sym (ap (option_and_then (λ x. first_same same own 1 x keys)) w.in-None.is)
    ] in
    told_more same keys keys own c.tell.place c.index-keys-place.result c.tell.others.items c.push.new.self.items (others_from same keys 1 keys) c.match-keys-place.other
    (omega arith) c.index-keys-place.is other c.in_ok-push.ensures.items c.tell.invariant
