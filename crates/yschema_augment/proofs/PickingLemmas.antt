-- Which augment is applied next.
use Rattle.std.proofs.Common.{◌≡◌, ◌⊎◌, inl, inr, ℕ, ◌<◌, Bool, true, false, not, List, take, arith, Option, Some, None, refl, sym, ap, subst, ◌∙◌, nat_cmp}
use Rattle.std.specs.Prelude.{option_and_then}
use Rattle.std.specs.Option.{option_map_or}
use Rattle.std.specs.BTreeMap.{is_at}
use Rattle.std.specs.List.{list_any}
use Rattle.std.proofs.lemmas.Bool.{cases_eq, false≢true}
use Rattle.yspec.specs.linking.Augments.{Augment}
use Rattle.ybase_index.specs.declared.index.NodeIndex.{NodeIndex}
use Rattle.ybase_index.specs.Index.{texts_of}
use Rattle.ybase_preorder.specs.declared.slot.Slot.{Slot}
use Rattle.yschema_augment.specs.Searching.{reached, target_in}
use Rattle.yschema_augment.specs.SearchView.{look_by, name_by, names_by, path_at, key_by, Takes, Ends}
use Rattle.yschema_augment.specs.Settling.{Among, Paths, leads, has_arrived, Settled, Sound}
use Rattle.yschema_augment.specs.Resolving.{Asking}
use Rattle.yschema_augment.specs.Picking.{holds_at, refused_by, is_waiting, found_at, AllSettled, NoneIs, Passes}
use Rattle.yschema_augment.specs.WaitingView.{waiters_at}
use Rattle.yschema_expand.specs.declared.nodes.ExpandedNode.{ExpandedNode}
use Rattle.yschema_augment.specs.declared.search.Search.{Search}

-- what is settled rests on what is found and who waits, and on whether it has arrived
pub settled_through : (refused : ℕ → Option ℕ → Bool) (paths : Paths) (old new : Search) → new.index ≡ old.index → new.names ≡ old.names → new.waiting ≡ old.waiting
    → (j : ℕ) → ((p : Option ℕ) → leads old paths j ≡ Some p → has_arrived old j ≡ true → (has_arrived new j ≡ true) ⊎ (refused j p ≡ true))
    → Settled refused paths old j → Settled refused paths new j
settled_through refused paths old new index names waiting j come (inl (p, there, here)) =
    inl (p, subst (λ (i : NodeIndex). reached (look_by i) None (names_by (texts_of i) (path_at paths j)) ≡ Some p) (sym index) there, still here)
  where
    still : (has_arrived old j ≡ true) ⊎ (refused j p ≡ true) → (has_arrived new j ≡ true) ⊎ (refused j p ≡ true)
    still (inl e) = come p there e
    still (inr unfit) = inr unfit
settled_through refused paths old new index names waiting j come (inr (none, (place, n, step, there, is, missing, waits))) =
    inr (
      subst (λ (i : NodeIndex). reached (look_by i) None (names_by (texts_of i) (path_at paths j)) ≡ None) (sym index) none,
      (
        place,
        n,
        step,
        subst (λ (i : NodeIndex). reached (look_by i) None (take n (names_by (texts_of i) (path_at paths j))) ≡ Some place) (sym index) there,
        is,
        subst (λ (i : NodeIndex). look_by i place (name_by (texts_of i) step) ≡ None) (sym index) missing,
        λ key k. subst (λ v. Among (record { augment = j; found = n }) (waiters_at v key)) (sym waiting) (waits key (subst (λ ns. key_by ns place step ≡ Some key) names k)),
      ),
    )

module _ (askings : ℕ → Asking) (slots : List (Slot ExpandedNode)) (augments : List Augment) (paths : Paths) (waits : List Bool) where
  -- where its steps lead decides whether it is found
  found_by : (s : Search) (j : ℕ) (o : Option (Option ℕ)) → leads s paths j ≡ o
      → found_at askings slots augments paths s j ≡ option_map_or (λ n. holds_at askings slots augments n j) (option_and_then (λ p. p) o) false
  found_by s j o e = ap (λ q. option_map_or (λ n. holds_at askings slots augments n j) (option_and_then (λ p. p) q) false) e

  is_false : (b : Bool) → not b ≡ true → b ≡ false
  is_false true e = absurd (false≢true e)
  is_false false e = refl

  is_true : (b : Bool) → b ≡ false → not b ≡ true
  is_true b e = ap not e

  -- one that is settled and hasn't arrived isn't found
  pub unfound : (s : Search) (j : ℕ) → Settled (refused_by askings slots augments) paths s j → (has_arrived s j ≡ true → ⊥) → found_at askings slots augments paths s j ≡ false
  unfound s j (inl (p, there, inl here)) absent = absurd (absent here)
  unfound s j (inl (p, there, inr unfit)) absent = found_by s j (Some p) there ∙ is_false (option_map_or (λ n. holds_at askings slots augments n j) p false) unfit
  unfound s j (inr (none, lacks)) absent = found_by s j None none

  pub passed_over : (k : ℕ) (old new : Search) → Takes k old new → (is_waiting waits k ≡ true → found_at askings slots augments paths old k ≡ false)
      → AllSettled askings slots augments paths waits old → AllSettled askings slots augments paths waits new
  passed_over k old new takes unfit settled j waiting =
      settled_through (refused_by askings slots augments) paths old new takes.index takes.names takes.waiting j
      (λ p there here. by p there here (cases_eq j k)) (settled j waiting)
    where
      by : (p : Option ℕ) → leads old paths j ≡ Some p → has_arrived old j ≡ true → ((j ≡ k) ⊎ (j ≡ k → ⊥)) → (has_arrived new j ≡ true) ⊎ (refused_by askings slots augments j p ≡ true)
      by p there here (inl same) = inr (is_true (option_map_or (λ n. holds_at askings slots augments n j) p false)
          (sym (found_by old j (Some p) there) ∙ subst (λ i. found_at askings slots augments paths old i ≡ false) (sym same) (unfit (subst (λ i. is_waiting waits i ≡ true) same waiting))))
      by p there here (inr other) = inl (takes.others j other ∙ here)

  -- once one is taken that is found, the others are still settled
  pub others_settled : (k : ℕ) (old new : Search) → Takes k old new → AllSettled askings slots augments paths waits old
      → (j : ℕ) → is_waiting waits j ≡ true → (j ≡ k → ⊥) → Settled (refused_by askings slots augments) paths new j
  others_settled k old new takes settled j waiting other =
      settled_through (refused_by askings slots augments) paths old new takes.index takes.names takes.waiting j (λ p there here. inl (takes.others j other ∙ here)) (settled j waiting)

  -- none before the first that has arrived is found
  pub none_before : (k : ℕ) (old new : Search) → Takes k old new → AllSettled askings slots augments paths waits old
      → (i : ℕ) → i < k → is_waiting waits i ≡ true → found_at askings slots augments paths new i ≡ false
  none_before k old new takes settled i less waiting =
      subst (λ (x : NodeIndex). option_map_or (λ n. holds_at askings slots augments n i) (target_in (look_by x) (names_by (texts_of x) (path_at paths i))) false ≡ false) (sym takes.index)
      (unfound old i (settled i waiting) (λ here. absurd (omega (arith, less, takes.least i here))))

  pub none_left : (old new : Search) → Ends old new → AllSettled askings slots augments paths waits old → NoneIs askings slots augments paths waits new
  none_left old new ends settled i waiting =
      subst (λ (x : NodeIndex). option_map_or (λ n. holds_at askings slots augments n i) (target_in (look_by x) (names_by (texts_of x) (path_at paths i))) false ≡ false) (sym ends.index)
      (unfound old i (settled i waiting) (λ here. false≢true (sym (ap (λ ks. list_any_of i ks) ends.none) ∙ here)))
    where
      list_any_of : ℕ → List ℕ → Bool
      list_any_of j ks = list_any (is_at (nat_cmp j)) ks

-- those that wait wait where they did
pub sound_through : (paths : Paths) (old new : Search) → Passes old new → Sound paths old → Sound paths new
sound_through paths old new passes sound key w there =
    let stands = sound key w (subst (λ v. Among w (waiters_at v key)) passes.waiting there) in
    (stands.0, subst (λ (i : NodeIndex). reached (look_by i) None (take w.found (names_by (texts_of i) (path_at paths w.augment))) ≡ Some key.above) (sym passes.index) stands.1)
