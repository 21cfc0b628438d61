-- What comes of augments that go on along their paths.
use Rattle.std.proofs.Common.{◌≡◌, ◌⊎◌, inl, inr, ℕ, suc, ◌+◌, ◌<◌, ◌==◌, ◌&&◌, Bool, true, false, cond, List, [], ◌∷◌, ◌++◌, length, take, get_or, zero, arith, Option, Some, None, refl, sym, ap, ap₂, subst, ◌∙◌, nat_cmp, nat_lt}
use Rattle.std.specs.Prelude.{slice_get, option_map, option_and_then}
use Rattle.std.specs.Option.{option_map_or}
use Rattle.std.specs.Ordering.{is_eq}
use Rattle.std.specs.BTreeMap.{is_at}
use Rattle.std.specs.BTreeSet.{contains, Updates}
use Rattle.std.proofs.lemmas.Bool.{cases_eq, eq-eqb, eqb-true, false≢true}
use Rattle.std.proofs.lemmas.Option.{slice_get-map}
use Rattle.yspec.specs.linking.Planned.{same_number}
use Rattle.ybase_index.specs.declared.keys.Key.{Key}
use Rattle.ybase_index.specs.Keys.{same_key}
use Rattle.ybase_index.proofs.KeyLemmas.{same_key-is}
use Rattle.yschema_augment.specs.Searching.{reached}
use Rattle.ybase_index.specs.declared.index.NodeIndex.{NodeIndex}
use Rattle.ybase_index.specs.Index.{texts_of}
use Rattle.yschema_augment.specs.SearchView.{look_by, look_in, name_by, names_by, name_in, path_at, key_by, key_for, Arrives, Waits, Follows}
use Rattle.yschema_augment.specs.Settling.{Among, Paths, StandsAt, Sound, has_arrived, Settled, Moves}
use Rattle.yschema_augment.specs.WaitingView.{waiters_at}
use Rattle.yschema_augment.specs.declared.waiting.Waiter.{Waiter}
use Rattle.yschema_augment.specs.declared.search.Search.{Search}
use Rattle.yschema_augment.specs.declared.search.Step.{Step}
use Rattle.yschema_augment.proofs.ReachedLemmas.{arrived, stopped}

module _ {A : Type 0} where
  pub among_left : (x : A) (xs ys : List A) → Among x xs → Among x (xs ++ ys)
  among_left x [] ys there = elim there [ ]
  among_left x (y ∷ xs) ys (inl e) = inl e
  among_left x (y ∷ xs) ys (inr more) = inr (among_left x xs ys more)

  pub among_right : (x : A) (xs ys : List A) → Among x ys → Among x (xs ++ ys)
  among_right x [] ys there = there
  among_right x (y ∷ xs) ys there = inr (among_right x xs ys there)

  pub among_either : (x : A) (xs ys : List A) → Among x (xs ++ ys) → Among x xs ⊎ Among x ys
  among_either x [] ys there = inr there
  among_either x (y ∷ xs) ys (inl e) = inl (inl e)
  among_either x (y ∷ xs) ys (inr more) = by (among_either x xs ys more)
    where
      by : Among x xs ⊎ Among x ys → ((y ≡ x) ⊎ Among x xs) ⊎ Among x ys
      by (inl there) = inl (inr there)
      by (inr there) = inr there

same_at : (a q : ℕ) → is_at (nat_cmp a) q ≡ true → a ≡ q
same_at a q e = by (nat_lt a q) (a == q) refl e
  where
    by : (b c : Bool) → (a == q) ≡ c → is_eq (cond b (nat_cmp 0 1) (cond c (nat_cmp 0 0) (nat_cmp 1 0))) ≡ true → a ≡ q
    by true c is e = absurd (false≢true e)
    by false true is e = eqb-true a q is
    by false false is e = absurd (false≢true e)

-- once one is inserted
module _ (augment : ℕ) (old new : Search) (updates : Updates nat_cmp old.arrived new.arrived augment true) where
  kept_in : (j : ℕ) → has_arrived old j ≡ true → has_arrived new j ≡ true
  kept_in j e = updates.0 j ∙ by (is_at (nat_cmp augment) j)
    where
      by : (b : Bool) → cond b true (contains nat_cmp old.arrived j) ≡ true
      by true = refl
      by false = e

  come_in : (j : ℕ) → has_arrived new j ≡ true → (has_arrived old j ≡ true) ⊎ (augment ≡ j)
  come_in j e = by (is_at (nat_cmp augment) j) refl (sym (updates.0 j) ∙ e)
    where
      by : (b : Bool) → is_at (nat_cmp augment) j ≡ b → cond b true (contains nat_cmp old.arrived j) ≡ true → (has_arrived old j ≡ true) ⊎ (augment ≡ j)
      by true is e = inr (same_at augment j is)
      by false is e = inl e

-- ---- one after another

pub moves_none : (paths : Paths) (s : Search) → Moves paths [] s s
moves_none paths s = record {
  index = refl;
  names = refl;
  sound = λ sound. sound;
  kept = λ refused j settled. settled;
  settled = λ refused w there. elim there [ ];
  arrived = λ j there. inl there;
}

pub moves_both : (paths : Paths) (v w : List Waiter) (a b c : Search) → Moves paths v a b → Moves paths w b c → Moves paths (v ++ w) a c
moves_both paths v w a b c first second = record {
  index = second.index ∙ first.index;
  names = second.names ∙ first.names;
  sound = λ sound. second.sound (first.sound sound);
  kept = λ refused j settled. second.kept refused j (first.kept refused j settled);
  settled = λ refused x there. by refused x (among_either x v w there);
  arrived = λ j there. came j (second.arrived j there);
}
  where
    by : (refused : ℕ → Option ℕ → Bool) (x : Waiter) → Among x v ⊎ Among x w → Settled refused paths c x.augment
    by refused x (inl there) = second.kept refused x.augment (first.settled refused x there)
    by refused x (inr there) = second.settled refused x there

    earlier : (j : ℕ) → (has_arrived a j ≡ true) ⊎ ((x : Waiter) × Among x v × (x.augment ≡ j)) → (has_arrived a j ≡ true) ⊎ ((x : Waiter) × Among x (v ++ w) × (x.augment ≡ j))
    earlier j (inl there) = inl there
    earlier j (inr there) = inr (there.0, among_left there.0 v w there.1, there.2)

    came : (j : ℕ) → (has_arrived b j ≡ true) ⊎ ((x : Waiter) × Among x w × (x.augment ≡ j)) → (has_arrived a j ≡ true) ⊎ ((x : Waiter) × Among x (v ++ w) × (x.augment ≡ j))
    came j (inl there) = earlier j (first.arrived j there)
    came j (inr there) = inr (there.0, among_right there.0 v w there.1, there.2)

-- ---- one that goes on

key_itself : (k : Key) → same_key k k ≡ true
key_itself k = ap₂ (λ a b. a && b) (above k.above) (ap₂ (λ a b. a && b) (eq-eqb k.«module» k.«module» refl) (eq-eqb k.name k.name refl))
  where
    above : (o : Option ℕ) → same_number o o ≡ true
    above None = refl
    above (Some n) = eq-eqb n n refl

-- where some of its steps lead, by an index
abbrev reaches : NodeIndex → List Step → ℕ → Option (Option ℕ)
reaches index path count = reached (look_by index) None (take count (names_by (texts_of index) path))

abbrev all : NodeIndex → List Step → Option (Option ℕ)
all index path = reached (look_by index) None (names_by (texts_of index) path)

module _ (paths : Paths) (w : Waiter) (old new : Search) where
  abbrev pub path : List Step
  path = path_at paths w.augment

  -- the index is the same, so whatever is said of it
  module _ (index : new.index ≡ old.index) where
    over : (P : NodeIndex → Type 0) → P old.index → P new.index
    over P p = subst P (sym index) p

  arrives_one : (above : Option ℕ) (count : ℕ) → reaches old.index path count ≡ Some above → slice_get path count ≡ None → Arrives w.augment old new → Moves paths (w ∷ []) old new
  arrives_one above count e at a = record {
    index = a.index;
    names = a.names;
    sound = λ sound key x there. over a.index (λ i. (x.augment < length paths) × (reaches i (path_at paths x.augment) x.found ≡ Some key.above))
        (sound key x (subst (λ v. Among x (waiters_at v key)) a.waiting there));
    kept = λ refused j settled. keep refused j settled;
    settled = λ refused x there. settle refused x there;
    arrived = λ j there. came j (come_in w.augment old new a.arrived j there);
  }
    where
      still : (refused : ℕ → Option ℕ → Bool) (j : ℕ) (p : Option ℕ) → (has_arrived old j ≡ true) ⊎ (refused j p ≡ true) → (has_arrived new j ≡ true) ⊎ (refused j p ≡ true)
      still refused j p (inl here) = inl (kept_in w.augment old new a.arrived j here)
      still refused j p (inr unfit) = inr unfit

      keep : (refused : ℕ → Option ℕ → Bool) (j : ℕ) → Settled refused paths old j → Settled refused paths new j
      keep refused j (inl (p, leads_there, here)) = inl (p, over a.index (λ i. all i (path_at paths j) ≡ Some p) leads_there, still refused j p here)
      keep refused j (inr (none, (place, n, step, there, is, missing, waits))) = inr (
        over a.index (λ i. all i (path_at paths j) ≡ None) none,
        (
          place,
          n,
          step,
          over a.index (λ i. reaches i (path_at paths j) n ≡ Some place) there,
          is,
          over a.index (λ i. look_by i place (name_by (texts_of i) step) ≡ None) missing,
          λ key k. subst (λ v. Among (record { augment = j; found = n }) (waiters_at v key)) (sym a.waiting) (waits key (subst (λ m. key_by m place step ≡ Some key) a.names k)),
        ),
      )

      settle : (refused : ℕ → Option ℕ → Bool) (x : Waiter) → Among x (w ∷ []) → Settled refused paths new x.augment
      settle refused x (inl same) = subst (λ (y : Waiter). Settled refused paths new y.augment) same
          (inl (
            above,
            over a.index (λ i. all i path ≡ Some above) (arrived (look_in old) None above (names_by (texts_of old.index) path) count e
                (slice_get-map (name_by (texts_of old.index)) path count ∙ ap (option_map (name_by (texts_of old.index))) at)),
            inl a.arrived.1,
          ))
      settle refused x (inr nothing) = elim nothing [ ]

      came : (j : ℕ) → (has_arrived old j ≡ true) ⊎ (w.augment ≡ j) → (has_arrived old j ≡ true) ⊎ ((x : Waiter) × Among x (w ∷ []) × (x.augment ≡ j))
      came j (inl there) = inl there
      came j (inr same) = inr (w, inl refl, same)

  abbrev is_key : Option ℕ → Step → Key → Bool
  is_key above step key = option_map_or (λ k. same_key k key) (key_for old above step) false

  key_above : (above : Option ℕ) (step : Step) (key : Key) → is_key above step key ≡ true → above ≡ key.above
  key_above above step key e = by step.«module» (λ m. slice_get old.names.of_nodes.items step.text) e
    where
      by : (o : Option ℕ) (at : ℕ → Option ℕ)
          → option_map_or (λ k. same_key k key) (option_and_then (λ m. option_map (λ n. record { above = above; «module» = m; name = n }) (at m)) o) false ≡ true
          → above ≡ key.above
      by None at wrong = absurd (false≢true wrong)
      by (Some m) at is = inner (at m) is
        where
          inner : (p : Option ℕ) → option_map_or (λ k. same_key k key) (option_map (λ n. record { above = above; «module» = m; name = n }) p) false ≡ true → above ≡ key.above
          inner None wrong = absurd (false≢true wrong)
          inner (Some n) is = ap (λ (k : Key). k.above) (same_key-is (record { above = above; «module» = m; name = n }) key is)

  waits_one : w.augment < length paths → (above : Option ℕ) (count : ℕ) (step : Step) → reaches old.index path count ≡ Some above → slice_get path count ≡ Some step
      → look_in old above (name_in old step) ≡ None → Waits above step (record { augment = w.augment; found = count }) old new → Moves paths (w ∷ []) old new
  waits_one within above count step e at missing a = record {
    index = a.index;
    names = a.names;
    sound = λ sound key x there. sound_by sound key x (is_key above step key) refl (subst (Among x) (a.waiting key) there);
    kept = λ refused j settled. keep refused j settled;
    settled = λ refused x there. settle refused x there;
    arrived = λ j there. inl (subst (λ s. contains nat_cmp s j ≡ true) a.arrived there);
  }
    where
      here : Waiter
      here = record { augment = w.augment; found = count }

      standing : (key : Key) (x : Waiter) → Among x (here ∷ []) → above ≡ key.above → StandsAt new paths key.above x
      standing key x (inl same) place = subst (StandsAt new paths key.above) same
          (within, over a.index (λ i. reaches i path count ≡ Some key.above) (e ∙ ap Some place))
      standing key x (inr nothing) place = elim nothing [ ]

      old_one : Sound paths old → (key : Key) (x : Waiter) → Among x (waiters_at old.waiting key) → StandsAt new paths key.above x
      old_one sound key x there = over a.index (λ i. (x.augment < length paths) × (reaches i (path_at paths x.augment) x.found ≡ Some key.above)) (sound key x there)

      either : Sound paths old → (key : Key) (x : Waiter) → above ≡ key.above → Among x (waiters_at old.waiting key) ⊎ Among x (here ∷ []) → StandsAt new paths key.above x
      either sound key x place (inl there) = old_one sound key x there
      either sound key x place (inr there) = standing key x there place

      sound_by : Sound paths old → (key : Key) (x : Waiter) (b : Bool) → is_key above step key ≡ b
          → Among x (cond b (waiters_at old.waiting key ++ here ∷ []) (waiters_at old.waiting key)) → StandsAt new paths key.above x
      sound_by sound key x true is there = either sound key x (key_above above step key is) (among_either x (waiters_at old.waiting key) (here ∷ []) there)
      sound_by sound key x false is there = old_one sound key x there

      grown : (key : Key) (x : Waiter) (b : Bool) → Among x (waiters_at old.waiting key) → Among x (cond b (waiters_at old.waiting key ++ here ∷ []) (waiters_at old.waiting key))
      grown key x true there = among_left x (waiters_at old.waiting key) (here ∷ []) there
      grown key x false there = there

      still : (refused : ℕ → Option ℕ → Bool) (j : ℕ) (p : Option ℕ) → (has_arrived old j ≡ true) ⊎ (refused j p ≡ true) → (has_arrived new j ≡ true) ⊎ (refused j p ≡ true)
      still refused j p (inl there) = inl (subst (λ s. contains nat_cmp s j ≡ true) (sym a.arrived) there)
      still refused j p (inr unfit) = inr unfit

      keep : (refused : ℕ → Option ℕ → Bool) (j : ℕ) → Settled refused paths old j → Settled refused paths new j
      keep refused j (inl (p, leads_there, there)) = inl (p, over a.index (λ i. all i (path_at paths j) ≡ Some p) leads_there, still refused j p there)
      keep refused j (inr (none, (place, n, s, there, is, lacking, waits))) = inr (
        over a.index (λ i. all i (path_at paths j) ≡ None) none,
        (
          place,
          n,
          s,
          over a.index (λ i. reaches i (path_at paths j) n ≡ Some place) there,
          is,
          over a.index (λ i. look_by i place (name_by (texts_of i) s) ≡ None) lacking,
          λ key k. subst (Among (record { augment = j; found = n })) (sym (a.waiting key))
              (grown key (record { augment = j; found = n }) (is_key above step key) (waits key (subst (λ m. key_by m place s ≡ Some key) a.names k))),
        ),
      )

      settle : (refused : ℕ → Option ℕ → Bool) (x : Waiter) → Among x (w ∷ []) → Settled refused paths new x.augment
      settle refused x (inl same) = subst (λ (y : Waiter). Settled refused paths new y.augment) same
          (inr (
            over a.index (λ i. all i path ≡ None) (stopped (look_in old) None above (names_by (texts_of old.index) path) count (name_in old step) e
                (slice_get-map (name_by (texts_of old.index)) path count ∙ ap (option_map (name_by (texts_of old.index))) at) missing),
            (
              above,
              count,
              step,
              over a.index (λ i. reaches i path count ≡ Some above) e,
              at,
              over a.index (λ i. look_by i above (name_by (texts_of i) step) ≡ None) missing,
              λ key k. subst (Among here) (sym (a.waiting key))
                  (subst (λ b. Among here (cond b (waiters_at old.waiting key ++ here ∷ []) (waiters_at old.waiting key)))
                  (sym (ap (λ o. option_map_or (λ q. same_key q key) o false) (subst (λ m. key_by m above step ≡ Some key) a.names k) ∙ key_itself key))
                  (among_right here (waiters_at old.waiting key) (here ∷ []) (inl refl))),
            ),
          ))
      settle refused x (inr nothing) = elim nothing [ ]

  pub moves_one : w.augment < length paths → Follows path w.augment old new → Moves paths (w ∷ []) old new
  moves_one within (above, count, e, inl (at, a)) = arrives_one above count e at a
  moves_one within (above, count, e, inr (step, at, missing, a)) = waits_one within above count step e at missing a

-- one at a place of a list
pub among_at : {A : Type 0} (xs : List A) (i : ℕ) (x d : A) → i < length xs → x ≡ get_or xs i d → Among x xs
among_at [] i x d less e = absurd (omega (arith, less))
among_at (y ∷ xs) zero x d less e = inl (sym e)
among_at (y ∷ xs) (suc i) x d less e = inr (among_at xs i x d (omega (arith, less)) e)

-- one more from the top
pub all_more : (ws : List Waiter) (n j : ℕ) → ((i : ℕ) → i < n → Among (record { augment = i; found = 0 }) ws) → j < n + 1
    → Among (record { augment = j; found = 0 }) (ws ++ record { augment = n; found = 0 } ∷ [])
all_more ws n j all less = by (cases_eq j n)
  where
    last : Waiter
    last = record { augment = n; found = 0 }

    by : ((j ≡ n) ⊎ (j ≡ n → ⊥)) → Among (record { augment = j; found = 0 }) (ws ++ last ∷ [])
    by (inl same) = among_right (record { augment = j; found = 0 }) ws (last ∷ []) (inl (ap (λ (i : ℕ). record { augment = i; found = 0 }) (sym same)))
    by (inr other) = among_left (record { augment = j; found = 0 }) ws (last ∷ []) (all j (omega (arith, less, other)))

pub none_more : (ws : List Waiter) (n : ℕ) (w : Waiter) → ((v : Waiter) → Among v ws → (v.augment < n) × (v.found ≡ 0))
    → Among w (ws ++ record { augment = n; found = 0 } ∷ []) → (w.augment < n + 1) × (w.found ≡ 0)
none_more ws n w none there = by (among_either w ws (record { augment = n; found = 0 } ∷ []) there)
  where
    by : Among w ws ⊎ Among w (record { augment = n; found = 0 } ∷ []) → (w.augment < n + 1) × (w.found ≡ 0)
    by (inl before) = let both = none w before in (omega (arith, both.0), both.1)
    by (inr (inl same)) = subst (λ (v : Waiter). (v.augment < n + 1) × (v.found ≡ 0)) same (omega arith, refl)
    by (inr (inr nothing)) = elim nothing [ ]
