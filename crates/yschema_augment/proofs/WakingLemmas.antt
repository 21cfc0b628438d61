-- What was settled before a row came below a node is settled after it, or goes on.
use Rattle.std.proofs.Common.{◌≡◌, ◌⊎◌, inl, inr, ℕ, ◌<◌, ◌==◌, Bool, true, false, cond, List, [], ◌∷◌, length, take, get_or, arith, Option, Some, None, refl, sym, ap, ap₂, subst, ◌∙◌, nat_cmp}
use Rattle.std.specs.Prelude.{find, slice_get, option_map, option_and_then, unwrap_or}
use Rattle.std.specs.Option.{option_map_or}
use Rattle.std.specs.List.{flat_map}
use Rattle.std.specs.BTreeSet.{contains}
use Rattle.std.proofs.lemmas.Bool.{eq-eqb, eqb-true, and_parts, false≢true}
use Rattle.std.proofs.lemmas.Option.{none-some, slice_get-map, slice_get-get_or}
use Rattle.yspec.specs.Forest.{end, node, row, join, first_of}
use Rattle.yspec.specs.text.Text.{Text, is_text}
use Rattle.yspec.specs.linking.Source.{argument_in}
use Rattle.yspec.specs.linking.Parts.{Part}
use Rattle.yspec.specs.linking.Prefixes.{NodeName}
use Rattle.yspec.specs.linking.Planned.{same_number}
use Rattle.ybase_index.specs.declared.keys.Among.TheVariants.{Children}
use Rattle.ybase_index.specs.declared.keys.Key.{Key}
use Rattle.ybase_index.specs.Index.{found, texts_of}
use Rattle.ybase_index.specs.Names.{text_in, number_among}
use Rattle.ybase_index.proofs.KeyLemmas.{same_number-is}
use Rattle.yschema_augment.specs.Hanging.{inner, is_step_of}
use Rattle.yschema_expand.specs.NumberedView.{Numbered}
use Rattle.yschema_augment.specs.Arranging.{taken}
use Rattle.yschema_augment.specs.Searching.{first_in, reached}
use Rattle.yschema_augment.specs.SearchView.{look_by, look_in, name_by, names_by, name_in, path_at, key_by, key_for, woken_by, Adds, AreTexts}
use Rattle.yschema_augment.specs.Settling.{Among, Paths, StandsAt, Sound, has_arrived, Settled, Moves, Ranged, Hangs}
use Rattle.yschema_augment.specs.WaitingView.{waiters_at}
use Rattle.yschema_augment.specs.declared.waiting.Waiter.{Waiter}
use Rattle.yschema_augment.specs.declared.search.Search.{Search}
use Rattle.yschema_augment.specs.declared.search.Step.{Step}
use Rattle.yschema_augment.proofs.HangingLemmas.{Nodes}
use Rattle.yschema_augment.proofs.ReachedLemmas.{Grows, behind_grows, reached_grows, stopped}
use Rattle.yschema_augment.proofs.SettlingLemmas.{among_left, among_right, among_either}

abbrev Parts : Type 0
Parts = Nodes Part

-- ---- the first of a name stands in the row

first_there : (name : NodeName) (f : Parts) (r : ℕ) → first_in name f ≡ Some r
    → (l : Numbered Part) × Among l (row f) × (is_step_of name l ≡ true) × (l.number ≡ r)
first_there name end r e = absurd (none-some r e)
first_there name (node l below after) r e = by (is_step_of name l) refl e (first_there name after r)
  where
    Found : List (Numbered Part) → Type 0
    Found ls = (k : Numbered Part) × Among k ls × (is_step_of name k ≡ true) × (k.number ≡ r)

    by : (b : Bool) → is_step_of name l ≡ b → option_map (λ (k : Numbered Part). k.number) (cond b (Some l) (find (is_step_of name) (row after))) ≡ Some r
        → (first_in name after ≡ Some r → Found (row after)) → Found (l ∷ row after)
    by true is e later = (l, inl refl, is, ap (λ o. unwrap_or o r) e)
    by false is e later = let found = later e in (found.0, inr found.1, found.2, found.3)

texts_row : (texts : List Text) (f : Parts) (l : Numbered Part) → AreTexts texts f → Among l (row f)
    → (l.number < length texts) × (text_in texts l.number ≡ argument_in l.label.source)
texts_row texts end l are there = elim there [ ]
texts_row texts (node k below after) l are (inl same) = subst (λ (x : Numbered Part). (x.number < length texts) × (text_in texts x.number ≡ argument_in x.label.source)) same are.0
texts_row texts (node k below after) l are (inr there) = texts_row texts after l are.2 there

among_flat : {A B : Type 0} (give : A → List B) (xs : List A) (x : A) (y : B) → Among x xs → Among y (give x) → Among y (flat_map give xs)
among_flat give [] x y there inside = elim there [ ]
among_flat give (z ∷ zs) x y (inl same) inside = among_left y (give z) (flat_map give zs) (subst (λ w. Among y (give w)) (sym same) inside)
among_flat give (z ∷ zs) x y (inr there) inside = among_right y (give z) (flat_map give zs) (among_flat give zs x y there inside)

-- equal texts are the same
text_is : (a b : Text) → is_text a b ≡ true → a ≡ b
text_is [] [] e = refl
text_is [] (y ∷ ys) e = absurd (false≢true e)
text_is (x ∷ xs) [] e = absurd (false≢true e)
text_is (x ∷ xs) (y ∷ ys) e = let both = and_parts (x == y) (is_text xs ys) e in ap₂ (λ z zs. z ∷ zs) (eqb-true x y both.0) (text_is xs ys both.1)

-- ---- what a row adds

module _ (paths : Paths) (target : ℕ) (added : Parts) (old now : Search) (adds : Adds target added old now) where
  abbrev texts : List Text
  texts = texts_of old.index

  grows : Grows (look_in old) (look_in now)
  grows above name n e = adds.look above name ∙ behind_grows (look_in old) target added above name n e

  still_reached : (p : Option ℕ) (path : List Step) (count : ℕ) → reached (look_in old) None (take count (names_by texts path)) ≡ Some p
      → reached (look_in now) None (take count (names_by (texts_of now.index) path)) ≡ Some p
  still_reached p path count e = ap (λ ts. reached (look_in now) None (take count (names_by ts path))) adds.texts
      ∙ reached_grows (look_in old) (look_in now) grows None p (take count (names_by texts path)) e

  still_leads : (p : Option ℕ) (path : List Step) → reached (look_in old) None (names_by texts path) ≡ Some p → reached (look_in now) None (names_by (texts_of now.index) path) ≡ Some p
  still_leads p path e = ap (λ ts. reached (look_in now) None (names_by ts path)) adds.texts
      ∙ reached_grows (look_in old) (look_in now) grows None p (names_by texts path) e

  pub sound_added : Sound paths old → Sound paths now
  sound_added sound key w there =
      let stands = sound key w (subst (λ v. Among w (waiters_at v key)) adds.waiting there) in
      (stands.0, still_reached key.above (path_at paths w.augment) w.found stands.1)

  -- the steps' texts are known
  abbrev StepsRanged : Type 0
  StepsRanged = (j n : ℕ) (step : Step) → slice_get (path_at paths j) n ≡ Some step → step.text < length texts

  abbrev Woken : ℕ → Type 0
  Woken j = (w : Waiter) × Among w (flat_map (woken_by now target) (row added)) × (w.augment ≡ j)

  -- the child that comes is the first of its name, and lets those go on that lack it
  comes : AreTexts texts added → (place : Option ℕ) (step : Step) (r : ℕ) → step.text < length texts → look_in old place (name_in old step) ≡ None
      → look_in now place (name_in old step) ≡ Some r → (w : Waiter)
      → ((key : Key) → key_for old place step ≡ Some key → Among w (waiters_at old.waiting key)) → Among w (flat_map (woken_by now target) (row added))
  comes are place step r within missing is w waits =
      let name = name_in old step in
      let came = sym (ap (λ o. first_of o (cond (same_number place (Some target)) (first_in name added) None)) missing) ∙ (sym (adds.look place name) ∙ is) in
      let below = below_it (same_number place (Some target)) refl came in
      let there = first_there name added r below.1 in
      among_flat (woken_by now target) (row added) there.0 w there.1
      (lets there.0 (texts_row texts added there.0 are there.1) (and_parts (same_number step.«module» (Some there.0.label.owner)) _ there.2) there.3 (same_number-is place (Some target) below.0))
    where
      below_it : (b : Bool) → same_number place (Some target) ≡ b → cond b (first_in (name_in old step) added) None ≡ Some r
          → (same_number place (Some target) ≡ true) × (first_in (name_in old step) added ≡ Some r)
      below_it true e came = (e, came)
      below_it false e came = absurd (none-some r came)

      lets : (l : Numbered Part) → (l.number < length texts) × (text_in texts l.number ≡ argument_in l.label.source)
          → (same_number step.«module» (Some l.label.owner) ≡ true) × (is_text (text_in texts step.text) (argument_in l.label.source) ≡ true)
          → l.number ≡ r → place ≡ Some target → Among w (woken_by now target l)
      lets l text named number at =
          let owner = l.label.owner in
          let ts = texts_of now.index in
          let module_is : step.«module» ≡ Some owner = same_number-is step.«module» (Some owner) named.0 in
          let word : text_in texts step.text ≡ text_in texts l.number = text_is (text_in texts step.text) (argument_in l.label.source) named.1 ∙ sym text.1 in
          let look = look_in now in
          let first : found now.index Children (Some target) owner (text_in ts l.number) ≡ Some l.number = ap (λ us. found now.index Children (Some target) owner (text_in us l.number)) adds.texts
          ∙ (ap (found now.index Children (Some target) owner) (sym word)
          ∙ (ap₂ (λ p o. look p (record { module_number = o; name = text_in texts step.text })) (sym at) (sym module_is) ∙ (is ∙ ap Some (sym number)))) in
          let held = now.names.of_nodes.items in
          let own = get_or held l.number 0 in
          let other = get_or held step.text 0 in
          let count : length held ≡ length texts = now.named.0 ∙ ap (λ us. length us) adds.texts in
          let own_is : slice_get held l.number ≡ Some own = slice_get-get_or held l.number 0 (omega (arith, text.0, count)) in
          let other_is : slice_get held step.text ≡ Some other = slice_get-get_or held step.text 0 (omega (arith, within, count)) in
          let spelled : text_in ts step.text ≡ text_in ts l.number = subst (λ us. text_in us step.text ≡ text_in us l.number) (sym adds.texts) word in
          let same : Some other ≡ Some own = sym (now.named.2 step.text other other_is) ∙ (ap (number_among (text_in ts) now.names.ordered.items) spelled ∙ now.named.2 l.number own own_is) in
          let key : Key = record { above = Some target; «module» = owner; name = own } in
          let keyed : key_for old place step ≡ Some key = ap (λ ns. key_by ns place step) (sym adds.names)
          ∙ (ap (λ o. option_and_then (λ m. option_map (λ n. record { above = place; «module» = m; name = n }) (slice_get held step.text)) o) module_is
          ∙ ap₂ (λ p o. option_map (λ n. record { above = p; «module» = owner; name = n }) o) at (other_is ∙ same)) in
          let inside : Among w (waiters_at now.waiting key) = subst (λ v. Among w (waiters_at v key)) (sym adds.waiting) (waits key keyed) in
          subst (λ b. Among w (cond b (option_map_or (λ n. waiters_at now.waiting (record { above = Some target; «module» = owner; name = n })) (slice_get held l.number) []) []))
          (sym (ap (λ o. same_number o (Some l.number)) first ∙ eq-eqb l.number l.number refl))
          (subst (λ o. Among w (option_map_or (λ n. waiters_at now.waiting (record { above = Some target; «module» = owner; name = n })) o [])) (sym own_is) inside)

  pub settled_added : AreTexts texts added → StepsRanged → (refused : ℕ → Option ℕ → Bool) (j : ℕ) → Settled refused paths old j → Settled refused paths now j ⊎ Woken j
  settled_added are ranged refused j (inl (p, there, here)) = inl (inl (p, still_leads p (path_at paths j) there, still here))
    where
      still : (has_arrived old j ≡ true) ⊎ (refused j p ≡ true) → (has_arrived now j ≡ true) ⊎ (refused j p ≡ true)
      still (inl e) = inl (subst (λ k. contains nat_cmp k j ≡ true) (sym adds.arrived) e)
      still (inr unfit) = inr unfit
  settled_added are ranged refused j (inr (none, (place, n, step, there, is, missing, waits))) = by (look_in now place (name_in old step)) refl
    where
      lacking : Waiter
      lacking = record { augment = j; found = n }

      by : (o : Option ℕ) → look_in now place (name_in old step) ≡ o → Settled refused paths now j ⊎ Woken j
      by None e = inl (inr (
        ap (λ ts. reached (look_in now) None (names_by ts (path_at paths j))) adds.texts ∙ stopped (look_in now) None place (names_by texts (path_at paths j)) n (name_by texts step)
            (reached_grows (look_in old) (look_in now) grows None place (take n (names_by texts (path_at paths j))) there)
            (slice_get-map (name_by texts) (path_at paths j) n ∙ ap (option_map (name_by texts)) is) e,
        (
          place,
          n,
          step,
          still_reached place (path_at paths j) n there,
          is,
          ap (λ ts. look_in now place (name_by ts step)) adds.texts ∙ e,
          λ key k. subst (λ v. Among lacking (waiters_at v key)) (sym adds.waiting) (waits key (subst (λ ns. key_by ns place step ≡ Some key) adds.names k)),
        ),
      ))
      by (Some r) e = inr (lacking, comes are place step r (ranged j n step is) missing e lacking waits, refl)

-- ---- those that go on stand at the target

stands_by_key : (paths : Paths) (s : Search) (target owner : ℕ) (w : Waiter) (b : Bool) (o : Option ℕ) → Sound paths s
    → Among w (cond b (option_map_or (λ n. waiters_at s.waiting (record { above = Some target; «module» = owner; name = n })) o []) []) → StandsAt s paths (Some target) w
stands_by_key paths s target owner w true (Some n) sound there = sound (record { above = Some target; «module» = owner; name = n }) w there
stands_by_key paths s target owner w true None sound there = elim there [ ]
stands_by_key paths s target owner w false o sound there = elim there [ ]

pub woken_stand : (paths : Paths) (s : Search) (target : ℕ) (ls : List (Numbered Part)) (w : Waiter) → Sound paths s
    → Among w (flat_map (woken_by s target) ls) → StandsAt s paths (Some target) w
woken_stand paths s target [] w sound there = elim there [ ]
woken_stand paths s target (l ∷ ls) w sound there = by (among_either w (woken_by s target l) (flat_map (woken_by s target) ls) there) (woken_stand paths s target ls w sound)
  where
    by : Among w (woken_by s target l) ⊎ Among w (flat_map (woken_by s target) ls)
        → (Among w (flat_map (woken_by s target) ls) → StandsAt s paths (Some target) w) → StandsAt s paths (Some target) w
    by (inl here) later = stands_by_key paths s target l.label.owner w
        (same_number (found s.index Children (Some target) l.label.owner (text_in (texts_of s.index) l.number)) (Some l.number)) (slice_get s.names.of_nodes.items l.number) sound here
    by (inr there) later = later there

-- ---- all of it

pub hangs_there : (paths : Paths) (target : ℕ) (added : Parts) (old mid new : Search) (woken : List Waiter) → Adds target added old mid
    → woken ≡ flat_map (woken_by mid target) (row added) → Moves paths woken mid new → AreTexts (texts_of old.index) added → Ranged paths old → Sound paths old
    → Hangs paths target added old new
hangs_there paths target added old mid new woken adds is moves are ranged sound = record {
  texts = ap texts_of moves.index ∙ adds.texts;
  look = λ above name. ap (λ i. look_by i above name) moves.index ∙ adds.look above name;
  sound = moves.sound (sound_added paths target added old mid adds sound);
  kept = λ refused j settled. by refused j (settled_added paths target added old mid adds are ranged refused j settled);
}
  where
    by : (refused : ℕ → Option ℕ → Bool) (j : ℕ) → Settled refused paths mid j ⊎ ((w : Waiter) × Among w (flat_map (woken_by mid target) (row added)) × (w.augment ≡ j))
        → Settled refused paths new j
    by refused j (inl settled) = moves.kept refused j settled
    by refused j (inr on) = subst (λ i. Settled refused paths new i) on.2 (moves.settled refused on.0 (subst (Among on.0) (sym is) on.1))

-- what stands in a row of texts
pub texts_inner : (texts : List Text) (f : Parts) → AreTexts texts f → AreTexts texts (inner f)
texts_inner texts end are = tt
texts_inner texts (node l below after) are = texts_join texts below (inner after) are.1 (texts_inner texts after are.2)
  where
    texts_join : (texts : List Text) (f g : Parts) → AreTexts texts f → AreTexts texts g → AreTexts texts (join f g)
    texts_join texts end g first second = second
    texts_join texts (node l below after) g first second = (first.0, first.1, texts_join texts after g first.2 second)

pub texts_taken : (texts : List Text) (b : Bool) (f : Parts) → AreTexts texts f → AreTexts texts (taken b f)
texts_taken texts true f are = are
texts_taken texts false f are = texts_inner texts f are
