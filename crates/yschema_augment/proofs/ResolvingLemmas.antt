-- One augment after another is applied, the first that finds its target.
use Rattle.std.proofs.Common.{◌≡◌, ◌⊎◌, inl, inr, ℕ, zero, suc, ◌<◌, ◌≤◌, Bool, true, false, cond, List, [], ◌∷◌, ◌++◌, length, map, get_or, set, replicate, arith, Option, Some, None, refl, sym, ap, ap₂, subst, ◌∙◌}
use Rattle.std.specs.Prelude.{find, option_map}
use Rattle.std.specs.Option.{option_map_or}
use Rattle.std.proofs.lemmas.Bool.{cases_eq, false≢true}
use Rattle.std.proofs.lemmas.List.{get_or-set_same, get_or-set_other, length-set, length-replicate, map-append}
use Rattle.std.proofs.lemmas.Option.{slice_get-get_or}
use Rattle.yspec.specs.Forest.{Forest, row, first_of}
use Rattle.yspec.specs.linking.Source.{Source}
use Rattle.yspec.specs.linking.Parts.{Part}
use Rattle.yspec.specs.linking.Prefixes.{NodeName}
use Rattle.yspec.specs.linking.Augments.{Augment, target_steps, in_turn}
use Rattle.yspec_wide.specs.Language.{Language}
use Rattle.yspec_wide.specs.Expansion.{is_ready_in, applied_in}
use Rattle.ybase_preorder.specs.declared.slot.Slot.{Slot}
use Rattle.yschema_augment.specs.Hanging.{hung, put, times, plain, marked_by, is_step_of}
use Rattle.yschema_expand.specs.NumberedView.{Numbered}
use Rattle.yschema_augment.specs.Searching.{Lookup, first_in, target_in, Agrees, AgreesAll, looked_behind}
use Rattle.yschema_augment.specs.Arranging.{rows_of, own_rows, taken_for, hung_view}
use Rattle.yschema_expand.specs.Bodies.{body_of}
use Rattle.yschema_augment.specs.Resolving.{Asking, asking_in, may_hold, hung_by, row_for, Stands}
use Rattle.yschema_augment.specs.Picking.{source_at, given_at, home_at, holds_at, refused_by, is_waiting, found_at, left_of, count_left, IsNext, NoneIs, Passes}
use Rattle.ybase_index.specs.Index.{texts_of}
use Rattle.yspec.specs.linking.Planned.{same_number}
use Rattle.yschema_augment.specs.SearchView.{look_by, look_in, names_by, path_at}
use Rattle.yschema_augment.specs.Settling.{Paths, steps_of, Settled, Moves, Hangs}
use Rattle.yschema_augment.specs.declared.waiting.Waiter.{Waiter}
use Rattle.yschema_augment.specs.Turning.{no_augment, augment_at, numbers_of, placed, Prepared, Goes}
use Rattle.yschema_augment.specs.declared.applied.Applied.{Applied}
use Rattle.yschema_expand.specs.declared.nodes.ExpandedNode.{ExpandedNode}
use Rattle.yschema_augment.specs.declared.search.Search.{Search}
use Rattle.yschema_augment.proofs.HangingLemmas.{Nodes, hung_more, hung_none}
use Rattle.yschema_augment.proofs.LeftLemmas.{within, first_left, none_first, fewer_left, all_left, all_count}
use Rattle.yschema_augment.proofs.ReadyLemmas.{ready_found, applied_there, stands_put, turn_taken, turns_over, label_of_target}
use Rattle.yschema_augment.proofs.PathLemmas.{label_there}

abbrev Parts : Type 0
Parts = Nodes Part

-- ---- lookups that find the same

agrees_same : (look now : Lookup) (source : ℕ → Source) → ((above : Option ℕ) (name : NodeName) → now above name ≡ look above name) → (f : Parts)
    → Agrees look source f → Agrees now source f
agrees_same look now source same Forest.end agrees = tt
agrees_same look now source same (Forest.node l below after) agrees = (
  (agrees.0.0, λ name. same (Some l.number) name ∙ agrees.0.1 name),
  agrees_same look now source same below agrees.1,
  agrees_same look now source same after agrees.2,
)

pub stands_same : (source : ℕ → Source) (rows : ℕ → Parts) (left : ℕ → Bool) (look now : Lookup) (f : Parts)
    → ((above : Option ℕ) (name : NodeName) → now above name ≡ look above name) → Stands source rows left look f → Stands source rows left now f
stands_same source rows left look now f same stands = record {
  few = stands.few;
  apart = stands.apart;
  agrees = (λ name. same None name ∙ stands.agrees.0 name, agrees_same look now source same f stands.agrees.1);
  bodies = λ j is_left. agrees_same look now source same (rows j) (stands.bodies j is_left);
}

-- marks say nothing of names
pub first_marked : (augment : ℕ) (name : NodeName) (f : Parts) → first_in name (marked_by augment f) ≡ first_in name f
first_marked augment name Forest.end = refl
first_marked augment name (Forest.node l below after) = by (is_step_of name l) (first_marked augment name after)
  where
    by : (b : Bool) → first_in name (marked_by augment after) ≡ first_in name after
        → option_map (λ (k : Numbered Part). k.number) (cond b (Some (record l { label = record l.label { added_by = Some augment } })) (find (is_step_of name) (row (marked_by augment after))))
        ≡ option_map (λ (k : Numbered Part). k.number) (cond b (Some l) (find (is_step_of name) (row after)))
    by true later = refl
    by false later = later

-- ---- what is known of the augments of a set

pub given_is : (augments : List Augment) (j : ℕ) → j < length augments → given_at augments j ≡ (augment_at augments j).given
given_is augments j less = ap (λ o. option_map_or (λ a. a.given) o Forest.end) (slice_get-get_or augments j no_augment less)

home_is : (augments : List Augment) (j : ℕ) → j < length augments → home_at augments j ≡ (augment_at augments j).source.home
home_is augments j less = ap (λ o. option_map_or (λ a. a.source.home) o 0) (slice_get-get_or augments j no_augment less)

-- whether its target may take it, by its statement
held_is : (old : ℕ → Asking) (s : Source) (augments : List Augment) (j : ℕ) → j < length augments
    → may_hold (old (home_at augments j)) s (given_at augments j) ≡ may_hold (old (augment_at augments j).source.home) s (augment_at augments j).given
held_is old s augments j less = ap₂ (λ h g. may_hold (old h) s g) (home_is augments j less) (given_is augments j less)

module _ (language : Language) (modules : Forest Source) (augments : List Augment) (slots : List (Slot ExpandedNode)) (paths : Paths) (rows : ℕ → Parts) where
  abbrev source : ℕ → Source
  source = source_at slots

  -- one that is found is ready
  pub found_ready : (s : Search) (f : Parts) (j : ℕ) → j < length augments → steps_of s paths j ≡ target_steps modules (augment_at augments j)
      → AgreesAll (look_in s) source f → found_at (asking_in language modules) slots augments paths s j ≡ is_ready_in language modules (plain f) (augment_at augments j)
  found_ready s f j less steps agrees =
      let a = augment_at augments j in
      ap₂ (λ h g. option_map_or (λ n. may_hold (asking_in language modules h) (source n) g) (target_in (look_in s) (steps_of s paths j)) false)
      (home_is augments j less) (given_is augments j less)
      ∙ (ap (λ names. option_map_or (λ n. may_hold (asking_in language modules a.source.home) (source n) a.given) (target_in (look_in s) names) false) steps
      ∙ sym (ready_found (look_in s) source language modules a f agrees))

  -- the target stands in the forest once
  pub stands_once : (s : Search) (f : Parts) (j target : ℕ) → AgreesAll (look_in s) source f → ((n : ℕ) → times n f ≤ 1)
      → target_in (look_in s) (target_steps modules (augment_at augments j)) ≡ Some target → times target f ≡ 1
  stands_once s f j target agrees few found =
      let a = augment_at augments j in
      let there = label_of_target (look_in s) source language modules a target f agrees found in
      let once : 1 ≤ times there.0.number f = label_there (target_steps modules a) f there.0 there.1 in
      omega (arith, few target, subst (λ n. 1 ≤ times n f) there.2 once)

  pub turn : (s : Search) (f : Parts) (waits : List Bool) (j target : ℕ) → length waits ≡ length augments
      → ((i : ℕ) → i < length augments → steps_of s paths i ≡ target_steps modules (augment_at augments i))
      → plain (rows j) ≡ body_of language modules (augment_at augments j) → AgreesAll (look_in s) source f → ((n : ℕ) → times n f ≤ 1)
      → is_waiting waits j ≡ true → target_in (look_in s) (steps_of s paths j) ≡ Some target → holds_at (asking_in language modules) slots augments target j ≡ true
      → ((i : ℕ) → i < j → is_waiting waits i ≡ true → found_at (asking_in language modules) slots augments paths s i ≡ false)
      → in_turn (is_ready_in language modules) (applied_in language modules) (count_left waits) (plain f) (left_of waits augments)
      ≡ in_turn (is_ready_in language modules) (applied_in language modules) (count_left (set waits j false)) (plain (put (hung_by (augment_at augments j) (rows j) target) f))
      (left_of (set waits j false) augments)
  turn s f waits j target same steps body agrees few waiting found holds before =
      let a = augment_at augments j in
      let less : j < length augments = omega (arith, same, within waits j waiting) in
      let at_target : target_in (look_in s) (target_steps modules a) ≡ Some target = ap (target_in (look_in s)) (sym (steps j less)) ∙ found in
      let held : may_hold (asking_in language modules a.source.home) (source target) a.given ≡ true = sym (held_is (asking_in language modules) (source target) augments j less) ∙ holds in
      let fit : is_ready_in language modules (plain f) a ≡ true = ready_found (look_in s) source language modules a f agrees
      ∙ (ap (λ o. option_map_or (λ n. may_hold (asking_in language modules a.source.home) (source n) a.given) o false) at_target ∙ held) in
      let first = first_left (is_ready_in language modules (plain f)) waits augments j no_augment same waiting fit
      (λ i below waits_too. let small : i < length augments = omega (arith, same, within waits i waits_too) in
      sym (found_ready s f i small (steps i small) agrees) ∙ before i below waits_too) in
      ap (λ n. in_turn (is_ready_in language modules) (applied_in language modules) n (plain f) (left_of waits augments)) (fewer_left waits j waiting)
      ∙ (turn_taken (is_ready_in language modules) (applied_in language modules) (count_left (set waits j false)) (plain f) (left_of waits augments) (a, left_of (set waits j false) augments) first
      ∙ ap (λ g. in_turn (is_ready_in language modules) (applied_in language modules) (count_left (set waits j false)) g (left_of (set waits j false) augments))
      (applied_there (look_in s) source language modules a (rows j) target f agrees (few target) body at_target held))

  -- none is left that could be applied
  pub turns_end : (s : Search) (f : Parts) (waits : List Bool) → length waits ≡ length augments
      → ((i : ℕ) → i < length augments → steps_of s paths i ≡ target_steps modules (augment_at augments i)) → AgreesAll (look_in s) source f
      → ((i : ℕ) → is_waiting waits i ≡ true → found_at (asking_in language modules) slots augments paths s i ≡ false)
      → in_turn (is_ready_in language modules) (applied_in language modules) (count_left waits) (plain f) (left_of waits augments) ≡ (plain f, left_of waits augments)
  turns_end s f waits same steps agrees none = turns_over (is_ready_in language modules) (applied_in language modules) (count_left waits) (plain f) (left_of waits augments)
      (none_first (is_ready_in language modules (plain f)) waits augments no_augment same
      (λ i waits_too. let small : i < length augments = omega (arith, same, within waits i waits_too) in
      sym (found_ready s f i small (steps i small) agrees) ∙ none i waits_too))

-- those that wait still, once one is applied
pub waits_still : (waits : List Bool) (j i : ℕ) → is_waiting waits j ≡ true → is_waiting (set waits j false) i ≡ true → (is_waiting waits i ≡ true) × (i ≡ j → ⊥)
waits_still waits j i waiting e = by (cases_eq i j)
  where
    by : ((i ≡ j) ⊎ (i ≡ j → ⊥)) → (is_waiting waits i ≡ true) × (i ≡ j → ⊥)
    by (inl same) = absurd (false≢true (sym (get_or-set_same waits j false false (within waits j waiting)) ∙ subst (λ k. is_waiting (set waits j false) k ≡ true) same e))
    by (inr other) = (sym (get_or-set_other waits j i false false other) ∙ e, other)

-- ---- one more is applied

module _ (language : Language) (modules : Forest Source) (augments : List Augment) (slots : List (Slot ExpandedNode)) (starts : List ℕ) (paths : Paths) where
  -- what an augment hangs is what its statement says
  hung_is : (a : Applied) → a.augment < length augments
      → hung_view starts slots (numbers_of augments) a ≡ hung_by (augment_at augments a.augment) (rows_of starts slots a.augment) a.target
  hung_is a less = ap (λ n. record { target = a.target; row = λ l. marked_by n (taken_for l.label.source (rows_of starts slots a.augment)) }) (number_is augments a.augment less)
    where
      number_is : (xs : List Augment) (j : ℕ) → j < length xs → get_or (numbers_of xs) j 0 ≡ (augment_at xs j).source.number
      number_is [] j few = absurd (omega (arith, few))
      number_is (x ∷ xs) zero few = refl
      number_is (x ∷ xs) (suc j) few = number_is xs j (omega (arith, few))

  placed_more : (order : List Applied) (a : Applied) → a.augment < length augments → placed starts slots augments (order ++ a ∷ [])
      ≡ put (hung_by (augment_at augments a.augment) (rows_of starts slots a.augment) a.target) (placed starts slots augments order)
  placed_more order a less =
      ap (λ hs. hung hs (own_rows starts slots)) (map-append (hung_view starts slots (numbers_of augments)) order (a ∷ []))
      ∙ (hung_more (hung_view starts slots (numbers_of augments) a) (map (hung_view starts slots (numbers_of augments)) order) (own_rows starts slots)
      ∙ ap (λ h. put h (placed starts slots augments order)) (hung_is a less))

  pub goes_on : (first s next now : Search) (waits : List Bool) (order : List Applied) (a : Applied) → Prepared language modules augments slots starts paths first
      → Goes language modules augments slots starts paths first waits order s → Passes s next → IsNext (asking_in language modules) slots augments paths waits next a
      → ((j : ℕ) → is_waiting waits j ≡ true → (j ≡ a.augment → ⊥) → Settled (refused_by (asking_in language modules) slots augments) paths next j)
      → Hangs paths a.target (taken_for (source_at slots a.target) (rows_of starts slots a.augment)) next now
      → Goes language modules augments slots starts paths first (set waits a.augment false) (order ++ a ∷ []) now
  goes_on first s next now waits order a prepared goes passes is_next others hangs =
      let j = a.augment in
      let f = placed starts slots augments order in
      let rows = rows_of starts slots in
      let here = augment_at augments j in
      let waiting = is_next.0 in
      let less : j < length augments = omega (arith, goes.lengths, within waits j waiting) in
      let texts : texts_of next.index ≡ texts_of first.index = ap texts_of passes.index ∙ goes.texts in
      let steps = λ (i : ℕ) (few : i < length augments). ap (λ ts. names_by ts (path_at paths i)) texts ∙ prepared.steps i few in
      let stands : Stands (source_at slots) rows (is_waiting waits) (look_in next) f = subst (λ i. Stands (source_at slots) rows (is_waiting waits) (look_by i) f) (sym passes.index) goes.stands in
      let target : target_in (look_in next) (target_steps modules here) ≡ Some a.target = ap (target_in (look_in next)) (sym (steps j less)) ∙ is_next.1 in
      let once = stands_once language modules augments slots paths rows next f j a.target stands.agrees stands.few target in
      let put_there = stands_put (source_at slots) rows (is_waiting waits) (is_waiting (set waits j false)) (look_in next) f prepared.alone stands here j a.target waiting once
      (λ i e. waits_still waits j i waiting e) in
      let more = placed_more order a less in
      record {
        lengths = length-set waits j false ∙ goes.lengths;
        texts = hangs.texts ∙ texts;
        stands = subst (Stands (source_at slots) rows (is_waiting (set waits j false)) (look_in now)) (sym more)
            (stands_same (source_at slots) rows (is_waiting (set waits j false)) (looked_behind (look_in next) a.target (row_for here (rows j) (source_at slots a.target))) (look_in now) _
            (λ above name. hangs.look above name ∙ ap (λ o. first_of (look_in next above name) (cond (same_number above (Some a.target)) o None))
            (sym (first_marked here.source.number name (taken_for (source_at slots a.target) (rows j))))) put_there);
        sound = hangs.sound;
        settled = λ i e. let still = waits_still waits j i waiting e in hangs.kept (refused_by (asking_in language modules) slots augments) i (others i still.0 still.1);
        so_far = ap (λ g. in_turn (is_ready_in language modules) (applied_in language modules) (count_left (set waits j false)) (plain g) (left_of (set waits j false) augments)) more
            ∙ (sym (turn language modules augments slots paths rows next f waits j a.target goes.lengths steps (prepared.bodies j less) stands.agrees stands.few waiting is_next.1 is_next.2 is_next.3)
            ∙ goes.so_far);
      }

  pub goes_first : (s now : Search) (woken : List Waiter) → Prepared language modules augments slots starts paths s → Moves paths woken s now
      → ((j : ℕ) → j < length augments → Settled (refused_by (asking_in language modules) slots augments) paths now j) → Goes language modules augments slots starts paths s (replicate (length augments) true) [] now
  goes_first s now woken prepared moves settled =
      record {
        lengths = length-replicate (length augments) true;
        texts = ap texts_of moves.index;
        stands = subst (λ f. Stands (source_at slots) (rows_of starts slots) (is_waiting (replicate (length augments) true)) (look_in now) f) (sym (hung_none (own_rows starts slots)))
            (subst (λ i. Stands (source_at slots) (rows_of starts slots) (is_waiting (replicate (length augments) true)) (look_by i) (own_rows starts slots)) (sym moves.index) prepared.stands);
        sound = moves.sound prepared.sound;
        settled = λ i e. settled i (omega (arith, within (replicate (length augments) true) i e, length-replicate (length augments) true));
        so_far = ap₂ (λ n f. in_turn (is_ready_in language modules) (applied_in language modules) n (plain f) (left_of (replicate (length augments) true) augments)) (all_count (length augments)) (hung_none (own_rows starts slots))
            ∙ ap (in_turn (is_ready_in language modules) (applied_in language modules) (length augments) (plain (own_rows starts slots))) (all_left augments);
      }

  pub goes_end : (first s next : Search) (waits : List Bool) (order : List Applied) → Prepared language modules augments slots starts paths first
      → Goes language modules augments slots starts paths first waits order s → Passes s next → NoneIs (asking_in language modules) slots augments paths waits next
      → (plain (placed starts slots augments order), left_of waits augments)
      ≡ in_turn (is_ready_in language modules) (applied_in language modules) (length augments) (plain (own_rows starts slots)) augments
  goes_end first s next waits order prepared goes passes none =
      let f = placed starts slots augments order in
      let texts : texts_of next.index ≡ texts_of first.index = ap texts_of passes.index ∙ goes.texts in
      let steps = λ (i : ℕ) (few : i < length augments). ap (λ ts. names_by ts (path_at paths i)) texts ∙ prepared.steps i few in
      let agrees : AgreesAll (look_in next) (source_at slots) f = subst (λ i. AgreesAll (look_by i) (source_at slots) f) (sym passes.index) goes.stands.agrees in
      sym (turns_end language modules augments slots paths (rows_of starts slots) next f waits goes.lengths steps agrees none) ∙ goes.so_far
