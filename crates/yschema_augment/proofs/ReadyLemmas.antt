-- An augment that finds its target by numbers is ready, and what it adds is hung there.
use Rattle.std.proofs.Common.{◌≡◌, ℕ, zero, suc, ◌+◌, ◌≤◌, Bool, true, false, cond, not, List, Option, Some, None, refl, sym, ap, ◌∙◌, arith}
use Rattle.std.specs.Prelude.{is_some, option_map}
use Rattle.std.specs.Option.{option_map_or}
use Rattle.std.proofs.lemmas.Bool.{and_parts}
use Rattle.std.proofs.lemmas.Option.{none-some}
use Rattle.yspec.specs.Forest.{Forest, node, join, size}
use Rattle.yspec.specs.linking.Keyword as word
use Rattle.yspec.specs.linking.Source.{Source, is_source_of, first_with}
use Rattle.yspec.specs.linking.Prefixes.{NodeName}
use Rattle.yspec.specs.linking.Parts.{Part, as_cases, within}
use Rattle.yspec.specs.linking.Expansion.{laid}
use Rattle.yspec.specs.linking.Augments.{Augment, target_steps, marked, first_that, done_first, in_turn}
use Rattle.yspec_wide.specs.Language.{Language}
use Rattle.yspec_wide.specs.Expansion.{added_nodes_in, may_take_in, is_ready_in, added_below_in, applied_in}
use Rattle.yschema_augment.specs.Hanging.{put, times, plain, inner, marked_by, label_at}
use Rattle.yschema_expand.specs.NumberedView.{Numbered}
use Rattle.yschema_augment.specs.Searching.{Lookup, target_in, Agrees, AgreesAll, looked_behind}
use Rattle.yschema_augment.specs.Arranging.{taken_for}
use Rattle.yschema_expand.specs.Bodies.{body_of}
use Rattle.yschema_augment.specs.Resolving.{asking_in, may_hold, is_found, hung_by, row_for, Stands, AreApart}
use Rattle.yschema_augment.proofs.HangingLemmas.{Nodes}
use Rattle.yschema_augment.proofs.PathLemmas.{part_plain, changed_plain}
use Rattle.yschema_augment.proofs.SearchLemmas.{target_found, label_known, agrees_other}
use Rattle.yschema_augment.proofs.PutLemmas.{agrees_all_put, times_put, times_marked, times_inner, agrees_marked, agrees_inner}
use Rattle.yschema_augment.proofs.TakenLemmas.{laid_lacks, cases_asked, inner_asked, plain_marked, plain_inner}

abbrev Parts : Type 0
Parts = Nodes Part

-- ---- the target

pub ready_found : (look : Lookup) (source : ℕ → Source) (language : Language) (modules : Forest Source) (a : Augment) (f : Parts) → AgreesAll look source f
    → is_ready_in language modules (plain f) a ≡ is_found look source language modules a
ready_found look source language modules a f agrees =
    ap (λ o. option_map_or (may_take_in language modules a) o false) (part_plain steps f)
    ∙ by (label_at steps f) refl (target_found look source steps f agrees)
  where
    steps : List NodeName
    steps = target_steps modules a

    by : (o : Option (Numbered Part)) → label_at steps f ≡ o → option_map (λ l. l.number) o ≡ target_in look steps
        → option_map_or (may_take_in language modules a) (option_map (λ l. l.label) o) false ≡ is_found look source language modules a
    by None e is = ap (λ t. option_map_or (λ n. may_hold (asking_in language modules a.source.home) (source n) a.given) t false) is
    by (Some l) e is = ap (λ s. may_hold (asking_in language modules a.source.home) s a.given) (label_known look source steps f l agrees.1 e)
        ∙ ap (λ t. option_map_or (λ n. may_hold (asking_in language modules a.source.home) (source n) a.given) t false) is

-- the node at the target's number
pub label_of_target : (look : Lookup) (source : ℕ → Source) (language : Language) (modules : Forest Source) (a : Augment) (target : ℕ) (f : Parts) → AgreesAll look source f
    → target_in look (target_steps modules a) ≡ Some target
    → (l : Numbered Part) × (label_at (target_steps modules a) f ≡ Some l) × (l.number ≡ target) × (l.label.source ≡ source target)
label_of_target look source language modules a target f agrees found = by (label_at steps f) refl (target_found look source steps f agrees ∙ found)
  where
    steps : List NodeName
    steps = target_steps modules a

    by : (o : Option (Numbered Part)) → label_at steps f ≡ o → option_map (λ l. l.number) o ≡ Some target
        → (l : Numbered Part) × (label_at steps f ≡ Some l) × (l.number ≡ target) × (l.label.source ≡ source target)
    by None e is = absurd (none-some target is)
    by (Some l) e is =
        let same : l.number ≡ target = ap (λ (t : Option ℕ). option_map_or (λ n. n) t 0) is in
        (l, e, same, label_known look source steps f l agrees.1 e ∙ ap source same)

-- ---- what is hung there

none_of : (k : word.Keyword) (given : Forest Source) → not (is_some (first_with k given)) ≡ true → first_with k given ≡ None
none_of k given e = by (first_with k given) e
  where
    by : (o : Option Source) → not (is_some o) ≡ true → o ≡ None
    by None e = refl
    by (Some s) e = absurd cc

taken_is : (language : Language) (modules : Forest Source) (a : Augment) (s : Source) (rows : Parts) → plain rows ≡ body_of language modules a → may_hold (asking_in language modules a.source.home) s a.given ≡ true
    → marked a.source.number (within s (added_nodes_in language modules a)) ≡ plain (row_for a rows s)
taken_is language modules a s rows is holds =
    by (is_source_of word.choice_word s) (and_parts _ _ (and_parts _ _ (and_parts _ _ holds).0).1).0 ∙ sym (plain_marked a.source.number (taken_for s rows))
  where
    by : (b : Bool) → not (is_some (first_with (cond b word.uses_word word.case_word) a.given)) ≡ true
        → marked a.source.number (cond b (as_cases (added_nodes_in language modules a)) (added_nodes_in language modules a)) ≡ marked a.source.number (plain (cond b rows (inner rows)))
    by true none = ap (marked a.source.number) (cases_asked language modules a.source.home (suc (size modules)) a.given (laid a.given)
        (laid_lacks word.uses_word a.given (none_of word.uses_word a.given none)) ∙ sym is)
    by false none = ap (marked a.source.number) (sym (inner_asked language modules a.source.home (suc (size modules)) a.given (laid a.given)
        (laid_lacks word.case_word a.given (none_of word.case_word a.given none)))
        ∙ (ap inner (sym is) ∙ sym (plain_inner rows)))

pub applied_there : (look : Lookup) (source : ℕ → Source) (language : Language) (modules : Forest Source) (a : Augment) (rows : Parts) (target : ℕ) (f : Parts) → AgreesAll look source f
    → times target f ≤ 1 → plain rows ≡ body_of language modules a → target_in look (target_steps modules a) ≡ Some target → may_hold (asking_in language modules a.source.home) (source target) a.given ≡ true
    → applied_in language modules a (plain f) ≡ plain (put (hung_by a rows target) f)
applied_there look source language modules a rows target f agrees few is found holds =
    let there = label_of_target look source language modules a target f agrees found in
    let l = there.0 in
    changed_plain (target_steps modules a) (hung_by a rows target) (added_below_in language a (added_nodes_in language modules a)) l
    (λ below after. ap (λ g. node l.label (join below g) after) (taken_is language modules a l.label.source rows is (ap (λ s. may_hold (asking_in language modules a.source.home) s a.given) there.3 ∙ holds)))
    f there.1 there.2 few

-- ---- once it is hung there

times_row : (n : ℕ) (a : Augment) (rows : Parts) (s : Source) → times n (row_for a rows s) ≤ times n rows
times_row n a rows s = by (is_source_of word.choice_word s)
  where
    by : (b : Bool) → times n (marked_by a.source.number (cond b rows (inner rows))) ≤ times n rows
    by true = omega (arith, times_marked n a.source.number rows)
    by false = omega (arith, times_marked n a.source.number (inner rows), times_inner n rows)

agrees_row : (look : Lookup) (source : ℕ → Source) (a : Augment) (rows : Parts) (s : Source) → Agrees look source rows → Agrees look source (row_for a rows s)
agrees_row look source a rows s agrees = by (is_source_of word.choice_word s)
  where
    by : (b : Bool) → Agrees look source (marked_by a.source.number (cond b rows (inner rows)))
    by true = agrees_marked look source a.source.number rows agrees
    by false = agrees_marked look source a.source.number (inner rows) (agrees_inner look source rows agrees)

pub stands_put : (source : ℕ → Source) (rows : ℕ → Parts) (left now : ℕ → Bool) (look : Lookup) (f : Parts) → AreApart rows → Stands source rows left look f
    → (a : Augment) (j target : ℕ) → left j ≡ true → times target f ≡ 1 → ((i : ℕ) → now i ≡ true → (left i ≡ true) × (i ≡ j → ⊥))
    → Stands source rows now (looked_behind look target (row_for a (rows j) (source target))) (put (hung_by a (rows j) target) f)
stands_put source rows left now look f alone stands a j target is_left once later =
    let added = row_for a (rows j) (source target) in
    let h = hung_by a (rows j) target in
    let none : times target added ≡ 0 = omega (arith, times_row target a (rows j) (source target), stands.apart j target is_left (omega (arith, once))) in
    let row_is = λ (l : Numbered Part) (e : l.label.source ≡ source target). ap (row_for a (rows j)) e in
    let within = λ (n : ℕ). times_row n a (rows j) (source target) in
    let count = λ (n : ℕ). times_put look source h added row_is n f stands.agrees.1 once in
    record {
      few = λ n. few_by n (times n f) refl (within n) (count n);
      apart = λ i n left_i there. apart_by i n (later i left_i) (times n f) refl (within n) (count n) there;
      agrees = agrees_all_put look source h added row_is none (agrees_row look source a (rows j) (source target) (stands.bodies j is_left)) f stands.agrees;
      bodies = λ i left_i. agrees_other look source target added (rows i) (stands.apart i target (later i left_i).0 (omega (arith, once))) (stands.bodies i (later i left_i).0);
    }
  where
    few_by : (n k : ℕ) → times n f ≡ k → times n (row_for a (rows j) (source target)) ≤ times n (rows j)
        → times n (put (hung_by a (rows j) target) f) ≡ times n f + times n (row_for a (rows j) (source target)) → times n (put (hung_by a (rows j) target) f) ≤ 1
    few_by n zero is within count = omega (arith, is, within, count, alone.few j n)
    few_by n (suc k) is within count = omega (arith, is, within, count, stands.few n, stands.apart j n is_left (omega (arith, is)))

    apart_by : (i n : ℕ) → (left i ≡ true) × (i ≡ j → ⊥) → (k : ℕ) → times n f ≡ k → times n (row_for a (rows j) (source target)) ≤ times n (rows j)
        → times n (put (hung_by a (rows j) target) f) ≡ times n f + times n (row_for a (rows j) (source target)) → 1 ≤ times n (put (hung_by a (rows j) target) f)
        → times n (rows i) ≡ 0
    apart_by i n both zero is within count there = alone.apart j i n (λ e. both.1 (sym e)) (omega (arith, is, within, count, there))
    apart_by i n both (suc k) is within count there = stands.apart i n both.0 (omega (arith, is))

-- ---- the first that finds its target

pub turn_taken : (ready : Forest Part → Augment → Bool) (apply : Augment → Forest Part → Forest Part) (times_left : ℕ) (state : Forest Part) (waiting : List Augment)
    (found : Augment × List Augment) → first_that (ready state) waiting ≡ Some found
    → in_turn ready apply (suc times_left) state waiting ≡ in_turn ready apply times_left (apply found.0 state) found.1
unfolding in_turn
turn_taken ready apply times_left state waiting found e = ap (done_first apply (in_turn ready apply times_left) state waiting) e

pub turns_over : (ready : Forest Part → Augment → Bool) (apply : Augment → Forest Part → Forest Part) (times_left : ℕ) (state : Forest Part) (waiting : List Augment)
    → first_that (ready state) waiting ≡ None → in_turn ready apply times_left state waiting ≡ (state, waiting)
unfolding in_turn
turns_over ready apply zero state waiting e = refl
turns_over ready apply (suc times_left) state waiting e = ap (done_first apply (in_turn ready apply times_left) state waiting) e
