-- A path through numbered parts, and a row put below the node to which it leads.
use Rattle.std.proofs.Common.{◌≡◌, ℕ, ◌+◌, ◌==◌, ◌≤◌, Bool, true, false, cond, List, [], ◌∷◌, Option, Some, None, refl, sym, ap, ap₂, subst, ◌∙◌, arith}
use Rattle.std.specs.Prelude.{find, option_map, option_and_then, unwrap_or}
use Rattle.std.proofs.lemmas.Bool.{eq-eqb, eqb-true, ne_eqb}
use Rattle.std.proofs.lemmas.Option.{none-some}
use Rattle.yspec.specs.Forest.{Forest, end, node, row, join, below_nth, change_nth, change_below}
use Rattle.yspec.specs.linking.Parts.{Part}
use Rattle.yspec.specs.linking.Prefixes.{NodeName}
use Rattle.yspec.specs.linking.Expansion.{is_step, part_at, changed_at}
use Rattle.yschema_augment.specs.Hanging.{Hung, put, times, plain, is_step_of, label_at}
use Rattle.yschema_expand.specs.NumberedView.{Numbered}
use Rattle.yschema_augment.proofs.HangingLemmas.{Nodes}

abbrev Parts : Type 0
Parts = Nodes Part

-- ---- a path leads to the same part with numbers and without

found_plain : (step : NodeName) (f : Parts) → find (is_step step) (row (plain f)) ≡ option_map (λ l. l.label) (find (is_step_of step) (row f))
found_plain step end = refl
found_plain step (node l below after) = by (is_step step l.label) (found_plain step after)
  where
    by : (b : Bool) → find (is_step step) (row (plain after)) ≡ option_map (λ l. l.label) (find (is_step_of step) (row after))
        → cond b (Some l.label) (find (is_step step) (row (plain after))) ≡ option_map (λ l. l.label) (cond b (Some l) (find (is_step_of step) (row after)))
    by true e = refl
    by false e = e

below_plain : (step : NodeName) (f : Parts) → below_nth (is_step step) 0 (plain f) ≡ option_map plain (below_nth (is_step_of step) 0 f)
below_plain step end = refl
below_plain step (node l below after) = by (is_step step l.label) (below_plain step after)
  where
    by : (b : Bool) → below_nth (is_step step) 0 (plain after) ≡ option_map plain (below_nth (is_step_of step) 0 after)
        → cond b (Some (plain below)) (below_nth (is_step step) 0 (plain after)) ≡ option_map plain (cond b (Some below) (below_nth (is_step_of step) 0 after))
    by true e = refl
    by false e = e

pub part_plain : (steps : List NodeName) (f : Parts) → part_at steps (plain f) ≡ option_map (λ l. l.label) (label_at steps f)
part_plain [] f = refl
part_plain (step ∷ []) f = found_plain step f
part_plain (step ∷ next ∷ steps) f =
    ap (option_and_then (part_at (next ∷ steps))) (below_plain step f) ∙ inner (below_nth (is_step_of step) 0 f) (part_plain (next ∷ steps))
  where
    inner : (b : Option Parts) → ((g : Parts) → part_at (next ∷ steps) (plain g) ≡ option_map (λ l. l.label) (label_at (next ∷ steps) g))
        → option_and_then (part_at (next ∷ steps)) (option_map plain b) ≡ option_map (λ l. l.label) (option_and_then (label_at (next ∷ steps)) b)
    inner None e = refl
    inner (Some g) e = e g

-- ---- how often numbers stand there

abbrev one_if : Bool → ℕ
one_if b = cond b 1 0

once : (n m : ℕ) → n ≡ m → one_if (n == m) ≡ 1
once n m e = ap one_if (eq-eqb n m e)

found_there : (step : NodeName) (f : Parts) (l : Numbered Part) → find (is_step_of step) (row f) ≡ Some l → 1 ≤ times l.number f
found_there step end l e = absurd (none-some l e)
found_there step (node k below after) l e = by (is_step step k.label) e (found_there step after l)
  where
    by : (b : Bool) → cond b (Some k) (find (is_step_of step) (row after)) ≡ Some l
        → (find (is_step_of step) (row after) ≡ Some l → 1 ≤ times l.number after)
        → 1 ≤ cond (k.number == l.number) 1 0 + (times l.number below + times l.number after)
    by true e later = omega (arith, once k.number l.number (ap (λ o. (unwrap_or o k).number) e))
    by false e later = omega (arith, later e)

below_there : (step : NodeName) (n : ℕ) (f g : Parts) → below_nth (is_step_of step) 0 f ≡ Some g → times n g ≤ times n f
below_there step n end g e = absurd (none-some g e)
below_there step n (node k below after) g e = by (is_step step k.label) e (below_there step n after g)
  where
    by : (b : Bool) → cond b (Some below) (below_nth (is_step_of step) 0 after) ≡ Some g
        → (below_nth (is_step_of step) 0 after ≡ Some g → times n g ≤ times n after)
        → times n g ≤ cond (k.number == n) 1 0 + (times n below + times n after)
    by true e later = omega (arith, ap (λ o. times n (unwrap_or o below)) e)
    by false e later = omega (arith, later e)

pub label_there : (steps : List NodeName) (f : Parts) (l : Numbered Part) → label_at steps f ≡ Some l → 1 ≤ times l.number f
label_there [] f l e = absurd (none-some l e)
label_there (step ∷ []) f l e = found_there step f l e
label_there (step ∷ next ∷ steps) f l e = by (below_nth (is_step_of step) 0 f) refl e (label_there (next ∷ steps))
  where
    by : (b : Option Parts) → below_nth (is_step_of step) 0 f ≡ b → option_and_then (label_at (next ∷ steps)) b ≡ Some l
        → ((g : Parts) (l : Numbered Part) → label_at (next ∷ steps) g ≡ Some l → 1 ≤ times l.number g) → 1 ≤ times l.number f
    by None is e inner = absurd (none-some l e)
    by (Some g) is e inner = omega (arith, inner g l e, below_there step l.number f g is)

pub put_absent : (h : Hung Part) (f : Parts) → times h.target f ≡ 0 → put h f ≡ f
put_absent h end none = refl
put_absent h (node l below after) none = by (h.target == l.number) refl
    (put_absent h below (omega (arith, none))) (put_absent h after (omega (arith, none)))
  where
    by : (b : Bool) → (h.target == l.number) ≡ b → put h below ≡ below → put h after ≡ after
        → node l (cond b (join (put h below) (h.row l)) (put h below)) (put h after) ≡ node l below after
    by true is inner later = absurd (omega (arith, none, once l.number h.target (sym (eqb-true h.target l.number is))))
    by false is inner later = ap₂ (node l) inner later

-- ---- changing the node at a path

-- what a change makes of a node is that a row comes last below it
abbrev pub Appends : Hung Part → (Part → Forest Part → Forest Part → Forest Part) → Numbered Part → Type 0
Appends h change l = (below after : Forest Part) → change l.label below after ≡ node l.label (join below (plain (h.row l))) after

pub plain_join : (f g : Parts) → plain (join f g) ≡ join (plain f) (plain g)
plain_join end g = refl
plain_join (node l below after) g = ap (node l.label (plain below)) (plain_join after g)

-- a node that isn't the target, with the target below it or behind it
passed : (h : Hung Part) (l : Numbered Part) (below after : Parts) → (l.number ≡ h.target → ⊥)
    → put h (node l below after) ≡ node l (put h below) (put h after)
passed h l below after other = ap (λ b. node l (cond b (join (put h below) (h.row l)) (put h below)) (put h after))
    (ne_eqb h.target l.number (λ e. other (sym e)))

changed_here : (step : NodeName) (h : Hung Part) (change : Part → Forest Part → Forest Part → Forest Part) (l : Numbered Part) → Appends h change l → (f : Parts)
    → find (is_step_of step) (row f) ≡ Some l → l.number ≡ h.target → times h.target f ≤ 1 → change_nth (is_step step) 0 change (plain f) ≡ plain (put h f)
changed_here step h change l appends end e is few = absurd (none-some l e)
changed_here step h change l appends (node k below after) e is few = by (is_step step k.label) e (changed_here step h change l appends after)
  where
    by : (b : Bool) → cond b (Some k) (find (is_step_of step) (row after)) ≡ Some l
        → (find (is_step_of step) (row after) ≡ Some l → l.number ≡ h.target → times h.target after ≤ 1 → change_nth (is_step step) 0 change (plain after) ≡ plain (put h after))
        → cond b (change k.label (plain below) (plain after)) (node k.label (plain below) (change_nth (is_step step) 0 change (plain after)))
        ≡ plain (put h (node k below after))
    by true e later =
        let same : k.number ≡ h.target = ap (λ o. (unwrap_or o k).number) e ∙ is in
        let count = once k.number h.target same in
        subst (Appends h change) (sym (ap (λ o. unwrap_or o k) e)) appends (plain below) (plain after)
        ∙ (ap₂ (node k.label) (ap (λ f. join f (plain (h.row k))) (ap plain (sym (put_absent h below (omega (arith, few, count))))) ∙ sym (plain_join (put h below) (h.row k)))
        (ap plain (sym (put_absent h after (omega (arith, few, count)))))
        ∙ ap (λ b. plain (node k (cond b (join (put h below) (h.row k)) (put h below)) (put h after))) (sym (eq-eqb h.target k.number (sym same))))
    by false e later =
        let there : 1 ≤ times h.target after = subst (λ n. 1 ≤ times n after) is (found_there step after l e) in
        let other = λ (same : k.number ≡ h.target). absurd (omega (arith, few, there, once k.number h.target same)) in
        ap₂ (node k.label) (ap plain (sym (put_absent h below (omega (arith, few, there)))))
        (later e is (omega (arith, few)))
        ∙ ap plain (sym (passed h k below after other))

pub changed_plain : (steps : List NodeName) (h : Hung Part) (change : Part → Forest Part → Forest Part → Forest Part) (l : Numbered Part) → Appends h change l → (f : Parts)
    → label_at steps f ≡ Some l → l.number ≡ h.target → times h.target f ≤ 1 → changed_at steps change (plain f) ≡ plain (put h f)
changed_plain [] h change l appends f e is few = absurd (none-some l e)
changed_plain (step ∷ []) h change l appends f e is few = changed_here step h change l appends f e is few
changed_plain (step ∷ next ∷ steps) h change l appends end e is few = absurd (none-some l e)
changed_plain (step ∷ next ∷ steps) h change l appends (node k below after) e is few =
    by (is_step step k.label) e (changed_plain (next ∷ steps) h change l appends below) (changed_plain (step ∷ next ∷ steps) h change l appends after)
  where
    more : Forest Part → Forest Part
    more = changed_at (next ∷ steps) change

    by : (b : Bool) → option_and_then (label_at (next ∷ steps)) (cond b (Some below) (below_nth (is_step_of step) 0 after)) ≡ Some l
        → (label_at (next ∷ steps) below ≡ Some l → l.number ≡ h.target → times h.target below ≤ 1 → more (plain below) ≡ plain (put h below))
        → (option_and_then (label_at (next ∷ steps)) (below_nth (is_step_of step) 0 after) ≡ Some l → l.number ≡ h.target → times h.target after ≤ 1
        → change_below (is_step step) 0 more (plain after) ≡ plain (put h after))
        → cond b (node k.label (more (plain below)) (plain after)) (node k.label (plain below) (change_below (is_step step) 0 more (plain after)))
        ≡ plain (put h (node k below after))
    by true e inner later =
        let there : 1 ≤ times h.target below = subst (λ n. 1 ≤ times n below) is (label_there (next ∷ steps) below l e) in
        let other = λ (same : k.number ≡ h.target). absurd (omega (arith, few, there, once k.number h.target same)) in
        ap₂ (node k.label) (inner e is (omega (arith, few))) (ap plain (sym (put_absent h after (omega (arith, few, there)))))
        ∙ ap plain (sym (passed h k below after other))
    by false e inner later =
        let there : 1 ≤ times h.target after = subst (λ n. 1 ≤ times n after) is (label_there (step ∷ next ∷ steps) after l e) in
        let other = λ (same : k.number ≡ h.target). absurd (omega (arith, few, there, once k.number h.target same)) in
        ap₂ (node k.label) (ap plain (sym (put_absent h below (omega (arith, few, there))))) (later e is (omega (arith, few)))
        ∙ ap plain (sym (passed h k below after other))
