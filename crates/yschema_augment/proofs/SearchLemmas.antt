-- What is found by the numbers of nodes is what stands in the forest.
use Rattle.std.proofs.Common.{◌≡◌, ℕ, Bool, true, false, cond, List, [], ◌∷◌, Option, Some, None, refl, sym, ap, subst, ◌∙◌, arith}
use Rattle.std.specs.Prelude.{find, option_map, option_and_then, unwrap_or}
use Rattle.std.proofs.lemmas.Bool.{eq-eqb, ne_eqb}
use Rattle.std.proofs.lemmas.Option.{none-some}
use Rattle.yspec.specs.Forest.{end, node, row, join, first_of, below_nth}
use Rattle.yspec.specs.linking.Source.{Source}
use Rattle.yspec.specs.linking.Parts.{Part}
use Rattle.yspec.specs.linking.Prefixes.{NodeName}
use Rattle.yschema_augment.specs.Hanging.{Hung, put, times, is_step_of, label_at}
use Rattle.yschema_expand.specs.NumberedView.{Numbered}
use Rattle.yschema_augment.specs.Searching.{Lookup, first_in, reached, target_in, Agrees, AgreesAll, looked_behind}
use Rattle.yschema_augment.proofs.HangingLemmas.{Nodes}

abbrev Parts : Type 0
Parts = Nodes Part

-- ---- from the forest to numbers

-- what is found from a row on: of the first step in the row, and of the others below what it names
abbrev from_row : Lookup → NodeName → List NodeName → Parts → Option ℕ
from_row look step steps f = option_and_then (λ o. o) (option_and_then (λ n. reached look (Some n) steps) (first_in step f))

pub number_found : (look : Lookup) (source : ℕ → Source) (step : NodeName) (steps : List NodeName) (f : Parts) → Agrees look source f
    → option_map (λ l. l.number) (label_at (step ∷ steps) f) ≡ from_row look step steps f
number_found look source step [] f agrees = by (find (is_step_of step) (row f))
  where
    by : (o : Option (Numbered Part)) → option_map (λ l. l.number) o
        ≡ option_and_then (λ p. p) (option_and_then (λ n. reached look (Some n) []) (option_map (λ l. l.number) o))
    by None = refl
    by (Some l) = refl
number_found look source step (next ∷ steps) end agrees = refl
number_found look source step (next ∷ steps) (node l below after) agrees =
    by (is_step_of step l) (number_found look source next steps below agrees.1) (number_found look source step (next ∷ steps) after agrees.2)
  where
    on : Option ℕ → Option ℕ
    on o = option_and_then (λ p. p) (option_and_then (λ n. reached look (Some n) (next ∷ steps)) o)

    by : (b : Bool) → option_map (λ k. k.number) (label_at (next ∷ steps) below) ≡ from_row look next steps below
        → option_map (λ k. k.number) (option_and_then (label_at (next ∷ steps)) (below_nth (is_step_of step) 0 after)) ≡ on (option_map (λ k. k.number) (find (is_step_of step) (row after)))
        → option_map (λ k. k.number) (option_and_then (label_at (next ∷ steps)) (cond b (Some below) (below_nth (is_step_of step) 0 after)))
        ≡ on (option_map (λ k. k.number) (cond b (Some l) (find (is_step_of step) (row after))))
    by true inner later = inner ∙ ap (λ o. option_and_then (λ p. p) (option_and_then (λ n. reached look (Some n) steps) o)) (sym (agrees.0.1 next))
    by false inner later = later

-- the node at a path is that to which its steps lead from number to number
pub target_found : (look : Lookup) (source : ℕ → Source) (steps : List NodeName) (f : Parts) → AgreesAll look source f
    → option_map (λ l. l.number) (label_at steps f) ≡ target_in look steps
target_found look source [] f agrees = refl
target_found look source (step ∷ steps) f agrees = number_found look source step steps f agrees.1
    ∙ ap (λ o. option_and_then (λ p. p) (option_and_then (λ n. reached look (Some n) steps) o)) (sym (agrees.0 step))

-- and its statement is known
pub label_known : (look : Lookup) (source : ℕ → Source) (steps : List NodeName) (f : Parts) (l : Numbered Part) → Agrees look source f
    → label_at steps f ≡ Some l → l.label.source ≡ source l.number
label_known look source [] f l agrees e = absurd (none-some l e)
label_known look source (step ∷ []) end l agrees e = absurd (none-some l e)
label_known look source (step ∷ []) (node k below after) l agrees e = by (is_step_of step k) e (label_known look source (step ∷ []) after l agrees.2)
  where
    by : (b : Bool) → cond b (Some k) (find (is_step_of step) (row after)) ≡ Some l
        → (find (is_step_of step) (row after) ≡ Some l → l.label.source ≡ source l.number) → l.label.source ≡ source l.number
    by true e later = subst (λ (x : Numbered Part). x.label.source ≡ source x.number) (ap (λ o. unwrap_or o k) e) agrees.0.0
    by false e later = later e
label_known look source (step ∷ next ∷ steps) end l agrees e = absurd (none-some l e)
label_known look source (step ∷ next ∷ steps) (node k below after) l agrees e =
    by (is_step_of step k) e (label_known look source (next ∷ steps) below l agrees.1) (label_known look source (step ∷ next ∷ steps) after l agrees.2)
  where
    by : (b : Bool) → option_and_then (label_at (next ∷ steps)) (cond b (Some below) (below_nth (is_step_of step) 0 after)) ≡ Some l
        → (label_at (next ∷ steps) below ≡ Some l → l.label.source ≡ source l.number)
        → (option_and_then (label_at (next ∷ steps)) (below_nth (is_step_of step) 0 after) ≡ Some l → l.label.source ≡ source l.number)
        → l.label.source ≡ source l.number
    by true e inner later = inner e
    by false e inner later = later e

-- ---- once a row has come behind the children of a node

pub row_put : (h : Hung Part) (f : Parts) → row (put h f) ≡ row f
row_put h end = refl
row_put h (node l below after) = ap (λ ls. l ∷ ls) (row_put h after)

pub first_put : (h : Hung Part) (name : NodeName) (f : Parts) → first_in name (put h f) ≡ first_in name f
first_put h name f = ap (λ ls. option_map (λ l. l.number) (find (is_step_of name) ls)) (row_put h f)

pub first_join : (name : NodeName) (f g : Parts) → first_in name (join f g) ≡ first_of (first_in name f) (first_in name g)
first_join name end g = refl
first_join name (node l below after) g = by (is_step_of name l) (first_join name after g)
  where
    by : (b : Bool) → first_in name (join after g) ≡ first_of (first_in name after) (first_in name g)
        → option_map (λ k. k.number) (cond b (Some l) (find (is_step_of name) (row (join after g))))
        ≡ first_of (option_map (λ k. k.number) (cond b (Some l) (find (is_step_of name) (row after)))) (first_in name g)
    by true later = refl
    by false later = later

pub of_none : (o : Option ℕ) → first_of o None ≡ o
of_none None = refl
of_none (Some n) = refl

-- below other nodes it finds what it found
pub behind_other : (look : Lookup) (target n : ℕ) (added : Parts) (name : NodeName) → (n ≡ target → ⊥) → looked_behind look target added (Some n) name ≡ look (Some n) name
behind_other look target n added name other =
    ap (λ b. first_of (look (Some n) name) (cond b (first_in name added) None)) (ne_eqb n target other) ∙ of_none (look (Some n) name)

pub behind_top : (look : Lookup) (target : ℕ) (added : Parts) (name : NodeName) → looked_behind look target added None name ≡ look None name
behind_top look target added name = of_none (look None name)

pub behind_target : (look : Lookup) (target : ℕ) (added : Parts) (name : NodeName) → looked_behind look target added (Some target) name ≡ first_of (look (Some target) name) (first_in name added)
behind_target look target added name = ap (λ b. first_of (look (Some target) name) (cond b (first_in name added) None)) (eq-eqb target target refl)

-- a row in which the node doesn't stand agrees as before
pub agrees_other : (look : Lookup) (source : ℕ → Source) (target : ℕ) (added f : Parts) → times target f ≡ 0 → Agrees look source f → Agrees (looked_behind look target added) source f
agrees_other look source target added end none agrees = tt
agrees_other look source target added (node l below after) none agrees = (
  (
    agrees.0.0,
    λ name. behind_other look target l.number added name
        (λ e. absurd (omega (arith, none, ap (λ b. cond {A = ℕ} b 1 0) (eq-eqb l.number target e)))) ∙ agrees.0.1 name,
  ),
  agrees_other look source target added below (omega (arith, none)) agrees.1,
  agrees_other look source target added after (omega (arith, none)) agrees.2,
)
