-- A place behind turns, as it is made.
use Rattle.std.proofs.Common.{◌≡◌, ℕ, zero, suc, ◌<◌, ◌&&◌, Bool, true, false, List, [], ◌∷◌, length, Option, Some, None, refl, sym, ap, ◌∙◌, arith}
use Rattle.std.specs.Prelude.{if◌then◌else◌, get_or, slice_set, option_map}
use Rattle.std.proofs.lemmas.List.{length-map}
use Rattle.yspec.specs.document.Document.{Step}
use Rattle.yspec_session.specs.Carrying.{Turn, same_step, step_behind, steps_behind}
use Rattle.yinst.specs.Locating.{spot_view, spots_view}
use Rattle.yinst.specs.declared.locating.Spot.{Spot}
use Rattle.yapp_difference.specs.Carried.{leads_below}
use Rattle.yapp_difference.specs.KeyView.{step_view, steps_view}
use Rattle.yapp_difference.specs.declared.key.KeyStep.{KeyStep}

-- what doesn't stand below the row stays
pub stays : (turn : Turn) (above steps : List Step) → leads_below above steps ≡ false → steps_behind turn above steps ≡ Some steps
stays turn above [] e = refl
stays turn [] (s ∷ steps) e = absurd cc
stays turn (a ∷ above) (s ∷ steps) e = by (same_step a s) e (stays turn above steps)
  where
    by : (b : Bool) → (b && leads_below above steps) ≡ false → (leads_below above steps ≡ false → steps_behind turn above steps ≡ Some steps)
        → (if b then option_map (λ behind. s ∷ behind) (steps_behind turn above steps) else Some (s ∷ steps)) ≡ Some (s ∷ steps)
    by true e rest = ap (option_map (λ behind. s ∷ behind)) (rest e)
    by false e rest = refl

is_within : (above steps : List Step) → leads_below above steps ≡ true → length above < length steps
is_within above [] e = absurd cc
is_within [] (s ∷ steps) e = omega (arith)
is_within (a ∷ above) (s ∷ steps) e = by (same_step a s) e (is_within above steps)
  where
    by : (b : Bool) → (b && leads_below above steps) ≡ true → (leads_below above steps ≡ true → length above < length steps) → length (a ∷ above) < length (s ∷ steps)
    by true e rest = omega (arith, rest e)
    by false e rest = absurd cc

-- with a step put behind a turn
put_behind : (turn : Turn) (above steps : List Step) (d : Step) → leads_below above steps ≡ true
    → steps_behind turn above steps ≡ option_map (slice_set steps (length above)) (step_behind turn (get_or steps (length above) d))
put_behind turn above [] d e = absurd cc
put_behind turn [] (s ∷ steps) d e = refl
put_behind turn (a ∷ above) (s ∷ steps) d e = by (same_step a s) e (put_behind turn above steps d)
  where
    both : (o : Option Step) → option_map (λ behind. s ∷ behind) (option_map (slice_set steps (length above)) o) ≡ option_map (slice_set (s ∷ steps) (suc (length above))) o
    both None = refl
    both (Some t) = refl

    by : (b : Bool) → (b && leads_below above steps) ≡ true
        → (leads_below above steps ≡ true → steps_behind turn above steps ≡ option_map (slice_set steps (length above)) (step_behind turn (get_or steps (length above) d)))
        → (if b then option_map (λ behind. s ∷ behind) (steps_behind turn above steps) else Some (s ∷ steps))
        ≡ option_map (slice_set (s ∷ steps) (suc (length above))) (step_behind turn (get_or steps (length above) d))
    by true e rest = ap (option_map (λ behind. s ∷ behind)) (rest e) ∙ both (step_behind turn (get_or steps (length above) d))
    by false e rest = absurd cc

view_set : (steps : List KeyStep) (n : ℕ) (s : KeyStep) → steps_view (slice_set steps n s) ≡ slice_set (steps_view steps) n (step_view s)
view_set [] zero s = refl
view_set [] (suc n) s = refl
view_set (t ∷ steps) zero s = refl
view_set (t ∷ steps) (suc n) s = ap (λ xs. step_view t ∷ xs) (view_set steps n s)

view_at : (steps : List KeyStep) (n : ℕ) (d : KeyStep) → step_view (get_or steps n d) ≡ get_or (steps_view steps) n (step_view d)
view_at [] n d = refl
view_at (t ∷ steps) zero d = refl
view_at (t ∷ steps) (suc n) d = view_at steps n d

-- with the step that is found behind a turn
put_found : (turn : Turn) (above : List Spot) (steps : List KeyStep) (place : ℕ) (item : KeyStep) (found : Option KeyStep) → leads_below (spots_view above) (steps_view steps) ≡ true
    → place ≡ length above → item ≡ get_or steps place item → option_map step_view found ≡ step_behind turn (step_view item)
    → steps_behind turn (spots_view above) (steps_view steps) ≡ option_map (λ s. steps_view (slice_set steps place s)) found
put_found turn above steps place item found below at is says =
    put_behind turn (spots_view above) (steps_view steps) (step_view item) below
    ∙ (ap (λ n. option_map (slice_set (steps_view steps) n) (step_behind turn (get_or (steps_view steps) n (step_view item)))) (length-map above spot_view ∙ sym at)
    ∙ (ap (λ s. option_map (slice_set (steps_view steps) place) (step_behind turn s)) (sym (view_at steps place item) ∙ ap step_view (sym is))
    ∙ (ap (option_map (slice_set (steps_view steps) place)) (sym says) ∙ by found)))
  where
    by : (o : Option KeyStep) → option_map (slice_set (steps_view steps) place) (option_map step_view o) ≡ option_map (λ s. steps_view (slice_set steps place s)) o
    by None = refl
    by (Some s) = ap Some (sym (view_set steps place s))

pub put_there : (turn : Turn) (above : List Spot) (steps : List KeyStep) (place : ℕ) (item : KeyStep) (found : Option KeyStep) (step : KeyStep)
    → leads_below (spots_view above) (steps_view steps) ≡ true → place ≡ length above → item ≡ get_or steps place item → option_map step_view found ≡ step_behind turn (step_view item)
    → found ≡ Some step → steps_behind turn (spots_view above) (steps_view steps) ≡ Some (steps_view (slice_set steps place step))
put_there turn above steps place item found step below at is says stays =
    put_found turn above steps place item found below at is says ∙ ap (option_map (λ s. steps_view (slice_set steps place s))) stays

pub none_there : (turn : Turn) (above : List Spot) (steps : List KeyStep) (place : ℕ) (item : KeyStep) (found : Option KeyStep)
    → leads_below (spots_view above) (steps_view steps) ≡ true → place ≡ length above → item ≡ get_or steps place item → option_map step_view found ≡ step_behind turn (step_view item)
    → found ≡ None → steps_behind turn (spots_view above) (steps_view steps) ≡ None
none_there turn above steps place item found below at is says goes =
    put_found turn above steps place item found below at is says ∙ ap (option_map (λ s. steps_view (slice_set steps place s))) goes

pub place_within : (above : List Spot) (steps : List KeyStep) → leads_below (spots_view above) (steps_view steps) ≡ true → length above < length steps
place_within above steps below = omega (arith, is_within (spots_view above) (steps_view steps) below, length-map above spot_view, length-map steps step_view)
