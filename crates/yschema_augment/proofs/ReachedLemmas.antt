-- Steps from node to node, as far as they lead.
use Rattle.std.proofs.Common.{◌≡◌, ℕ, zero, suc, cond, List, [], ◌∷◌, take, Option, Some, None, refl, sym, ap, ap₂, ◌∙◌}
use Rattle.std.specs.Prelude.{option_and_then, slice_get, unwrap_or}
use Rattle.std.proofs.lemmas.Option.{none-some}
use Rattle.yspec.specs.Forest.{Forest, first_of}
use Rattle.yspec.specs.linking.Parts.{Part}
use Rattle.yspec.specs.linking.Prefixes.{NodeName}
use Rattle.yspec.specs.linking.Planned.{same_number}
use Rattle.yschema_expand.specs.NumberedView.{Numbered}
use Rattle.yschema_augment.specs.Searching.{Lookup, first_in, reached, looked_behind}

-- what is found stays found
abbrev pub Grows : Lookup → Lookup → Type 0
Grows look now = (above : Option ℕ) (name : NodeName) (n : ℕ) → look above name ≡ Some n → now above name ≡ Some n

pub behind_grows : (look : Lookup) (target : ℕ) (added : Forest (Numbered Part)) → Grows look (looked_behind look target added)
behind_grows look target added above name n e = ap (λ o. first_of o (cond (same_number above (Some target)) (first_in name added) None)) e

pub reached_grows : (look now : Lookup) → Grows look now → (above p : Option ℕ) (steps : List NodeName) → reached look above steps ≡ Some p → reached now above steps ≡ Some p
reached_grows look now grows above p [] e = e
reached_grows look now grows above p (step ∷ steps) e = by (look above step) refl e (λ n. reached_grows look now grows (Some n) p steps)
  where
    by : (o : Option ℕ) → look above step ≡ o → option_and_then (λ n. reached look (Some n) steps) o ≡ Some p
        → ((n : ℕ) → reached look (Some n) steps ≡ Some p → reached now (Some n) steps ≡ Some p)
        → option_and_then (λ n. reached now (Some n) steps) (now above step) ≡ Some p
    by None is e more = absurd (none-some p e)
    by (Some n) is e more = ap (option_and_then (λ n. reached now (Some n) steps)) (grows above step n is) ∙ more n e

-- what is reached by some of the steps, and then
module _ (look : Lookup) where
  some_is : {A : Type 0} (x y : A) → Some x ≡ Some y → x ≡ y
  some_is x y e = ap (λ o. unwrap_or o x) e

  -- the same step from the same node
  same_step : (above p : Option ℕ) (s step : NodeName) → Some above ≡ Some p → Some s ≡ Some step → look above s ≡ look p step
  same_step above p s step e at = ap₂ look (some_is above p e) (some_is s step at)

  pub onward : (above p : Option ℕ) (steps : List NodeName) (k n : ℕ) (step : NodeName) → reached look above (take k steps) ≡ Some p → slice_get steps k ≡ Some step
      → look p step ≡ Some n → reached look above (take (suc k) steps) ≡ Some (Some n)
  onward above p [] zero n step e at is = absurd (none-some step at)
  onward above p [] (suc k) n step e at is = absurd (none-some step at)
  onward above p (s ∷ ss) zero n step e at is = ap (option_and_then (λ m. Some (Some m))) (same_step above p s step e at ∙ is)
  onward above p (s ∷ ss) (suc k) n step e at is = by (look above s) e (λ m e. onward (Some m) p ss k n step e at is)
    where
      by : (o : Option ℕ) → option_and_then (λ m. reached look (Some m) (take k ss)) o ≡ Some p
          → ((m : ℕ) → reached look (Some m) (take k ss) ≡ Some p → reached look (Some m) (take (suc k) ss) ≡ Some (Some n))
          → option_and_then (λ m. reached look (Some m) (take (suc k) ss)) o ≡ Some (Some n)
      by None e more = absurd (none-some p e)
      by (Some m) e more = more m e

  pub stopped : (above p : Option ℕ) (steps : List NodeName) (k : ℕ) (step : NodeName) → reached look above (take k steps) ≡ Some p → slice_get steps k ≡ Some step
      → look p step ≡ None → reached look above steps ≡ None
  stopped above p [] zero step e at is = absurd (none-some step at)
  stopped above p [] (suc k) step e at is = absurd (none-some step at)
  stopped above p (s ∷ ss) zero step e at is = ap (option_and_then (λ m. reached look (Some m) ss)) (same_step above p s step e at ∙ is)
  stopped above p (s ∷ ss) (suc k) step e at is = by (look above s) e (λ m e. stopped (Some m) p ss k step e at is)
    where
      by : (o : Option ℕ) → option_and_then (λ m. reached look (Some m) (take k ss)) o ≡ Some p
          → ((m : ℕ) → reached look (Some m) (take k ss) ≡ Some p → reached look (Some m) ss ≡ None)
          → option_and_then (λ m. reached look (Some m) ss) o ≡ None
      by None e more = absurd (none-some p e)
      by (Some m) e more = more m e

  pub arrived : (above p : Option ℕ) (steps : List NodeName) (k : ℕ) → reached look above (take k steps) ≡ Some p → slice_get steps k ≡ None → reached look above steps ≡ Some p
  arrived above p [] zero e at = e
  arrived above p [] (suc k) e at = e
  arrived above p (s ∷ ss) zero e at = absurd (none-some s (sym at))
  arrived above p (s ∷ ss) (suc k) e at = by (look above s) e (λ m e. arrived (Some m) p ss k e at)
    where
      by : (o : Option ℕ) → option_and_then (λ m. reached look (Some m) (take k ss)) o ≡ Some p
          → ((m : ℕ) → reached look (Some m) (take k ss) ≡ Some p → reached look (Some m) ss ≡ Some p)
          → option_and_then (λ m. reached look (Some m) ss) o ≡ Some p
      by None e more = absurd (none-some p e)
      by (Some m) e more = more m e
