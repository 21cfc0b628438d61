-- The statement of a module of a set, by its number.
use Rattle.std.proofs.Common.{◌≡◌, ℕ, zero, suc, Bool, true, false, List, [], ◌∷◌, Some, None, refl, ap}
use Rattle.std.specs.Prelude.{◌==◌, if◌then◌else◌, slice_get, unwrap_or}
use Rattle.yspec.specs.Forest.{Forest, end}
use Rattle.yspec.specs.text.Statement.{Statement}
use Rattle.ytext.specs.View.{modules_view}
use Rattle.ytext.specs.declared.statement.Module.{Module}
use Rattle.ysay_text.specs.Sentence.{of_line}
use Rattle.ysay_pattern.specs.Said as patterns
use Rattle.ysay_forms.specs.Said as forms
use Rattle.ysay_names.specs.Keys as keys
use Rattle.ysay_names.specs.Names as names
use Rattle.ysay_names.specs.Prefixes as prefixes
use Rattle.ysay_types.specs.Defaults as defaults
use Rattle.ysay_types.specs.Restrictions as restrictions
use Rattle.ysay_targets.specs.Leafrefs as leafrefs
use Rattle.ysay_targets.specs.Targets as targets
use Rattle.ysay_sets.specs.Taken as taken
use Rattle.ysay_sets.specs.Imports as imports
use Rattle.ysay_nodes.specs.Twice as twice
use Rattle.ysay_nodes.specs.Needed as needed
use Rattle.ysay_nodes.specs.Config as config
use Rattle.ysay_circles.specs.References as references
use Rattle.ysay_circles.specs.Conditions as conditions
use Rattle.ysay_circles.specs.Places as places
use Rattle.yspec_run.specs.Hint.{module_at, statement_said}

pub module_found : (ms : List Module) (n : ℕ) (m : Module) → slice_get ms n ≡ Some m → module_at n (modules_view ms) ≡ modules_view (m ∷ [])
module_found [] n m e = absurd cc
module_found (x ∷ ms) zero m e = ap (λ o. modules_view (unwrap_or o x ∷ [])) e
module_found (x ∷ ms) (suc n) m e = module_found ms n m e

pub none_found : (ms : List Module) (n : ℕ) → slice_get ms n ≡ None → module_at n (modules_view ms) ≡ end
none_found [] n e = refl
none_found (x ∷ ms) zero e = absurd cc
none_found (x ∷ ms) (suc n) e = none_found ms n e

pub nothing_said : (code line : ℕ) (modules : Forest Statement) → statement_said code line modules end ≡ []
unfolding of_line forms.of_line prefixes.of_line names.of_line keys.of_line patterns.of_line restrictions.of_line defaults.of_line targets.of_line leafrefs.of_line
    taken.of_line imports.of_line twice.of_line needed.of_line config.of_line references.of_line conditions.of_line places.of_line
nothing_said code line modules = next (code == 1) (next (code == 2) (next (code == 3) (next (code == 5) (next (code == 6) (next (code == 7) (next (code == 8) (next (code == 9) (next (code == 10) (next (code == 11) (
    next (code == 12) (next (code == 13) (next (code == 14) (next (code == 15) (next (code == 16) (next (code == 17) (next (code == 20) (next (code == 22) (next (code == 24) refl))))))))))))))))))
  where
    none : List ℕ
    none = []

    next : (b : Bool) {others : List ℕ} → others ≡ none → (if b then none else others) ≡ none
    next true e = refl
    next false e = e
