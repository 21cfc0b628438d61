-- Which nodes hang on a `when`, by what is told of each.
use Rattle.std.proofs.Common.{◌≡◌, ℕ, zero, suc, ◌-◌, ◌<◌, Bool, true, false, not, ◌||◌, List, [], ◌∷◌, get_or, map, Option, Some, None, refl, sym, ap, ap₂, ◌∙◌, arith}
use Rattle.std.specs.Prelude.{option_and_then, option_map, slice_get, unwrap_or}
use Rattle.std.specs.List.{Contains}
use Rattle.std.specs.Option.{option_map_or}
use Rattle.std.proofs.lemmas.Option.{slice_get-get_or, slice_get-map}
use Rattle.yspec.specs.Forest.{size}
use Rattle.yspec.specs.linking.Planned.{Plan, Planned, node_of, nodes_of}
use Rattle.yspec_wide.specs.Above.{is_under, is_under_within}
use Rattle.yspec_wide.specs.Guards.{is_guarded}
use Rattle.yspec_wide.specs.Language.{Language}
use Rattle.yspec_wide.specs.Sources.{bears_when}
use Rattle.yschema_plan.specs.PlanView.{view}
use Rattle.yschema_plan.specs.declared.plan.Plan as code
use Rattle.yschema_plan.proofs.NodeLemmas.{stands_at}
use Rattle.yschema_resolve.specs.Guarding.{TellsOthers, TellsUnguarded, hangs_by, is_guarded_by}
use Rattle.yschema_types.proofs.TypeLemmas.{number_is, stands}

-- ---- steps of the way up

pub no_step : (unguarded : List Bool) (plan : Plan) (p : Planned) → is_guarded_by unguarded plan 0 p ≡ false
unfolding is_guarded_by
no_step unguarded plan p = refl

abbrev pub above_by : List Bool → Plan → ℕ → Option Planned → Bool
above_by unguarded plan steps above = option_map_or (is_guarded_by unguarded plan steps) above false

one_step : (unguarded : List Bool) (plan : Plan) (steps : ℕ) (p : Planned) → 0 < steps
    → is_guarded_by unguarded plan steps p ≡ (not (get_or unguarded p.number true) || above_by unguarded plan (steps - 1) (option_and_then (node_of plan) p.parent))
unfolding is_guarded_by
one_step unguarded plan zero p some = absurd (omega (arith, some))
one_step unguarded plan (suc steps) p some =
    let less : suc steps - 1 ≡ steps = omega arith in
    sym (ap (λ n. not (get_or unguarded p.number true) || above_by unguarded plan n (option_and_then (node_of plan) p.parent)) less)

-- a node bears one itself
pub own_step : (unguarded : List Bool) (plan : Plan) (steps : ℕ) (p : Planned) → 0 < steps → get_or unguarded p.number true ≡ false
    → true ≡ is_guarded_by unguarded plan steps p
own_step unguarded plan steps p some own =
    sym (one_step unguarded plan steps p some
    ∙ ap (λ b. not b || above_by unguarded plan (steps - 1) (option_and_then (node_of plan) p.parent)) own)

-- or one above it does
pub next_step : (unguarded : List Bool) (plan : Plan) (steps : ℕ) (p : Planned) (above : Option Planned) → 0 < steps → get_or unguarded p.number true ≡ true
    → above ≡ option_and_then (node_of plan) p.parent → above_by unguarded plan (steps - 1) above ≡ is_guarded_by unguarded plan steps p
next_step unguarded plan steps p above some none is =
    ap (above_by unguarded plan (steps - 1)) is
    ∙ sym (one_step unguarded plan steps p some
    ∙ ap (λ b. not b || above_by unguarded plan (steps - 1) (option_and_then (node_of plan) p.parent)) none)

-- ---- what is told of each

twice : (b : Bool) → not (not b) ≡ b
twice true = refl
twice false = refl

module _ (test : Planned → Bool) (plan : code.Plan) (others : List Bool) (tells : TellsOthers others test (view plan)) where
  above_stands : (o : Option ℕ) (q : Planned) → option_and_then (node_of (view plan)) o ≡ Some q → slice_get (nodes_of (view plan)) q.number ≡ Some q
  above_stands None q e = absurd cc
  above_stands (Some n) q e = stands plan n q (sym (stands_at plan n) ∙ e)

  told_within : (steps : ℕ) (p : Planned) → slice_get (nodes_of (view plan)) p.number ≡ Some p
      → is_guarded_by others (view plan) steps p ≡ is_under_within (view plan) test steps p
  unfolding is_guarded_by is_under_within
  told_within zero p here = refl
  told_within (suc steps) p here =
      ap₂ (λ own above. own || above) (ap not (tells p.number p here) ∙ twice (test p))
      (by (told_within steps) (above_stands p.parent) (option_and_then (node_of (view plan)) p.parent) refl)
    where
      by : ((q : Planned) → slice_get (nodes_of (view plan)) q.number ≡ Some q
          → is_guarded_by others (view plan) steps q ≡ is_under_within (view plan) test steps q)
          → ((q : Planned) → option_and_then (node_of (view plan)) p.parent ≡ Some q → slice_get (nodes_of (view plan)) q.number ≡ Some q)
          → (o : Option Planned) → option_and_then (node_of (view plan)) p.parent ≡ o
          → option_map_or (is_guarded_by others (view plan) steps) o false ≡ option_map_or (is_under_within (view plan) test steps) o false
      by more there None is = refl
      by more there (Some q) is = more q (there q is)

  -- so of all nodes of a plan
  pub all_under : map (hangs_by others (view plan)) (nodes_of (view plan)) ≡ map (is_under (view plan) test) (nodes_of (view plan))
  all_under = same_of_all (hangs_by others (view plan)) (is_under (view plan) test) (nodes_of (view plan))
      (λ p at. told_within (size (view plan).nodes) p
      (stands plan at.0 p (slice_get-get_or (nodes_of (view plan)) at.0 p at.1 ∙ ap Some at.2)))
    where
      same_of_all : {A B : Type 0} (f g : A → B) (xs : List A) → ((x : A) → Contains xs x → f x ≡ g x) → map f xs ≡ map g xs
      same_of_all f g [] same = refl
      same_of_all f g (x ∷ xs) same =
          ap₂ (λ y ys. y ∷ ys) (same x (0, omega arith, refl)) (same_of_all f g xs (λ y at. same y (suc at.0, omega (arith, at.1), at.2)))

-- so of those that hang on a `when`
pub all_guarded : (language : Language) (plan : code.Plan) (unguarded : List Bool) → TellsUnguarded unguarded language (view plan)
    → map (hangs_by unguarded (view plan)) (nodes_of (view plan)) ≡ map (is_guarded language (view plan)) (nodes_of (view plan))
all_guarded language plan unguarded tells = all_under (λ p. bears_when language p.part.own) plan unguarded tells

-- ---- rows that tell of each node

got : (xs : List Bool) (n : ℕ) (b : Bool) → slice_get xs n ≡ Some b → get_or xs n true ≡ b
got [] n b at = absurd cc
got (x ∷ xs) zero b at = ap (λ o. unwrap_or o b) at
got (x ∷ xs) (suc n) b at = got xs n b at

pub tells_others : (others : List Bool) (test : Planned → Bool) (plan : Plan) → others ≡ map (λ p. not (test p)) (nodes_of plan) → TellsOthers others test plan
tells_others others test plan is number p at =
    got others number (not (test p)) (ap (λ bs. slice_get bs number) is ∙ (slice_get-map (λ p. not (test p)) (nodes_of plan) number ∙ ap (option_map (λ p. not (test p))) at))

got_told : (xs : List Bool) (n : ℕ) (b : Bool) → slice_get xs n ≡ Some b → get_or xs n false ≡ b
got_told [] n b at = absurd cc
got_told (x ∷ xs) zero b at = ap (λ o. unwrap_or o b) at
got_told (x ∷ xs) (suc n) b at = got_told xs n b at

-- what is told of the node of a number
pub told_of : (told : List Bool) (test : Planned → Bool) (plan : code.Plan) → told ≡ map test (nodes_of (view plan))
    → (number : ℕ) (p : Planned) → slice_get (nodes_of (view plan)) number ≡ Some p → get_or told p.number false ≡ test p
told_of told test plan is number p at =
    ap (λ n. get_or told n false) (number_is plan number p at)
    ∙ got_told told number (test p) (ap (λ bs. slice_get bs number) is ∙ (slice_get-map test (nodes_of (view plan)) number ∙ ap (option_map test) at))
