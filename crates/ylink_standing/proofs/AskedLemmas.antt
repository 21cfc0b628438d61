-- What a condition says rests on what is told of those features alone that it names.
use Rattle.std.proofs.Common.{◌≡◌, suc, Bool, false, not, List, [], ◌∷◌, Option, Some, None, refl, sym, ap, ap₂, subst, arith}
use Rattle.std.specs.Prelude.{◌&&◌, ◌||◌}
use Rattle.std.specs.List.{Contains, list_all}
use Rattle.std.specs.Option.{option_map_or}
use Rattle.std.proofs.lemmas.List.Elements.{Contains-append_left, Contains-append_right}
use Rattle.yspec.specs.Forest.{Forest}
use Rattle.yspec.specs.linking.Arguments.{Name}
use Rattle.yspec.specs.linking.Source.{Source}
use Rattle.yspec_wide.specs.Language.{Language}
use Rattle.yspec_wide.specs.Expressions.{Expression, feature, not_so, both_so, one_so, holds, names_in}
use Rattle.yspec_wide.specs.Features.{Feature, feature_named, condition_of, condition_holds, names_asked}

module _ (here there : Name → Bool) where
  pub same_holds : (e : Expression) → ((n : Name) → Contains (names_in e) n → here n ≡ there n) → holds here e ≡ holds there e
  same_holds (feature name) same = same name (0, omega arith, refl)
  same_holds (not_so e) same = ap not (same_holds e same)
  same_holds (both_so e f) same = ap₂ (λ a b. a && b)
      (same_holds e (λ n at. same n (Contains-append_left (names_in e) (names_in f) n at)))
      (same_holds f (λ n at. same n (Contains-append_right (names_in e) (names_in f) n at)))
  same_holds (one_so e f) same = ap₂ (λ a b. a || b)
      (same_holds e (λ n at. same n (Contains-append_left (names_in e) (names_in f) n at)))
      (same_holds f (λ n at. same n (Contains-append_right (names_in e) (names_in f) n at)))

module _ (language : Language) (modules : Forest Source) (here there : Feature → Bool) where
  -- they tell the same of those features that a statement names
  abbrev pub Agree : Source → Type 0
  Agree s = (n : Name) → Contains (names_asked language modules s) n → (g : Feature)
      → feature_named language modules s.home n ≡ Some g → here g ≡ there g

  pub same_condition : (s : Source) → Agree s → condition_holds language modules here s ≡ condition_holds language modules there s
  same_condition s same = by (condition_of language modules s) refl
    where
      meant : (o : Option Feature) → ((g : Feature) → o ≡ Some g → here g ≡ there g) → option_map_or here o false ≡ option_map_or there o false
      meant None all = refl
      meant (Some g) all = all g refl

      by : (o : Option Expression) → condition_of language modules s ≡ o
          → option_map_or (holds (λ n. option_map_or here (feature_named language modules s.home n) false)) o false
          ≡ option_map_or (holds (λ n. option_map_or there (feature_named language modules s.home n) false)) o false
      by None is = refl
      by (Some e) is = same_holds
          (λ n. option_map_or here (feature_named language modules s.home n) false)
          (λ n. option_map_or there (feature_named language modules s.home n) false) e
          (λ n at. meant (feature_named language modules s.home n)
          (λ g named. same n (subst (λ (x : Option Expression). Contains (option_map_or names_in x []) n) (sym is) at) g named))

  pub same_all : (ss : List Source) → ((s : Source) → Contains ss s → Agree s)
      → list_all (condition_holds language modules here) ss ≡ list_all (condition_holds language modules there) ss
  same_all [] same = refl
  same_all (s ∷ ss) same = ap₂ (λ a b. a && b) (same_condition s (same s (0, omega arith, refl)))
      (same_all ss (λ r at. same r (let within = at.1 in (suc at.0, omega (arith, within), at.2))))
