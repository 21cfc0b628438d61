-- What conditions ask by the numbers of features is what their expressions say, statement by statement.
use Rattle.std.proofs.Common.{◌≡◌, ℕ, zero, suc, ◌+◌, ◌<◌, ◌≤◌, Bool, true, false, not, cond, List, [], ◌∷◌, ◌++◌, length, get_or, Option, Some, None, option_map, refl, sym, ap, ap₂, ◌∙◌, subst, arith}
use Rattle.std.specs.Prelude.{◌==◌, ◌&&◌, ◌||◌, slice_get, option_and_then}
use Rattle.std.specs.Option.{option_map_or}
use Rattle.std.proofs.lemmas.Bool.Decides.{Decides-eqb}
use Rattle.std.proofs.lemmas.Option.{slice_get-get_or}
use Rattle.yspec.specs.Forest.{Forest}
use Rattle.yspec.specs.linking.Scopes.{Placed}
use Rattle.yspec.specs.linking.Source.{Source}
use Rattle.yspec_wide.specs.Expressions.{Expression, feature, not_so, both_so, one_so, holds}
use Rattle.yspec_wide.specs.Features.{Feature, feature_named, condition_holds}
use Rattle.yspec_wide.specs.Language.{Language}
use Rattle.yspec_wide.specs.Sources.{is_condition}
use Rattle.ybase_preorder.specs.declared.slot.Slot.{Slot}
use Rattle.ybase_preorder.specs.Layout.{numbered_by, forest_of}
use Rattle.ylink_grammar.specs.declared.source.Source as held
use Rattle.ylink_grammar.specs.SourceView.{source_view}
use Rattle.ylink_names.proofs.BelowLemmas.{source_at}
use Rattle.ylink_names.proofs.NumberedLemmas.{get_behind}
use Rattle.ylink_names.proofs.PlacedLemmas.{stands_at}
use Rattle.ylink_standing.specs.AskingView.{Asked, on_number, not_asked, both_asked, one_asked, condition_view, resolved, resolved_or, number_meant, IsAsked}
use Rattle.ylink_standing.specs.ConditionView.{asks}
use Rattle.ylink_standing.specs.StandingView.{told, AreAsked}
use Rattle.ylink_standing.specs.declared.condition.Condition.{Condition}
use Rattle.ylink_standing.specs.declared.condition.Condition.TheVariants as conditions

abbrev pub says : (ℕ → Bool) → Asked → Bool
says on (on_number number) = option_map_or on number false
says on (not_asked a) = not (says on a)
says on (both_asked a b) = says on a && says on b
says on (one_asked a b) = says on a || says on b

module _ (on : ℕ → Bool) where
  pub asks_is : (c : Condition) → asks on c ≡ says on (condition_view c)
  asks_is (conditions.On number) = refl
  asks_is (conditions.Not' p c) = ap not (asks_is c)
  asks_is (conditions.Both' p c q d) = ap₂ (λ a b. a && b) (asks_is c) (asks_is d)
  asks_is (conditions.OneOf' p c q d) = ap₂ (λ a b. a || b) (asks_is c) (asks_is d)

  module _ (language : Language) (modules : Forest Source) (home : ℕ) where
    name_says : (o : Option Feature) → option_map_or on (option_map (λ (f : Feature). f.source.number) o) false ≡ option_map_or (told on) o false
    name_says None = refl
    name_says (Some f) = refl

    resolved_says : (e : Expression) → says on (resolved (number_meant language modules home) e) ≡ holds (λ n. option_map_or (told on) (feature_named language modules home n) false) e
    resolved_says (feature n) = name_says (feature_named language modules home n)
    resolved_says (not_so e) = ap not (resolved_says e)
    resolved_says (both_so e f) = ap₂ (λ a b. a && b) (resolved_says e) (resolved_says f)
    resolved_says (one_so e f) = ap₂ (λ a b. a || b) (resolved_says e) (resolved_says f)

    pub spelled_says : (o : Option Expression) → says on (resolved_or (number_meant language modules home) o)
        ≡ option_map_or (holds (λ n. option_map_or (told on) (feature_named language modules home n) false)) o false
    spelled_says None = refl
    spelled_says (Some e) = resolved_says e

-- what a condition asks, and what another statement does
pub asked_so : (b x y : Bool) → b ≡ true → x ≡ y → x ≡ cond b y true
asked_so b x y is same = same ∙ sym (ap (λ c. cond c y true) is)

pub unasked_so : (b y : Bool) → b ≡ false → true ≡ cond b y true
unasked_so b y is = sym (ap (λ c. cond c y true) is)

-- ---- one statement after another

get_before : {A : Type 0} (xs ys : List A) (n : ℕ) → n < length xs → slice_get (xs ++ ys) n ≡ slice_get xs n
get_before [] ys n within = absurd (omega (arith, within))
get_before (x ∷ xs) ys zero within = refl
get_before (x ∷ xs) ys (suc n) within = get_before xs ys n (omega (arith, within))

got_within : {A : Type 0} (xs : List A) (n : ℕ) (x : A) → slice_get xs n ≡ Some x → n < length xs
got_within [] n x e = absurd cc
got_within (y ∷ ys) zero x e = omega arith
got_within (y ∷ ys) (suc n) x e = let later = got_within ys n x e in omega (arith, later)

abbrev IsSo : Language → Forest Source → Option Condition → (ℕ → Bool) → Source → Type 0
IsSo language modules asked on s =
    option_map_or (asks on) asked true ≡ cond (is_condition language s) (condition_holds language modules (told on) s) true

module _ (rows : List (Slot held.Source)) (language : Language) where
  abbrev set : Forest Source
  set = numbered_by source_view 0 (forest_of rows)

  -- the first statements have what they ask
  abbrev pub AreFilled : List (Option Condition) → ℕ → Type 0
  AreFilled table i = (n : ℕ) → n < i → (r : Slot held.Source) → slice_get rows n ≡ Some r
      → IsAsked (option_and_then (λ c. c) (slice_get table n)) language set (source_view n r.label)

  pub filled_next : (table more : List (Option Condition)) (i : ℕ) (asked : Option Condition) (others : List (Slot held.Source)) (r : Slot held.Source)
      → others ≡ rows → i < length others → r ≡ get_or others i r → length table ≡ i → more ≡ table ++ asked ∷ [] → IsAsked asked language set (source_view i r.label)
      → AreFilled table i → AreFilled more (i + 1)
  filled_next table more i asked others r same within is long pushed own so_far n below x there = by (n == i) refl
    where
      here : slice_get rows i ≡ Some r
      here = ap (λ l. slice_get l i) (sym same) ∙ (slice_get-get_or others i r within ∙ ap (λ (y : Slot held.Source). Some y) (sym is))

      at_last : n ≡ i → slice_get more n ≡ Some asked
      at_last e = ap (λ l. slice_get l n) pushed ∙ get_behind table [] asked n (long ∙ sym e)

      before : n < i → slice_get more n ≡ slice_get table n
      before low = ap (λ l. slice_get l n) pushed ∙ get_before table (asked ∷ []) n (omega (arith, low, long))

      by : (b : Bool) → (n == i) ≡ b → IsAsked (option_and_then (λ c. c) (slice_get more n)) language set (source_view n x.label)
      by true e =
          let place : n ≡ i = (Decides-eqb n i).0 e in
          let slot : r ≡ x = (let found : Some r ≡ Some x = sym here ∙ (ap (slice_get rows) (sym place) ∙ there) in cc) in
          subst (λ (o : Option (Option Condition)). IsAsked (option_and_then (λ c. c) o) language set (source_view n x.label)) (sym (at_last place))
          (subst (λ (m : ℕ). IsAsked asked language set (source_view m x.label)) (sym place)
          (subst (λ (y : Slot held.Source). IsAsked asked language set (source_view i y.label)) slot own))
      by false e =
          let differ : n ≡ i → ⊥ = λ (place : n ≡ i). (let clash : false ≡ true = sym e ∙ (Decides-eqb n i).1 place in let no : ⊥ = cc in no) in
          let low : n < i = omega (arith, below, differ) in
          subst (λ (o : Option (Option Condition)). IsAsked (option_and_then (λ c. c) o) language set (source_view n x.label)) (sym (before low)) (so_far n low x there)

  pub filled_all : (table : List (Option Condition)) (i : ℕ) → length rows ≤ i → AreFilled table i → AreAsked table language set
  filled_all table i past so_far p at on = by (slice_get rows p.source.number) refl
      (source_at rows p.source.number ∙ ap (option_map (λ (q : Placed). q.source)) (stands_at (forest_of rows) p at))
    where
      by : (o : Option (Slot held.Source)) → slice_get rows p.source.number ≡ o
          → option_map (λ (r : Slot held.Source). source_view p.source.number r.label) o ≡ Some p.source → IsSo language set (option_and_then (λ c. c) (slice_get table p.source.number)) on p.source
      by None there e = absurd cc
      by (Some r) there e =
          let same : source_view p.source.number r.label ≡ p.source = cc in
          subst (IsSo language set (option_and_then (λ c. c) (slice_get table p.source.number)) on) same (so_far p.source.number (let low = got_within rows p.source.number r there in omega (arith, low, past)) r there on)
