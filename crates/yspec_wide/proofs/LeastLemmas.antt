-- The least of a list is the same in whatever order, and so are the rules that are told of rows gathered in one pass or in two.
use Rattle.std.proofs.Common.{◌≡◌, ℕ, ◌==◌, ◌&&◌, ◌||◌, ◌++◌, Bool, true, false, cond, List, [], ◌∷◌, Option, Some, None, Ordering, Less, Equal, Greater, nat_cmp, nat_lt, is_lt, is_gt, refl, sym, ap, ◌∙◌}
use Rattle.std.specs.Cmp.{IsTotalOrder}
use Rattle.std.specs.FinMap.{nat_cmp-IsAntisymmetric}
use Rattle.std.specs.List.{flat_map}
use Rattle.std.specs.Ordering.{ordering_then, ordering_reverse, on, then_cmp}
use Rattle.std.proofs.lemmas.Cmp.{upto, nat_cmp_total, on_total, then_total}
use Rattle.yspec.specs.Forest.{first_of}
use Rattle.yspec.specs.schema.Breaks.{Break, is_before, lesser, least_from, or_told}
use Rattle.yspec.proofs.SchemaProofs.LeastLemmas.{least_of_both}

-- ---- the lesser of two, in an order in which no two are alike

less_is : (o : Ordering) → is_lt o ≡ true → o ≡ Less
less_is Less e = refl
less_is Equal e = absurd cc
less_is Greater e = absurd cc

turned_round : (o : Ordering) → is_gt (ordering_reverse o) ≡ is_lt o
turned_round Less = refl
turned_round Equal = refl
turned_round Greater = refl

module _ {K : Type 0} (R : K → K → Ordering) (total : IsTotalOrder R) (one : (x y : K) → R x y ≡ Equal → x ≡ y) where
  least : K → K → K
  least a b = cond (is_lt (R b a)) b a

  either_way : (a b : K) → least a b ≡ least b a
  unfolding least
  either_way a b = by (R b a) refl ∙ ap (λ o. cond (is_lt o) a b) (sym (total.antisymm a b))
    where
      by : (o : Ordering) → R b a ≡ o → cond (is_lt (R b a)) b a ≡ cond (is_lt (ordering_reverse (R b a))) a b
      by Less e = rw e refl
      by Equal e = rw e (sym (one b a e))
      by Greater e = rw e refl

  more_is : (x y : K) → is_gt (R x y) ≡ is_lt (R y x)
  more_is x y = ap is_gt (total.antisymm x y) ∙ turned_round (R y x)

  before : (a b c : K) → is_lt (R b a) ≡ true → is_lt (R c b) ≡ true → is_lt (R c a) ≡ true
  before a b c here there = ap is_lt (total.trans c b a (less_is (R c b) there) (less_is (R b a) here))

  behind : (a b c : K) → is_lt (R b a) ≡ false → is_lt (R c b) ≡ false → is_lt (R c a) ≡ false
  behind a b c here there = sym (more_is a c) ∙ upto total a b c (more_is a b ∙ here) (more_is b c ∙ there)

  least_of_three : (a b c : K) → least (least a b) c ≡ least a (least b c)
  unfolding least
  least_of_three a b c = by (is_lt (R b a)) refl (is_lt (R c b)) refl
    where
      third : (x : Bool) → is_lt (R c a) ≡ x → cond (is_lt (R c a)) c a ≡ cond x c a
      third x e = ap (λ y. cond y c a) e

      by : (x : Bool) → is_lt (R b a) ≡ x → (y : Bool) → is_lt (R c b) ≡ y
          → cond (is_lt (R c (cond x b a))) c (cond x b a) ≡ cond (is_lt (R (cond y c b) a)) (cond y c b) a
      by true first true second = ap (λ z. cond z c b) second ∙ sym (third true (before a b c first second))
      by true first false second = ap (λ z. cond z c b) second ∙ sym (ap (λ z. cond z b a) first)
      by false first true second = refl
      by false first false second = third false (behind a b c first second) ∙ sym (ap (λ z. cond z b a) first)

  swapped : (s a b : K) → least (least s a) b ≡ least (least s b) a
  swapped s a b = least_of_three s a b ∙ (ap (least s) (either_way a b) ∙ sym (least_of_three s b a))

-- ---- that of broken rules

abbrev code_of : Break → ℕ
code_of b = b.code

abbrev line_of : Break → ℕ
line_of b = b.line

abbrev module_of : Break → ℕ
module_of b = b.module_number

abbrev break_cmp : Break → Break → Ordering
break_cmp = then_cmp (on module_of nat_cmp) (then_cmp (on line_of nat_cmp) (on code_of nat_cmp))

breaks_total : IsTotalOrder break_cmp
breaks_total = then_total (on_total module_of nat_cmp_total) (then_total (on_total line_of nat_cmp_total) (on_total code_of nat_cmp_total))

both_tied : (a b : Ordering) → ordering_then a b ≡ Equal → (a ≡ Equal) × (b ≡ Equal)
both_tied Less b e = absurd cc
both_tied Equal b e = (refl, e)
both_tied Greater b e = absurd cc

made : ℕ → ℕ → ℕ → Break
made m l k = record { code = k; module_number = m; line = l }

one_break : (a b : Break) → break_cmp a b ≡ Equal → a ≡ b
unfolding made
one_break a b e =
    let p = both_tied (nat_cmp a.module_number b.module_number) _ e in
    let q = both_tied (nat_cmp a.line b.line) _ p.1 in
    ap (λ m. made m a.line a.code) (nat_cmp-IsAntisymmetric _ _ p.0)
    ∙ (ap (λ l. made b.module_number l a.code) (nat_cmp-IsAntisymmetric _ _ q.0)
    ∙ ap (λ k. made b.module_number b.line k) (nat_cmp-IsAntisymmetric _ _ q.1))

-- one number first, and then others
first_number : (x y : Bool) (o : Ordering) → is_lt (ordering_then (cond x Less (cond y Equal Greater)) o) ≡ (x || (y && is_lt o))
first_number true y o = refl
first_number false true o = refl
first_number false false o = refl

last_number : (x y : Bool) → is_lt (cond x Less (cond y Equal Greater)) ≡ x
last_number true y = refl
last_number false true = refl
last_number false false = refl

before_is : (a b : Break) → is_lt (break_cmp a b) ≡ is_before a b
before_is a b = first_number (nat_lt a.module_number b.module_number) (a.module_number == b.module_number) _
    ∙ ap (λ others. nat_lt a.module_number b.module_number || (a.module_number == b.module_number && others))
    (first_number (nat_lt a.line b.line) (a.line == b.line) _
    ∙ ap (λ others. nat_lt a.line b.line || (a.line == b.line && others)) (last_number (nat_lt a.code b.code) (a.code == b.code)))

lesser_is : (a b : Break) → lesser (Some a) b ≡ least break_cmp breaks_total one_break a b
unfolding least
lesser_is a b = ap (λ x. cond x b a) (sym (before_is b a))

-- ---- the least of a list

swap_two : (so_far : Option Break) (a b : Break) → lesser (Some (lesser so_far a)) b ≡ lesser (Some (lesser so_far b)) a
swap_two None a b = lesser_is a b ∙ (either_way break_cmp breaks_total one_break a b ∙ sym (lesser_is b a))
swap_two (Some s) a b = twice s a b ∙ (swapped break_cmp breaks_total one_break s a b ∙ sym (twice s b a))
  where
    twice : (s a b : Break) → lesser (Some (lesser (Some s) a)) b
        ≡ least break_cmp breaks_total one_break (least break_cmp breaks_total one_break s a) b
    twice s a b = lesser_is (lesser (Some s) a) b ∙ ap (λ t. least break_cmp breaks_total one_break t b) (lesser_is s a)

put_last : (so_far : Option Break) (b : Break) (xs : List Break)
    → least_from (Some (lesser so_far b)) xs ≡ Some (lesser (least_from so_far xs) b)
put_last so_far b [] = refl
put_last so_far b (x ∷ xs) = ap (λ t. least_from (Some t) xs) (swap_two so_far b x) ∙ put_last (Some (lesser so_far x)) b xs

pub swap_lists : (so_far : Option Break) (xs ys : List Break)
    → least_from (least_from so_far xs) ys ≡ least_from (least_from so_far ys) xs
swap_lists so_far xs [] = refl
swap_lists so_far xs (y ∷ ys) = ap (λ s. least_from s ys) (sym (put_last so_far y xs)) ∙ swap_lists (Some (lesser so_far y)) xs ys

-- ---- two lists of each of a row, gathered in one pass or in two

module _ {A : Type 0} (f g : A → List Break) where
  one_pass : (so_far : Option Break) (row : List A)
      → least_from so_far (flat_map (λ a. f a ++ g a) row) ≡ least_from so_far (flat_map f row ++ flat_map g row)
  one_pass so_far [] = refl
  one_pass so_far (a ∷ row) =
      let here = least_from (least_from so_far (f a)) (g a) in
      least_of_both so_far (f a ++ g a) (flat_map (λ a. f a ++ g a) row)
      ∙ (ap (λ s. least_from s (flat_map (λ a. f a ++ g a) row)) (least_of_both so_far (f a) (g a))
      ∙ (one_pass here row
      ∙ (least_of_both here (flat_map f row) (flat_map g row)
      ∙ (ap (λ s. least_from s (flat_map g row)) (swap_lists (least_from so_far (f a)) (g a) (flat_map f row))
      ∙ (ap (λ s. least_from (least_from s (g a)) (flat_map g row)) (sym (least_of_both so_far (f a) (flat_map f row)))
      ∙ (sym (least_of_both (least_from so_far (f a ++ flat_map f row)) (g a) (flat_map g row))
      ∙ sym (least_of_both so_far (f a ++ flat_map f row) (g a ++ flat_map g row))))))))

-- what is told is the least, or else what is told later
stays : (b : Break) (bs : List Break) (later : Option Break) → least_from (Some b) bs ≡ first_of (least_from (Some b) bs) later
stays b [] later = refl
stays b (x ∷ xs) later = stays (lesser (Some b) x) xs later

told_is : (bs : List Break) (later : Option Break) → or_told bs later ≡ first_of (least_from None bs) later
told_is [] later = refl
told_is (b ∷ bs) later = stays b bs later

pub told_in_two : {A : Type 0} (f g : A → List Break) (row : List A) (later : Option Break)
    → or_told (flat_map f row ++ flat_map g row) later ≡ or_told (flat_map (λ a. f a ++ g a) row) later
told_in_two f g row later = told_is (flat_map f row ++ flat_map g row) later
    ∙ (ap (λ told. first_of told later) (sym (one_pass f g None row)) ∙ sym (told_is (flat_map (λ a. f a ++ g a) row) later))
