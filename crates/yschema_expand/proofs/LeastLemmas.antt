-- The least of a list from one so far on is the lesser of that one and the least of the list.
use Rattle.std.proofs.Common.{◌≡◌, ℕ, ◌<◌, Bool, true, false, cond, List, [], ◌∷◌, Option, Some, None, refl, sym, ap, ◌∙◌, arith}
use Rattle.std.specs.Prelude.{nat_lt, ◌==◌, ◌&&◌, ◌||◌}
use Rattle.std.proofs.lemmas.Bool.{lt-ltb, ltb-true, le-ltb, ltb-false}
use Rattle.std.proofs.lemmas.Bool.Decides.{Decides-eqb}
use Rattle.yspec.specs.schema.Breaks.{Break, is_before, lesser, least_from}
use Rattle.yschema_expand.specs.Counting.{told_list}

-- ---- tests that order things

-- by a number, and where that is the same by another test
abbrev by_number : {A : Type 0} → (A → ℕ) → (A → A → Bool) → A → A → Bool
by_number key others a b = nat_lt (key a) (key b) || (key a == key b && others a b)

-- what is so of each two in a row is so of the first and the last
abbrev Passes : {A : Type 0} → (A → A → Bool) → Bool → Type 0
Passes test answer = (a b c : _) → test a b ≡ answer → test b c ≡ answer → test a c ≡ answer

module _ {A : Type 0} (key : A → ℕ) (others : A → A → Bool) where
  abbrev test : A → A → Bool
  test = by_number key others

  data Compared (a b : A) (answer : Bool) : Type 0 where
    apart : (answer ≡ true → key a < key b) → (answer ≡ false → key b < key a) → Compared a b answer
    alike : key a ≡ key b → others a b ≡ answer → Compared a b answer

  compared : (a b : A) (answer : Bool) → test a b ≡ answer → Compared a b answer
  compared a b answer e = by (nat_lt (key a) (key b)) refl e
    where
      same : (y : Bool) → (key a == key b) ≡ y → nat_lt (key a) (key b) ≡ false → (y && others a b) ≡ answer → Compared a b answer
      same true is less e = alike ((Decides-eqb (key a) (key b)).0 is) e
      same false is less e = apart (λ yes. let clash : false ≡ true = e ∙ yes in absurd cc)
          (λ no.
          let above = ltb-false (key a) (key b) less in
          let differ : (key a ≡ key b) → ⊥ = (λ s. let clash : false ≡ true = sym is ∙ (Decides-eqb (key a) (key b)).1 s in absurd cc) in
          omega (arith, above, differ))

      by : (x : Bool) → nat_lt (key a) (key b) ≡ x → (x || (key a == key b && others a b)) ≡ answer → Compared a b answer
      by true is e = apart (λ yes. ltb-true (key a) (key b) is) (λ no. let clash : true ≡ false = e ∙ no in absurd cc)
      by false is e = same (key a == key b) refl is e

  is_less : (a b : A) → key a < key b → test a b ≡ true
  is_less a b less = ap (λ x. x || (key a == key b && others a b)) (lt-ltb (key a) (key b) less)

  is_more : (a b : A) → key b < key a → test a b ≡ false
  is_more a b more = ap (λ x. x || (key a == key b && others a b)) (le-ltb (key a) (key b) (omega (arith, more)))
      ∙ ap (λ y. y && others a b) (differs (key a == key b) refl)
    where
      differs : (y : Bool) → (key a == key b) ≡ y → y ≡ false
      differs false is = refl
      differs true is = absurd (let same = (Decides-eqb (key a) (key b)).0 is in omega (arith, same, more))

  is_alike : (a b : A) (answer : Bool) → key a ≡ key b → others a b ≡ answer → test a b ≡ answer
  is_alike a b answer same is = ap (λ x. x || (key a == key b && others a b)) (le-ltb (key a) (key b) (omega (arith, same)))
      ∙ (ap (λ y. y && others a b) ((Decides-eqb (key a) (key b)).1 same) ∙ is)

  passes_true : Passes others true → Passes test true
  passes_true rest a b c first second = by (compared a b true first) (compared b c true second)
    where
      by : Compared a b true → Compared b c true → test a c ≡ true
      by (apart l m) (apart n o) = let x = l refl in let y = n refl in is_less a c (omega (arith, x, y))
      by (apart l m) (alike s o) = let x = l refl in is_less a c (omega (arith, x, s))
      by (alike s o) (apart l m) = let x = l refl in is_less a c (omega (arith, x, s))
      by (alike s o) (alike t p) = is_alike a c true (s ∙ t) (rest a b c o p)

  passes_false : Passes others false → Passes test false
  passes_false rest a b c first second = by (compared a b false first) (compared b c false second)
    where
      by : Compared a b false → Compared b c false → test a c ≡ false
      by (apart l m) (apart n o) = let x = m refl in let y = o refl in is_more a c (omega (arith, x, y))
      by (apart l m) (alike s o) = let x = m refl in is_more a c (omega (arith, x, s))
      by (alike s o) (apart l m) = let x = m refl in is_more a c (omega (arith, x, s))
      by (alike s o) (alike t p) = is_alike a c false (s ∙ t) (rest a b c o p)

-- ---- that of broken rules

abbrev by_code : Break → Break → Bool
by_code a b = nat_lt a.code b.code

codes_true : Passes by_code true
codes_true a b c first second =
    let x = ltb-true a.code b.code first in let y = ltb-true b.code c.code second in lt-ltb a.code c.code (omega (arith, x, y))

codes_false : Passes by_code false
codes_false a b c first second =
    let x = ltb-false a.code b.code first in let y = ltb-false b.code c.code second in le-ltb a.code c.code (omega (arith, x, y))

abbrev line_of : Break → ℕ
line_of b = b.line

abbrev module_of : Break → ℕ
module_of b = b.module_number

abbrev by_line : Break → Break → Bool
by_line = by_number line_of by_code

before_true : Passes is_before true
before_true = passes_true module_of by_line (passes_true line_of by_code codes_true)

before_false : Passes is_before false
before_false = passes_false module_of by_line (passes_false line_of by_code codes_false)

-- ---- and the least

abbrev pub lesser_of : Option Break → Option Break → Option Break
lesser_of so_far None = so_far
lesser_of so_far (Some b) = Some (lesser so_far b)

lesser_joins : (a b c : Break) → lesser (Some (lesser (Some a) b)) c ≡ lesser (Some a) (lesser (Some b) c)
lesser_joins a b c = by (is_before b a) refl (is_before c b) refl
  where
    third : (x : Bool) → is_before c a ≡ x → cond (is_before c a) c a ≡ cond x c a
    third x e = ap (λ y. cond y c a) e

    by : (x : Bool) → is_before b a ≡ x → (y : Bool) → is_before c b ≡ y
        → cond (is_before c (cond x b a)) c (cond x b a) ≡ cond (is_before (cond y c b) a) (cond y c b) a
    by true first true second = ap (λ z. cond z c b) second ∙ sym (third true (before_true c b a second first))
    by true first false second = ap (λ z. cond z c b) second ∙ sym (ap (λ z. cond z b a) first)
    by false first true second = refl
    by false first false second = third false (before_false c b a second first) ∙ sym (ap (λ z. cond z b a) first)

joins : (so_far : Option Break) (b : Break) (rest : Option Break) → lesser_of (Some (lesser so_far b)) rest ≡ lesser_of so_far (lesser_of (Some b) rest)
joins so_far b None = refl
joins None b (Some c) = refl
joins (Some a) b (Some c) = ap (λ d. Some d) (lesser_joins a b c)

pub least_apart : (so_far : Option Break) (bs : List Break) → least_from so_far bs ≡ lesser_of so_far (least_from None bs)
least_apart so_far [] = refl
least_apart so_far (b ∷ bs) = least_apart (Some (lesser so_far b)) bs
    ∙ (joins so_far b (least_from None bs) ∙ ap (lesser_of so_far) (sym (least_apart (Some b) bs)))

-- the least of a list, told as one
pub least_told : (so_far : Option Break) (bs : List Break) → least_from so_far (told_list (least_from None bs)) ≡ least_from so_far bs
least_told so_far bs = by (least_from None bs) ∙ sym (least_apart so_far bs)
  where
    by : (o : Option Break) → least_from so_far (told_list o) ≡ lesser_of so_far o
    by None = refl
    by (Some b) = refl
