-- How texts are cut, character by character.
use Rattle.std.proofs.Common.{◌≡◌, ℕ, ◌+◌, ◌-◌, ◌<◌, ◌≤◌, List, [], ◌∷◌, ◌++◌, Bool, true, false, cond, Option, Some, None, option_map, length, take, drop, get_or, refl, sym, ap, ◌∙◌, arith, ◌&&◌, ltb}
use Rattle.std.specs.Prelude.{position, ◌==◌}
use Rattle.std.specs.List.{slice_split, position_or_len}
use Rattle.std.proofs.lemmas.Bool.{ltb-true, ltb-false}
use Rattle.std.proofs.lemmas.List.Splits.{slice_split_first, slice_split_none}
use Rattle.std.proofs.lemmas.List.Sums.{fails_before_first}
use Rattle.std.proofs.lemmas.List.Elements.{All-from_get_or}
use Rattle.std.proofs.lemmas.List.{at_drop_more, take_more, take_all, append_assoc, append-nil, drop-drop}
use Rattle.std.proofs.lemmas.Bool.Decides.{nat_tests}
use Rattle.std.proofs.lemmas.Grind.{common_steps}
use Rattle.yspec.specs.text.Text.{Text, is_white, begins}
use Rattle.yspec.specs.types.Numerals.{is_point, point}
use Rattle.yspec.specs.edit.EditText.{longer}
use Rattle.yspec.specs.linking.Arguments.{after_white, before_white, without_last, cut_at_dots}
use Rattle.std.specs.Borrow.{Bor}
use Rattle.ylink_arguments.specs.Cut.{sides, parts_of}

-- ---- parts

-- the sides of a place
abbrev pub sides_at : Text → Option ℕ → Option (Text × Text)
sides_at t = option_map (λ n. (take n t, drop (n + 1) t))

split_from : (test : ℕ → Bool) (t : Text) (b : Bool) → ltb (position_or_len test t) (length t) ≡ b
    → slice_split test t ≡ parts_of test t (sides_at t (cond b (Some (position_or_len test t)) None))
split_from test t true e = slice_split_first test t 0 (ltb-true _ _ e)
split_from test t false e = slice_split_none test t (All-from_get_or (λ x. test x ≡ false) t 0
    (λ k h. fails_before_first test t k 0 (omega (arith, h, ltb-false _ _ e))))

pub split_at_place : (test : ℕ → Bool) (t : Text) → slice_split test t ≡ parts_of test t (sides_at t (position test t))
split_at_place test t = split_from test t (ltb (position_or_len test t) (length t)) refl

-- ---- white space

pub white_front : (t : Text) (d : ℕ) → 0 < length t → is_white (get_or t 0 d) ≡ true → after_white (drop 1 t) ≡ after_white t
white_front [] d h e = absurd (omega arith)
white_front (x ∷ xs) d h e = rw e refl

pub other_front : (t : Text) (d : ℕ) → (0 < length t → is_white (get_or t 0 d) ≡ false) → after_white t ≡ t
other_front [] d e = refl
other_front (x ∷ xs) d e = rw (e (omega arith)) refl

white_pushed : (xs : Text) (x : ℕ) → is_white x ≡ true → before_white (xs ++ x ∷ []) ≡ before_white xs
white_pushed [] x e = rw e refl
white_pushed (y ∷ ys) x e = ap (without_last y) (white_pushed ys x e)

other_pushed : (xs : Text) (x : ℕ) → is_white x ≡ false → before_white (xs ++ x ∷ []) ≡ xs ++ x ∷ []
other_pushed [] x e = rw e refl
other_pushed (y ∷ []) x e = rw e refl
other_pushed (y ∷ z ∷ zs) x e = ap (without_last y) (other_pushed (z ∷ zs) x e)

pushed : (t : Text) (n d : ℕ) → n + 1 ≡ length t → t ≡ take n t ++ get_or t n d ∷ []
pushed t n d h = sym (take_all (n + 1) t (omega (arith, h))) ∙ take_more t n d (omega (arith, h))

pub white_end : (t : Text) (n d : ℕ) → n + 1 ≡ length t → is_white (get_or t n d) ≡ true → before_white (take n t) ≡ before_white t
white_end t n d h e = sym (ap before_white (pushed t n d h) ∙ white_pushed (take n t) (get_or t n d) e)

pub other_end : (t : Text) (n d : ℕ) → n + 1 ≡ length t → is_white (get_or t n d) ≡ false → before_white t ≡ t
other_end t n d h e = ap before_white (pushed t n d h) ∙ other_pushed (take n t) (get_or t n d) e ∙ sym (pushed t n d h)

-- ---- dots

abbrev pub dots_behind : Text → Option (Text × Text) → Option (Text × Text)
dots_behind front = option_map (λ p. (front ++ p.0, p.1))

dots_longer : (front : Text) (x : ℕ) (o : Option (Text × Text)) → dots_behind front (option_map (longer x) o) ≡ dots_behind (front ++ x ∷ []) o
dots_longer front x None = refl
dots_longer front x (Some (before, rest)) = ap (λ (t : Text). Some (t, rest)) (sym (append_assoc front (x ∷ []) before))

pub dots_start : (o : Option (Text × Text)) → dots_behind [] o ≡ o
dots_start None = refl
dots_start (Some (before, rest)) = refl

dots_open : (bs : Text) (i : ℕ) → i < length bs
    → dots_behind (take i bs) (cut_at_dots (drop i bs))
    ≡ dots_behind (take i bs) (cond (is_point (get_or bs i 0) && begins point (drop (i + 1) bs)) (Some ([], drop 1 (drop (i + 1) bs)))
    (option_map (longer (get_or bs i 0)) (cut_at_dots (drop (i + 1) bs))))
unfolding cut_at_dots
dots_open bs i h = at_drop_more (λ (t : Text). dots_behind (take i bs) (cut_at_dots t)) bs i 0 h

second_at : (bs : Text) (i : ℕ) → i + 1 < length bs → begins point (drop (i + 1) bs) ≡ is_point (get_or bs (i + 1) 0)
second_at bs i h = at_drop_more (λ (t : Text). begins point t) bs (i + 1) 0 h

pub dots_more : (bs : Text) (i : ℕ) → i + 1 < length bs → (is_point (get_or bs i 0) && is_point (get_or bs (i + 1) 0)) ≡ false
    → dots_behind (take i bs) (cut_at_dots (drop i bs)) ≡ dots_behind (take (i + 1) bs) (cut_at_dots (drop (i + 1) bs))
dots_more bs i h e =
    dots_open bs i (omega (arith, h))
    ∙ ap (λ (c : Bool). dots_behind (take i bs) (cond c (Some ([], drop 1 (drop (i + 1) bs))) (option_map (longer (get_or bs i 0)) (cut_at_dots (drop (i + 1) bs)))))
    (ap (λ c. is_point (get_or bs i 0) && c) (second_at bs i h) ∙ e)
    ∙ dots_longer (take i bs) (get_or bs i 0) (cut_at_dots (drop (i + 1) bs))
    ∙ ap (λ (t : Text). dots_behind t (cut_at_dots (drop (i + 1) bs))) (sym (take_more bs i 0 (omega (arith, h))))

pub dots_here : (bs : Text) (i : ℕ) → i + 1 < length bs → (is_point (get_or bs i 0) && is_point (get_or bs (i + 1) 0)) ≡ true
    → dots_behind (take i bs) (cut_at_dots (drop i bs)) ≡ Some (take i bs, drop (i + 2) bs)
dots_here bs i h e =
    dots_open bs i (omega (arith, h))
    ∙ ap (λ (c : Bool). dots_behind (take i bs) (cond c (Some ([], drop 1 (drop (i + 1) bs))) (option_map (longer (get_or bs i 0)) (cut_at_dots (drop (i + 1) bs)))))
    (ap (λ c. is_point (get_or bs i 0) && c) (second_at bs i h) ∙ e)
    ∙ ap (λ (t : Text). Some (t, drop 1 (drop (i + 1) bs))) (append-nil (take i bs))
    ∙ ap (λ (t : Text). Some (take i bs, t)) (two_dropped bs i)
  where
    two_dropped : (bs : Text) (i : ℕ) → drop 1 (drop (i + 1) bs) ≡ drop (i + 2) bs
    two_dropped bs i = drop-drop 1 (i + 1) bs ∙ ap (λ n. drop n bs) (omega arith)

short_end : (t : Text) → length t ≤ 1 → (front : Text) → dots_behind front (cut_at_dots t) ≡ None
unfolding cut_at_dots
short_end [] h front = refl
short_end (x ∷ []) h front = go (is_point x)
  where
    go : (b : Bool) → dots_behind front (cond (b && false) (Some ([], [])) None) ≡ None
    go true = refl
    go false = refl
short_end (x ∷ y ∷ ys) h front = absurd (omega (arith, h))

pub dots_nowhere : (bs : Text) (i : ℕ) → length bs ≤ i + 1 → dots_behind (take i bs) (cut_at_dots (drop i bs)) ≡ None
dots_nowhere bs i h = short_end (drop i bs) (grind (arith, common_steps)) (take i bs)

-- ---- parts of a text that is cut, or isn't

pub split_nowhere : (test : ℕ → Bool) (t : Text) (r : Option (Bor (List ℕ) × Bor (List ℕ))) → r ≡ None → position test t ≡ None
    → slice_split test t ≡ parts_of test t (option_map sides r)
split_nowhere test t r none e = split_at_place test t ∙ ap (λ o. parts_of test t (sides_at t o)) e ∙ ap (λ o. parts_of test t (option_map sides o)) (sym none)

pub split_somewhere : (test : ℕ → Bool) (t : Text) (n : ℕ) (before rest : Text) → position test t ≡ Some n
    → before ≡ take n t → rest ≡ drop (n + 1) t → slice_split test t ≡ before ∷ slice_split test rest
split_somewhere test t n before rest e front tail =
    split_at_place test t ∙ ap (λ o. parts_of test t (sides_at t o)) e
    ∙ ap (λ (x : Text). x ∷ slice_split test (drop (n + 1) t)) (sym front) ∙ ap (λ (x : Text). before ∷ slice_split test x) (sym tail)

pub some_length : (n : ℕ) → false ≡ (n == 0) → n - 1 + 1 ≡ n
some_length n e = let h : (n == 0) ≡ false = sym e in grind (arith, nat_tests)

pub white_cut : (t bs out : Text) → bs ≡ t → false ≡ (length bs == 0) → out ≡ take (length bs - 1) t → true ≡ is_white (get_or bs (length bs - 1) 0)
    → before_white out ≡ before_white t
white_cut t bs out e some cut white =
    ap before_white (cut ∙ ap (λ (b : Text). take (length b - 1) t) e)
    ∙ white_end t (length t - 1) 0 (some_length (length t) (some ∙ ap (λ (b : Text). length b == 0) e))
    (sym (white ∙ ap (λ (b : Text). is_white (get_or b (length b - 1) 0)) e))

pub white_left : (t bs : Text) → bs ≡ t → false ≡ (length bs == 0) → false ≡ is_white (get_or bs (length bs - 1) 0) → before_white t ≡ t
white_left t bs e some white =
    other_end t (length t - 1) 0 (some_length (length t) (some ∙ ap (λ (b : Text). length b == 0) e))
    (sym (white ∙ ap (λ (b : Text). is_white (get_or b (length b - 1) 0)) e))
