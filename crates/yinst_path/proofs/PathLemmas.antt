-- How the numbers, keys and steps in a text are read one after the other.
use Rattle.std.proofs.Common.{◌≡◌, ℕ, ◌+◌, ◌-◌, ◌*◌, ◌<◌, ◌≤◌, min, ◌==◌, true, false, List, [], ◌∷◌, ◌++◌, Option, Some, None, option_map, length, drop, get_or, refl, sym, ap, ◌∙◌, arith}
use Rattle.std.specs.Prelude.{option_and_then}
use Rattle.std.proofs.lemmas.Bool.Decides.{nat_tests}
use Rattle.std.proofs.lemmas.List.{at_drop_more, at_drop_all, append_assoc, append-nil}
use Rattle.yspec.specs.text.Text.{Text}
use Rattle.yspec.specs.edit.EditText.{Key, cut_at, parts_at, keys_of, key_in, no_keys, close_bracket, all_or_none, digits_value, last_position}
use Rattle.yinst_path.proofs.CutLemmas.{parts_of, parts_by_cut}

-- ---- digits

again : (n : ℕ) (ds : Text) → min (digits_value (min n last_position) ds) last_position ≡ min (digits_value n ds) last_position
again n [] = omega arith
again n (x ∷ xs) =
    let same : min (min n last_position * 10 + (x - 48)) last_position ≡ min (n * 10 + (x - 48)) last_position = omega arith in
    sym (again (min n last_position * 10 + (x - 48)) xs) ∙ ap (λ (m : ℕ). min (digits_value m xs) last_position) same ∙ again (n * 10 + (x - 48)) xs

pub digits_step : (n i m : ℕ) (ds : Text) (t : ℕ) → i < length ds → m ≡ min (n * 10 + (get_or ds i 0 - 48)) last_position
    → min (digits_value n (drop i ds)) last_position ≡ t → min (digits_value m (drop (i + 1) ds)) last_position ≡ t
digits_step n i m ds t lt made so_far =
    ap (λ (k : ℕ). min (digits_value k (drop (i + 1) ds)) last_position) made ∙ again (n * 10 + (get_or ds i 0 - 48)) (drop (i + 1) ds)
    ∙ sym (at_drop_more (λ (xs : Text). min (digits_value n xs) last_position) ds i 0 lt) ∙ so_far

pub digits_end : (n i : ℕ) (ds : Text) (t : ℕ) → length ds ≤ i → n ≤ last_position → min (digits_value n (drop i ds)) last_position ≡ t → n ≡ t
digits_end n i ds t le fits so_far =
    let last = at_drop_all (λ (xs : Text). min (digits_value n xs) last_position) ds i le in
    omega (arith, last, so_far, fits)

-- ---- lists of which each item may be none

-- some items, and more behind them
abbrev pub with_more : {A : Type 0} → List A → Option (List A) → Option (List A)
with_more xs = option_map (λ more. xs ++ more)

pub none_yet : {A : Type 0} (o : Option (List A)) → with_more [] o ≡ o
none_yet None = refl
none_yet (Some xs) = refl

one_more : {A : Type 0} (xs : List A) (x : A) (o : Option (List A)) → with_more xs (option_map (λ more. x ∷ more) o) ≡ with_more (xs ++ x ∷ []) o
one_more xs x None = refl
one_more xs x (Some more) = ap Some (sym (append_assoc xs (x ∷ []) more))

abbrev pub first_and : {A : Type 0} → Option A → Option (List A) → Option (List A)
first_and first o = option_and_then (λ x. option_map (λ more. x ∷ more) o) first

pub some_first : {A : Type 0} (xs ys : List A) (x : A) (first : Option A) (o whole : Option (List A)) → ys ≡ xs ++ x ∷ [] → Some x ≡ first
    → with_more xs (first_and first o) ≡ whole → with_more ys o ≡ whole
some_first xs ys x first o whole made e so_far =
    ap (λ zs. with_more zs o) made ∙ sym (one_more xs x o) ∙ ap (λ f. with_more xs (first_and f o)) e ∙ so_far

pub no_first : {A : Type 0} (xs : List A) (first : Option A) (o whole : Option (List A)) → None ≡ first
    → with_more xs (first_and first o) ≡ whole → None ≡ whole
no_first xs first o whole e so_far = ap (λ f. with_more xs (first_and f o)) e ∙ so_far

-- ---- keys

key_first : (stop : ℕ) (part t : Text) (o : Option (Text × Text)) → keys_of (part ∷ parts_of stop t o) ≡ first_and (key_in part) (keys_of (parts_of stop t o))
key_first stop part t None = refl
key_first stop part t (Some cut) = refl

pub keys_cut : (t part more : Text) → Some (part, more) ≡ cut_at close_bracket None t
    → keys_of (parts_at close_bracket None t) ≡ first_and (key_in part) (keys_of (parts_at close_bracket None more))
keys_cut t part more e =
    ap keys_of (parts_by_cut close_bracket None t ∙ ap (parts_of close_bracket t) (sym e))
    ∙ ap (λ ps. keys_of (part ∷ ps)) (parts_by_cut close_bracket None more)
    ∙ key_first close_bracket part more (cut_at close_bracket None more)
    ∙ ap (λ ps. first_and (key_in part) (keys_of ps)) (sym (parts_by_cut close_bracket None more))

pub keys_uncut : (t : Text) → None ≡ cut_at close_bracket None t → keys_of (parts_at close_bracket None t) ≡ no_keys t
keys_uncut t e = ap keys_of (parts_by_cut close_bracket None t ∙ ap (parts_of close_bracket t) (sym e))

all_read : (ks : List Key) (t : Text) → true ≡ (length t == 0) → Some ks ≡ with_more ks (no_keys t)
all_read ks [] e = ap Some (sym (append-nil ks))
all_read ks (x ∷ xs) e = grind (arith, nat_tests)

some_left : (ks : List Key) (t : Text) → false ≡ (length t == 0) → None ≡ with_more ks (no_keys t)
some_left ks [] e = absurd cc
some_left ks (x ∷ xs) e = refl

pub keys_end : (ks : List Key) (t : Text) (whole : Option (List Key)) → None ≡ cut_at close_bracket None t → true ≡ (length t == 0)
    → with_more ks (keys_of (parts_at close_bracket None t)) ≡ whole → Some ks ≡ whole
keys_end ks t whole e empty so_far = all_read ks t empty ∙ ap (with_more ks) (sym (keys_uncut t e)) ∙ so_far

pub keys_left : (ks : List Key) (t : Text) (whole : Option (List Key)) → None ≡ cut_at close_bracket None t → false ≡ (length t == 0)
    → with_more ks (keys_of (parts_at close_bracket None t)) ≡ whole → None ≡ whole
keys_left ks t whole e left so_far = some_left ks t left ∙ ap (with_more ks) (sym (keys_uncut t e)) ∙ so_far

-- ---- steps

pub each_cut : {B : Type 0} (f : Text → Option B) (stop : ℕ) (t part more : Text) → Some (part, more) ≡ cut_at stop None t
    → all_or_none f (parts_at stop None t) ≡ first_and (f part) (all_or_none f (parts_at stop None more))
each_cut f stop t part more e = ap (all_or_none f) (parts_by_cut stop None t ∙ ap (parts_of stop t) (sym e))

pub each_uncut : {B : Type 0} (f : Text → Option B) (stop : ℕ) (t : Text) → None ≡ cut_at stop None t
    → all_or_none f (parts_at stop None t) ≡ first_and (f t) (Some [])
each_uncut f stop t e = ap (all_or_none f) (parts_by_cut stop None t ∙ ap (parts_of stop t) (sym e))

pub last_item : {B : Type 0} (xs ys : List B) (x : B) (first : Option B) (whole : Option (List B)) → ys ≡ xs ++ x ∷ [] → Some x ≡ first
    → with_more xs (first_and first (Some [])) ≡ whole → Some ys ≡ whole
last_item xs ys x first whole made e so_far = ap Some (sym (append-nil ys)) ∙ some_first xs ys x first (Some []) whole made e so_far
