-- Of tests, results, texts and forests, whatever they stand for.
use Rattle.std.proofs.Common.{◌≡◌, ◌≢◌, ℕ, ◌<◌, Bool, true, false, cond, ◌||◌, [], ◌∷◌, Option, Some, None, Result, Ok, Err, IsUtf8, is_some, refl, sym, ◌∙◌, subst, arith}
use Rattle.std.specs.Prelude.{option_map}
use Rattle.std.proofs.lemmas.Slice.Eq.{bytes_eq-Decides}
use Rattle.std.proofs.lemmas.Str.{IsUtf8-encode, encode_ascii}
use lib.Utf8.{low_scalar}
use Rattle.yspec.specs.Forest.{first_of}
use Rattle.yspec.specs.Results.{◌>>=◌}
use Rattle.yspec.specs.text.Text.{Text, is_text}

pub or_parts : (a b : Bool) → (a || b) ≡ false → (a ≡ false) × (b ≡ false)
or_parts true b e = absurd cc
or_parts false b e = (refl, e)

-- a step and what follows it were both answered
pub bind_ok : {A B R : Type 0} (r : Result A R) (f : A → Result B R) (y : B) → (r >>= f) ≡ Ok y → (x : A) × (r ≡ Ok x) × (f x ≡ Ok y)
bind_ok (Ok x) f y e = (x, refl, e)
bind_ok (Err d) f y e = absurd cc

pub first_of_none : {X : Type 0} (o : Option X) → first_of o None ≡ o
first_of_none (Some x) = refl
first_of_none None = refl

pub is_some_map : {A B : Type 0} (f : A → B) (o : Option A) → is_some o ≡ is_some (option_map f o)
is_some_map f (Some x) = refl
is_some_map f None = refl

-- what holds of both arms
pub of_either : {A : Type 0} (P : A → Type 0) (b : Bool) (x y : A) → (b ≡ true → P x) → (b ≡ false → P y) → P (cond b x y)
of_either P true x y first second = first refl
of_either P false x y first second = second refl

-- ---- texts

pub ascii_text : (x : ℕ) → x < 128 → IsUtf8 (x ∷ [])
ascii_text x small = subst IsUtf8 (encode_ascii x small) (IsUtf8-encode x (low_scalar x (omega (arith, small))))

pub same_text : (a : Text) → is_text a a ≡ true
same_text a = (bytes_eq-Decides a a).1 refl

pub other_text : (a b : Text) → a ≢ b → is_text a b ≡ false
other_text a b other = go (is_text a b) refl
  where
    go : (t : Bool) → is_text a b ≡ t → t ≡ false
    go true e = absurd (other ((bytes_eq-Decides a b).0 e))
    go false e = refl

pub texts_differ : (a b : Text) → is_text a b ≡ false → a ≢ b
texts_differ a b e same = let is = (bytes_eq-Decides a b).1 same in absurd (let no : true ≡ false = sym is ∙ e in cc)
