-- A bound that is far from 0 is the same however far.
use Rattle.std.proofs.Common.{◌≡◌, ℕ, ◌^◌, Bool, min, [], ◌∷◌, Option, Some, None, refl, ap, ◌∙◌, arith}
use Rattle.std.specs.Prelude.{option_map, option_and_then}
use Rattle.ytype_numbers.specs.Words.{capped}
use Rattle.ytype_numbers.proofs.NumeralLemmas.{capped-digits_from}
use Rattle.yspec.specs.text.Text.{Text}
use Rattle.yspec.specs.types.Ranges.{Bound, number}
use Rattle.yspec.specs.types.Numerals.{number_of_sign}
use Rattle.std.specs.Option.{option_map_or}
use Rattle.yspec.specs.linking.Arguments.{number_bound, with_digits, trimmed, bound_of, cut_at_dots, span_between, span_of}

bound_again : (negative : Bool) (places n : ℕ) → number_bound negative (min n (2 ^ 64)) places ≡ number_bound negative n places
bound_again negative places n =
    let e : min (min n (2 ^ 64)) (2 ^ 64) ≡ min n (2 ^ 64) = omega arith in
    ap (λ m. number (number_of_sign negative m) (min places 19)) e

pub bound_capped : (negative : Bool) (places : ℕ) (o : Option ℕ)
    → option_map (λ n. number_bound negative n places) (capped o) ≡ option_map (λ n. number_bound negative n places) o
bound_capped negative places None = refl
bound_capped negative places (Some n) = ap Some (bound_again negative places n)

digits_capped : (n : ℕ) (digits : Text) → capped (with_digits (min n (2 ^ 64)) digits) ≡ capped (with_digits n digits)
digits_capped n [] = refl
digits_capped n (c ∷ cs) = capped-digits_from 10 n (c ∷ cs) (omega arith)

pub pointed_capped : (digits : Text) (o : Option ℕ)
    → option_and_then (λ n. capped (with_digits n digits)) (capped o) ≡ capped (option_and_then (λ n. with_digits n digits) o)
pointed_capped digits None = refl
pointed_capped digits (Some n) = digits_capped n digits

pub span_cut : (t first last a b : Text) (x y : Option Bound) → Some (first, last) ≡ cut_at_dots t → a ≡ trimmed first → b ≡ trimmed last
    → x ≡ bound_of a → y ≡ bound_of b → span_between x y ≡ span_of t
span_cut t first last a b x y cut ea eb ex ey =
    ap (λ o. span_between o y) (ex ∙ ap bound_of ea) ∙ ap (span_between (bound_of (trimmed first))) (ey ∙ ap bound_of eb)
    ∙ ap (λ o. option_map_or (λ p. span_between (bound_of (trimmed p.0)) (bound_of (trimmed p.1))) o (span_between (bound_of (trimmed t)) (bound_of (trimmed t)))) cut
