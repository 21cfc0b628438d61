-- Numbers as texts: in documents (RFC 7951, 6.1), and as a module's defaults (RFC 7950, 9.2.1 and 9.3.1).
use Rattle.std.specs.Prelude.{ℕ, zero, suc, ◌+◌, ◌-◌, ◌*◌, ◌/◌, ◌%◌, ◌^◌, ◌==◌, ℤ, pos, negsuc, neg_ℤ, Bool, true, false, ◌||◌, take, drop, position, [], ◌∷◌, ◌++◌, length, codes, decimal, Option, Some, None, option_map, option_and_then, if◌then◌else◌, nat_lt, nat_le}
use Rattle.std.specs.Char.{digit_value}
use Rattle.std.specs.Fmt.{signed_decimal}
use Rattle.yspec.specs.text.Text.{Text, plus}

abbrev pub minus : ℕ
minus = 45

abbrev pub point : ℕ
point = 46

abbrev pub digit_zero : ℕ
digit_zero = 48

abbrev pub letter_x : ℕ
letter_x = 120

-- the number that further digits of a base make of the number so far
abbrev pub digits_from : ℕ → ℕ → Text → Option ℕ
digits_from base n [] = Some n
digits_from base n (c ∷ cs) =
    if nat_lt (digit_value c) base then digits_from base (n * base + digit_value c) cs else None

-- the number of a text of one digit or more of a base
abbrev pub number_in : ℕ → Text → Option ℕ
number_in base [] = None
number_in base (c ∷ cs) = digits_from base 0 (c ∷ cs)

abbrev pub is_negative : Text → Bool
is_negative [] = false
is_negative (c ∷ cs) = c == minus

-- what stands behind the sign, if one is in front
abbrev pub unsigned_part : Text → Text
unsigned_part [] = []
unsigned_part (c ∷ cs) = if c == plus || c == minus then cs else c ∷ cs

abbrev pub number_of_sign : Bool → ℕ → ℤ
number_of_sign true n = neg_ℤ (pos n)
number_of_sign false n = pos n

-- a sign may stand in front
abbrev pub signed : (Text → Option ℕ) → Text → Option ℤ
signed magnitude t = option_map (number_of_sign (is_negative t)) (magnitude (unsigned_part t))

-- a sign, and digits with any leading zeros
abbrev pub integer_of : Text → Option ℤ
integer_of t = signed (number_in 10) t

-- `0x` and hexadecimal digits, `0` and octal digits, or a number without a leading zero
abbrev pub default_magnitude : Text → Option ℕ
default_magnitude [] = None
default_magnitude (c ∷ []) = number_in 10 (c ∷ [])
default_magnitude (c ∷ d ∷ ds) = if c == digit_zero
    then (if d == letter_x then number_in 16 ds else number_in 8 (d ∷ ds)) else number_in 10 (c ∷ d ∷ ds)

abbrev pub default_integer_of : Text → Option ℤ
default_integer_of t = signed default_magnitude t

-- ---- decimal64, in units of its last digit

abbrev pub is_point : ℕ → Bool
is_point c = c == point

abbrev pub whole_units : ℕ → Text → Option ℕ
whole_units digits t = option_map (λ n. n * 10 ^ digits) (number_in 10 t)

-- what digits after the point add, where there are no more of them than the type has
abbrev pub fraction_units : ℕ → Text → Option ℕ
fraction_units digits t = if nat_le (length t) digits
    then option_map (λ n. n * 10 ^ (digits - length t)) (number_in 10 t) else None

abbrev pub added : Option ℕ → Option ℕ → Option ℕ
added a b = option_and_then (λ m. option_map (λ n. m + n) b) a

abbrev pub units_parted : ℕ → Text → Option ℕ → Option ℕ
units_parted digits t None = whole_units digits t
units_parted digits t (Some i) = added (whole_units digits (take i t)) (fraction_units digits (drop (i + 1) t))

-- digits, and perhaps a point and digits
abbrev pub decimal_magnitude : ℕ → Text → Option ℕ
decimal_magnitude digits t = units_parted digits t (position is_point t)

abbrev pub decimal_of : ℕ → Text → Option ℤ
decimal_of digits t = signed (decimal_magnitude digits) t

-- ---- canonical texts

abbrev pub with_sign : (ℕ → Text) → ℤ → Text
with_sign shown (pos n) = shown n
with_sign shown (negsuc n) = minus ∷ shown (suc n)

-- in decimal, without `+` and without leading zeros (RFC 7950, 9.2.2)
abbrev pub integer_text : ℤ → Text
integer_text z = signed_decimal z

-- the digits of a fraction of so many digits, without zeros at the end
abbrev pub fraction_digits : ℕ → ℕ → Text
fraction_digits zero n = []
fraction_digits (suc d) n = if n == 0 then [] else (digit_zero + n / 10 ^ d) ∷ fraction_digits d (n % 10 ^ d)

-- one digit at least
abbrev pub or_zero : Text → Text
or_zero [] = codes "0"
or_zero (c ∷ cs) = c ∷ cs

abbrev pub decimal_magnitude_text : ℕ → ℕ → Text
decimal_magnitude_text digits n =
    decimal (n / 10 ^ digits) ++ (point ∷ or_zero (fraction_digits digits (n % 10 ^ digits)))

-- a point with a digit on both sides, and no other zero at either end (RFC 7950, 9.3.2)
abbrev pub decimal_text : ℕ → ℤ → Text
decimal_text digits z = with_sign (decimal_magnitude_text digits) z
