-- A text of plain bytes has no character that isn't allowed.
use Rattle.std.proofs.Common.{◌≡◌, ℕ, ◌+◌, ◌/◌, ◌%◌, ◌<◌, ◌≤◌, List, [], ◌∷◌, ◌++◌, Bool, true, false, not, ◌&&◌, ◌||◌, ◌==◌, cond, Some, None, nat_lt, nat_le, refl, ap, ◌∙◌, arith}
use Rattle.std.proofs.lemmas.Bool.Decides.{nat_tests}
use Rattle.std.proofs.lemmas.Bool.{and_parts, lt-leb, ltb-true, ltb-false}
use Rattle.std.proofs.lemmas.Nat.{div-add-mod', mod_below}
use Rattle.std.specs.List.{list_all}
use Rattle.std.specs.Char.{len_utf8}
use lib.Utf8.{encode, encodes}
use Rattle.yspec.specs.text.Text.{begins, tab, line_feed, carriage_return, space, is_noncharacter, is_yang_char, line_after, forbidden_line}
use Rattle.yspec.specs.text.Scanning.{forbidden_offset}
use Rattle.ytext.specs.Characters.{is_plain}

with_true : (x y : Bool) → (x || (y && not false)) ≡ (x || y)
with_true true y = refl
with_true false true = refl
with_true false false = refl

small_rest : (c : ℕ) → c < 61440 → c % 65536 < 65534
small_rest c h = omega (arith, h, div-add-mod' c 65536)

low_char : (c : ℕ) → c < 61440 → is_noncharacter c ≡ false
low_char c h =
    ap (λ (b : Bool). (b && nat_le c 0xFDEF) || nat_le 0xFFFE (c % 0x10000)) (lt-leb 0xFDD0 c (omega (arith, h)))
    ∙ lt-leb 0xFFFE (c % 0x10000) (small_rest c h)

low_yang : (c : ℕ) → c < 61440 → ((c == tab || c == line_feed) || nat_le space c) ≡ true → is_yang_char c ≡ true
low_yang c h e =
    ap (λ (b : Bool). (c == tab || c == line_feed) || (nat_le space c && not b)) (low_char c h)
    ∙ with_true (c == tab || c == line_feed) (nat_le space c) ∙ e

without_bound : (x y z : Bool) → (x || (y && z)) ≡ true → (x || y) ≡ true
without_bound true y z e = refl
without_bound false true z e = refl
without_bound false false z e = e

high_yang : (c : ℕ) → 128 ≤ c → c < 61440 → is_yang_char c ≡ true
high_yang c l h = low_yang c h (plain c l)
  where
    plain : (c : ℕ) → 128 ≤ c → ((c == tab || c == line_feed) || nat_le space c) ≡ true
    plain c l = grind (arith, nat_tests)

-- a lead byte of three bytes that is plain
low_lead : (c : ℕ) → is_plain (224 + c / 4096) ≡ true → c < 61440
low_lead c e = omega (arith, below (224 + c / 4096) e, div-add-mod' c 4096, mod_below c 4096 (omega arith))
  where
    below : (x : ℕ) → is_plain x ≡ true → x < 239
    below x e = grind (arith, nat_tests)

high_lead : (k : ℕ) → is_plain (240 + k) ≡ true → ⊥
high_lead k e = grind (arith, nat_tests)

pub plain_char : (c : ℕ) (rest : List ℕ) → list_all is_plain (encode c ++ rest) ≡ true
    → (is_yang_char c ≡ true) × (list_all is_plain rest ≡ true)
unfolding encode
plain_char c rest e = go (nat_lt c 128) (nat_lt c 2048) (nat_lt c 65536) refl refl refl e
  where
    go : (x y z : Bool) → nat_lt c 128 ≡ x → nat_lt c 2048 ≡ y → nat_lt c 65536 ≡ z
        → list_all is_plain (cond x (c ∷ []) (cond y ((192 + c / 64) ∷ (128 + c % 64) ∷ []) (cond z ((224 + c / 4096) ∷ (128 + (c / 64) % 64) ∷ (128 + c % 64) ∷ [])
        ((240 + c / 262144) ∷ (128 + (c / 4096) % 64) ∷ (128 + (c / 64) % 64) ∷ (128 + c % 64) ∷ []))) ++ rest) ≡ true
        → (is_yang_char c ≡ true) × (list_all is_plain rest ≡ true)
    go true y z a b d e =
        let parts = and_parts (is_plain c) (list_all is_plain rest) e in
        (low_yang c (omega (arith, ltb-true c 128 a)) (without_bound (c == tab || c == line_feed) (nat_le 32 c) (nat_lt c 239) parts.0), parts.1)
    go false true z a b d e =
        let one = and_parts (is_plain (192 + c / 64)) (is_plain (128 + c % 64) && list_all is_plain rest) e in
        (high_yang c (ltb-false c 128 a) (omega (arith, ltb-true c 2048 b)), (and_parts (is_plain (128 + c % 64)) (list_all is_plain rest) one.1).1)
    go false false true a b d e =
        let one = and_parts (is_plain (224 + c / 4096)) (is_plain (128 + (c / 64) % 64) && (is_plain (128 + c % 64) && list_all is_plain rest)) e in
        let two = and_parts (is_plain (128 + (c / 64) % 64)) (is_plain (128 + c % 64) && list_all is_plain rest) one.1 in
        (high_yang c (ltb-false c 128 a) (low_lead c one.0), (and_parts (is_plain (128 + c % 64)) (list_all is_plain rest) two.1).1)
    go false false false a b d e =
        absurd (high_lead (c / 262144) (and_parts (is_plain (240 + c / 262144)) _ e).0)

pub plain_line : (cs : List ℕ) (line : ℕ) → list_all is_plain (encodes cs) ≡ true → forbidden_line line cs ≡ None
plain_line [] line e = refl
plain_line (c ∷ cs) line e =
    let parts = plain_char c (encodes cs) e in
    ap (λ (b : Bool). cond (b || (c == carriage_return && begins line_feed cs)) (forbidden_line (line_after c line) cs) (Some line)) parts.0
    ∙ plain_line cs (line_after c line) parts.1

pub plain_place : (cs : List ℕ) (place : ℕ) → list_all is_plain (encodes cs) ≡ true → forbidden_offset place cs ≡ None
plain_place [] place e = refl
plain_place (c ∷ cs) place e =
    let parts = plain_char c (encodes cs) e in
    ap (λ (b : Bool). cond (b || (c == carriage_return && begins line_feed cs)) (forbidden_offset (place + len_utf8 c) cs) (Some place)) parts.0
    ∙ plain_place cs (place + len_utf8 c) parts.1
