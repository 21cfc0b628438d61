-- Identifiers have no colon.
use Rattle.std.proofs.Common.{◌≡◌, ℕ, Bool, true, false, ◌&&◌, ◌||◌, [], ◌∷◌, length, refl, ap, ap₂, subst}
use Rattle.std.proofs.lemmas.Bool.{eqb-true, and_parts}
use Rattle.std.specs.Prelude.{◌==◌, nat_lt}
use Rattle.std.specs.List.{list_all}
use Rattle.yspec.specs.text.Text.{Text, colon, continues_identifier, begins_identifier, is_digit, is_identifier}
use Rattle.yspec.specs.document.Writing.{IsPlain}

no_colon : (c : ℕ) → continues_identifier c ≡ true → (c == colon) ≡ false
no_colon c e = go (c == colon) refl
  where
    go : (b : Bool) → (c == colon) ≡ b → b ≡ false
    go true is = let e' : continues_identifier 58 ≡ true = subst (λ x. continues_identifier x ≡ true) (eqb-true c colon is) e in absurd cc
    go false is = refl

plain_all : (cs : Text) → list_all continues_identifier cs ≡ true → IsPlain cs
plain_all [] e = refl
plain_all (c ∷ cs) e =
    let parts = and_parts (continues_identifier c) (list_all continues_identifier cs) e in
    ap₂ (λ a b. a || b) (no_colon c parts.0) (plain_all cs parts.1)

continues : (c : ℕ) → begins_identifier c ≡ true → continues_identifier c ≡ true
continues c e = ap (λ b. (b || is_digit c) || (c == 45 || c == 46)) e

pub identifier_plain : (t : Text) → is_identifier t ≡ true → IsPlain t
identifier_plain [] e = absurd cc
identifier_plain (c ∷ cs) e =
    let parts = and_parts (begins_identifier c) (list_all continues_identifier cs && nat_lt (length cs) 64) e in
    let rest = and_parts (list_all continues_identifier cs) (nat_lt (length cs) 64) parts.1 in
    ap₂ (λ a b. a || b) (no_colon c (continues c parts.0)) (plain_all cs rest.0)
