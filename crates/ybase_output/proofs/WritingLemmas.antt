-- Writing one text after another.
use Rattle.std.proofs.Common.{◌≡◌, ℕ, ◌+◌, List, [], ◌++◌, length, take, min, Option, Some, None, refl, sym, subst, ap, ◌∙◌, append_assoc, arith}
use Rattle.std.specs.Prelude.{Result, Ok, Err, IsErr}
use Rattle.std.proofs.lemmas.List.{append-nil, take-append-le, take_min}
use Rattle.std.proofs.Math.Seq.{take-append-add}
use Rattle.ybase_output.specs.Sink.{followed_by}
use Rattle.ybase_output.specs.Writing.{Side, Wrote, Broke, Writes}

pub followed_by_both : (t : Option (List ℕ)) (xs ys : List ℕ) → followed_by (followed_by t xs) ys ≡ followed_by t (xs ++ ys)
followed_by_both None xs ys = refl
followed_by_both (Some before) xs ys = ap Some (append_assoc before xs ys)

pub followed_by_none : (t : Option (List ℕ)) → followed_by t [] ≡ t
followed_by_none None = refl
followed_by_none (Some before) = ap Some (append-nil before)

pub wrote_none : (s : Side) → Wrote s s []
wrote_none s = record { taken = sym (followed_by_none s.taken); failures = refl }

pub wrote_both : (a b c : Side) (xs ys : List ℕ) → Wrote a b xs → Wrote b c ys → Wrote a c (xs ++ ys)
wrote_both a b c xs ys first second = record {
  taken = second.taken ∙ ap (λ (t : Option (List ℕ)). followed_by t ys) first.taken ∙ followed_by_both a.taken xs ys;
  failures = second.failures ∙ first.failures;
}

pub broke_second : (a b c : Side) (xs ys : List ℕ) → Wrote a b xs → Broke b c ys → Broke a c (xs ++ ys)
broke_second a b c xs ys first second = record {
  count = length xs + second.count;
  taken = second.taken ∙ ap (λ (t : Option (List ℕ)). followed_by t (take second.count ys)) first.taken
      ∙ followed_by_both a.taken xs (take second.count ys)
      ∙ ap (λ (zs : List ℕ). followed_by a.taken zs) (sym (take-append-add xs ys second.count));
  failures = second.failures ∙ ap (λ (n : ℕ). n + 1) first.failures;
}

pub broke_first : (a b : Side) (xs ys : List ℕ) → Broke a b xs → Broke a b (xs ++ ys)
broke_first a b xs ys first = record {
  count = min first.count (length xs);
  taken = first.taken ∙ ap (λ (zs : List ℕ). followed_by a.taken zs)
      (sym (take_min first.count xs) ∙ sym (take-append-le (min first.count (length xs)) xs ys (omega arith)));
  failures = first.failures;
}

-- other texts, which are equal
pub wrote_same : (a b : Side) (xs ys : List ℕ) → xs ≡ ys → Wrote a b xs → Wrote a b ys
wrote_same a b xs ys e w = subst (λ zs. Wrote a b zs) e w

pub broke_same : (a b : Side) (xs ys : List ℕ) → xs ≡ ys → Broke a b xs → Broke a b ys
broke_same a b xs ys e w = subst (λ zs. Broke a b zs) e w

pub writes_err : {X E : Type 0} → (a b : Side) (bytes : List ℕ) (r : Result X E) → IsErr r → Broke a b bytes → Writes a b bytes r
writes_err a b bytes (Ok x) e w = cc
writes_err a b bytes (Err x) e w = w

pub writes_same : {X E : Type 0} → (a b : Side) (xs ys : List ℕ) (r : Result X E) → xs ≡ ys → Writes a b xs r → Writes a b ys r
writes_same a b xs ys r e w = subst (λ zs. Writes a b zs r) e w

-- ---- a text that is written part by part

-- what is written of it, and what is left
pub record Left (before now : Side) (whole rest : List ℕ) : Type 0 where
  pub written : List ℕ
  pub wrote : Wrote before now written
  pub is : written ++ rest ≡ whole

pub left_all : (a : Side) (whole : List ℕ) → Left a a whole whole
left_all a whole = record { written = []; wrote = wrote_none a; is = refl }

pub left_same : (a b : Side) (whole xs ys : List ℕ) → xs ≡ ys → Left a b whole xs → Left a b whole ys
left_same a b whole xs ys e l = subst (λ zs. Left a b whole zs) e l

pub left_after : (a b c : Side) (whole xs ys : List ℕ) → Left a b whole (xs ++ ys) → Wrote b c xs → Left a c whole ys
left_after a b c whole xs ys l w = record {
  written = l.written ++ xs;
  wrote = wrote_both a b c l.written xs l.wrote w;
  is = append_assoc l.written xs ys ∙ l.is;
}

pub left_none : (a b : Side) (whole : List ℕ) → Left a b whole [] → Wrote a b whole
left_none a b whole l = wrote_same a b l.written whole (sym (append-nil l.written) ∙ l.is) l.wrote

pub left_broken : (a b c : Side) (whole xs ys : List ℕ) → Left a b whole (xs ++ ys) → Broke b c xs → Broke a c whole
left_broken a b c whole xs ys l broken = broke_same a c (l.written ++ (xs ++ ys)) whole l.is
    (broke_second a b c l.written (xs ++ ys) l.wrote (broke_first b c xs ys broken))

-- ---- whatever a call answered

pub writes_after : {X E : Type 0} → (a b c : Side) (xs ys : List ℕ) (r : Result X E) → Wrote a b xs → Writes b c ys r → Writes a c (xs ++ ys) r
writes_after a b c xs ys (Ok x) first second = wrote_both a b c xs ys first second
writes_after a b c xs ys (Err e) first second = broke_second a b c xs ys first second

-- the last part of a text
pub left_last : {X E : Type 0} → (a b c : Side) (whole xs : List ℕ) (r : Result X E) → Left a b whole xs → Writes b c xs r → Writes a c whole r
left_last a b c whole xs r l w = writes_same a c (l.written ++ xs) whole r l.is (writes_after a b c l.written xs r l.wrote w)

-- a part of a text, after which it ended
pub left_failed : {X E : Type 0} → (a b c : Side) (whole xs ys : List ℕ) (r : Result X E) → IsErr r → Left a b whole (xs ++ ys) → Broke b c xs
    → Writes a c whole r
left_failed a b c whole xs ys r failed l broken = writes_err a c whole r failed (left_broken a b c whole xs ys l broken)
