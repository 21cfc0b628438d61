-- What the engine matches from byte to byte is what a pattern takes character by character, form by form.
use Rattle.std.specs.Prelude.{◌≡◌, ℕ, zero, suc, ◌+◌, ◌≤◌, true, List, [], ◌∷◌, ◌++◌, length, drop, Some, None, refl, encode_utf8, chars}
use Rattle.std.proofs.Common.{sym, ◌∙◌, ap, subst, arith, inl, inr, ⊎_elim, drop-drop, append-nil, append_assoc, length-drop, length-append, true≢false}
use Rattle.std.proofs.Math.Seq.{drop-append_seam, drop-length}
use Rattle.std.proofs.Math.Utf8.{encodes, scalars}
use Rattle.std.proofs.lemmas.Bool.{and_parts}
use Rattle.std.proofs.lemmas.Bool.Decides.{nat_tests}
use Rattle.std.proofs.lemmas.Str.{cons_from_encodes, length-encode, len_utf8_bounds, chars_from_encodes}
use Rattle.std.specs.Char.{IsScalar, len_utf8}
use Rattle.std.specs.Str.{IsUtf8}
use Rattle.regex_class.specs.Ranges.{in_ranges, HasExactly}
use Rattle.regex_hir.specs.Re.{Re, empty, cat, alt, byte_in, char_in}
use Rattle.regex_hir.specs.Meaning as kit
use Rattle.regex_hir.specs.Matches.{Matches}
use Rattle.regex_hir.proofs.TextLemmas.{char_at_parts, char_at_from}
use Rattle.regex_hir.proofs.MatchesLemmas.{Matches-IsSpan}
use Rattle.yspec_patterns.specs.Sets.{Set}
use Rattle.yspec_patterns.specs.Pattern.{Pattern, nothing, nil, one, both, either, repeat, Times, Fits}
use Rattle.ytype_patterns.specs.Means.{At, Sound, Full, Means}
use Rattle.ytype_patterns.proofs.RepeatLemmas.{Iter, iter_of_repeat, repeat_of_iter, iter_of_bounded, bounded_of_iter}

no_byte : (hay : List ℕ) (i j : ℕ) → Matches hay (byte_in []) i j → ⊥
unfolding in_ranges
no_byte hay i j m = true≢false (sym m.2)

-- a character of a text is one of Unicode
scalar_bound : (c : ℕ) → IsScalar c → c ≤ 0x10_FFFF
scalar_bound c s = grind (arith, nat_tests)

module _ (hay : List ℕ) where
  one_sound : (rs : List (ℕ × ℕ)) (set : Set) → HasExactly rs set → Sound hay (Fits (one set)) (Matches hay (char_in rs))
  one_sound rs set same i j (c, is, within, e) cs at =
      let p = char_at_parts hay i c is in
      let s = cons_from_encodes cs (drop (i + len_utf8 c) hay) c (sym at.1 ∙ p.1) in
      let codes = subst (λ x. scalars x ≡ true) s.1 at.0 in
      let known = and_parts _ _ codes in
      (c ∷ [], s.0, s.1, (known.1, ap (λ n. drop n hay) e ∙ sym s.2), (c, refl, sym (same c (scalar_bound c known.0)) ∙ within))

  one_full : (rs : List (ℕ × ℕ)) (set : Set) → HasExactly rs set → Full hay (Fits (one set)) (Matches hay (char_in rs))
  one_full rs set same i u v at (c, e, within) =
      let here = subst (λ x. At hay i (x ++ v)) e at in
      let codes = and_parts _ _ here.0 in
      let past = drop-drop (len_utf8 c) i hay in
      let rest = ap (drop (len_utf8 c)) here.1 ∙ ap (λ n. drop n (encode_utf8 c ++ encodes v)) (sym (length-encode c)) ∙ drop-append_seam (encode_utf8 c) (encodes v) in
      (i + len_utf8 c, (c, char_at_from hay i c (encodes v) codes.0 here.1, same c (scalar_bound c codes.0) ∙ within, refl), (codes.1, sym past ∙ rest))

  both_sound : (P Q : List ℕ → Type 0) (R S : ℕ → ℕ → Type 0) → Sound hay P R → Sound hay Q S → (i j l : ℕ) → R i l → S l j → (cs : List ℕ) → At hay i cs →
      (u : List ℕ) × (v : List ℕ) × (cs ≡ u ++ v) × At hay j v × ((a : List ℕ) × (b : List ℕ) × (u ≡ a ++ b) × P a × Q b)
  both_sound P Q R S f g i j l r s cs at =
      let x = f i l r cs at in
      let y = g l j s x.1 x.3 in
      (x.0 ++ y.0, y.1, x.2 ∙ ap (λ t. x.0 ++ t) y.2 ∙ sym (append_assoc x.0 y.0 y.1), y.3, (x.0, y.0, refl, x.4, y.4))

  both_full : (P Q : List ℕ → Type 0) (R S : ℕ → ℕ → Type 0) → Full hay P R → Full hay Q S → (i : ℕ) (u v a b : List ℕ) → At hay i (u ++ v) →
      u ≡ a ++ b → P a → Q b → (j : ℕ) × ((l : ℕ) × R i l × S l j) × At hay j v
  both_full P Q R S f g i u v a b at e p q =
      let here = subst (At hay i) (ap (λ t. t ++ v) e ∙ append_assoc a b v) at in
      let x = f i a (b ++ v) here p in
      let y = g x.0 b v x.2 q in
      (y.0, (x.0, x.1, y.1), y.2)

  iter_sound : (P : List ℕ → Type 0) (R : ℕ → ℕ → Type 0) → Sound hay P R → (k : ℕ) → Sound hay (Times P k) (Iter R k)
  iter_sound P R f zero i j e cs at = ([], cs, refl, subst (λ x. At hay x cs) (sym e) at, refl)
  iter_sound P R f (suc k) i j (l, r, m) cs at = both_sound P (Times P k) R (Iter R k) f (iter_sound P R f k) i j l r m cs at

  iter_full : (P : List ℕ → Type 0) (R : ℕ → ℕ → Type 0) → Full hay P R → (k : ℕ) → Full hay (Times P k) (Iter R k)
  iter_full P R f zero i u v at e = (i, refl, subst (λ x. At hay i (x ++ v)) e at)
  iter_full P R f (suc k) i u v at (a, b, e, p, q) = both_full P (Times P k) R (Iter R k) f (iter_full P R f k) i u v a b at e p q

-- ---- forms

pub nothing_means : Means (byte_in []) nothing
nothing_means = record {
  sound = λ hay i j m cs at. absurd (no_byte hay i j m);
  full = λ hay i u v at m. absurd m;
}

pub nil_means : Means empty nil
nil_means = record {
  sound = λ hay i j e cs at. ([], cs, refl, subst (λ x. At hay x cs) (sym e) at, refl);
  full = λ hay i u v at e. (i, refl, subst (λ x. At hay i (x ++ v)) e at);
}

pub one_means : (rs : List (ℕ × ℕ)) (set : Set) → HasExactly rs set → Means (char_in rs) (one set)
one_means rs set same = record { sound = λ hay. one_sound hay rs set same; full = λ hay. one_full hay rs set same }

pub both_means : (a b : Re) (p q : Pattern) → Means a p → Means b q → Means (cat a b) (both p q)
both_means a b p q m n = record {
  sound = λ hay i j found cs at. both_sound hay (Fits p) (Fits q) (Matches hay a) (Matches hay b) (m.sound hay) (n.sound hay) i j found.0 found.1 found.2 cs at;
  full = λ hay i u v at fits. both_full hay (Fits p) (Fits q) (Matches hay a) (Matches hay b) (m.full hay) (n.full hay) i u v fits.0 fits.1 at fits.2 fits.3 fits.4;
}

pub either_means : (a b : Re) (p q : Pattern) → Means a p → Means b q → Means (alt a b) (either p q)
either_means a b p q m n = record {
  sound = λ hay i j found cs at. ⊎_elim
      (λ r. let x = m.sound hay i j r cs at in (x.0, x.1, x.2, x.3, inl x.4))
      (λ r. let x = n.sound hay i j r cs at in (x.0, x.1, x.2, x.3, inr x.4)) found;
  full = λ hay i u v at fits. ⊎_elim
      (λ f. let x = m.full hay i u v at f in (x.0, inl x.1, x.2))
      (λ f. let x = n.full hay i u v at f in (x.0, inr x.1, x.2)) fits;
}

pub at_least_means : (least : ℕ) (a : Re) (p : Pattern) → Means a p → Means (kit.repeat least None true a) (repeat least None p)
at_least_means least a p m = record {
  sound = λ hay i j found cs at.
      let x = iter_of_repeat hay a least i j found in
      let y = iter_sound hay (Fits p) (Matches hay a) (m.sound hay) x.0 i j x.2 cs at in
      (y.0, y.1, y.2, y.3, (x.0, x.1, tt, y.4));
  full = λ hay i u v at fits.
      let x = iter_full hay (Fits p) (Matches hay a) (m.full hay) fits.0 i u v at fits.3 in
      (x.0, repeat_of_iter hay a least fits.0 i x.0 fits.1 x.1, x.2);
}

pub bounded_means : (least most : ℕ) (a : Re) (p : Pattern) → least ≤ most → Means a p → Means (kit.repeat least (Some most) true a) (repeat least (Some most) p)
bounded_means least most a p ordered m = record {
  sound = λ hay i j found cs at.
      let x = iter_of_bounded hay a least most i j ordered found in
      let y = iter_sound hay (Fits p) (Matches hay a) (m.sound hay) x.0 i j x.3 cs at in
      (y.0, y.1, y.2, y.3, (x.0, x.1, x.2, y.4));
  full = λ hay i u v at fits.
      let x = iter_full hay (Fits p) (Matches hay a) (m.full hay) fits.0 i u v at fits.3 in
      (x.0, bounded_of_iter hay a least most fits.0 i x.0 fits.1 fits.2 x.1, x.2);
}

-- ---- the whole of a text

encodes_nil : (cs : List ℕ) → encodes cs ≡ [] → cs ≡ []
encodes_nil [] e = refl
encodes_nil (c ∷ cs) e =
    absurd (omega (arith, ap length e, length-append (encode_utf8 c) (encodes cs), length-encode c, len_utf8_bounds c))

fits_of_matches : (re : Re) (p : Pattern) (cs : List ℕ) → Means re p → scalars cs ≡ true → Matches (encodes cs) re 0 (length (encodes cs)) → Fits p cs
fits_of_matches re p cs means s m =
    let x = means.sound (encodes cs) 0 (length (encodes cs)) m cs (s, refl) in
    let empty_rest = encodes_nil x.1 (sym x.3.1 ∙ drop-length (encodes cs)) in
    subst (Fits p) (sym (x.2 ∙ ap (λ t. x.0 ++ t) empty_rest ∙ append-nil x.0)) x.4

matches_of_fits : (re : Re) (p : Pattern) (cs : List ℕ) → Means re p → scalars cs ≡ true → Fits p cs → Matches (encodes cs) re 0 (length (encodes cs))
matches_of_fits re p cs means s m =
    let x = means.full (encodes cs) 0 cs [] (subst (λ t. scalars t ≡ true) (sym (append-nil cs)) s, ap encodes (sym (append-nil cs))) m in
    let span = Matches-IsSpan (encodes cs) re 0 x.0 x.1 in
    let past = ap length x.2.1 in
    let end : x.0 ≡ length (encodes cs) = omega (arith, length-drop x.0 (encodes cs)) in
    subst (Matches (encodes cs) re 0) end x.1

pub fits_of_bytes : (re : Re) (p : Pattern) (bs : List ℕ) → Means re p → IsUtf8 bs → Matches bs re 0 (length bs) → Fits p (chars bs)
fits_of_bytes re p bs means (cs, (s, e)) m =
    subst (Fits p) (chars_from_encodes cs bs (cs, (s, e)) e)
    (fits_of_matches re p cs means s (subst (λ t. Matches t re 0 (length t)) (sym e) m))

pub bytes_of_fits : (re : Re) (p : Pattern) (bs : List ℕ) → Means re p → IsUtf8 bs → Fits p (chars bs) → Matches bs re 0 (length bs)
bytes_of_fits re p bs means (cs, (s, e)) m =
    subst (λ t. Matches t re 0 (length t)) e
    (matches_of_fits re p cs means s (subst (Fits p) (sym (chars_from_encodes cs bs (cs, (s, e)) e)) m))
