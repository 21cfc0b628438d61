-- Words of a text, one after another.
use Rattle.std.proofs.Common.{◌≡◌, ℕ, zero, suc, ◌+◌, ◌<◌, List, [], ◌∷◌, ◌++◌, Bool, true, false, cond, Some, None, length, take, drop, get_or, ltb, refl, sym, ap, ◌∙◌, arith}
use Rattle.std.specs.Prelude.{position, ◌==◌}
use Rattle.std.specs.Prelude.{is_some}
use Rattle.std.specs.List.{position_or_len}
use Rattle.std.proofs.lemmas.Bool.{false≢true, ltb-false}
use Rattle.std.proofs.lemmas.List.Sums.{fails_before_first}
use Rattle.std.proofs.lemmas.List.{append_assoc, append-nil}
use Rattle.std.proofs.lemmas.List.Quantifiers.{position-Some}
use Rattle.yspec.specs.text.Text.{Text, is_white}
use Rattle.yspec_wide.specs.Expressions as spec
use Rattle.yspec_wide.specs.Expressions.{Sort, sort_of, with_word, next_tokens, tokens_from}
use Rattle.ylink_conditions.specs.View.{ends, ends_word, own, own_tokens}

-- ---- a word in front of tokens

pub word_in_front : (w : Text) (ts : List spec.Token) → with_word w ts ≡ with_word w [] ++ ts
word_in_front [] ts = refl
word_in_front (x ∷ xs) ts = refl

-- ---- one character

end_by : (s : Sort) (x : ℕ) (before : Text) (more : Text → List spec.Token) → ends s ≡ true
    → next_tokens s x before more ≡ with_word before (own s ++ more [])
end_by spec.white x before more e = refl
end_by spec.open_paren x before more e = refl
end_by spec.close_paren x before more e = refl
end_by spec.letter x before more e = absurd (false≢true e)

letter_by : (s : Sort) (x : ℕ) (before : Text) (more : Text → List spec.Token) → ends s ≡ false
    → next_tokens s x before more ≡ more (before ++ x ∷ [])
letter_by spec.white x before more e = absurd (false≢true (sym e))
letter_by spec.open_paren x before more e = absurd (false≢true (sym e))
letter_by spec.close_paren x before more e = absurd (false≢true (sym e))
letter_by spec.letter x before more e = refl

-- ---- up to the first that ends a word

parted : (before t : Text) (n d : ℕ) → n < length t → ((k : ℕ) → k < n → ends_word (get_or t k d) ≡ false) → ends_word (get_or t n d) ≡ true
    → tokens_from before t ≡ with_word (before ++ take n t) (own_tokens (get_or t n d) ++ tokens_from [] (drop (suc n) t))
unfolding tokens_from
parted before [] n d within inside here = absurd (omega (arith, within))
parted before (x ∷ xs) zero d within inside here =
    end_by (sort_of x) x before (λ t. tokens_from t xs) here
    ∙ ap (λ b. with_word b (own_tokens x ++ tokens_from [] xs)) (sym (append-nil before))
parted before (x ∷ xs) (suc n) d within inside here =
    letter_by (sort_of x) x before (λ t. tokens_from t xs) (inside 0 (omega arith))
    ∙ (parted (before ++ x ∷ []) xs n d (omega (arith, within)) (λ k less. inside (suc k) (omega (arith, less))) here
    ∙ ap (λ b. with_word b (own_tokens (get_or xs n d) ++ tokens_from [] (drop (suc n) xs))) (append_assoc before (x ∷ []) (take n xs)))

whole : (before t : Text) → ((k : ℕ) → k < length t → ends_word (get_or t k 0) ≡ false) → tokens_from before t ≡ with_word (before ++ t) []
unfolding tokens_from
whole before [] inside = ap (λ b. with_word b []) (sym (append-nil before))
whole before (x ∷ xs) inside =
    letter_by (sort_of x) x before (λ t. tokens_from t xs) (inside 0 (omega arith))
    ∙ (whole (before ++ x ∷ []) xs (λ k less. inside (suc k) (omega (arith, less)))
    ∙ ap (λ b. with_word b []) (append_assoc before (x ∷ []) xs))

-- ---- one turn

pub next_word : (t word more : Text) (n d : ℕ) → position ends_word t ≡ Some n → word ≡ take n t → more ≡ drop (n + 1) t
    → (so_far mid new goal : List spec.Token) → mid ≡ so_far ++ with_word word [] → new ≡ mid ++ own_tokens (get_or t n d)
    → so_far ++ tokens_from [] t ≡ goal → new ++ tokens_from [] more ≡ goal
next_word t word more n d found word_is more_is so_far mid new goal mid_is new_is made =
    let at = position-Some ends_word t n d found in
    let o = own_tokens (get_or t n d) in
    let rest = tokens_from [] (drop (suc n) t) in
    let one_more : n + 1 ≡ suc n = omega arith in
    ap (λ l. l ++ tokens_from [] more) (new_is ∙ ap (λ l. l ++ o) mid_is)
    ∙ (ap (λ m. ((so_far ++ with_word word []) ++ o) ++ tokens_from [] m) (more_is ∙ ap (λ k. drop k t) one_more)
    ∙ (append_assoc (so_far ++ with_word word []) o rest
    ∙ (append_assoc so_far (with_word word []) (o ++ rest)
    ∙ (ap (λ l. so_far ++ l) (sym (word_in_front word (o ++ rest)) ∙ (ap (λ w. with_word w (o ++ rest)) word_is ∙ sym (parted [] t n d at.0 at.2 at.1)))
    ∙ made))))

pub last_word : (t : Text) → position ends_word t ≡ None → (so_far new goal : List spec.Token) → new ≡ so_far ++ with_word t []
    → so_far ++ tokens_from [] t ≡ goal → new ≡ goal
last_word t none so_far new goal new_is made =
    new_is ∙ (ap (λ l. so_far ++ l) (sym (whole [] t (fails t none))) ∙ made)
  where
    fails : (t : Text) → position ends_word t ≡ None → (k : ℕ) → k < length t → ends_word (get_or t k 0) ≡ false
    fails t none k less = by (ltb (position_or_len ends_word t) (length t)) refl
      where
        by : (b : Bool) → ltb (position_or_len ends_word t) (length t) ≡ b → ends_word (get_or t k 0) ≡ false
        by true e = absurd (false≢true (sym (sym (ap (λ b. is_some (cond b (Some (position_or_len ends_word t)) None)) e) ∙ ap is_some none)))
        by false e = fails_before_first ends_word t k 0 (omega (arith, less, ltb-false _ _ e))

-- ---- what no parenthesis is

own_by : (w : Bool) → own (cond w spec.white (cond false spec.open_paren (cond false spec.close_paren spec.letter))) ≡ []
own_by true = refl
own_by false = refl

pub own_none : (x : ℕ) → (x == 40) ≡ false → (x == 41) ≡ false → own_tokens x ≡ []
own_none x first second =
    ap (λ b. own (cond (is_white x) spec.white (cond b spec.open_paren (cond (x == 41) spec.close_paren spec.letter)))) first
    ∙ (ap (λ b. own (cond (is_white x) spec.white (cond false spec.open_paren (cond b spec.close_paren spec.letter)))) second
    ∙ own_by (is_white x))
