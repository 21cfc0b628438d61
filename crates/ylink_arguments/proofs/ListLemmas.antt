-- Lists of which each item may be none, item by item.
use Rattle.std.proofs.Common.{◌≡◌, ℕ, Bool, false, List, [], ◌∷◌, ◌++◌, Option, Some, None, option_map, length, refl, sym, ap, ◌∙◌}
use Rattle.std.specs.Prelude.{option_and_then, filter, ◌==◌}
use Rattle.std.specs.List.{slice_split}
use Rattle.std.proofs.lemmas.List.{append_assoc, append-nil}
use Rattle.yspec.specs.text.Text.{Text, is_white}
use Rattle.yspec.specs.types.Names.{is_word}
use Rattle.yspec.specs.edit.EditText.{all_or_none}
use Rattle.yspec.specs.linking.Arguments.{words_between}

-- some items, and more behind them
abbrev pub with_more : {A : Type 0} → List A → Option (List A) → Option (List A)
with_more xs = option_map (λ more. xs ++ more)

pub none_yet : {A : Type 0} (o : Option (List A)) → with_more [] o ≡ o
none_yet None = refl
none_yet (Some xs) = refl

one_more : {A : Type 0} (xs : List A) (x : A) (o : Option (List A)) → with_more xs (option_map (λ more. x ∷ more) o) ≡ with_more (xs ++ x ∷ []) o
one_more xs x None = refl
one_more xs x (Some more) = ap Some (sym (append_assoc xs (x ∷ []) more))

abbrev pub first_and : {A : Type 0} → Option A → Option (List A) → Option (List A)
first_and first o = option_and_then (λ x. option_map (λ more. x ∷ more) o) first

some_first : {A : Type 0} (xs ys : List A) (x : A) (first : Option A) (o whole : Option (List A)) → ys ≡ xs ++ x ∷ [] → Some x ≡ first
    → with_more xs (first_and first o) ≡ whole → with_more ys o ≡ whole
some_first xs ys x first o whole made e so_far =
    ap (λ zs. with_more zs o) made ∙ sym (one_more xs x o) ∙ ap (λ f. with_more xs (first_and f o)) e ∙ so_far

no_first : {A : Type 0} (xs : List A) (first : Option A) (o whole : Option (List A)) → None ≡ first
    → with_more xs (first_and first o) ≡ whole → None ≡ whole
no_first xs first o whole e so_far = ap (λ f. with_more xs (first_and f o)) e ∙ so_far

-- ---- a text's parts, each read

-- the parts of a text read, and what its first part, which is or isn't read, makes of the whole
pub read_part : {A : Type 0} (f : Text → Option A) (test : ℕ → Bool) (t part more : Text) (xs ys : List A) (x : A) (whole : Option (List A))
    → slice_split test t ≡ part ∷ slice_split test more → ys ≡ xs ++ x ∷ [] → Some x ≡ f part
    → with_more xs (all_or_none f (slice_split test t)) ≡ whole → with_more ys (all_or_none f (slice_split test more)) ≡ whole
read_part f test t part more xs ys x whole parts made e so_far =
    some_first xs ys x (f part) (all_or_none f (slice_split test more)) whole made e
    (sym (ap (λ ps. with_more xs (all_or_none f ps)) parts) ∙ so_far)

pub unread_part : {A : Type 0} (f : Text → Option A) (test : ℕ → Bool) (t part more : Text) (xs : List A) (whole : Option (List A))
    → slice_split test t ≡ part ∷ slice_split test more → None ≡ f part
    → with_more xs (all_or_none f (slice_split test t)) ≡ whole → None ≡ whole
unread_part f test t part more xs whole parts e so_far =
    no_first xs (f part) (all_or_none f (slice_split test more)) whole e (sym (ap (λ ps. with_more xs (all_or_none f ps)) parts) ∙ so_far)

pub read_last : {A : Type 0} (f : Text → Option A) (test : ℕ → Bool) (t : Text) (xs ys : List A) (x : A) (whole : Option (List A))
    → slice_split test t ≡ t ∷ [] → ys ≡ xs ++ x ∷ [] → Some x ≡ f t
    → with_more xs (all_or_none f (slice_split test t)) ≡ whole → Some ys ≡ whole
read_last f test t xs ys x whole parts made e so_far =
    ap Some (sym (append-nil ys)) ∙ some_first xs ys x (f t) (Some []) whole made e (sym (ap (λ ps. with_more xs (all_or_none f ps)) parts) ∙ so_far)

pub unread_last : {A : Type 0} (f : Text → Option A) (test : ℕ → Bool) (t : Text) (xs : List A) (whole : Option (List A))
    → slice_split test t ≡ t ∷ [] → None ≡ f t
    → with_more xs (all_or_none f (slice_split test t)) ≡ whole → None ≡ whole
unread_last f test t xs whole parts e so_far =
    no_first xs (f t) (Some []) whole e (sym (ap (λ ps. with_more xs (all_or_none f ps)) parts) ∙ so_far)

-- ---- a text's words, each read

abbrev words : List Text → List Text
words = filter is_word

word_first : (part : Text) (parts : List Text) → false ≡ (length part == 0) → words (part ∷ parts) ≡ part ∷ words parts
word_first [] parts e = absurd cc
word_first (x ∷ xs) parts e = refl

pub read_word : {A : Type 0} (f : Text → Option A) (t part more : Text) (xs ys : List A) (x : A) (whole : Option (List A))
    → slice_split is_white t ≡ part ∷ slice_split is_white more → false ≡ (length part == 0) → ys ≡ xs ++ x ∷ [] → Some x ≡ f part
    → with_more xs (all_or_none f (words_between t)) ≡ whole → with_more ys (all_or_none f (words_between more)) ≡ whole
read_word f t part more xs ys x whole parts some made e so_far =
    some_first xs ys x (f part) (all_or_none f (words_between more)) whole made e
    (sym (ap (λ ps. with_more xs (all_or_none f (words ps))) parts ∙ ap (λ ps. with_more xs (all_or_none f ps)) (word_first part (slice_split is_white more) some)) ∙ so_far)
