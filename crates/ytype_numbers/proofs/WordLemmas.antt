-- How the words of a text are collected.
use Rattle.std.proofs.Common.{◌≡◌, ℕ, Bool, true, false, cond, Bor, ◌+◌, ◌<◌, List, [], ◌∷◌, ◌++◌, length, drop, get_or, sym, ap, ◌∙◌, append_assoc}
use Rattle.std.specs.Prelude.{filter}
use Rattle.std.proofs.lemmas.List.{at_drop_more, map-append}
use Rattle.yspec.specs.text.Text.{Text}
use Rattle.yspec.specs.types.Names.{is_word}
use Rattle.ytype_numbers.specs.Words.{words_in}

-- ---- one step of a loop that collects what a function F answers of what is left

pub taken_more : {A B : Type 0} (F : List A → List B) (so_far : List B) (xs : List A) (i : ℕ) (d : A) (y : B) → i < length xs
    → F (get_or xs i d ∷ drop (i + 1) xs) ≡ y ∷ F (drop (i + 1) xs) → (so_far ++ y ∷ []) ++ F (drop (i + 1) xs) ≡ so_far ++ F (drop i xs)
taken_more {A} {B} F so_far xs i d y l e =
    append_assoc so_far (y ∷ []) (F (drop (i + 1) xs)) ∙ ap (λ (ys : List B). so_far ++ ys) (sym (at_drop_more F xs i d l ∙ e))

pub passed_more : {A B : Type 0} (F : List A → List B) (so_far : List B) (xs : List A) (i : ℕ) (d : A) → i < length xs
    → F (get_or xs i d ∷ drop (i + 1) xs) ≡ F (drop (i + 1) xs) → so_far ++ F (drop (i + 1) xs) ≡ so_far ++ F (drop i xs)
passed_more {A} {B} F so_far xs i d l e = ap (λ (ys : List B). so_far ++ ys) (sym (at_drop_more F xs i d l ∙ e))

abbrev words_left : List (Bor Text) → List Text
words_left pieces = filter is_word (words_in pieces)

of_test : (b c : Bool) (p : Text) (rest : List Text) → b ≡ c → cond c (p ∷ rest) rest ≡ cond b (p ∷ rest) rest
of_test b c p rest e = ap (λ (t : Bool). cond t (p ∷ rest) rest) (sym e)

pub word_taken : (words new pieces : List (Bor Text)) (i : ℕ) (d : Bor Text) → i < length pieces → new ≡ words ++ get_or pieces i d ∷ [] → true ≡ is_word (get_or pieces i d).now
    → words_in new ++ words_left (drop (i + 1) pieces) ≡ words_in words ++ words_left (drop i pieces)
word_taken words new pieces i d l pushed e =
    ap (λ (ws : List (Bor Text)). words_in ws ++ words_left (drop (i + 1) pieces)) pushed
    ∙ ap (λ (ws : List Text). ws ++ words_left (drop (i + 1) pieces)) (map-append (λ (w : Bor Text). w.now) words (get_or pieces i d ∷ []))
    ∙ taken_more words_left (words_in words) pieces i d (get_or pieces i d).now l (of_test true (is_word (get_or pieces i d).now) _ _ e)

pub word_passed : (words new pieces : List (Bor Text)) (i : ℕ) (d : Bor Text) → i < length pieces → new ≡ words → false ≡ is_word (get_or pieces i d).now
    → words_in new ++ words_left (drop (i + 1) pieces) ≡ words_in words ++ words_left (drop i pieces)
word_passed words new pieces i d l same e =
    ap (λ (ws : List (Bor Text)). words_in ws ++ words_left (drop (i + 1) pieces)) same
    ∙ passed_more words_left (words_in words) pieces i d l (of_test false (is_word (get_or pieces i d).now) (get_or pieces i d).now _ e)
