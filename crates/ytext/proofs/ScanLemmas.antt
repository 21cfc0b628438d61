-- How each length of the tokens grows by a byte, at a place of the whole text.
use Rattle.std.proofs.Common.{◌≡◌, ℕ, suc, ◌+◌, ◌<◌, ◌≤◌, List, ◌∷◌, Bool, true, false, cond, Option, Some, None, option_map, length, drop, get_or, refl, ap, ◌∙◌, arith, drop-cons, ◌==◌, ◌&&◌, not}
use Rattle.std.proofs.lemmas.List.{drop_all}
use Rattle.yspec.specs.text.Text.{begins, star, slash, double_quote, backslash}
use Rattle.yspec_wide.specs.Texts.{is_quote, argument_length}
use Rattle.ytext.specs.Versions.{ends_run, run_length}
use Rattle.yspec.specs.text.Token.{ends_word, word_length, comment_rest_length, double_length}

pub drop_at : (xs : List ℕ) (i : ℕ) → i < length xs → drop i xs ≡ get_or xs i 0 ∷ drop (i + 1) xs
drop_at xs i h = let next : suc i ≡ i + 1 = omega arith in drop-cons xs i 0 h ∙ ap (λ (j : ℕ). get_or xs i 0 ∷ drop j xs) next

pub shift_some : (o : Option ℕ) (i : ℕ) → option_map (λ n. i + n) (option_map suc o) ≡ option_map (λ n. (i + 1) + n) o
shift_some None i = refl
shift_some (Some n) i = ap Some (omega arith)

pub run_test : (keeps_quotes : Bool) (x : ℕ) (xs : List ℕ) → ends_run keeps_quotes x xs ≡ (ends_word x xs && not (keeps_quotes && is_quote x))
run_test true x xs = refl
run_test false x xs = and_true (ends_word x xs)
  where
    and_true : (b : Bool) → b ≡ (b && true)
    and_true true = refl
    and_true false = refl

pub word_more : (keeps_quotes : Bool) (xs : List ℕ) (i : ℕ) → i < length xs → ends_run keeps_quotes (get_or xs i 0) (drop (i + 1) xs) ≡ false
    → i + run_length keeps_quotes (drop i xs) ≡ (i + 1) + run_length keeps_quotes (drop (i + 1) xs)
word_more false xs i h e =
    ap (λ (ys : List ℕ). i + word_length ys) (drop_at xs i h) ∙ ap (λ (b : Bool). i + cond b 0 (suc (word_length (drop (i + 1) xs)))) e ∙ omega arith
word_more true xs i h e =
    ap (λ (ys : List ℕ). i + argument_length ys) (drop_at xs i h) ∙ ap (λ (b : Bool). i + cond b 0 (suc (argument_length (drop (i + 1) xs)))) e ∙ omega arith

pub word_stops : (keeps_quotes : Bool) (xs : List ℕ) (i : ℕ) → i < length xs → ends_run keeps_quotes (get_or xs i 0) (drop (i + 1) xs) ≡ true
    → run_length keeps_quotes (drop i xs) ≡ 0
word_stops false xs i h e =
    ap word_length (drop_at xs i h) ∙ ap (λ (b : Bool). cond b 0 (suc (word_length (drop (i + 1) xs)))) e
word_stops true xs i h e =
    ap argument_length (drop_at xs i h) ∙ ap (λ (b : Bool). cond b 0 (suc (argument_length (drop (i + 1) xs)))) e

pub word_all : (keeps_quotes : Bool) (xs : List ℕ) (i : ℕ) → length xs ≤ i → run_length keeps_quotes (drop i xs) ≡ 0
word_all false xs i h = ap word_length (drop_all i xs h)
word_all true xs i h = ap argument_length (drop_all i xs h)

pub comment_more : (xs : List ℕ) (i : ℕ) → i < length xs → (get_or xs i 0 == star && begins slash (drop (i + 1) xs)) ≡ false
    → option_map (λ n. i + n) (comment_rest_length (drop i xs)) ≡ option_map (λ n. (i + 1) + n) (comment_rest_length (drop (i + 1) xs))
comment_more xs i h e =
    ap (λ (ys : List ℕ). option_map (λ n. i + n) (comment_rest_length ys)) (drop_at xs i h)
    ∙ ap (λ (b : Bool). option_map (λ n. i + n) (cond b (Some 2) (option_map suc (comment_rest_length (drop (i + 1) xs))))) e
    ∙ shift_some (comment_rest_length (drop (i + 1) xs)) i

pub comment_stops : (xs : List ℕ) (i : ℕ) → i < length xs → (get_or xs i 0 == star && begins slash (drop (i + 1) xs)) ≡ true
    → comment_rest_length (drop i xs) ≡ Some 2
comment_stops xs i h e =
    ap comment_rest_length (drop_at xs i h)
    ∙ ap (λ (b : Bool). cond b (Some 2) (option_map suc (comment_rest_length (drop (i + 1) xs)))) e

pub double_more : (escaped : Bool) (xs : List ℕ) (i : ℕ) → i < length xs → (not escaped && (get_or xs i 0 == double_quote)) ≡ false
    → option_map (λ n. i + n) (double_length escaped (drop i xs))
    ≡ option_map (λ n. (i + 1) + n) (double_length (not escaped && (get_or xs i 0 == backslash)) (drop (i + 1) xs))
double_more true xs i h e =
    ap (λ (ys : List ℕ). option_map (λ n. i + n) (double_length true ys)) (drop_at xs i h)
    ∙ shift_some (double_length false (drop (i + 1) xs)) i
double_more false xs i h e =
    ap (λ (ys : List ℕ). option_map (λ n. i + n) (double_length false ys)) (drop_at xs i h)
    ∙ ap (λ (b : Bool). option_map (λ n. i + n) (cond b (Some 0) (option_map suc (double_length (get_or xs i 0 == backslash) (drop (i + 1) xs))))) e
    ∙ shift_some (double_length (get_or xs i 0 == backslash) (drop (i + 1) xs)) i
