-- How the tokens from a place on go on behind what stands there.
use Rattle.std.proofs.Common.{◌≡◌, ℕ, zero, suc, ◌+◌, ◌-◌, ◌<◌, ◌≤◌, List, [], ◌∷◌, Bool, true, false, cond, Option, Some, None, option_map, length, take, drop, get_or, ◌++◌, refl, sym, ap, ◌∙◌, arith, length-drop, ◌==◌}
use Rattle.std.specs.Prelude.{slice_range}
use Rattle.std.proofs.lemmas.Bool.{ne_eqb}
use Rattle.std.proofs.lemmas.List.{take_more, get_or-drop, drop-drop}
use Rattle.std.specs.Option.{option_map_or}
use Rattle.yspec.specs.text.Text.{line_after, begins, is_white}
use Rattle.yspec.specs.text.Scanning.{Piece, piece_at}
use Rattle.yspec_wide.specs.Texts.{read_front, longer_word}
use Rattle.ytext.specs.Versions.{run_length, front_at, pieces_met, pieces_by}
use Rattle.ytext.specs.declared.lexeme.Standing.{Standing}
use Rattle.ytext.specs.declared.lexeme.Standing.TheVariants.{Anywhere, BeforeKeyword, BeforeArgument, BehindArgument}
use Rattle.yspec.specs.text.Token.{Front, column_after, column_behind, front, at, finish, token, word, word_length, gap, last, unclosed_comment, slash_front, comment_front, comment_rest_length, line_comment_length}
use Rattle.ytext.proofs.ScanLemmas.{drop_at}

-- the first byte of a piece is passed over like the others
pub first_passed : (s : Standing) (n start line column x : ℕ) (xs : List ℕ) → 0 < n
    → pieces_by s (n - 1) (start + 1) (line_after x line) (column_after x column) xs ≡ pieces_by s n start line column (x ∷ xs)
unfolding pieces_by
first_passed s zero start line column x xs h = absurd (omega (arith, h))
first_passed s (suc n) start line column x xs h = let one : suc n - 1 ≡ n = omega arith in
    ap (λ (m : ℕ). pieces_by s m (start + 1) (line_after x line) (column_after x column) xs) one

-- the pieces behind so many bytes, the first of which is at hand
abbrev pub met_rest : ℕ → ℕ → List ℕ → ℕ → Standing → ℕ → List Piece
met_rest line column text i next n = pieces_by next (n - 1) (i + 1) (line_after (get_or text i 0) line) (column_after (get_or text i 0) column) (drop (i + 1) text)

pub met_at : (s : Standing) (line column : ℕ) (text : List ℕ) (i : ℕ) → i < length text → pieces_by s 0 i line column (drop i text)
    ≡ pieces_met s i line (front_at s column (get_or text i 0) (drop (i + 1) text)) (met_rest line column text i)
unfolding pieces_by
met_at s line column text i h = ap (λ (xs : List ℕ). pieces_by s 0 i line column xs) (drop_at text i h)

pub passed_at : (s : Standing) (n line column : ℕ) (text : List ℕ) (i : ℕ) → i < length text → pieces_by s (suc n) i line column (drop i text)
    ≡ pieces_by s n (i + 1) (line_after (get_or text i 0) line) (column_after (get_or text i 0) column) (drop (i + 1) text)
unfolding pieces_by
passed_at s n line column text i h = ap (λ (xs : List ℕ). pieces_by s (suc n) i line column xs) (drop_at text i h)

pub at_end : (s : Standing) (start line column : ℕ) → pieces_by s 0 start line column [] ≡ piece_at start start (at line finish) ∷ []
unfolding pieces_by
at_end s start line column = refl

-- a byte of white space is passed over
pub white_passed : (s : Standing) (line column : ℕ) (text : List ℕ) (i : ℕ) → i < length text → is_white (get_or text i 0) ≡ true
    → pieces_by s 0 i line column (drop i text) ≡ pieces_by s 1 i line column (drop i text)
white_passed s line column text i h e =
    met_at s line column text i h
    ∙ ap (λ (f : Front). pieces_met s i line f (met_rest line column text i)) (front_white s column (get_or text i 0) (drop (i + 1) text) e)
    ∙ sym (passed_at s 0 line column text i h)
  where
    plain_white : (column x : ℕ) (xs : List ℕ) → is_white x ≡ true → front column x xs ≡ gap 1
    plain_white column x xs e = rw e refl

    front_white : (s : Standing) (column x : ℕ) (xs : List ℕ) → is_white x ≡ true → front_at s column x xs ≡ gap 1
    front_white Anywhere column x xs e = plain_white column x xs e
    front_white BeforeKeyword column x xs e = ap read_front (plain_white column x xs e)
    front_white BeforeArgument column x xs e = ap (λ (f : Front). read_front (longer_word x xs f)) (plain_white column x xs e)
    front_white BehindArgument column x xs e = ap read_front (plain_white column x xs e)

-- ---- columns

column_over : (column : ℕ) (xs ys : List ℕ) → column_behind column (xs ++ ys) ≡ column_behind (column_behind column xs) ys
column_over column [] ys = refl
column_over column (x ∷ xs) ys = column_over (column_after x column) xs ys

-- a stretch of a text with the next byte
pub stretched : (text : List ℕ) (i j : ℕ) → i ≤ j → j < length text → slice_range text i (j + 1) ≡ slice_range text i j ++ get_or text j 0 ∷ []
stretched text i j h l =
    let more : (j + 1) - i ≡ (j - i) + 1 = omega arith in
    let within : j - i < length (drop i text) = omega (arith, length-drop i text) in
    let there : i + (j - i) ≡ j = omega arith in
    ap (λ (n : ℕ). take n (drop i text)) more ∙ take_more (drop i text) (j - i) 0 within
    ∙ ap (λ (x : ℕ). take (j - i) (drop i text) ++ x ∷ []) (get_or-drop i text (j - i) 0 ∙ ap (λ (k : ℕ). get_or text k 0) there)

pub column_more : (text : List ℕ) (i j : ℕ) → i ≤ j → j < length text
    → column_behind 1 (slice_range text i (j + 1)) ≡ column_after (get_or text j 0) (column_behind 1 (slice_range text i j))
column_more text i j h l =
    ap (column_behind 1) (stretched text i j h l) ∙ column_over 1 (slice_range text i j) (get_or text j 0 ∷ [])

pub nothing_between : (text : List ℕ) (i : ℕ) → slice_range text i i ≡ []
nothing_between text i = let none : i - i ≡ 0 = omega arith in ap (λ (n : ℕ). take n (drop i text)) none

-- ---- a byte of a piece is passed over

pub byte_passed : (s : Standing) (end line column : ℕ) (text : List ℕ) (i : ℕ) → i < end → i < length text
    → pieces_by s (end - i) i line column (drop i text)
    ≡ pieces_by s (end - (i + 1)) (i + 1) (line_after (get_or text i 0) line) (column_after (get_or text i 0) column) (drop (i + 1) text)
byte_passed s end line column text i h l =
    let more : end - i ≡ suc (end - (i + 1)) = omega arith in
    ap (λ (n : ℕ). pieces_by s n i line column (drop i text)) more ∙ passed_at s (end - (i + 1)) line column text i l

pub break_passed : (s : Standing) (end line column : ℕ) (text : List ℕ) (i : ℕ) → i < end → i < length text → get_or text i 0 ≡ 10
    → pieces_by s (end - i) i line column (drop i text)
    ≡ pieces_by s (end - (i + 1)) (i + 1) (line + 1) (column_behind 1 (slice_range text (i + 1) (i + 1))) (drop (i + 1) text)
break_passed s end line column text i h l e =
    byte_passed s end line column text i h l
    ∙ ap (λ (x : ℕ). pieces_by s (end - (i + 1)) (i + 1) (line_after x line) (column_after x column) (drop (i + 1) text)) e
    ∙ ap (λ (xs : List ℕ). pieces_by s (end - (i + 1)) (i + 1) (line + 1) (column_behind 1 xs) (drop (i + 1) text)) (sym (nothing_between text (i + 1)))

test_fails : (a b : ℕ) → (a ≡ b → ⊥) → (a == b) ≡ false
test_fails = ne_eqb

pub other_passed : (s : Standing) (end line start : ℕ) (text : List ℕ) (i : ℕ) → i < end → i < length text → start ≤ i → (get_or text i 0 ≡ 10 → ⊥)
    → pieces_by s (end - i) i line (column_behind 1 (slice_range text start i)) (drop i text)
    ≡ pieces_by s (end - (i + 1)) (i + 1) line (column_behind 1 (slice_range text start (i + 1))) (drop (i + 1) text)
other_passed s end line start text i h l from e =
    byte_passed s end line (column_behind 1 (slice_range text start i)) text i h l
    ∙ ap (λ (b : Bool). pieces_by s (end - (i + 1)) (i + 1) (cond b (line + 1) line) (column_after (get_or text i 0) (column_behind 1 (slice_range text start i))) (drop (i + 1) text)) (test_fails (get_or text i 0) 10 e)
    ∙ ap (λ (column : ℕ). pieces_by s (end - (i + 1)) (i + 1) line column (drop (i + 1) text)) (sym (column_more text start i from l))

-- ---- white space is passed over byte by byte

abbrev one_behind : (i : ℕ) → 1 ≡ (i + 1) - i
one_behind i = omega arith

abbrev none_behind : (i : ℕ) → (i + 1) - (i + 1) ≡ 0
none_behind i = omega arith

pub white_break : (s : Standing) (line column : ℕ) (text : List ℕ) (i : ℕ) → i < length text → is_white (get_or text i 0) ≡ true → get_or text i 0 ≡ 10
    → pieces_by s 0 i line column (drop i text)
    ≡ pieces_by s 0 (i + 1) (line + 1) (column_behind 1 (slice_range text (i + 1) (i + 1))) (drop (i + 1) text)
white_break s line column text i l w e =
    white_passed s line column text i l w
    ∙ ap (λ (n : ℕ). pieces_by s n i line column (drop i text)) (one_behind i)
    ∙ break_passed s (i + 1) line column text i (omega arith) l e
    ∙ ap (λ (n : ℕ). pieces_by s n (i + 1) (line + 1) (column_behind 1 (slice_range text (i + 1) (i + 1))) (drop (i + 1) text)) (none_behind i)

pub white_other : (s : Standing) (line start : ℕ) (text : List ℕ) (i : ℕ) → i < length text → start ≤ i → is_white (get_or text i 0) ≡ true → (get_or text i 0 ≡ 10 → ⊥)
    → pieces_by s 0 i line (column_behind 1 (slice_range text start i)) (drop i text)
    ≡ pieces_by s 0 (i + 1) line (column_behind 1 (slice_range text start (i + 1))) (drop (i + 1) text)
white_other s line start text i l from w e =
    white_passed s line (column_behind 1 (slice_range text start i)) text i l w
    ∙ ap (λ (n : ℕ). pieces_by s n i line (column_behind 1 (slice_range text start i)) (drop i text)) (one_behind i)
    ∙ other_passed s (i + 1) line start text i (omega arith) l from e
    ∙ ap (λ (n : ℕ). pieces_by s n (i + 1) line (column_behind 1 (slice_range text start (i + 1))) (drop (i + 1) text)) (none_behind i)

-- ---- words

pub word_front : (keeps_quotes : Bool) (text bytes raw : List ℕ) (place end : ℕ) → bytes ≡ text → end ≡ (place + 1) + run_length keeps_quotes (drop (place + 1) bytes)
    → raw ≡ slice_range text place end → place < length text
    → token (word raw) (end - place) ≡ token (word (get_or text place 0 ∷ take (run_length keeps_quotes (drop (place + 1) text)) (drop (place + 1) text))) (suc (run_length keeps_quotes (drop (place + 1) text)))
word_front keeps_quotes text bytes raw place end b e r l =
    let n : ℕ = run_length keeps_quotes (drop (place + 1) text) in
    let is : end ≡ (place + 1) + n = e ∙ ap (λ (t : List ℕ). (place + 1) + run_length keeps_quotes (drop (place + 1) t)) b in
    let long : end - place ≡ suc n = omega arith in
    let said : raw ≡ get_or text place 0 ∷ take n (drop (place + 1) text)
    = r ∙ ap (λ (m : ℕ). take m (drop place text)) long ∙ ap (λ (xs : List ℕ). take (suc n) xs) (drop_at text place l) in
    ap (λ (m : ℕ). token (word raw) m) long ∙ ap (λ (w : List ℕ). token (word w) (suc n)) said

-- ---- comments

later_drop : (text : List ℕ) (place : ℕ) → drop 1 (drop (place + 1) text) ≡ drop (place + 2) text
later_drop text place =
    let two : (place + 1) + 1 ≡ place + 2 = omega arith in
    drop-drop 1 (place + 1) text ∙ ap (λ (n : ℕ). drop n text) two

ended : (o : Option ℕ) (place end : ℕ) → Some end ≡ option_map (λ n. (place + 2) + n) o
    → option_map_or (λ n. gap (n + 2)) o (last unclosed_comment) ≡ gap (end - place)
ended None place end e = cc
ended (Some n) place end e =
    let is : end ≡ (place + 2) + n = cc in
    let long : n + 2 ≡ end - place = omega arith in
    ap (λ (m : ℕ). gap m) long

not_ended : (o : Option ℕ) (from : ℕ) → None ≡ option_map (λ n. from + n) o
    → option_map_or (λ n. gap (n + 2)) o (last unclosed_comment) ≡ last unclosed_comment
not_ended None from e = refl
not_ended (Some n) from e = cc

comment_met : (text bytes : List ℕ) (place : ℕ) → bytes ≡ text → begins 47 (drop (place + 1) text) ≡ false → begins 42 (drop (place + 1) text) ≡ true
    → slash_front (drop (place + 1) text) ≡ option_map_or (λ n. gap (n + 2)) (comment_rest_length (drop (place + 2) bytes)) (last unclosed_comment)
comment_met text bytes place b plain starred =
    let xs : List ℕ = drop (place + 1) text in
    let other : Front = token (word (47 ∷ take (word_length xs) xs)) (suc (word_length xs)) in
    ap (λ (t : Bool). cond t (gap (suc (line_comment_length xs))) (cond (begins 42 xs) (comment_front (drop 1 xs)) other)) plain
    ∙ ap (λ (t : Bool). cond t (comment_front (drop 1 xs)) other) starred
    ∙ ap comment_front (later_drop text place)
    ∙ ap (λ (t : List ℕ). comment_front (drop (place + 2) t)) (sym b)

pub comment_found : (text bytes : List ℕ) (place end : ℕ) → bytes ≡ text → Some end ≡ option_map (λ n. (place + 2) + n) (comment_rest_length (drop (place + 2) bytes))
    → begins 47 (drop (place + 1) text) ≡ false → begins 42 (drop (place + 1) text) ≡ true
    → gap (end - place) ≡ slash_front (drop (place + 1) text)
comment_found text bytes place end b e plain starred =
    sym (comment_met text bytes place b plain starred ∙ ended (comment_rest_length (drop (place + 2) bytes)) place end e)

pub comment_open : (text bytes : List ℕ) (place : ℕ) → bytes ≡ text → None ≡ option_map (λ n. (place + 2) + n) (comment_rest_length (drop (place + 2) bytes))
    → begins 47 (drop (place + 1) text) ≡ false → begins 42 (drop (place + 1) text) ≡ true
    → last unclosed_comment ≡ slash_front (drop (place + 1) text)
comment_open text bytes place b e plain starred =
    sym (comment_met text bytes place b plain starred ∙ not_ended (comment_rest_length (drop (place + 2) bytes)) (place + 2) e)
