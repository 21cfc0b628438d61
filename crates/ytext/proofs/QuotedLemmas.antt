-- How what a quoted string says goes on, piece by piece.
use Rattle.std.proofs.Common.{◌≡◌, ℕ, zero, suc, ◌+◌, ◌-◌, ◌<◌, ◌≤◌, List, [], ◌∷◌, ◌++◌, Bool, true, false, not, ◌&&◌, ◌||◌, ◌==◌, cond, Option, Some, None, Ok, length, take, drop, get_or, refl, sym, ap, ◌∙◌, arith, append_assoc, append-nil, ◌⊎◌, inl, inr, replicate, nat_lt, subst, le_refl, lt-ltb}
use Rattle.std.proofs.lemmas.Bool.{eqb-true, ne_eqb, false≢true}
use Rattle.std.proofs.lemmas.Bool.Decides.{nat_tests}
use Rattle.std.specs.Prelude.{slice_range}
use Rattle.std.specs.Option.{option_map_or}
use Rattle.std.specs.List.{list_any}
use Rattle.std.proofs.lemmas.List.{drop-drop, drop_all, take-append-drop}
use Rattle.yspec.specs.text.Text.{Text, begins, line_feed, carriage_return, space, tab, backslash, is_blank, line_after}
use Rattle.yspec.specs.text.Token.{joined_breaks, trimmed_ends, stripped_starts, escape, unescaped, bad_escape_line}
use Rattle.yspec.specs.text.Statement.{slip}
use Rattle.ytext.specs.Quoted.{said, reading, reading_in, all_blank, is_solid, is_break, is_plain, blank_width}
use Rattle.yspec_wide.specs.Texts.{mended}
use Rattle.ytext.specs.Versions.{raw_in}
use Rattle.ytext.proofs.ScanLemmas.{drop_at}
use Rattle.ytext.proofs.TokenLemmas.{nothing_between, stretched}

-- ---- stretches of a text

-- a text from a place on is the stretch to a later place, and what follows
pub cut_at : (text : List ℕ) (i j : ℕ) → i ≤ j → drop i text ≡ slice_range text i j ++ drop j text
cut_at text i j h =
    let there : i + (j - i) ≡ j = omega arith in
    sym (take-append-drop (j - i) (drop i text)) ∙ ap (λ (ys : List ℕ). take (j - i) (drop i text) ++ ys) (drop-drop (j - i) i text ∙ ap (λ (k : ℕ). drop k text) there)

-- which of two numbers is below
lt_or_le : (a b : ℕ) → (a < b) ⊎ (b ≤ a)
lt_or_le a b = grind arith

-- ---- one function at a time

pub joined_kept : (x : ℕ) (xs : List ℕ) → (x == carriage_return && begins line_feed xs) ≡ false → joined_breaks (x ∷ xs) ≡ x ∷ joined_breaks xs
unfolding joined_breaks
joined_kept x xs e = ap (λ (b : Bool). cond b (joined_breaks xs) (x ∷ joined_breaks xs)) e

pub joined_return : (xs : List ℕ) → begins line_feed xs ≡ true → joined_breaks (13 ∷ xs) ≡ joined_breaks xs
unfolding joined_breaks
joined_return xs e = ap (λ (b : Bool). cond b (joined_breaks xs) (13 ∷ joined_breaks xs)) e

pub joined_none : joined_breaks [] ≡ []
unfolding joined_breaks
joined_none = refl

trimmed_other : (x : ℕ) (xs : List ℕ) → is_blank x ≡ false → trimmed_ends (x ∷ xs) ≡ x ∷ trimmed_ends xs
unfolding trimmed_ends
trimmed_other x xs e = ap (λ (b : Bool). cond (b && begins line_feed (trimmed_ends xs)) (trimmed_ends xs) (x ∷ trimmed_ends xs)) e

trimmed_break : (x : ℕ) (xs : List ℕ) → is_blank x ≡ true → begins line_feed (trimmed_ends xs) ≡ true → trimmed_ends (x ∷ xs) ≡ trimmed_ends xs
unfolding trimmed_ends
trimmed_break x xs e f = ap (λ (b : Bool). cond (b && begins line_feed (trimmed_ends xs)) (trimmed_ends xs) (x ∷ trimmed_ends xs)) e
    ∙ ap (λ (b : Bool). cond b (trimmed_ends xs) (x ∷ trimmed_ends xs)) f

trimmed_kept : (x : ℕ) (xs : List ℕ) → is_blank x ≡ true → begins line_feed (trimmed_ends xs) ≡ false → trimmed_ends (x ∷ xs) ≡ x ∷ trimmed_ends xs
unfolding trimmed_ends
trimmed_kept x xs e f = ap (λ (b : Bool). cond (b && begins line_feed (trimmed_ends xs)) (trimmed_ends xs) (x ∷ trimmed_ends xs)) e
    ∙ ap (λ (b : Bool). cond b (trimmed_ends xs) (x ∷ trimmed_ends xs)) f

-- which characters are blank
not_space : (x : ℕ) → is_blank x ≡ false → (x == space) ≡ false
not_space x e = grind (arith, nat_tests)

not_tab : (x : ℕ) → is_blank x ≡ false → (x == tab) ≡ false
not_tab x e = grind (arith, nat_tests)

blank_is : (x : ℕ) → is_blank x ≡ true → (x ≡ space) ⊎ (x ≡ tab)
blank_is x e = grind (arith, nat_tests)

stripped_other : (width left x : ℕ) (xs : List ℕ) → (x == line_feed) ≡ false → is_blank x ≡ false → stripped_starts width left (x ∷ xs) ≡ x ∷ stripped_starts width 0 xs
unfolding stripped_starts
stripped_other width left x xs feed blank = rw (feed, not_space x blank, not_tab x blank) refl

unescaped_other : (x : ℕ) (xs : List ℕ) → (x == backslash) ≡ false → unescaped false (x ∷ xs) ≡ x ∷ unescaped false xs
unfolding unescaped
unescaped_other x xs e = ap (λ (b : Bool). cond b (unescaped true xs) (x ∷ unescaped false xs)) e

pub bad_other : (line x : ℕ) (xs : List ℕ) → (x == line_feed) ≡ false → (x == backslash) ≡ false → bad_escape_line false line (x ∷ xs) ≡ bad_escape_line false line xs
unfolding bad_escape_line
bad_other line x xs feed slash = ap (λ (b : Bool). bad_escape_line b (line_after x line) xs) slash ∙ ap (λ (b : Bool). bad_escape_line false (cond b (line + 1) line) xs) feed

-- ---- single quotes

pub kept_stretch : (raw : List ℕ) (i j : ℕ) → i ≤ j → j < length raw → (get_or raw j 0 == carriage_return && begins line_feed (drop (j + 1) raw)) ≡ false
    → slice_range raw i j ++ joined_breaks (drop j raw) ≡ slice_range raw i (j + 1) ++ joined_breaks (drop (j + 1) raw)
kept_stretch raw i j h l e =
    ap (λ (ys : List ℕ). slice_range raw i j ++ joined_breaks ys) (drop_at raw j l)
    ∙ ap (λ (ys : List ℕ). slice_range raw i j ++ ys) (joined_kept (get_or raw j 0) (drop (j + 1) raw) e)
    ∙ sym (append_assoc (slice_range raw i j) (get_or raw j 0 ∷ []) (joined_breaks (drop (j + 1) raw)))
    ∙ ap (λ (ys : List ℕ). ys ++ joined_breaks (drop (j + 1) raw)) (sym (stretched raw i j h l))

pub single_done : (old text new raw : List ℕ) (i j : ℕ) → text ++ joined_breaks (drop i raw) ≡ old ++ joined_breaks raw
    → joined_breaks (drop i raw) ≡ slice_range raw i j ++ joined_breaks (drop j raw) → new ≡ text ++ slice_range raw i j → j ≡ length raw
    → old ++ joined_breaks raw ≡ new
single_done old text new raw i j rest same is e =
    sym rest ∙ ap (λ (ys : List ℕ). text ++ ys) same ∙ ap (λ (ys : List ℕ). text ++ (slice_range raw i j ++ joined_breaks ys)) (drop_all j raw (omega arith))
    ∙ ap (λ (ys : List ℕ). text ++ (slice_range raw i j ++ ys)) joined_none ∙ ap (λ (ys : List ℕ). text ++ ys) (append-nil (slice_range raw i j)) ∙ sym is

pub single_more : (old text new raw : List ℕ) (i j : ℕ) → text ++ joined_breaks (drop i raw) ≡ old ++ joined_breaks raw
    → joined_breaks (drop i raw) ≡ slice_range raw i j ++ joined_breaks (drop j raw) → new ≡ text ++ slice_range raw i j
    → j < length raw → get_or raw j 0 ≡ 13 → begins line_feed (drop (j + 1) raw) ≡ true
    → new ++ joined_breaks (drop (j + 1) raw) ≡ old ++ joined_breaks raw
single_more old text new raw i j rest same is l return breaks =
    let behind : joined_breaks (drop j raw) ≡ joined_breaks (drop (j + 1) raw)
    = ap joined_breaks (drop_at raw j l) ∙ ap (λ (x : ℕ). joined_breaks (x ∷ drop (j + 1) raw)) return ∙ joined_return (drop (j + 1) raw) breaks in
    ap (λ (ys : List ℕ). ys ++ joined_breaks (drop (j + 1) raw)) is ∙ append_assoc text (slice_range raw i j) (joined_breaks (drop (j + 1) raw))
    ∙ ap (λ (ys : List ℕ). text ++ (slice_range raw i j ++ ys)) (sym behind) ∙ ap (λ (ys : List ℕ). text ++ ys) (sym same) ∙ rest

-- ---- what the rest of a double-quoted string says

pub reading_none : (width left line : ℕ) (text : Text) → reading width left line text [] ≡ Ok text
unfolding reading said joined_breaks trimmed_ends stripped_starts unescaped bad_escape_line
reading_none width left line text = ap Ok (append-nil text)

pub reading_feed : (width left line : ℕ) (text : Text) (xs : List ℕ) → reading width left line text (10 ∷ xs) ≡ reading width width (line + 1) (text ++ 10 ∷ []) xs
unfolding reading said joined_breaks trimmed_ends stripped_starts unescaped bad_escape_line
reading_feed width left line text xs =
    ap (λ (t : Text). option_map_or (λ bad. slip 4 bad) (bad_escape_line false (line + 1) xs) (Ok t)) (sym (append_assoc text (10 ∷ []) (said width width xs)))

pub reading_return : (width left line : ℕ) (text : Text) (xs : List ℕ) → begins line_feed xs ≡ true → reading width left line text (13 ∷ xs) ≡ reading width left line text xs
unfolding reading said bad_escape_line
reading_return width left line text xs e =
    ap (λ (ys : List ℕ). option_map_or (λ bad. slip 4 bad) (bad_escape_line false line xs) (Ok (text ++ unescaped false (stripped_starts width left (trimmed_ends ys))))) (joined_return xs e)

-- a character that stands for itself
pub reading_other : (width left line x : ℕ) (text : Text) (xs : List ℕ) → (x == line_feed) ≡ false → (x == backslash) ≡ false → is_blank x ≡ false → (x == carriage_return && begins line_feed xs) ≡ false
    → reading width left line text (x ∷ xs) ≡ reading width 0 line (text ++ x ∷ []) xs
unfolding reading said
reading_other width left line x text xs feed slash blank return =
    let rest : List ℕ = trimmed_ends (joined_breaks xs) in
    let says : unescaped false (stripped_starts width left (trimmed_ends (joined_breaks (x ∷ xs)))) ≡ x ∷ said width 0 xs
    = ap (λ (ys : List ℕ). unescaped false (stripped_starts width left (trimmed_ends ys))) (joined_kept x xs return)
    ∙ ap (λ (ys : List ℕ). unescaped false (stripped_starts width left ys)) (trimmed_other x (joined_breaks xs) blank)
    ∙ ap (unescaped false) (stripped_other width left x rest feed blank)
    ∙ unescaped_other x (stripped_starts width 0 rest) slash in
    ap (λ (o : Option ℕ). option_map_or (λ bad. slip 4 bad) o (Ok (text ++ unescaped false (stripped_starts width left (trimmed_ends (joined_breaks (x ∷ xs))))))) (bad_other line x xs feed slash)
    ∙ ap (λ (t : Text). option_map_or (λ bad. slip 4 bad) (bad_escape_line false line xs) (Ok (text ++ t))) says
    ∙ ap (λ (t : Text). option_map_or (λ bad. slip 4 bad) (bad_escape_line false line xs) (Ok t)) (sym (append_assoc text (x ∷ []) (said width 0 xs)))

reading_110 : (width left line : ℕ) (text : Text) (xs : List ℕ) → reading width left line text (92 ∷ 110 ∷ xs) ≡ reading width 0 line (text ++ 10 ∷ []) xs
unfolding reading said joined_breaks trimmed_ends stripped_starts unescaped bad_escape_line
reading_110 width left line text xs =
    ap (λ (t : Text). option_map_or (λ bad. slip 4 bad) (bad_escape_line false line xs) (Ok t)) (sym (append_assoc text (10 ∷ []) (said width 0 xs)))

reading_116 : (width left line : ℕ) (text : Text) (xs : List ℕ) → reading width left line text (92 ∷ 116 ∷ xs) ≡ reading width 0 line (text ++ 9 ∷ []) xs
unfolding reading said joined_breaks trimmed_ends stripped_starts unescaped bad_escape_line
reading_116 width left line text xs =
    ap (λ (t : Text). option_map_or (λ bad. slip 4 bad) (bad_escape_line false line xs) (Ok t)) (sym (append_assoc text (9 ∷ []) (said width 0 xs)))

reading_34 : (width left line : ℕ) (text : Text) (xs : List ℕ) → reading width left line text (92 ∷ 34 ∷ xs) ≡ reading width 0 line (text ++ 34 ∷ []) xs
unfolding reading said joined_breaks trimmed_ends stripped_starts unescaped bad_escape_line
reading_34 width left line text xs =
    ap (λ (t : Text). option_map_or (λ bad. slip 4 bad) (bad_escape_line false line xs) (Ok t)) (sym (append_assoc text (34 ∷ []) (said width 0 xs)))

reading_92 : (width left line : ℕ) (text : Text) (xs : List ℕ) → reading width left line text (92 ∷ 92 ∷ xs) ≡ reading width 0 line (text ++ 92 ∷ []) xs
unfolding reading said joined_breaks trimmed_ends stripped_starts unescaped bad_escape_line
reading_92 width left line text xs =
    ap (λ (t : Text). option_map_or (λ bad. slip 4 bad) (bad_escape_line false line xs) (Ok t)) (sym (append_assoc text (92 ∷ []) (said width 0 xs)))

chosen : (b : Bool) (x y z : Option ℕ) → cond b x y ≡ z → ((b ≡ true) × (x ≡ z)) ⊎ ((b ≡ false) × (y ≡ z))
chosen true x y z e = inl (refl, e)
chosen false x y z e = inr (refl, e)

some_same : (x y : ℕ) → Some x ≡ Some y → x ≡ y
some_same x y e = cc

either : (y : ℕ) → (y == 34 || y == 92) ≡ true → (y ≡ 34) ⊎ (y ≡ 92)
either y e = grind (arith, nat_tests)

abbrev Escaped : ℕ → ℕ → ℕ → ℕ → ℕ → Text → List ℕ → Type 0
Escaped width left line y z text xs = reading width left line text (92 ∷ y ∷ xs) ≡ reading width 0 line (text ++ z ∷ []) xs

to_same : (width left line y z v w : ℕ) (text : Text) (xs : List ℕ) → y ≡ v → w ≡ z → Escaped width left line v w text xs → Escaped width left line y z text xs
to_same width left line y z v w text xs e f h =
    ap (λ (n : ℕ). reading width left line text (92 ∷ n ∷ xs)) e ∙ h ∙ ap (λ (n : ℕ). reading width 0 line (text ++ n ∷ []) xs) f

pub reading_escape : (width left line y z : ℕ) (text : Text) (xs : List ℕ) → escape y ≡ Some z → Escaped width left line y z text xs
reading_escape width left line y z text xs e =
    elim (chosen (y == 110) (Some 10) (cond (y == 116) (Some 9) (cond (y == 34 || y == 92) (Some y) None)) (Some z) e) [
      | inl h ↦ to_same width left line y z 110 10 text xs (eqb-true y 110 h.0) (some_same 10 z h.1) (reading_110 width left line text xs)
      | inr h ↦ elim (chosen (y == 116) (Some 9) (cond (y == 34 || y == 92) (Some y) None) (Some z) h.1) [
        | inl k ↦ to_same width left line y z 116 9 text xs (eqb-true y 116 k.0) (some_same 9 z k.1) (reading_116 width left line text xs)
        | inr k ↦ elim (chosen (y == 34 || y == 92) (Some y) None (Some z) k.1) [
          | inl m ↦ elim (either y m.0) [
            | inl q ↦ to_same width left line y z 34 34 text xs q (sym q ∙ some_same y z m.1) (reading_34 width left line text xs)
            | inr q ↦ to_same width left line y z 92 92 text xs q (sym q ∙ some_same y z m.1) (reading_92 width left line text xs)
          ]
          | inr m ↦ cc
        ]
      ]
    ]

pub reading_wrong : (width left line y : ℕ) (text : Text) (xs : List ℕ) → escape y ≡ None → reading width left line text (92 ∷ y ∷ xs) ≡ slip 4 line
unfolding reading bad_escape_line
reading_wrong width left line y text xs e = ap (λ (o : Option ℕ). option_map_or (λ bad. slip 4 bad) (option_map_or (λ _. bad_escape_line false line xs) o (Some line)) (Ok (text ++ said width left (92 ∷ y ∷ xs)))) e

pub reading_alone : (width left line : ℕ) (text : Text) → reading width left line text (92 ∷ []) ≡ Ok text
unfolding reading said joined_breaks trimmed_ends stripped_starts unescaped bad_escape_line
reading_alone width left line text = ap Ok (append-nil text)

-- ---- spaces and tabs

and_left : (a b : Bool) → (a && b) ≡ true → a ≡ true
and_left true b e = refl
and_left false b e = e

and_right : (a b : Bool) → (a && b) ≡ true → b ≡ true
and_right true b e = e
and_right false b e = absurd (false≢true e)

blank_not_return : (x : ℕ) (xs : List ℕ) → is_blank x ≡ true → (x == carriage_return && begins line_feed xs) ≡ false
blank_not_return x xs e = elim (blank_is x e) [ inl h ↦ ap (λ (y : ℕ). y == carriage_return && begins line_feed xs) h | inr h ↦ ap (λ (y : ℕ). y == carriage_return && begins line_feed xs) h ]

blank_not : (x y : ℕ) → (space == y) ≡ false → (tab == y) ≡ false → is_blank x ≡ true → (x == y) ≡ false
blank_not x y s t e = elim (blank_is x e) [ inl h ↦ ap (λ (z : ℕ). z == y) h ∙ s | inr h ↦ ap (λ (z : ℕ). z == y) h ∙ t ]

joined_blanks : (bs ys : List ℕ) → all_blank bs ≡ true → joined_breaks (bs ++ ys) ≡ bs ++ joined_breaks ys
joined_blanks [] ys e = refl
joined_blanks (b ∷ bs) ys e = joined_kept b (bs ++ ys) (blank_not_return b (bs ++ ys) (and_left (is_blank b) (all_blank bs) e))
    ∙ ap (λ (r : List ℕ). b ∷ r) (joined_blanks bs ys (and_right (is_blank b) (all_blank bs) e))

trimmed_dropped : (bs zs : List ℕ) → all_blank bs ≡ true → begins line_feed (trimmed_ends zs) ≡ true → trimmed_ends (bs ++ zs) ≡ trimmed_ends zs
trimmed_dropped [] zs e f = refl
trimmed_dropped (b ∷ bs) zs e f =
    let rest = trimmed_dropped bs zs (and_right (is_blank b) (all_blank bs) e) f in
    trimmed_break b (bs ++ zs) (and_left (is_blank b) (all_blank bs) e) (ap (begins line_feed) rest ∙ f) ∙ rest

begins_blank : (bs us : List ℕ) → all_blank bs ≡ true → begins line_feed us ≡ false → begins line_feed (bs ++ us) ≡ false
begins_blank [] us e f = f
begins_blank (b ∷ bs) us e f = blank_not b line_feed refl refl (and_left (is_blank b) (all_blank bs) e)

trimmed_kept_all : (bs zs : List ℕ) → all_blank bs ≡ true → begins line_feed (trimmed_ends zs) ≡ false → trimmed_ends (bs ++ zs) ≡ bs ++ trimmed_ends zs
trimmed_kept_all [] zs e f = refl
trimmed_kept_all (b ∷ bs) zs e f =
    let more = and_right (is_blank b) (all_blank bs) e in
    let rest = trimmed_kept_all bs zs more f in
    trimmed_kept b (bs ++ zs) (and_left (is_blank b) (all_blank bs) e) (ap (begins line_feed) rest ∙ begins_blank bs (trimmed_ends zs) more f)
    ∙ ap (λ (r : List ℕ). b ∷ r) rest

bad_blanks : (line : ℕ) (bs ys : List ℕ) → all_blank bs ≡ true → bad_escape_line false line (bs ++ ys) ≡ bad_escape_line false line ys
bad_blanks line [] ys e = refl
bad_blanks line (b ∷ bs) ys e =
    let blank = and_left (is_blank b) (all_blank bs) e in
    bad_other line b (bs ++ ys) (blank_not b line_feed refl refl blank) (blank_not b backslash refl refl blank)
    ∙ bad_blanks line bs ys (and_right (is_blank b) (all_blank bs) e)

unescaped_spaces : (n : ℕ) (xs : List ℕ) → unescaped false (replicate n space ++ xs) ≡ replicate n space ++ unescaped false xs
unfolding unescaped
unescaped_spaces zero xs = refl
unescaped_spaces (suc n) xs = ap (λ (r : List ℕ). space ∷ r) (unescaped_spaces n xs)

by_test : (b : Bool) (x x' y y' u : List ℕ) → x ≡ x' ++ u → y ≡ y' ++ u → cond b x y ≡ cond b x' y' ++ u
by_test true x x' y y' u e f = e
by_test false x x' y y' u e f = f

abbrev Stripped : ℕ → ℕ → List ℕ → List ℕ → Type 0
Stripped width left bs us = unescaped false (stripped_starts width left (bs ++ us)) ≡ stripped_starts 0 left bs ++ unescaped false (stripped_starts width 0 us)

of_cond : (b : Bool) (x y : List ℕ) → unescaped false (cond b x y) ≡ cond b (unescaped false x) (unescaped false y)
of_cond true x y = refl
of_cond false x y = refl

strip_space : (width left : ℕ) (bs us : List ℕ) → Stripped width (left - 1) bs us → Stripped width 0 bs us → Stripped width left (32 ∷ bs) us
unfolding stripped_starts unescaped
strip_space width left bs us more none =
    of_cond (nat_lt 0 left) (stripped_starts width (left - 1) (bs ++ us)) (32 ∷ stripped_starts width 0 (bs ++ us))
    ∙ by_test (nat_lt 0 left) _ (stripped_starts 0 (left - 1) bs) _ (32 ∷ stripped_starts 0 0 bs) _ more (ap (λ (r : List ℕ). 32 ∷ r) none)

strip_tab : (width left : ℕ) (bs us : List ℕ) → Stripped width (left - 8) bs us → Stripped width 0 bs us → Stripped width left (9 ∷ bs) us
unfolding stripped_starts unescaped
strip_tab width left bs us more none =
    of_cond (nat_lt 0 left) (replicate (8 - left) space ++ stripped_starts width (left - 8) (bs ++ us)) (9 ∷ stripped_starts width 0 (bs ++ us))
    ∙ by_test (nat_lt 0 left) _ (replicate (8 - left) space ++ stripped_starts 0 (left - 8) bs) _ (9 ∷ stripped_starts 0 0 bs) _
    (unescaped_spaces (8 - left) (stripped_starts width (left - 8) (bs ++ us)) ∙ ap (λ (r : List ℕ). replicate (8 - left) space ++ r) more
    ∙ sym (append_assoc (replicate (8 - left) space) (stripped_starts 0 (left - 8) bs) (unescaped false (stripped_starts width 0 us))))
    (ap (λ (r : List ℕ). 9 ∷ r) none)

not_true : (b : Bool) → not b ≡ true → b ≡ false
not_true true e = absurd (false≢true e)
not_true false e = refl

or_left : (a b : Bool) → (a || b) ≡ false → a ≡ false
or_left true b e = e
or_left false b e = refl

or_right : (a b : Bool) → (a || b) ≡ false → b ≡ false
or_right true b e = absurd (false≢true (sym e))
or_right false b e = e

or_true : (a b : Bool) → (a || b) ≡ true → (a ≡ true) ⊎ (b ≡ true)
or_true true b e = inl refl
or_true false b e = inr e

solid_blank : (x : ℕ) (xs : List ℕ) → is_solid (x ∷ xs) ≡ true → is_blank x ≡ false
solid_blank x xs e = not_true (is_blank x) (and_left (not (is_blank x)) (not (is_break (x ∷ xs))) e)

solid_break : (x : ℕ) (xs : List ℕ) → is_solid (x ∷ xs) ≡ true → is_break (x ∷ xs) ≡ false
solid_break x xs e = not_true (is_break (x ∷ xs)) (and_right (not (is_blank x)) (not (is_break (x ∷ xs))) e)

solid_feed : (x : ℕ) (xs : List ℕ) → is_solid (x ∷ xs) ≡ true → (x == line_feed) ≡ false
solid_feed x xs e = or_left (x == line_feed) (x == carriage_return && begins line_feed xs) (solid_break x xs e)

solid_return : (x : ℕ) (xs : List ℕ) → is_solid (x ∷ xs) ≡ true → (x == carriage_return && begins line_feed xs) ≡ false
solid_return x xs e = or_right (x == line_feed) (x == carriage_return && begins line_feed xs) (solid_break x xs e)

-- what a solid rest has for its first character
abbrev Firm : List ℕ → Type 0
Firm us = (begins line_feed us ≡ false) × ((width left : ℕ) → stripped_starts width left us ≡ stripped_starts width 0 us)

firm_rest : (ys : List ℕ) → is_solid ys ≡ true → Firm (trimmed_ends (joined_breaks ys))
unfolding joined_breaks trimmed_ends stripped_starts
firm_rest [] e = (refl, λ width left. refl)
firm_rest (y ∷ ys) e =
    let blank = solid_blank y ys e in
    let feed = solid_feed y ys e in
    let rest : List ℕ = trimmed_ends (joined_breaks ys) in
    let is : trimmed_ends (joined_breaks (y ∷ ys)) ≡ y ∷ rest
    = ap trimmed_ends (joined_kept y ys (solid_return y ys e)) ∙ trimmed_other y (joined_breaks ys) blank in (
      ap (begins line_feed) is ∙ feed,
      λ width left. ap (stripped_starts width left) is ∙ stripped_other width left y rest feed blank
          ∙ sym (stripped_other width 0 y rest feed blank) ∙ ap (stripped_starts width 0) (sym is),
    )

stripped_none : (left : ℕ) → stripped_starts 0 left [] ≡ []
unfolding stripped_starts
stripped_none left = refl

stripped_blanks : (width left : ℕ) (bs us : List ℕ) → all_blank bs ≡ true → ((w l : ℕ) → stripped_starts w l us ≡ stripped_starts w 0 us) → Stripped width left bs us
stripped_blanks width left [] us e same = ap (unescaped false) (same width left) ∙ ap (λ (r : List ℕ). r ++ unescaped false (stripped_starts width 0 us)) (sym (stripped_none left))
stripped_blanks width left (b ∷ bs) us e same =
    let more = and_right (is_blank b) (all_blank bs) e in
    elim (blank_is b (and_left (is_blank b) (all_blank bs) e)) [
      | inl h ↦ subst (λ (x : ℕ). Stripped width left (x ∷ bs) us) (sym h) (strip_space width left bs us (stripped_blanks width (left - 1) bs us more same) (stripped_blanks width 0 bs us more same))
      | inr h ↦ subst (λ (x : ℕ). Stripped width left (x ∷ bs) us) (sym h) (strip_tab width left bs us (stripped_blanks width (left - 8) bs us more same) (stripped_blanks width 0 bs us more same))
    ]

feed_begins : (ys : List ℕ) → begins line_feed ys ≡ true → begins line_feed (joined_breaks ys) ≡ true
unfolding joined_breaks
feed_begins [] e = absurd (false≢true e)
feed_begins (y ∷ ys) e = subst (λ (x : ℕ). begins line_feed (joined_breaks (x ∷ ys)) ≡ true) (sym (eqb-true y line_feed e)) refl

break_begins : (ys : List ℕ) → is_break ys ≡ true → begins line_feed (joined_breaks ys) ≡ true
unfolding joined_breaks
break_begins [] e = absurd (false≢true e)
break_begins (y ∷ ys) e = elim (or_true (y == line_feed) (y == carriage_return && begins line_feed ys) e) [
  | inl h ↦ subst (λ (x : ℕ). begins line_feed (joined_breaks (x ∷ ys)) ≡ true) (sym (eqb-true y line_feed h)) refl
  | inr h ↦ subst (λ (x : ℕ). begins line_feed (joined_breaks (x ∷ ys)) ≡ true) (sym (eqb-true y carriage_return (and_left (y == carriage_return) (begins line_feed ys) h)))
      (ap (begins line_feed) (joined_return ys (and_right (y == carriage_return) (begins line_feed ys) h)) ∙ feed_begins ys (and_right (y == carriage_return) (begins line_feed ys) h))
]

trimmed_begins : (zs : List ℕ) → begins line_feed zs ≡ true → begins line_feed (trimmed_ends zs) ≡ true
unfolding trimmed_ends
trimmed_begins [] e = absurd (false≢true e)
trimmed_begins (z ∷ zs) e = subst (λ (x : ℕ). begins line_feed (trimmed_ends (x ∷ zs)) ≡ true) (sym (eqb-true z line_feed e)) refl

pub blanks_dropped : (width left line : ℕ) (text : Text) (bs ys : List ℕ) → all_blank bs ≡ true → is_break ys ≡ true
    → reading width left line text (bs ++ ys) ≡ reading width left line text ys
unfolding reading said
blanks_dropped width left line text bs ys e f =
    ap (λ (o : Option ℕ). option_map_or (λ bad. slip 4 bad) o (Ok (text ++ unescaped false (stripped_starts width left (trimmed_ends (joined_breaks (bs ++ ys))))))) (bad_blanks line bs ys e)
    ∙ ap (λ (r : List ℕ). option_map_or (λ bad. slip 4 bad) (bad_escape_line false line ys) (Ok (text ++ unescaped false (stripped_starts width left r))))
    (ap trimmed_ends (joined_blanks bs ys e) ∙ trimmed_dropped bs (joined_breaks ys) e (trimmed_begins (joined_breaks ys) (break_begins ys f)))

pub blanks_kept : (width left line : ℕ) (text : Text) (bs ys : List ℕ) → all_blank bs ≡ true → is_solid ys ≡ true
    → reading width left line text (bs ++ ys) ≡ reading width 0 line (text ++ stripped_starts 0 left bs) ys
unfolding reading said
blanks_kept width left line text bs ys e f =
    let firm = firm_rest ys f in
    ap (λ (o : Option ℕ). option_map_or (λ bad. slip 4 bad) o (Ok (text ++ unescaped false (stripped_starts width left (trimmed_ends (joined_breaks (bs ++ ys))))))) (bad_blanks line bs ys e)
    ∙ ap (λ (r : List ℕ). option_map_or (λ bad. slip 4 bad) (bad_escape_line false line ys) (Ok (text ++ unescaped false (stripped_starts width left r))))
    (ap trimmed_ends (joined_blanks bs ys e) ∙ trimmed_kept_all bs (joined_breaks ys) e firm.0)
    ∙ ap (λ (r : List ℕ). option_map_or (λ bad. slip 4 bad) (bad_escape_line false line ys) (Ok (text ++ r))) (stripped_blanks width left bs (trimmed_ends (joined_breaks ys)) e firm.1)
    ∙ ap (λ (r : List ℕ). option_map_or (λ bad. slip 4 bad) (bad_escape_line false line ys) (Ok r)) (sym (append_assoc text (stripped_starts 0 left bs) (unescaped false (stripped_starts width 0 (trimmed_ends (joined_breaks ys))))))

pub reading_plain : (width left line x : ℕ) (text : Text) (xs : List ℕ) → is_plain (x ∷ xs) ≡ true
    → reading width left line text (x ∷ xs) ≡ reading width 0 line (text ++ x ∷ []) xs
reading_plain width left line x text xs e =
    let solid = and_right (not (x == backslash)) (is_solid (x ∷ xs)) e in
    reading_other width left line x text xs (solid_feed x xs solid) (not_true (x == backslash) (and_left (not (x == backslash)) (is_solid (x ∷ xs)) e)) (solid_blank x xs solid) (solid_return x xs solid)

-- ---- in each version: a text of YANG 1 is read as it is mended

is_or_not : (b : Bool) → (b ≡ true) ⊎ (b ≡ false)
is_or_not true = inl refl
is_or_not false = inr refl

some_not_none : Some backslash ≡ None → ⊥
some_not_none e = cc

begins_mended : (ys : List ℕ) → begins line_feed (mended false ys) ≡ begins line_feed ys
unfolding mended
begins_mended [] = refl
begins_mended (y ∷ ys) = refl

break_mended : (ys : List ℕ) → is_break (mended false ys) ≡ is_break ys
unfolding mended
break_mended [] = refl
break_mended (y ∷ ys) = elim (is_or_not (y == backslash)) [
  | inl h ↦ ap (λ (x : ℕ). is_break (x ∷ mended (x == backslash) ys)) (eqb-true y backslash h) ∙ sym (ap (λ (x : ℕ). is_break (x ∷ ys)) (eqb-true y backslash h))
  | inr h ↦ ap (λ (b : Bool). is_break (y ∷ mended b ys)) h ∙ ap (λ (b : Bool). y == line_feed || (y == carriage_return && b)) (begins_mended ys)
]

solid_mended : (ys : List ℕ) → is_solid (mended false ys) ≡ is_solid ys
unfolding mended
solid_mended [] = refl
solid_mended (y ∷ ys) = ap (λ (b : Bool). not (is_blank y) && not b) (break_mended (y ∷ ys))

-- a stretch without backslashes stays
mended_kept : (x : ℕ) (xs : List ℕ) → (x == backslash) ≡ false → mended false (x ∷ xs) ≡ x ∷ mended false xs
unfolding mended
mended_kept x xs e = ap (λ (b : Bool). x ∷ mended b xs) e

mended_blanks : (bs ys : List ℕ) → all_blank bs ≡ true → mended false (bs ++ ys) ≡ bs ++ mended false ys
mended_blanks [] ys e = refl
mended_blanks (b ∷ bs) ys e =
    mended_kept b (bs ++ ys) (blank_not b backslash refl refl (and_left (is_blank b) (all_blank bs) e))
    ∙ ap (λ (r : List ℕ). b ∷ r) (mended_blanks bs ys (and_right (is_blank b) (all_blank bs) e))

mended_escape : (y : ℕ) (xs : List ℕ) (o : Option ℕ) → escape y ≡ o → mended false (92 ∷ y ∷ xs) ≡ 92 ∷ option_map_or (λ _. y ∷ mended false xs) o (92 ∷ y ∷ mended false xs)
unfolding mended
mended_escape y xs o e = ap (λ (p : Option ℕ). 92 ∷ option_map_or (λ _. y ∷ mended false xs) p (92 ∷ y ∷ mended false xs)) e

feeds_mended : (after_backslash : Bool) (xs : List ℕ) → list_any (λ y. y == line_feed) xs ≡ false → list_any (λ y. y == line_feed) (mended after_backslash xs) ≡ false
unfolding mended
feeds_mended after_backslash [] e = refl
feeds_mended false (x ∷ xs) e =
    ap (λ (b : Bool). b || list_any (λ y. y == line_feed) (mended (x == backslash) xs)) (or_left (x == line_feed) (list_any (λ y. y == line_feed) xs) e)
    ∙ feeds_mended (x == backslash) xs (or_right (x == line_feed) (list_any (λ y. y == line_feed) xs) e)
feeds_mended true (x ∷ xs) e =
    let kept = ap (λ (b : Bool). b || list_any (λ y. y == line_feed) (mended false xs)) (or_left (x == line_feed) (list_any (λ y. y == line_feed) xs) e)
    ∙ feeds_mended false xs (or_right (x == line_feed) (list_any (λ y. y == line_feed) xs) e) in
    either_way (escape x) (x ∷ mended false xs) kept
  where
    either_way : (o : Option ℕ) (rest : List ℕ) → list_any (λ y. y == line_feed) rest ≡ false → list_any (λ y. y == line_feed) (option_map_or (λ _. rest) o (backslash ∷ rest)) ≡ false
    either_way None rest h = h
    either_way (Some z) rest h = h

-- a character behind a backslash that isn't one of an escape is no backslash
pub no_backslash : (y : ℕ) → escape y ≡ None → (y == backslash) ≡ false
no_backslash y e = elim (is_or_not (y == backslash)) [
  | inl h ↦ absurd (some_not_none (sym (ap escape (eqb-true y backslash h)) ∙ e))
  | inr h ↦ h
]

in_none : (v : Bool) (width left line : ℕ) (text : Text) → reading_in v width left line text [] ≡ Ok text
unfolding reading_in mended
in_none false width left line text = reading_none width left line text
in_none true width left line text = reading_none width left line text

in_feed : (v : Bool) (width left line : ℕ) (text : Text) (xs : List ℕ) → reading_in v width left line text (10 ∷ xs) ≡ reading_in v width width (line + 1) (text ++ 10 ∷ []) xs
unfolding reading_in mended
in_feed false width left line text xs = reading_feed width left line text xs
in_feed true width left line text xs = reading_feed width left line text (mended false xs)

in_return : (v : Bool) (width left line : ℕ) (text : Text) (xs : List ℕ) → begins line_feed xs ≡ true → reading_in v width left line text (13 ∷ xs) ≡ reading_in v width left line text xs
unfolding reading_in mended
in_return false width left line text xs e = reading_return width left line text xs e
in_return true width left line text xs e = reading_return width left line text (mended false xs) (begins_mended xs ∙ e)

in_plain : (v : Bool) (width left line x : ℕ) (text : Text) (xs : List ℕ) → is_plain (x ∷ xs) ≡ true
    → reading_in v width left line text (x ∷ xs) ≡ reading_in v width 0 line (text ++ x ∷ []) xs
unfolding reading_in
in_plain false width left line x text xs e = reading_plain width left line x text xs e
in_plain true width left line x text xs e =
    let other = not_true (x == backslash) (and_left (not (x == backslash)) (is_solid (x ∷ xs)) e) in
    let kept = mended_kept x xs other in
    ap (reading width left line text) kept
    ∙ reading_plain width left line x text (mended false xs)
    (ap (λ (b : Bool). not b && is_solid (x ∷ mended false xs)) other ∙ ap is_solid (sym kept) ∙ solid_mended (x ∷ xs) ∙ and_right (not (x == backslash)) (is_solid (x ∷ xs)) e)

in_escape : (v : Bool) (width left line y z : ℕ) (text : Text) (xs : List ℕ) → escape y ≡ Some z
    → reading_in v width left line text (92 ∷ y ∷ xs) ≡ reading_in v width 0 line (text ++ z ∷ []) xs
unfolding reading_in
in_escape false width left line y z text xs e = reading_escape width left line y z text xs e
in_escape true width left line y z text xs e =
    ap (reading width left line text) (mended_escape y xs (Some z) e) ∙ reading_escape width left line y z text (mended false xs) e

in_wrong : (v : Bool) (width left line y : ℕ) (text : Text) (xs : List ℕ) → v ≡ false → escape y ≡ None → reading_in v width left line text (92 ∷ y ∷ xs) ≡ slip 4 line
unfolding reading_in
in_wrong v width left line y text xs old e =
    ap (λ (b : Bool). reading width left line text (raw_in b (92 ∷ y ∷ xs))) old ∙ reading_wrong width left line y text xs e

-- in YANG 1 a backslash before another character is itself
in_itself : (v : Bool) (width left line y : ℕ) (text : Text) (xs : List ℕ) → v ≡ true → escape y ≡ None
    → reading_in v width left line text (92 ∷ y ∷ xs) ≡ reading_in v width 0 line (text ++ 92 ∷ []) (y ∷ xs)
unfolding reading_in
in_itself v width left line y text xs new e =
    ap (λ (b : Bool). reading width left line text (raw_in b (92 ∷ y ∷ xs))) new
    ∙ ap (reading width left line text) (mended_escape y xs None e)
    ∙ reading_92 width left line text (y ∷ mended false xs)
    ∙ ap (reading width 0 line (text ++ 92 ∷ [])) (sym (mended_kept y xs (no_backslash y e)))
    ∙ sym (ap (λ (b : Bool). reading width 0 line (text ++ 92 ∷ []) (raw_in b (y ∷ xs))) new)

in_alone : (v : Bool) (width left line : ℕ) (text : Text) → reading_in v width left line text (92 ∷ []) ≡ Ok text
unfolding reading_in mended
in_alone false width left line text = reading_alone width left line text
in_alone true width left line text = reading_alone width left line text

in_dropped : (v : Bool) (width left line : ℕ) (text : Text) (bs ys : List ℕ) → all_blank bs ≡ true → is_break ys ≡ true
    → reading_in v width left line text (bs ++ ys) ≡ reading_in v width left line text ys
unfolding reading_in
in_dropped false width left line text bs ys e f = blanks_dropped width left line text bs ys e f
in_dropped true width left line text bs ys e f =
    ap (reading width left line text) (mended_blanks bs ys e) ∙ blanks_dropped width left line text bs (mended false ys) e (break_mended ys ∙ f)

in_kept : (v : Bool) (width left line : ℕ) (text : Text) (bs ys : List ℕ) → all_blank bs ≡ true → is_solid ys ≡ true
    → reading_in v width left line text (bs ++ ys) ≡ reading_in v width 0 line (text ++ stripped_starts 0 left bs) ys
unfolding reading_in
in_kept false width left line text bs ys e f = blanks_kept width left line text bs ys e f
in_kept true width left line text bs ys e f =
    ap (reading width left line text) (mended_blanks bs ys e) ∙ blanks_kept width left line text bs (mended false ys) e (solid_mended ys ∙ f)

-- ---- places of the string

-- a plain character at a place, with those of its stretch before it
pub plain_first : (v : Bool) (width left line : ℕ) (text : Text) (raw : List ℕ) (i : ℕ) → i < length raw → is_plain (drop i raw) ≡ true
    → reading_in v width left line text (drop i raw) ≡ reading_in v width 0 line (text ++ slice_range raw i (i + 1)) (drop (i + 1) raw)
plain_first v width left line text raw i l e =
    let there = drop_at raw i l in
    let one : slice_range raw i (i + 1) ≡ get_or raw i 0 ∷ [] = stretched raw i i (le_refl i) l ∙ ap (λ (r : List ℕ). r ++ get_or raw i 0 ∷ []) (nothing_between raw i) in
    ap (reading_in v width left line text) there ∙ in_plain v width left line (get_or raw i 0) text (drop (i + 1) raw) (ap is_plain (sym there) ∙ e)
    ∙ ap (λ (r : List ℕ). reading_in v width 0 line (text ++ r) (drop (i + 1) raw)) (sym one)

pub plain_next : (v : Bool) (width line : ℕ) (text : Text) (raw : List ℕ) (from i : ℕ) → from ≤ i → i < length raw → is_plain (drop i raw) ≡ true
    → reading_in v width 0 line (text ++ slice_range raw from i) (drop i raw) ≡ reading_in v width 0 line (text ++ slice_range raw from (i + 1)) (drop (i + 1) raw)
plain_next v width line text raw from i h l e =
    let there = drop_at raw i l in
    ap (reading_in v width 0 line (text ++ slice_range raw from i)) there
    ∙ in_plain v width 0 line (get_or raw i 0) (text ++ slice_range raw from i) (drop (i + 1) raw) (ap is_plain (sym there) ∙ e)
    ∙ ap (λ (r : List ℕ). reading_in v width 0 line r (drop (i + 1) raw)) (append_assoc text (slice_range raw from i) (get_or raw i 0 ∷ []) ∙ ap (λ (r : List ℕ). text ++ r) (sym (stretched raw from i h l)))

-- ---- tests at a place

pub break_at : (raw : List ℕ) (i : ℕ) → i < length raw → is_break (drop i raw) ≡ (get_or raw i 0 == line_feed || (get_or raw i 0 == carriage_return && begins line_feed (drop (i + 1) raw)))
break_at raw i l = ap is_break (drop_at raw i l)

pub no_break : (raw : List ℕ) (i : ℕ) → length raw ≤ i → is_break (drop i raw) ≡ false
no_break raw i h = ap is_break (drop_all i raw h)

pub plain_at : (raw : List ℕ) (i : ℕ) → i < length raw → is_plain (drop i raw) ≡ (not (get_or raw i 0 == backslash) && (not (is_blank (get_or raw i 0)) && not (is_break (drop i raw))))
plain_at raw i l = ap is_plain (drop_at raw i l) ∙ ap (λ (ys : List ℕ). not (get_or raw i 0 == backslash) && (not (is_blank (get_or raw i 0)) && not (is_break ys))) (sym (drop_at raw i l))

all_blank_with : (bs : List ℕ) (x : ℕ) → all_blank bs ≡ true → is_blank x ≡ true → all_blank (bs ++ x ∷ []) ≡ true
all_blank_with [] x e f = ap (λ (b : Bool). b && true) f
all_blank_with (b ∷ bs) x e f =
    ap (λ (t : Bool). t && all_blank (bs ++ x ∷ [])) (and_left (is_blank b) (all_blank bs) e) ∙ all_blank_with bs x (and_right (is_blank b) (all_blank bs) e) f

pub blank_more : (raw : List ℕ) (from i : ℕ) → from ≤ i → i < length raw → all_blank (slice_range raw from i) ≡ true → is_blank (get_or raw i 0) ≡ true → all_blank (slice_range raw from (i + 1)) ≡ true
blank_more raw from i h l e f = ap all_blank (stretched raw from i h l) ∙ all_blank_with (slice_range raw from i) (get_or raw i 0) e f

pub blank_start : (raw : List ℕ) (i : ℕ) → all_blank (slice_range raw i i) ≡ true
blank_start raw i = ap all_blank (nothing_between raw i)

-- ---- stripping

pub slice_first : (raw : List ℕ) (i j : ℕ) → i < j → j ≤ length raw → slice_range raw i j ≡ get_or raw i 0 ∷ slice_range raw (i + 1) j
slice_first raw i j h l =
    let within : i < length raw = omega arith in
    let more : j - i ≡ suc (j - (i + 1)) = omega arith in
    ap (λ (n : ℕ). take n (drop i raw)) more ∙ ap (λ (ys : List ℕ). take (suc (j - (i + 1))) ys) (drop_at raw i within)

no_space : (left : ℕ) (xs : List ℕ) → 0 < left → xs ≡ replicate (1 - left) space ++ xs
no_space left xs h = let none : 1 - left ≡ 0 = omega arith in ap (λ (n : ℕ). replicate n space ++ xs) (sym none)

strip_first_space : (left : ℕ) (r : List ℕ) → 0 < left → stripped_starts 0 left (32 ∷ r) ≡ replicate (1 - left) space ++ stripped_starts 0 (left - 1) r
unfolding stripped_starts
strip_first_space left r h = ap (λ (b : Bool). cond b (stripped_starts 0 (left - 1) r) (32 ∷ stripped_starts 0 0 r)) (lt-ltb 0 left h) ∙ no_space left (stripped_starts 0 (left - 1) r) h

strip_first_tab : (left : ℕ) (r : List ℕ) → 0 < left → stripped_starts 0 left (9 ∷ r) ≡ replicate (8 - left) space ++ stripped_starts 0 (left - 8) r
unfolding stripped_starts
strip_first_tab left r h = ap (λ (b : Bool). cond b (replicate (8 - left) space ++ stripped_starts 0 (left - 8) r) (9 ∷ stripped_starts 0 0 r)) (lt-ltb 0 left h)

pub strip_first : (left x : ℕ) (r : List ℕ) → 0 < left → is_blank x ≡ true → stripped_starts 0 left (x ∷ r) ≡ replicate (blank_width x - left) space ++ stripped_starts 0 (left - blank_width x) r
strip_first left x r h e = elim (blank_is x e) [
  | inl k ↦ subst (λ (y : ℕ). stripped_starts 0 left (y ∷ r) ≡ replicate (blank_width y - left) space ++ stripped_starts 0 (left - blank_width y) r) (sym k) (strip_first_space left r h)
  | inr k ↦ subst (λ (y : ℕ). stripped_starts 0 left (y ∷ r) ≡ replicate (blank_width y - left) space ++ stripped_starts 0 (left - blank_width y) r) (sym k) (strip_first_tab left r h)
]

keep_32 : (r : List ℕ) → stripped_starts 0 0 (32 ∷ r) ≡ 32 ∷ stripped_starts 0 0 r
unfolding stripped_starts
keep_32 r = refl

keep_9 : (r : List ℕ) → stripped_starts 0 0 (9 ∷ r) ≡ 9 ∷ stripped_starts 0 0 r
unfolding stripped_starts
keep_9 r = refl

pub strip_nothing : (bs : List ℕ) → all_blank bs ≡ true → stripped_starts 0 0 bs ≡ bs
strip_nothing [] e = stripped_none 0
strip_nothing (b ∷ bs) e =
    let rest = strip_nothing bs (and_right (is_blank b) (all_blank bs) e) in
    elim (blank_is b (and_left (is_blank b) (all_blank bs) e)) [
      | inl h ↦ subst (λ (y : ℕ). stripped_starts 0 0 (y ∷ bs) ≡ y ∷ bs) (sym h) (keep_32 bs ∙ ap (λ (r : List ℕ). 32 ∷ r) rest)
      | inr h ↦ subst (λ (y : ℕ). stripped_starts 0 0 (y ∷ bs) ≡ y ∷ bs) (sym h) (keep_9 bs ∙ ap (λ (r : List ℕ). 9 ∷ r) rest)
    ]

-- one space or tab of a stretch is stripped
pub strip_step : (text new old : Text) (raw goal_list : List ℕ) (left i j : ℕ) → 0 < left → i < j → j ≤ length raw → all_blank (slice_range raw i j) ≡ true
    → text ++ stripped_starts 0 left (slice_range raw i j) ≡ goal_list → new ≡ text ++ replicate (blank_width (get_or raw i 0) - left) space
    → (new ++ stripped_starts 0 (left - blank_width (get_or raw i 0)) (slice_range raw (i + 1) j) ≡ goal_list) × (all_blank (slice_range raw (i + 1) j) ≡ true)
strip_step text new old raw goal_list left i j h k l e f is =
    let x : ℕ = get_or raw i 0 in
    let first = slice_first raw i j k l in
    let both = ap all_blank (sym first) ∙ e in (
      ap (λ (t : Text). t ++ stripped_starts 0 (left - blank_width x) (slice_range raw (i + 1) j)) is
          ∙ append_assoc text (replicate (blank_width x - left) space) (stripped_starts 0 (left - blank_width x) (slice_range raw (i + 1) j))
          ∙ ap (λ (r : List ℕ). text ++ r) (sym (strip_first left x (slice_range raw (i + 1) j) h (and_left (is_blank x) (all_blank (slice_range raw (i + 1) j)) both)))
          ∙ ap (λ (r : List ℕ). text ++ stripped_starts 0 left r) (sym first) ∙ f,
      and_right (is_blank x) (all_blank (slice_range raw (i + 1) j)) both,
    )

pub first_blank : (raw : List ℕ) (i j : ℕ) → i < j → j ≤ length raw → all_blank (slice_range raw i j) ≡ true → get_or raw i 0 < 128
first_blank raw i j k l e =
    let first = slice_first raw i j k l in
    elim (blank_is (get_or raw i 0) (and_left (is_blank (get_or raw i 0)) (all_blank (slice_range raw (i + 1) j)) (ap all_blank (sym first) ∙ e))) [
      | inl h ↦ omega (arith, h)
      | inr h ↦ omega (arith, h)
    ]

pub strip_end : (raw : List ℕ) (left i j : ℕ) → left ≡ 0 ⊎ (j ≤ i) → all_blank (slice_range raw i j) ≡ true → stripped_starts 0 left (slice_range raw i j) ≡ slice_range raw i j
strip_end raw left i j (inl h) e = ap (λ (n : ℕ). stripped_starts 0 n (slice_range raw i j)) h ∙ strip_nothing (slice_range raw i j) e
strip_end raw left i j (inr h) e =
    let none : j - i ≡ 0 = omega arith in
    let empty : slice_range raw i j ≡ [] = ap (λ (n : ℕ). take n (drop i raw)) none in
    ap (stripped_starts 0 left) empty ∙ stripped_none left ∙ sym empty

-- ---- a step of the whole string

pub plain_from : (raw : List ℕ) (i : ℕ) → i < length raw → is_blank (get_or raw i 0) ≡ false → (get_or raw i 0 ≡ 10 → ⊥) → (get_or raw i 0 ≡ 92 → ⊥)
    → (get_or raw i 0 == carriage_return && begins line_feed (drop (i + 1) raw)) ≡ false → is_plain (drop i raw) ≡ true
plain_from raw i l blank feed slash return =
    plain_at raw i l
    ∙ ap (λ (b : Bool). not b && (not (is_blank (get_or raw i 0)) && not (is_break (drop i raw)))) (ne_eqb (get_or raw i 0) 92 slash)
    ∙ ap (λ (b : Bool). not b && not (is_break (drop i raw))) blank
    ∙ ap (λ (b : Bool). not b) (break_at raw i l ∙ ap (λ (b : Bool). b || (get_or raw i 0 == carriage_return && begins line_feed (drop (i + 1) raw))) (ne_eqb (get_or raw i 0) 10 feed) ∙ return)

pub solid_at : (raw : List ℕ) (i : ℕ) → (i < length raw → is_blank (get_or raw i 0) ≡ false) → is_break (drop i raw) ≡ false → is_solid (drop i raw) ≡ true
solid_at raw i blank e = elim (lt_or_le i (length raw)) [
  | inl l ↦ ap is_solid (drop_at raw i l) ∙ ap (λ (b : Bool). not b && not (is_break (get_or raw i 0 ∷ drop (i + 1) raw))) (blank l)
      ∙ ap (λ (ys : List ℕ). not (is_break ys)) (sym (drop_at raw i l)) ∙ ap (λ (b : Bool). not b) e
  | inr l ↦ ap is_solid (drop_all i raw l)
]

pub step_feed : (v : Bool) (width left line : ℕ) (text new : Text) (raw : List ℕ) (i j : ℕ) → i < length raw → get_or raw i 0 ≡ 10 → new ≡ text ++ 10 ∷ [] → j ≡ i + 1
    → reading_in v width width (line + 1) new (drop j raw) ≡ reading_in v width left line text (drop i raw)
step_feed v width left line text new raw i j l feed is e =
    ap (λ (k : ℕ). reading_in v width width (line + 1) new (drop k raw)) e ∙ ap (λ (t : Text). reading_in v width width (line + 1) t (drop (i + 1) raw)) is
    ∙ sym (in_feed v width left line text (drop (i + 1) raw)) ∙ ap (λ (x : ℕ). reading_in v width left line text (x ∷ drop (i + 1) raw)) (sym feed)
    ∙ ap (reading_in v width left line text) (sym (drop_at raw i l))

pub step_return : (v : Bool) (width left line : ℕ) (text : Text) (raw : List ℕ) (i j : ℕ) → i < length raw → get_or raw i 0 ≡ 13 → begins line_feed (drop (i + 1) raw) ≡ true → j ≡ i + 1
    → reading_in v width left line text (drop j raw) ≡ reading_in v width left line text (drop i raw)
step_return v width left line text raw i j l return feed e =
    ap (λ (k : ℕ). reading_in v width left line text (drop k raw)) e
    ∙ sym (in_return v width left line text (drop (i + 1) raw) feed) ∙ ap (λ (x : ℕ). reading_in v width left line text (x ∷ drop (i + 1) raw)) (sym return)
    ∙ ap (reading_in v width left line text) (sym (drop_at raw i l))

pub step_plain : (v : Bool) (width left line : ℕ) (text new piece : Text) (raw : List ℕ) (i j : ℕ)
    → reading_in v width left line text (drop i raw) ≡ reading_in v width 0 line (text ++ slice_range raw i j) (drop j raw) → piece ≡ slice_range raw i j → new ≡ text ++ piece
    → reading_in v width 0 line new (drop j raw) ≡ reading_in v width left line text (drop i raw)
step_plain v width left line text new piece raw i j same is e =
    ap (λ (t : Text). reading_in v width 0 line t (drop j raw)) (e ∙ ap (λ (t : Text). text ++ t) is) ∙ sym same

pub step_dropped : (v : Bool) (width left line : ℕ) (text : Text) (raw : List ℕ) (i j : ℕ) → i ≤ j → all_blank (slice_range raw i j) ≡ true → is_break (drop j raw) ≡ true
    → reading_in v width left line text (drop j raw) ≡ reading_in v width left line text (drop i raw)
step_dropped v width left line text raw i j h e f =
    sym (ap (reading_in v width left line text) (cut_at raw i j h) ∙ in_dropped v width left line text (slice_range raw i j) (drop j raw) e f)

pub step_kept : (v : Bool) (width left line : ℕ) (text new : Text) (raw : List ℕ) (i j : ℕ) → i ≤ j → all_blank (slice_range raw i j) ≡ true → is_solid (drop j raw) ≡ true
    → new ≡ text ++ stripped_starts 0 left (slice_range raw i j)
    → reading_in v width 0 line new (drop j raw) ≡ reading_in v width left line text (drop i raw)
step_kept v width left line text new raw i j h e f is =
    ap (λ (t : Text). reading_in v width 0 line t (drop j raw)) is
    ∙ sym (ap (reading_in v width left line text) (cut_at raw i j h) ∙ in_kept v width left line text (slice_range raw i j) (drop j raw) e f)

slash_pair : (raw : List ℕ) (i j : ℕ) → j ≡ i + 1 → j < length raw → get_or raw i 0 ≡ 92 → drop i raw ≡ 92 ∷ get_or raw j 0 ∷ drop (j + 1) raw
slash_pair raw i j e l slash =
    drop_at raw i (omega arith) ∙ ap (λ (x : ℕ). x ∷ drop (i + 1) raw) slash ∙ ap (λ (k : ℕ). 92 ∷ drop k raw) (sym e) ∙ ap (λ (ys : List ℕ). 92 ∷ ys) (drop_at raw j l)

pub step_escape : (v : Bool) (width left line z : ℕ) (text new : Text) (raw : List ℕ) (i j k : ℕ) → j ≡ i + 1 → k ≡ j + 1 → j < length raw → get_or raw i 0 ≡ 92
    → Some z ≡ escape (get_or raw j 0) → new ≡ text ++ z ∷ [] → reading_in v width 0 line new (drop k raw) ≡ reading_in v width left line text (drop i raw)
step_escape v width left line z text new raw i j k e f l slash stands is =
    ap (λ (n : ℕ). reading_in v width 0 line new (drop n raw)) f ∙ ap (λ (t : Text). reading_in v width 0 line t (drop (j + 1) raw)) is
    ∙ sym (ap (reading_in v width left line text) (slash_pair raw i j e l slash) ∙ in_escape v width left line (get_or raw j 0) z text (drop (j + 1) raw) (sym stands))

pub step_wrong : (v : Bool) (width left line : ℕ) (text : Text) (raw : List ℕ) (i j : ℕ) → v ≡ false → j ≡ i + 1 → j < length raw → get_or raw i 0 ≡ 92
    → None ≡ escape (get_or raw j 0) → reading_in v width left line text (drop i raw) ≡ slip 4 line
step_wrong v width left line text raw i j old e l slash stands =
    ap (reading_in v width left line text) (slash_pair raw i j e l slash) ∙ in_wrong v width left line (get_or raw j 0) text (drop (j + 1) raw) old (sym stands)

pub step_itself : (v : Bool) (width left line : ℕ) (text more : Text) (raw : List ℕ) (i j : ℕ) → v ≡ true → j ≡ i + 1 → j < length raw → get_or raw i 0 ≡ 92
    → None ≡ escape (get_or raw j 0) → more ≡ text ++ 92 ∷ [] → reading_in v width 0 line more (drop j raw) ≡ reading_in v width left line text (drop i raw)
step_itself v width left line text more raw i j new e l slash stands is =
    ap (λ (t : Text). reading_in v width 0 line t (drop j raw)) is ∙ ap (reading_in v width 0 line (text ++ 92 ∷ [])) (drop_at raw j l)
    ∙ sym (ap (reading_in v width left line text) (slash_pair raw i j e l slash) ∙ in_itself v width left line (get_or raw j 0) text (drop (j + 1) raw) new (sym stands))

pub step_alone : (v : Bool) (width left line : ℕ) (text : Text) (raw : List ℕ) (i j : ℕ) → j ≡ i + 1 → i < length raw → j ≡ length raw → get_or raw i 0 ≡ 92
    → reading_in v width left line text (drop j raw) ≡ reading_in v width left line text (drop i raw)
step_alone v width left line text raw i j e l f slash =
    let none = drop_all j raw (omega arith) in
    ap (reading_in v width left line text) none ∙ in_none v width left line text
    ∙ sym (ap (reading_in v width left line text) (drop_at raw i l ∙ ap (λ (x : ℕ). x ∷ drop (i + 1) raw) slash ∙ ap (λ (k : ℕ). 92 ∷ drop k raw) (sym e) ∙ ap (λ (ys : List ℕ). 92 ∷ ys) none) ∙ in_alone v width left line text)

pub returned : (raw : List ℕ) (i : ℕ) → (get_or raw i 0 == carriage_return && begins line_feed (drop (i + 1) raw)) ≡ true
    → (get_or raw i 0 ≡ 13) × (begins line_feed (drop (i + 1) raw) ≡ true)
returned raw i e = (eqb-true (get_or raw i 0) 13 (and_left (get_or raw i 0 == carriage_return) (begins line_feed (drop (i + 1) raw)) e), and_right (get_or raw i 0 == carriage_return) (begins line_feed (drop (i + 1) raw)) e)

pub reading_done : (v : Bool) (width left line : ℕ) (text : Text) (raw : List ℕ) (i : ℕ) → length raw ≤ i → reading_in v width left line text (drop i raw) ≡ Ok text
reading_done v width left line text raw i h = ap (reading_in v width left line text) (drop_all i raw h) ∙ in_none v width left line text

-- ---- a string in which no line breaks

abbrev feeds : List ℕ → Bool
feeds xs = list_any (λ y. y == line_feed) xs

and_none : (a b : Bool) → b ≡ false → (a && b) ≡ false
and_none true b e = e
and_none false b e = refl

no_front : (xs : List ℕ) → feeds xs ≡ false → begins line_feed xs ≡ false
no_front [] e = refl
no_front (x ∷ xs) e = or_left (x == line_feed) (feeds xs) e

joined_whole : (xs : List ℕ) → feeds xs ≡ false → joined_breaks xs ≡ xs
joined_whole [] e = joined_none
joined_whole (x ∷ xs) e =
    let rest = or_right (x == line_feed) (feeds xs) e in
    joined_kept x xs (and_none (x == carriage_return) (begins line_feed xs) (no_front xs rest)) ∙ ap (λ (ys : List ℕ). x ∷ ys) (joined_whole xs rest)

trimmed_whole : (xs : List ℕ) → feeds xs ≡ false → trimmed_ends xs ≡ xs
unfolding trimmed_ends
trimmed_whole [] e = refl
trimmed_whole (x ∷ xs) e =
    let rest = or_right (x == line_feed) (feeds xs) e in
    ap (λ (ys : List ℕ). cond (is_blank x && begins line_feed ys) ys (x ∷ ys)) (trimmed_whole xs rest)
    ∙ ap (λ (b : Bool). cond b xs (x ∷ xs)) (and_none (is_blank x) (begins line_feed xs) (no_front xs rest))

stripped_alike : (width other left : ℕ) (xs : List ℕ) → feeds xs ≡ false → stripped_starts width left xs ≡ stripped_starts other left xs
unfolding stripped_starts
stripped_alike width other left [] e = refl
stripped_alike width other left (x ∷ xs) e =
    let feed = or_left (x == line_feed) (feeds xs) e in
    let rest = or_right (x == line_feed) (feeds xs) e in
    rw (feed, stripped_alike width other (left - 1) xs rest, stripped_alike width other (left - 8) xs rest, stripped_alike width other 0 xs rest) refl

plain_unasked : (width other line : ℕ) (text : Text) (raw : List ℕ) → list_any (λ y. y == line_feed) raw ≡ false
    → reading width 0 line text raw ≡ reading other 0 line text raw
unfolding reading said
plain_unasked width other line text raw e =
    let same : trimmed_ends (joined_breaks raw) ≡ raw = ap trimmed_ends (joined_whole raw e) ∙ trimmed_whole raw e in
    ap (λ (ys : List ℕ). option_map_or (λ bad. slip 4 bad) (bad_escape_line false line raw) (Ok (text ++ unescaped false ys)))
    (ap (stripped_starts width 0) same ∙ stripped_alike width other 0 raw e ∙ ap (stripped_starts other 0) (sym same))

pub width_unasked : (v : Bool) (width other line : ℕ) (text : Text) (raw : List ℕ) → list_any (λ y. y == line_feed) raw ≡ false
    → reading_in v width 0 line text raw ≡ reading_in v other 0 line text raw
unfolding reading_in
width_unasked false width other line text raw e = plain_unasked width other line text raw e
width_unasked true width other line text raw e = plain_unasked width other line text (mended false raw) (feeds_mended false raw e)
