-- A text is cut into tokens as they are read from its front.
use Rattle.std.proofs.Common.{◌≡◌, ℕ, suc, ◌+◌, ◌<◌, Bool, true, false, cond, [], ◌∷◌, ◌++◌, length, take, drop, Option, Some, None, refl, sym, ap, subst, ◌∙◌, append_assoc, arith, ◌⊎◌, inl, inr}
use Rattle.std.specs.Prelude.{◌==◌, ◌&&◌, ◌||◌, option_map}
use Rattle.std.specs.Option.{option_map_or}
use Rattle.std.proofs.lemmas.Bool.{eqb-true, and_parts}
use Rattle.std.proofs.lemmas.List.{take_at, length-append}
use Rattle.yspec.specs.text.Text.{Text, begins, is_white, line_feed, double_quote, single_quote, star, slash, semicolon, backslash, open_brace, close_brace}
use Rattle.yspec.specs.text.Token.{Lexeme, word, single, double, semi, open_block, close_block, finish, unclosed_quote, unclosed_comment, stray_end, Front, gap, token, last, front, slash_front, is_delimiter, other_front, single_front, double_front, comment_front, ends_word, word_length, line_comment_length, comment_rest_length, single_length, double_length}
use Rattle.yspec.specs.text.Spelling.{HasNo, HasNoCommentEnd, EndsLine, IsWord, InDoubleQuotes, nothing, plain, escaped, IsGap, white_space, line_comment, comment, IsToken, unquoted, single_quoted, double_quoted, ends, opens, closes, IsBroken, open_single, open_double, open_escape, open_comment, lone_end}
use Rattle.yspec.proofs.BasicLemmas.{or_parts}

pub by_test : {A : Type 0} (P : A → Type 0) (b : Bool) (x y : A) → (b ≡ true → P x) → (b ≡ false → P y) → P (cond b x y)
by_test P true x y h k = h refl
by_test P false x y h k = k refl

-- the first n bytes of a text and those behind them
pub record Split (P : Text → Text → Type 0) (text : Text) (n : ℕ) : Type 0 where
  pub bytes : Text
  pub rest : Text
  pub holds : P bytes rest
  pub whole : text ≡ bytes ++ rest
  pub long : length bytes ≡ n

split_more : (P Q : Text → Text → Type 0) (x : ℕ) (xs : Text) (n : ℕ)
    → ((bytes rest : Text) → xs ≡ bytes ++ rest → P bytes rest → Q (x ∷ bytes) rest) → Split P xs n
    → Split Q (x ∷ xs) (suc n)
split_more P Q x xs n step s = record {
  bytes = x ∷ s.bytes;
  rest = s.rest;
  holds =
      step s.bytes s.rest s.whole s.holds;
  whole = ap (λ (t : Text). x ∷ t) s.whole;
  long =
      ap (λ (k : ℕ). suc k) s.long;
}

-- ---- each length is that of a piece

line_split : (xs : Text) → Split (λ c rest. HasNo line_feed c × EndsLine rest) xs (line_comment_length xs)
line_split [] = record { bytes = []; rest = []; holds = (tt, tt); whole = refl; long = refl }
line_split (x ∷ xs) = by_test (Split (λ c rest. HasNo line_feed c × EndsLine rest) (x ∷ xs)) (x == line_feed) 0
    (suc (line_comment_length xs)) (λ h. record {
      bytes = [];
      rest = x ∷ xs;
      holds = (tt, h);
      whole = refl;
      long =
          refl;
    }) (λ h. split_more (λ c rest. HasNo line_feed c × EndsLine rest)
    (λ c rest. HasNo line_feed c × EndsLine rest) x xs (line_comment_length xs) (λ bytes rest e p. ((h, p.0), p.1))
    (line_split xs))

word_split : (xs : Text) → Split IsWord xs (word_length xs)
word_split [] = record { bytes = []; rest = []; holds = tt; whole = refl; long = refl }
word_split (x ∷ xs) = by_test (Split IsWord (x ∷ xs)) (ends_word x xs) 0 (suc (word_length xs))
    (λ h. record { bytes = []; rest = x ∷ xs; holds = h; whole = refl; long = refl })
    (λ h. split_more IsWord IsWord x xs (word_length xs)
    (λ bytes rest e p. (subst (λ (t : Text). ends_word x t ≡ false) e h, p)) (word_split xs))

-- the same where there is such a beginning, and else what holds of the whole
abbrev SplitIf : (Text → Text → Type 0) → (Text → Type 0) → Text → Option ℕ → Type 0
SplitIf P N text None = N text
SplitIf P N text (Some n) = Split P text n

split_if_more : (P Q : Text → Text → Type 0) (N M : Text → Type 0) (x : ℕ) (xs : Text) (o : Option ℕ)
    → ((bytes rest : Text) → xs ≡ bytes ++ rest → P bytes rest → Q (x ∷ bytes) rest) → (N xs → M (x ∷ xs))
    → SplitIf P N xs o → SplitIf Q M (x ∷ xs) (option_map suc o)
split_if_more P Q N M x xs None step keep s = keep s
split_if_more P Q N M x xs (Some n) step keep s = split_more P Q x xs n step s

begins_is : (y : ℕ) (xs : Text) → begins y xs ≡ true → xs ≡ y ∷ drop 1 xs
begins_is y [] h = absurd cc
begins_is y (x ∷ xs) h = ap (λ (z : ℕ). z ∷ xs) (eqb-true x y h)

EndsComment : Text → Text → Type 0
EndsComment bytes rest = (c : Text) × HasNoCommentEnd c × (bytes ≡ c ++ (star ∷ slash ∷ []))

same_begin : (c rest : Text) → begins slash ((c ++ (star ∷ slash ∷ [])) ++ rest) ≡ begins slash c
same_begin [] rest = refl
same_begin (y ∷ ys) rest = refl

comment_split : (xs : Text) → SplitIf EndsComment HasNoCommentEnd xs (comment_rest_length xs)
unfolding EndsComment
comment_split [] = tt
comment_split (x ∷ xs) = by_test (SplitIf EndsComment HasNoCommentEnd (x ∷ xs)) (x == star && begins slash xs)
    (Some 2) (option_map suc (comment_rest_length xs))
    (λ h. let p = and_parts (x == star) (begins slash xs) h in record {
      bytes = star ∷ slash ∷ [];
      rest =
          drop 1 xs;
      holds = ([], tt, refl);
      whole =
          ap (λ (z : ℕ). z ∷ xs) (eqb-true x star p.0) ∙ ap (λ (t : Text). star ∷ t) (begins_is slash xs p.1);
      long =
          refl;
    })
    (λ h. split_if_more EndsComment EndsComment HasNoCommentEnd HasNoCommentEnd x xs (comment_rest_length xs)
    (λ bytes rest e p. (
      x ∷ p.0,
      (
        subst (λ (b : Bool). (x == star && b) ≡ false)
            (ap (λ (t : Text). begins slash t) e ∙ ap (λ (t : Text). begins slash (t ++ rest)) p.2 ∙ same_begin p.0
            rest)
            h,
        p.1,
      ),
      ap (λ (t : Text). x ∷ t) p.2,
    )) (λ n. (h, n)) (comment_split xs))

Singly : Text → Text → Type 0
Singly raw rest = HasNo single_quote raw × (more : Text) × (rest ≡ single_quote ∷ more)

single_split : (xs : Text) → SplitIf Singly (HasNo single_quote) xs (single_length xs)
unfolding Singly
single_split [] = tt
single_split (x ∷ xs) = by_test (SplitIf Singly (HasNo single_quote) (x ∷ xs)) (x == single_quote) (Some 0)
    (option_map suc (single_length xs))
    (λ h. record {
      bytes = [];
      rest = x ∷ xs;
      holds = (tt, xs, ap (λ (z : ℕ). z ∷ xs) (eqb-true x single_quote h));
      whole = refl;
      long = refl;
    })
    (λ h. split_if_more Singly Singly (HasNo single_quote) (HasNo single_quote) x xs (single_length xs)
    (λ bytes rest e p. ((h, p.0), p.1, p.2)) (λ n. (h, n)) (single_split xs))

Doubly : Bool → Text → Text → Type 0
Doubly true raw rest = InDoubleQuotes (backslash ∷ raw) × (more : Text) × (rest ≡ double_quote ∷ more)
Doubly false raw rest = InDoubleQuotes raw × (more : Text) × (rest ≡ double_quote ∷ more)

-- behind a double quote that nothing closes
OpenDouble : Text → Type 0
OpenDouble xs = InDoubleQuotes xs ⊎ ((raw : Text) × InDoubleQuotes raw × (xs ≡ raw ++ (backslash ∷ [])))

abbrev NotDoubly : Bool → Text → Type 0
NotDoubly true xs = OpenDouble (backslash ∷ xs)
NotDoubly false xs = OpenDouble xs

open_more : (x : ℕ) (xs : Text) → ((raw : Text) → InDoubleQuotes raw → InDoubleQuotes (x ∷ raw)) → OpenDouble xs
    → OpenDouble (x ∷ xs)
unfolding OpenDouble
open_more x xs f (inl p) = inl (f xs p)
open_more x xs f (inr p) = inr (x ∷ p.0, f p.0 p.1, ap (λ (t : Text). x ∷ t) p.2)

open_escaped : (x : ℕ) (xs : Text) → OpenDouble xs → OpenDouble (backslash ∷ x ∷ xs)
unfolding OpenDouble
open_escaped x xs (inl p) = inl (escaped p)
open_escaped x xs (inr p) = inr (backslash ∷ x ∷ p.0, escaped p.1, ap (λ (t : Text). backslash ∷ x ∷ t) p.2)

double_more : (b : Bool) (x : ℕ) (xs : Text) → (x == double_quote) ≡ false → (x == backslash) ≡ b
    → SplitIf (Doubly b) (NotDoubly b) xs (double_length b xs) → SplitIf (Doubly false) OpenDouble (x ∷ xs)
    (option_map suc (double_length b xs))
unfolding Doubly
double_more true x xs q h s = split_if_more (Doubly true) (Doubly false) (NotDoubly true) OpenDouble x xs
    (double_length true xs) (λ bytes rest e p. (
      subst (λ (z : ℕ). InDoubleQuotes (z ∷ bytes))
          (sym (eqb-true x backslash h)) p.0,
      p.1,
      p.2,
    )) (λ n. subst (λ (z : ℕ). OpenDouble (z ∷ xs))
    (sym (eqb-true x backslash h)) n) s
double_more false x xs q h s = split_if_more (Doubly false) (Doubly false) (NotDoubly false) OpenDouble x xs
    (double_length false xs) (λ bytes rest e p. (plain q h p.0, p.1, p.2)) (open_more x xs (λ raw p. plain q h p)) s

double_split : (b : Bool) (xs : Text) → SplitIf (Doubly b) (NotDoubly b) xs (double_length b xs)
unfolding Doubly OpenDouble
double_split true [] = inr ([], nothing, refl)
double_split false [] = inl nothing
double_split true (x ∷ xs) = split_if_more (Doubly false) (Doubly true) OpenDouble (NotDoubly true) x xs
    (double_length false xs) (λ bytes rest e p. (escaped p.0, p.1, p.2)) (open_escaped x xs) (double_split false xs)
double_split false (x ∷ xs) = by_test (SplitIf (Doubly false) OpenDouble (x ∷ xs)) (x == double_quote) (Some 0)
    (option_map suc (double_length (x == backslash) xs))
    (λ h. record {
      bytes = [];
      rest = x ∷ xs;
      holds =
          (nothing, xs, ap (λ (z : ℕ). z ∷ xs) (eqb-true x double_quote h));
      whole = refl;
      long = refl;
    })
    (λ h. double_more (x == backslash) x xs h refl (double_split (x == backslash) xs))

-- ---- what stands at the front of a text is a gap or a token

unfoldable pub Right : ℕ → Text → Front → Type 0
Right column text (gap n) = Split IsGap text n
Right column text (token lexeme n) = Split (IsToken column lexeme) text n
Right column text (last lexeme) = IsBroken text lexeme

line_right : (column : ℕ) (ys : Text) → Right column (slash ∷ slash ∷ ys) (gap (suc (line_comment_length (slash ∷ ys))))
unfolding Right
line_right column ys = let s = line_split ys in record {
  bytes = slash ∷ slash ∷ s.bytes;
  rest = s.rest;
  holds =
      line_comment s.holds.0 s.holds.1;
  whole = ap (λ (t : Text). slash ∷ slash ∷ t) s.whole;
  long =
      ap (λ (k : ℕ). suc (suc k)) s.long;
}

comment_right : (column : ℕ) (ys : Text) (o : Option ℕ) → SplitIf EndsComment HasNoCommentEnd ys o
    → Right column (slash ∷ star ∷ ys) (option_map_or (λ n. gap (n + 2)) o (last unclosed_comment))
unfolding Right EndsComment
comment_right column ys None s = open_comment s
comment_right column ys (Some n) s = record {
  bytes = slash ∷ star ∷ s.bytes;
  rest = s.rest;
  holds =
      subst (λ (b : Text). IsGap (slash ∷ star ∷ b) s.rest) (sym s.holds.2) (comment s.holds.0 s.holds.1);
  whole =
      ap (λ (t : Text). slash ∷ star ∷ t) s.whole;
  long = omega (arith, s.long);
}

word_right : (column x : ℕ) (xs : Text) → ends_word x xs ≡ false
    → Right column (x ∷ xs) (token (word (x ∷ take (word_length xs) xs)) (suc (word_length xs)))
unfolding Right
word_right column x xs h =
    let s = word_split xs in
    let front_is : take (word_length xs) xs ≡ s.bytes = ap (λ (t : Text). take (word_length xs) t) s.whole
    ∙ take_at s.bytes s.rest (word_length xs) s.long in
    record {
      bytes = x ∷ s.bytes;
      rest = s.rest;
      holds =
          subst (λ (b : Text). IsToken column (word (x ∷ b)) (x ∷ s.bytes) s.rest) (sym front_is)
          (unquoted (subst (λ (t : Text). ends_word x t ≡ false) s.whole h, s.holds));
      whole =
          ap (λ (t : Text). x ∷ t) s.whole;
      long = ap (λ (k : ℕ). suc k) s.long;
    }

closed_right : (column q n : ℕ) (xs raw rest more : Text) (lexeme : Lexeme)
    → IsToken column lexeme (q ∷ (raw ++ (q ∷ []))) more → xs ≡ raw ++ rest → rest ≡ q ∷ more → length raw ≡ n
    → Split (IsToken column lexeme) (q ∷ xs) (n + 2)
closed_right column q n xs raw rest more lexeme p whole next long = record {
  bytes = q ∷ (raw ++ (q ∷ []));
  rest =
      more;
  holds = p;
  whole = ap (λ (t : Text). q ∷ t) (whole ∙ ap (λ (t : Text). raw ++ t) next
      ∙ sym (append_assoc raw (q ∷ []) more));
  long = omega (arith, length-append raw (q ∷ []), long);
}

single_right : (column : ℕ) (xs : Text) (o : Option ℕ) → SplitIf Singly (HasNo single_quote) xs o
    → Right column (single_quote ∷ xs) (option_map_or (λ n. token (single (take n xs)) (n + 2)) o
    (last unclosed_quote))
unfolding Right Singly
single_right column xs None s = open_single s
single_right column xs (Some n) s =
    let raw_is : take n xs ≡ s.bytes = ap (λ (t : Text). take n t) s.whole ∙ take_at s.bytes s.rest n s.long in
    rw raw_is (closed_right column single_quote n xs s.bytes s.rest s.holds.1 (single s.bytes)
    (single_quoted s.holds.0) s.whole s.holds.2 s.long)

double_right : (column : ℕ) (xs : Text) (o : Option ℕ) → SplitIf (Doubly false) OpenDouble xs o
    → Right column (double_quote ∷ xs) (option_map_or (λ n. token (double column (take n xs)) (n + 2)) o
    (last unclosed_quote))
unfolding Right Doubly OpenDouble
double_right column xs None (inl p) = open_double p
double_right column xs None (inr p) = subst (λ (t : Text). IsBroken (double_quote ∷ t) unclosed_quote) (sym p.2)
    (open_escape p.0 p.1)
double_right column xs (Some n) s =
    let raw_is : take n xs ≡ s.bytes = ap (λ (t : Text). take n t) s.whole ∙ take_at s.bytes s.rest n s.long in
    rw raw_is (closed_right column double_quote n xs s.bytes s.rest s.holds.1 (double column s.bytes)
    (double_quoted s.holds.0) s.whole s.holds.2 s.long)

slash_right : (column : ℕ) (xs : Text) → Right column (slash ∷ xs) (slash_front xs)
slash_right column [] = word_right column slash [] refl
slash_right column (y ∷ ys) = by_test (Right column (slash ∷ y ∷ ys)) (y == slash) _ _
    (λ h. subst (λ (z : ℕ). Right column (slash ∷ z ∷ ys) (gap (suc (line_comment_length (z ∷ ys)))))
    (sym (eqb-true y slash h)) (line_right column ys))
    (λ h. by_test (Right column (slash ∷ y ∷ ys)) (y == star) _ _
    (λ k. subst (λ (z : ℕ). Right column (slash ∷ z ∷ ys) (comment_front ys)) (sym (eqb-true y star k))
    (comment_right column ys (comment_rest_length ys) (comment_split ys)))
    (λ k. word_right column slash (y ∷ ys) (rw (h, k) refl)))

other_right : (column x : ℕ) (xs : Text) → is_white x ≡ false → (x == slash) ≡ false → (x == single_quote) ≡ false
    → (x == double_quote) ≡ false → (x == semicolon) ≡ false → (x == open_brace) ≡ false → (x == close_brace) ≡ false
    → Right column (x ∷ xs) (other_front x xs)
unfolding Right
other_right column x xs w s q d e o c = by_test (Right column (x ∷ xs)) (x == star && begins slash xs) _ _
    (λ h. let p = and_parts (x == star) (begins slash xs) h in subst (λ (t : Text). IsBroken t stray_end)
    (sym (ap (λ (z : ℕ). z ∷ xs) (eqb-true x star p.0) ∙ ap (λ (t : Text). star ∷ t) (begins_is slash xs p.1)))
    lone_end)
    (λ h. word_right column x xs (rw (w, s, q, d, e, o, c, h) refl))

mark_right : (column x mark : ℕ) (xs : Text) (lexeme : Lexeme) → (x == mark) ≡ true
    → IsToken column lexeme (mark ∷ []) xs → Split (IsToken column lexeme) (x ∷ xs) 1
mark_right column x mark xs lexeme h p = record {
  bytes = mark ∷ [];
  rest = xs;
  holds = p;
  whole =
      ap (λ (z : ℕ). z ∷ xs) (eqb-true x mark h);
  long = refl;
}

pub front_right : (column x : ℕ) (xs : Text) → Right column (x ∷ xs) (front column x xs)
unfolding Right
front_right column x xs = by_test (Right column (x ∷ xs)) (is_white x) _ _
    (λ w. record { bytes = x ∷ []; rest = xs; holds = white_space w; whole = refl; long = refl })
    (λ w. by_test (Right column (x ∷ xs)) (x == slash) _ _
    (λ h. subst (λ (z : ℕ). Right column (z ∷ xs) (slash_front xs)) (sym (eqb-true x slash h)) (slash_right column xs))
    (λ s. by_test (Right column (x ∷ xs)) (x == single_quote) _ _
    (λ h. subst (λ (z : ℕ). Right column (z ∷ xs) (single_front xs)) (sym (eqb-true x single_quote h))
    (single_right column xs (single_length xs) (single_split xs)))
    (λ q. by_test (Right column (x ∷ xs)) (x == double_quote) _ _
    (λ h. subst (λ (z : ℕ). Right column (z ∷ xs) (double_front column xs)) (sym (eqb-true x double_quote h))
    (double_right column xs (double_length false xs) (double_split false xs)))
    (λ d. by_test (Right column (x ∷ xs)) (x == semicolon) _ _
    (λ h. mark_right column x semicolon xs semi h ends)
    (λ e. by_test (Right column (x ∷ xs)) (x == open_brace) _ _
    (λ h. mark_right column x open_brace xs open_block h opens)
    (λ o. by_test (Right column (x ∷ xs)) (x == close_brace) _ _
    (λ h. mark_right column x close_brace xs close_block h closes)
    (λ c. other_right column x xs w s q d e o c)))))))

-- ---- reading what is a gap or a token

line_length : (c rest : Text) → HasNo line_feed c → EndsLine rest → line_comment_length (c ++ rest) ≡ length c
line_length [] [] h e = refl
line_length [] (y ∷ ys) h e = rw e refl
line_length (x ∷ xs) rest h e = rw h.0 (ap (λ (k : ℕ). suc k) (line_length xs rest h.1 e))

word_long : (w rest : Text) → IsWord w rest → word_length (w ++ rest) ≡ length w
word_long [] [] h = refl
word_long [] (y ∷ ys) h = rw h refl
word_long (x ∷ xs) rest h = rw h.0 (ap (λ (k : ℕ). suc k) (word_long xs rest h.1))

comment_long : (c rest : Text) → HasNoCommentEnd c → comment_rest_length ((c ++ (star ∷ slash ∷ [])) ++ rest) ≡ Some
    (length c + 2)
comment_long [] rest h = refl
comment_long (x ∷ xs) rest h = rw (same_begin xs rest, h.0, comment_long xs rest h.1)
    (ap (λ (k : ℕ). Some k) (omega arith))

single_long : (raw rest : Text) → HasNo single_quote raw
    → single_length ((raw ++ (single_quote ∷ [])) ++ rest) ≡ Some (length raw)
single_long [] rest h = refl
single_long (x ∷ xs) rest h = rw (h.0, single_long xs rest h.1) refl

double_long : (raw rest : Text) → InDoubleQuotes raw
    → double_length false ((raw ++ (double_quote ∷ [])) ++ rest) ≡ Some (length raw)
double_long raw rest nothing = refl
double_long raw rest (plain {x = x} {raw = xs} q b p) = rw (q, b, double_long xs rest p) refl
double_long raw rest (escaped {x = x} {raw = xs} p) = rw (double_long xs rest p) refl

unfoldable pub front_at : ℕ → Text → Front
front_at column [] = last finish
front_at column (x ∷ xs) = front column x xs

slash_word : (column : ℕ) (xs : Text) → (begins slash xs || begins star xs) ≡ false → front column slash xs ≡ token
    (word (slash ∷ take (word_length xs) xs)) (suc (word_length xs))
slash_word column xs h = let p = or_parts (begins slash xs) (begins star xs) h in rw (p.0, p.1) refl

word_front : (column x : ℕ) (xs : Text) → ends_word x xs ≡ false
    → front column x xs ≡ token (word (x ∷ take (word_length xs) xs)) (suc (word_length xs))
word_front column x xs h =
    let a = or_parts (is_delimiter x) _ h in
    let b = or_parts (is_white x) _ a.0 in
    let c = or_parts (x == double_quote || x == single_quote) _ b.1 in
    let d = or_parts (x == double_quote) (x == single_quote) c.0 in
    let e = or_parts (x == semicolon) _ c.1 in
    let f = or_parts (x == open_brace) (x == close_brace) e.1 in
    let g = or_parts (x == slash && (begins slash xs || begins star xs)) (x == star && begins slash xs) a.1 in
    go (x == slash) refl b.0 d.0 d.1 e.0 f.0 f.1 g.0 g.1
  where
    go : (s : Bool) → (x == slash) ≡ s → is_white x ≡ false → (x == double_quote) ≡ false
        → (x == single_quote) ≡ false → (x == semicolon) ≡ false → (x == open_brace) ≡ false
        → (x == close_brace) ≡ false → (x == slash && (begins slash xs || begins star xs)) ≡ false
        → (x == star && begins slash xs) ≡ false → front column x xs ≡ token (word (x ∷ take (word_length xs) xs))
        (suc (word_length xs))
    go true k w d q e o c l t = subst (λ (z : ℕ). front column z xs ≡ token (word (z ∷ take (word_length xs) xs))
        (suc (word_length xs))) (sym (eqb-true x slash k)) (slash_word column xs (rw k at l))
    go false k w d q e o c l t = rw (w, k, q, d, e, o, c, t) refl

pub gap_front : (column : ℕ) (bytes rest : Text) → IsGap bytes rest → front_at column (bytes ++ rest) ≡ gap
    (length bytes)
unfolding front_at
gap_front column bytes rest (white_space h) = rw h refl
gap_front column bytes rest (line_comment {c = c} h e) = rw (line_length c rest h e) refl
gap_front column bytes rest (comment c h) = rw (comment_long c rest h)
    (ap (λ (k : ℕ). gap k) (omega (arith, length-append c (star ∷ slash ∷ []))))

quoted_same : (f : Text → Lexeme) (raw rest : Text) (q : ℕ)
    → token (f (take (length raw) ((raw ++ (q ∷ [])) ++ rest))) (length raw + 2) ≡ token (f raw)
    (suc (length (raw ++ (q ∷ []))))
quoted_same f raw rest q = rw (append_assoc raw (q ∷ []) rest, take_at raw (q ∷ rest) (length raw) refl)
    (ap (λ (k : ℕ). token (f raw) k) (omega (arith, length-append raw (q ∷ []))))

pub piece_front : (column : ℕ) (lexeme : Lexeme) (bytes rest : Text) → IsToken column lexeme bytes rest
    → front_at column (bytes ++ rest) ≡ token lexeme (length bytes)
unfolding front_at
piece_front column lexeme bytes rest (unquoted {x = x} {w = w} h) =
    word_front column x (w ++ rest) h.0 ∙ rw (word_long w rest h.1, take_at w rest (length w) refl) refl
piece_front column lexeme bytes rest (single_quoted {raw = raw} h) =
    rw (single_long raw rest h) (quoted_same single raw rest single_quote)
piece_front column lexeme bytes rest (double_quoted {raw = raw} h) =
    rw (double_long raw rest h) (quoted_same (double column) raw rest double_quote)
piece_front column lexeme bytes rest ends = refl
piece_front column lexeme bytes rest opens = refl
piece_front column lexeme bytes rest closes = refl

pub gap_not_empty : (bytes rest : Text) → IsGap bytes rest → 0 < length bytes
gap_not_empty bytes rest (white_space h) = omega arith
gap_not_empty bytes rest (line_comment h e) = omega arith
gap_not_empty bytes rest (comment c h) = omega arith

pub piece_not_empty : (column : ℕ) (lexeme : Lexeme) (bytes rest : Text) → IsToken column lexeme bytes rest
    → 0 < length bytes
piece_not_empty column lexeme bytes rest (unquoted h) = omega arith
piece_not_empty column lexeme bytes rest (single_quoted h) = omega arith
piece_not_empty column lexeme bytes rest (double_quoted h) = omega arith
piece_not_empty column lexeme bytes rest ends = omega arith
piece_not_empty column lexeme bytes rest opens = omega arith
piece_not_empty column lexeme bytes rest closes = omega arith

-- the tokens that end a text
abbrev pub is_ending : Lexeme → Bool
is_ending finish = true
is_ending unclosed_quote = true
is_ending unclosed_comment = true
is_ending stray_end = true
is_ending _ = false

pub piece_not_ending : (column : ℕ) (lexeme : Lexeme) (bytes rest : Text) → IsToken column lexeme bytes rest
    → is_ending lexeme ≡ false
piece_not_ending column lexeme bytes rest (unquoted h) = refl
piece_not_ending column lexeme bytes rest (single_quoted h) = refl
piece_not_ending column lexeme bytes rest (double_quoted h) = refl
piece_not_ending column lexeme bytes rest ends = refl
piece_not_ending column lexeme bytes rest opens = refl
piece_not_ending column lexeme bytes rest closes = refl

pub broken_ends : (text : Text) (lexeme : Lexeme) → IsBroken text lexeme → is_ending lexeme ≡ true
broken_ends text lexeme (open_single h) = refl
broken_ends text lexeme (open_double h) = refl
broken_ends text lexeme (open_escape raw h) = refl
broken_ends text lexeme (open_comment h) = refl
broken_ends text lexeme lone_end = refl

no_comment : (c : Text) → HasNoCommentEnd c → comment_rest_length c ≡ None
no_comment [] h = refl
no_comment (x ∷ xs) h = rw (h.0, no_comment xs h.1) refl

no_single : (raw : Text) → HasNo single_quote raw → single_length raw ≡ None
no_single [] h = refl
no_single (x ∷ xs) h = rw (h.0, no_single xs h.1) refl

no_double : (raw : Text) → InDoubleQuotes raw → double_length false raw ≡ None
no_double raw nothing = refl
no_double raw (plain {x = x} {raw = xs} q b p) = rw (q, b, no_double xs p) refl
no_double raw (escaped {x = x} {raw = xs} p) = rw (no_double xs p) refl

no_escape : (raw : Text) → InDoubleQuotes raw → double_length false (raw ++ (backslash ∷ [])) ≡ None
no_escape raw nothing = refl
no_escape raw (plain {x = x} {raw = xs} q b p) = rw (q, b, no_escape xs p) refl
no_escape raw (escaped {x = x} {raw = xs} p) = rw (no_escape xs p) refl

pub broken_front : (column : ℕ) (text : Text) (lexeme : Lexeme) → IsBroken text lexeme
    → front_at column text ≡ last lexeme
unfolding front_at
broken_front column text lexeme (open_single {raw = raw} h) = rw (no_single raw h) refl
broken_front column text lexeme (open_double {raw = raw} h) = rw (no_double raw h) refl
broken_front column text lexeme (open_escape raw h) = rw (no_escape raw h) refl
broken_front column text lexeme (open_comment {c = c} h) = rw (no_comment c h) refl
broken_front column text lexeme lone_end = refl

pub broken_not_empty : (text : Text) (lexeme : Lexeme) → IsBroken text lexeme → 0 < length text
broken_not_empty text lexeme (open_single h) = omega arith
broken_not_empty text lexeme (open_double h) = omega arith
broken_not_empty text lexeme (open_escape raw h) = omega arith
broken_not_empty text lexeme (open_comment h) = omega arith
broken_not_empty text lexeme lone_end = omega arith
