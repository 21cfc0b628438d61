-- The statements that are read from tokens are those that the tokens spell.
use Rattle.std.proofs.Common.{◌≡◌, ℕ, zero, suc, ◌+◌, ◌<◌, ◌≤◌, Bool, true, false, cond, List, [], ◌∷◌, ◌++◌, length, drop, Option, Some, None, Result, Ok, refl, sym, ap, subst, ◌∙◌, arith}
use Rattle.std.specs.Prelude.{◌==◌, nat_lt}
use Rattle.std.specs.Option.{option_map_or}
use Rattle.std.proofs.lemmas.Bool.{eqb-true, ltb-true, lt-ltb, and_parts}
use Rattle.yspec.specs.Forest.{Forest, end, node, join}
use Rattle.yspec.specs.text.Text.{Text, is_text, is_name, plus, line_after, backslash}
use Rattle.yspec.specs.text.Token.{Lexeme, Token, word, single, double, semi, open_block, close_block, finish, unclosed_quote, unclosed_comment, stray_end, at, bad_escape_line, double_text, single_text, escape}
use Rattle.yspec.specs.text.Statement.{Statement, Slip, slip, ◌>>=◌, misplaced, is_quoted, begins_quoted, is_plus, piece, appended, after_piece, pieces, some_argument, argument_at, argument, closed_at, closed, body_at, body, statement, in_row, statements_at, statements, ending_at, ending, top_at, top_statement, block_limit}
use Rattle.yspec.specs.text.Statement as read
use Rattle.yspec.specs.text.Spelling.{Says, as_it_is, stripped, Joined, alone, with, Argument, absent, unquoted_word, quoted, Spelled, none, bare, block, IsOne, TokensSpell}
use Rattle.yspec.proofs.TextProofs.SpellingCutLemmas.{is_ending}
use Rattle.yspec.proofs.TextProofs.SpellingTokenLemmas.{from_ending}
use Rattle.yspec.proofs.BasicLemmas.{bind_ok}

-- ---- steps that are right

pub guard_ok : {A : Type 0} (b : Bool) (r : Result A Slip) (code line : ℕ) (y : A) → cond b r (slip code line) ≡ Ok y
    → (b ≡ true) × (r ≡ Ok y)
guard_ok true r code line y e = (refl, e)
guard_ok false r code line y e = absurd cc

abbrev right : {A : Type 0} → A → Result A Slip
right x = Ok x

pub ok_is : {A : Type 0} (x y : A) → right x ≡ right y → x ≡ y
ok_is x y e = cc

-- ---- quoted strings

pub escape_lines : (after : Bool) (raw : Text) (l m : ℕ) → bad_escape_line after l raw ≡ None
    → bad_escape_line after m raw ≡ None
unfolding bad_escape_line
escape_lines true [] l m h = refl
escape_lines false [] l m h = refl
escape_lines true (x ∷ xs) l m h = go (escape x) (bad_escape_line false l xs) (bad_escape_line false m xs)
    (escape_lines false xs l m) h
  where
    go : (o : Option ℕ) (a b : Option ℕ) → (a ≡ None → b ≡ None) → option_map_or (λ _. a) o (Some l) ≡ None
        → option_map_or (λ _. b) o (Some m) ≡ None
    go None a b f e = absurd cc
    go (Some y) a b f e = f e
escape_lines false (x ∷ xs) l m h = escape_lines (x == backslash) xs (line_after x l) (line_after x m) h

plus_is : (w : Text) → is_text w (plus ∷ []) ≡ true → w ≡ plus ∷ []
plus_is [] h = absurd cc
plus_is (x ∷ []) h = ap (λ (z : ℕ). z ∷ []) (eqb-true x plus (and_parts (x == plus) true h).0)
plus_is (x ∷ y ∷ ys) h = absurd (cc (and_parts (x == plus) false h).1)

says_found : (line : ℕ) (lexeme : Lexeme) (text : Text) → is_quoted lexeme ≡ true → piece line lexeme ≡ Ok text
    → Says lexeme text
says_found line (single raw) text q e = subst (λ (t : Text). Says (single raw) t) (ok_is (single_text raw) text e)
    as_it_is
says_found line (double column raw) text q e = go (bad_escape_line false line raw) refl e
  where
    go : (o : Option ℕ) → bad_escape_line false line raw ≡ o → option_map_or (λ bad. slip 4 bad) o
        (Ok (double_text column raw)) ≡ Ok text → Says (double column raw) text
    go None h e = subst (λ (t : Text). Says (double column raw) t) (ok_is (double_text column raw) text e)
        (stripped (escape_lines false raw line 1 h))
    go (Some bad) h e = absurd cc
says_found line _ text q e = absurd cc

plus_token : (line : ℕ) (lexeme : Lexeme) → is_plus lexeme ≡ true → at line lexeme ≡ at line (word (plus ∷ []))
plus_token line (word w) h = ap (λ (v : Text). at line (word v)) (plus_is w h)
plus_token line _ h = absurd cc

abbrev Rest : Type 0 → Type 0
Rest A = A × List Token

rest_is : {A : Type 0} (P : A → List Token → Type 0) (x : A) (ts : List Token) (y : A) (us : List Token)
    → right {A = A × List Token} (x, ts) ≡ right {A = A × List Token} (y, us) → P x ts → P y us
rest_is {A = A} P x ts y us e h = subst (λ (p : Rest A). P p.0 p.1) (ok_is (x, ts) (y, us) e) h

joined_after : (first second : Token) (ts : List Token) (x text : Text) (us : List Token) → Says first.lexeme x
    → (begins_quoted ts ≡ true → (more : Text) (vs : List Token) → pieces ts ≡ Ok (more, vs) → Joined ts more vs)
    → after_piece x second ts (pieces ts) ≡ Ok (text, us) → Joined (first ∷ second ∷ ts) text us
joined_after first second ts x text us says next e = go (is_plus second.lexeme) refl (begins_quoted ts) refl e
  where
    go : (p : Bool) → is_plus second.lexeme ≡ p → (q : Bool) → begins_quoted ts ≡ q
        → cond p (cond q (pieces ts >>= appended x) (slip 5 second.line)) (Ok (x, second ∷ ts)) ≡ Ok (text, us)
        → Joined (first ∷ second ∷ ts) text us
    go true hp true hq e =
        let b = bind_ok (pieces ts) (appended x) (text, us) e in
        rest_is (λ t vs. Joined (first ∷ second ∷ ts) t vs) (x ++ b.0.0) b.0.1 text us b.2
        (subst (λ (t : Token). Joined (first ∷ t ∷ ts) (x ++ b.0.0) b.0.1)
        (sym (plus_token second.line second.lexeme hp)) (with says (next hq b.0.0 b.0.1 b.1)))
    go true hp false hq e = absurd cc
    go false hp q hq e = rest_is (λ t vs. Joined (first ∷ second ∷ ts) t vs) x (second ∷ ts) text us e (alone says)

pieces_found : (ts : List Token) (text : Text) (us : List Token) → begins_quoted ts ≡ true
    → pieces ts ≡ Ok (text, us) → Joined ts text us
unfolding pieces
pieces_found [] text us q e = absurd cc
pieces_found (first ∷ []) text us q e =
    let b = bind_ok (piece first.line first.lexeme) (λ t. Ok (t, [])) (text, us) e in
    rest_is (λ t vs. Joined (first ∷ []) t vs) b.0 [] text us b.2 (alone (says_found first.line first.lexeme b.0 q b.1))
pieces_found (first ∷ second ∷ ts) text us q e =
    let b = bind_ok (piece first.line first.lexeme) (λ t. after_piece t second ts (pieces ts)) (text, us) e in
    joined_after first second ts b.0 text us (says_found first.line first.lexeme b.0 q b.1)
    (λ h more vs e. pieces_found ts more vs h e) b.2

-- ---- arguments

quoted_found : (ts : List Token) (a : Option Text) (us : List Token) → begins_quoted ts ≡ true
    → (pieces ts >>= some_argument) ≡ Ok (a, us) → Argument ts a us
quoted_found ts a us q e =
    let b = bind_ok (pieces ts) some_argument (a, us) e in
    rest_is (λ x vs. Argument ts x vs) (Some b.0.0) b.0.1 a us b.2 (quoted (pieces_found ts b.0.0 b.0.1 q b.1))

absent_found : (ts : List Token) (a : Option Text) (us : List Token)
    → right {A = Option Text × List Token} (None, ts) ≡ right {A = Option Text × List Token} (a, us) → Argument ts a us
absent_found ts a us e = rest_is (λ x vs. Argument ts x vs) None ts a us e absent

argument_found_at : (line : ℕ) (lexeme : Lexeme) (ts : List Token) (a : Option Text) (us : List Token)
    → argument_at lexeme (at line lexeme) ts ≡ Ok (a, us) → Argument (at line lexeme ∷ ts) a us
argument_found_at line (word w) ts a us e = rest_is (λ x vs. Argument (at line (word w) ∷ ts) x vs) (Some w) ts a us
    e unquoted_word
argument_found_at line (single raw) ts a us e = quoted_found (at line (single raw) ∷ ts) a us refl e
argument_found_at line (double column raw) ts a us e = quoted_found (at line (double column raw) ∷ ts) a us refl e
argument_found_at line unclosed_quote ts a us e = quoted_found (at line unclosed_quote ∷ ts) a us refl e
argument_found_at line lexeme ts a us e = absent_found (at line lexeme ∷ ts) a us e

pub argument_found : (ts : List Token) (a : Option Text) (us : List Token) → argument ts ≡ Ok (a, us) → Argument ts a us
argument_found [] a us e = absent_found [] a us e
argument_found (t ∷ ts) a us e = argument_found_at t.line t.lexeme ts a us e

-- ---- what is read never goes past the token that ends the text

joined_keeps : (ts : List Token) (text : Text) (us : List Token) → Joined ts text us → from_ending ts ≡ from_ending us
joined_keeps ts text us (alone as_it_is) = refl
joined_keeps ts text us (alone (stripped h)) = refl
joined_keeps ts text us (with {more = more} {ts = vs} as_it_is j) = joined_keeps vs more us j
joined_keeps ts text us (with {more = more} {ts = vs} (stripped h) j) = joined_keeps vs more us j

pub argument_keeps : (ts : List Token) (a : Option Text) (us : List Token) → Argument ts a us
    → from_ending ts ≡ from_ending us
argument_keeps ts a us absent = refl
argument_keeps ts a us unquoted_word = refl
argument_keeps ts a us (quoted {text = text} j) = joined_keeps ts text us j

pub row_keeps : (level : ℕ) (ts : List Token) (f : Forest Statement) (us : List Token) → Spelled level ts f us
    → from_ending ts ≡ from_ending us
row_keeps level ts f us none = refl
row_keeps level ts f us (bare {l = l} {a = a} {after = after} {ts = vs} {us = ws} k arg rest) =
    argument_keeps vs a (at l semi ∷ ws) arg ∙ row_keeps level ws after us rest
row_keeps level ts f us (block {l = l} {m = m} {a = a} {below = below} {after = after} {ts = vs} {us = ws} {vs =
    xs} k arg lt inner rest) =
    argument_keeps vs a (at l open_block ∷ ws) arg ∙ row_keeps (level + 1) ws below (at m close_block ∷ xs) inner
    ∙ row_keeps level xs after us rest

-- ---- what is left is shorter

joined_shorter : (ts : List Token) (text : Text) (us : List Token) → Joined ts text us → length us ≤ length ts
joined_shorter ts text us (alone says) = omega arith
joined_shorter ts text us (with {more = more} {ts = vs} says j) = let h = joined_shorter vs more us j in omega arith

pub argument_shorter : (ts : List Token) (a : Option Text) (us : List Token) → Argument ts a us → length us ≤ length ts
argument_shorter ts a us absent = omega arith
argument_shorter ts a us unquoted_word = omega arith
argument_shorter ts a us (quoted {text = text} j) = joined_shorter ts text us j

pub row_shorter : (level : ℕ) (ts : List Token) (f : Forest Statement) (us : List Token) → Spelled level ts f us
    → length us ≤ length ts
row_shorter level ts f us none = omega arith
row_shorter level ts f us (bare {l = l} {a = a} {after = after} {ts = vs} {us = ws} k arg rest) = let h =
    argument_shorter vs a (at l semi ∷ ws) arg in let g = row_shorter level ws after us rest in omega arith
row_shorter level ts f us (block {l = l} {m = m} {a = a} {below = below} {after = after} {ts = vs} {us = ws} {vs =
    xs} k arg lt inner rest) =
    let h = argument_shorter vs a (at l open_block ∷ ws) arg in let g =
    row_shorter (level + 1) ws below (at m close_block ∷ xs) inner in let i =
    row_shorter level xs after us rest in omega arith

-- ---- rows of statements

-- a token that ends the text stands among these
unfoldable pub Ends : List Token → Type 0
Ends ts = (line : ℕ) × (lexeme : Lexeme) × (is_ending lexeme ≡ true) × (from_ending ts ≡ at line lexeme ∷ [])

pub ends_by : (ts us : List Token) → from_ending ts ≡ from_ending us → Ends ts → Ends us
unfolding Ends
ends_by ts us e h = (h.0, h.1, h.2, sym e ∙ h.3)

pub not_empty : Ends [] → ⊥
unfolding Ends
not_empty h = cc h.3

-- what `inner` reads is a row
unfoldable pub Reads : ℕ → (List Token → Result read.Row Slip) → Type 0
Reads level inner = (ts : List Token) (f : Forest Statement) (us : List Token) → Ends ts → inner ts ≡ Ok (f, us)
    → Spelled level ts f us

-- a body of a statement
data Body : ℕ → List Token → Forest Statement → List Token → Type 0 where
  nothing_below : {level line : ℕ} {rest : List Token} → Body level (at line semi ∷ rest) end rest
  in_block : {level line m : ℕ} {ts rest : List Token} {below : Forest Statement} → level < block_limit
      → Spelled (level + 1) ts below (at m close_block ∷ rest) → Body level (at line open_block ∷ ts) below rest

body_keeps : (level : ℕ) (ts : List Token) (f : Forest Statement) (us : List Token) → Body level ts f us
    → from_ending ts ≡ from_ending us
body_keeps level ts f us nothing_below = refl
body_keeps level ts f us (in_block {m = m} {ts = vs} lt row) = row_keeps (level + 1) vs f (at m close_block ∷ us) row

body_shorter : (level : ℕ) (ts : List Token) (f : Forest Statement) (us : List Token) → Body level ts f us
    → length us ≤ length ts
body_shorter level ts f us nothing_below = omega arith
body_shorter level ts f us (in_block {m = m} {ts = vs} lt row) = let h =
    row_shorter (level + 1) vs f (at m close_block ∷ us) row in omega arith

closed_found : (below : Forest Statement) (ts : List Token) (f : Forest Statement) (us : List Token) → Ends ts
    → closed (below, ts) ≡ Ok (f, us) → (m : ℕ) × (ts ≡ at m close_block ∷ us) × (below ≡ f)
closed_found below [] f us h e = absurd (not_empty h)
closed_found below (t ∷ ts) f us h e = go t.line t.lexeme e
  where
    go : (line : ℕ) (lexeme : Lexeme) → closed_at lexeme below (at line lexeme) ts ≡ Ok (f, us)
        → (m : ℕ) × (at line lexeme ∷ ts ≡ at m close_block ∷ us) × (below ≡ f)
    go line close_block e = let p : ◌≡◌ {A = Forest Statement × List Token} (below, ts) (f, us) =
        ok_is (below, ts) (f, us) e in (
          line,
          ap (λ (q : Forest Statement × List Token). at line close_block ∷ q.1)
              p,
          ap (λ (q : Forest Statement × List Token). q.0) p,
        )
    go line _ e = absurd cc

in_closed_block : (level line m : ℕ) (ts vs us : List Token) (below f : Forest Statement) → level < block_limit
    → Spelled (level + 1) ts below vs → vs ≡ at m close_block ∷ us → below ≡ f → Body level (at line open_block ∷ ts)
    f us
in_closed_block level line m ts vs us below f lt row e same =
    in_block lt (subst (λ (g : Forest Statement). Spelled (level + 1) ts g (at m close_block ∷ us)) same
    (subst (λ (ws : List Token). Spelled (level + 1) ts below ws) e row))

block_found : (inner : List Token → Result read.Row Slip) (level line : ℕ) (ts : List Token) (f : Forest Statement)
    (us : List Token) → Reads (level + 1) inner → Ends ts → cond (nat_lt level block_limit) (inner ts >>= closed)
    (slip 7 line) ≡ Ok (f, us) → Body level (at line open_block ∷ ts) f us
unfolding Reads
block_found inner level line ts f us reads h e =
    let g = guard_ok (nat_lt level block_limit) (inner ts >>= closed) 7 line (f, us) e in
    let b = bind_ok (inner ts) closed (f, us) g.1 in
    let row = reads ts b.0.0 b.0.1 h b.1 in
    let c = closed_found b.0.0 b.0.1 f us (ends_by ts b.0.1 (row_keeps (level + 1) ts b.0.0 b.0.1 row) h) b.2 in
    in_closed_block level line c.0 ts b.0.1 us b.0.0 f (ltb-true level block_limit g.0) row c.1 c.2

body_found : (inner : List Token → Result read.Row Slip) (level : ℕ) (ts : List Token) (f : Forest Statement)
    (us : List Token) → Reads (level + 1) inner → Ends ts → body inner level ts ≡ Ok (f, us) → Body level ts f us
body_found inner level [] f us reads h e = absurd (not_empty h)
body_found inner level (t ∷ ts) f us reads h e = go t.line t.lexeme h e
  where
    go : (line : ℕ) (lexeme : Lexeme) → Ends (at line lexeme ∷ ts) → body_at lexeme inner level (at line lexeme)
        ts ≡ Ok (f, us) → Body level (at line lexeme ∷ ts) f us
    go line semi h e = rest_is (λ g vs. Body level (at line semi ∷ ts) g vs) end ts f us e nothing_below
    go line open_block h e = block_found inner level line ts f us reads (ends_by (at line open_block ∷ ts) ts refl h) e
    go line _ h e = absurd cc

abbrev labelled : Text → Option Text → ℕ → Statement
labelled k a line = record { keyword = k; argument = a; line = line }

stated_by : (level line : ℕ) (k : Text) (a : Option Text) (ts us vs rest : List Token)
    (below after : Forest Statement) → is_name k ≡ true → Argument ts a us → Body level us below vs
    → Spelled level vs after rest → Spelled level (at line (word k) ∷ ts) (node (labelled k a line) below after) rest
stated_by level line k a ts us vs rest below after n arg nothing_below row = bare n arg row
stated_by level line k a ts us vs rest below after n arg (in_block lt inner) row = block n arg lt inner row

pub record Stated (level line : ℕ) (k : Text) (ts : List Token) (first : read.Row) : Type 0 where
  pub ends : Ends first.1
  pub shorter : length first.1 ≤ length ts
  pub one : IsOne first.0
  pub row : (after : Forest Statement) (rest : List Token) → Spelled level first.1 after rest
      → Spelled level (at line (word k) ∷ ts) (join first.0 after) rest

pub statement_found : (inner : List Token → Result read.Row Slip) (level line : ℕ) (k : Text) (ts : List Token)
    (first : read.Row) → Reads (level + 1) inner → Ends ts → statement inner level k line ts ≡ Ok first
    → Stated level line k ts first
statement_found inner level line k ts first reads h e =
    let g = guard_ok (is_name k) (argument ts >>=
    (λ a. body inner level a.1 >>= (λ b. Ok (node (labelled k a.0 line) b.0 end, b.1)))) 8 line first e in
    let a = bind_ok (argument ts) (λ a. body inner level a.1 >>= (λ b. Ok (node (labelled k a.0 line) b.0 end, b.1)))
    first g.1 in
    let b = bind_ok (body inner level a.0.1) (λ b. Ok (node (labelled k a.0.0 line) b.0 end, b.1)) first a.2 in
    let arg : Argument ts a.0.0 a.0.1 = argument_found ts a.0.0 a.0.1 a.1 in
    let h2 : Ends a.0.1 = ends_by ts a.0.1 (argument_keeps ts a.0.0 a.0.1 arg) h in
    let bod : Body level a.0.1 b.0.0 b.0.1 = body_found inner level a.0.1 b.0.0 b.0.1 reads h2 b.1 in
    let read_is : read.Row = (node (labelled k a.0.0 line) b.0.0 end, b.0.1) in
    subst (λ (f : read.Row). Stated level line k ts f) {x = read_is} (ok_is read_is first b.2)
    (record {
      shorter = omega (arith, argument_shorter ts a.0.0 a.0.1 arg, body_shorter level a.0.1 b.0.0 b.0.1 bod);
      ends = ends_by a.0.1 b.0.1 (body_keeps level a.0.1 b.0.0 b.0.1 bod) h2;
      one = tt;
      row =
          λ after rest row. stated_by level line k a.0.0 ts a.0.1 b.0.1 rest b.0.0 after g.0 arg bod row;
    })

pub statements_found : (fuel level : ℕ) (ts : List Token) (f : Forest Statement) (us : List Token) → Ends ts
    → statements fuel level ts ≡ Ok (f, us) → Spelled level ts f us
unfolding statements Reads
statements_found zero level ts f us h e = rest_is (λ g vs. Spelled level ts g vs) end ts f us e none
statements_found (suc fuel) level [] f us h e = rest_is (λ g vs. Spelled level [] g vs) end [] f us e none
statements_found (suc fuel) level (t ∷ ts) f us h e = go t.line t.lexeme h e (statements_found fuel)
  where
    go : (line : ℕ) (lexeme : Lexeme) → Ends (at line lexeme ∷ ts) → statements_at lexeme (statements fuel (level + 1))
        (statements fuel level) level (at line lexeme) ts ≡ Ok (f, us)
        → ((level : ℕ) (ts : List Token) (f : Forest Statement) (us : List Token) → Ends ts
        → statements fuel level ts ≡ Ok (f, us) → Spelled level ts f us) → Spelled level (at line lexeme ∷ ts) f
        us
    go line (word w) h e below =
        let a = bind_ok (statement (statements fuel (level + 1)) level w line ts)
        (λ first. statements fuel level first.1 >>= in_row first) (f, us) e in
        let b = bind_ok (statements fuel level a.0.1) (in_row a.0) (f, us) a.2 in
        let s : Stated level line w ts a.0 = statement_found (statements fuel (level + 1)) level line w ts a.0
        (below (level + 1)) (ends_by (at line (word w) ∷ ts) ts refl h) a.1 in
        rest_is (λ g vs. Spelled level (at line (word w) ∷ ts) g vs) (join a.0.0 b.0.0) b.0.1 f us b.2
        (s.row b.0.0 b.0.1 (below level a.0.1 b.0.0 b.0.1 s.ends b.1))
    go line close_block h e below = rest_is (λ g vs. Spelled level (at line close_block ∷ ts) g vs) end
        (at line close_block ∷ ts) f us e none
    go line finish h e below = rest_is (λ g vs. Spelled level (at line finish ∷ ts) g vs) end (at line finish ∷ ts) f
        us e none
    go line _ h e below = absurd cc

ending_found : (top : Forest Statement) (ts : List Token) (f : Forest Statement) → Ends ts → ending (top, ts) ≡ Ok f
    → (line : ℕ) × (ts ≡ at line finish ∷ []) × (top ≡ f)
unfolding Ends
ending_found top [] f h e = absurd (not_empty h)
ending_found top (t ∷ ts) f h e = go t.line t.lexeme h e
  where
    go : (line : ℕ) (lexeme : Lexeme) → Ends (at line lexeme ∷ ts) → ending_at lexeme top (at line lexeme) ≡ Ok f
        → (m : ℕ) × (at line lexeme ∷ ts ≡ at m finish ∷ []) × (top ≡ f)
    go line finish h e = (line, ap (λ (vs : List Token). at line finish ∷ drop 1 vs) h.3, ok_is top f e)
    go line _ h e = absurd cc

followed_by_nothing : (f : Forest Statement) → IsOne f → join f end ≡ f
followed_by_nothing end h = refl
followed_by_nothing (node s below end) h = refl
followed_by_nothing (node s below (node t inner after)) h = absurd h

top_reads : (fuel : ℕ) → Reads (0 + 1) (statements fuel 1)
unfolding Reads
top_reads fuel = statements_found fuel 1

pub top_found : (ts : List Token) (f : Forest Statement) → Ends ts → top_statement ts ≡ Ok f → TokensSpell ts f
top_found [] f h e = absurd (not_empty h)
top_found (t ∷ ts) f h e = go t.line t.lexeme h e
  where
    go : (line : ℕ) (lexeme : Lexeme) → Ends (at line lexeme ∷ ts) → top_at lexeme (length ts) (at line lexeme)
        ts ≡ Ok f → TokensSpell (at line lexeme ∷ ts) f
    go line (word w) h e =
        let a = bind_ok (statement (statements (length ts) 1) 0 w line ts) ending f e in
        let s : Stated 0 line w ts a.0 = statement_found (statements (length ts) 1) 0 line w ts a.0
        (top_reads (length ts)) (ends_by (at line (word w) ∷ ts) ts refl h) a.1 in
        let b = ending_found a.0.0 a.0.1 f s.ends a.2 in
        let one : IsOne f = subst IsOne b.2 s.one in
        record {
          one = one;
          last_line = b.0;
          row =
              subst (λ (g : Forest Statement). Spelled 0 (at line (word w) ∷ ts) g (at b.0 finish ∷ []))
              (followed_by_nothing a.0.0 s.one ∙ b.2)
              (subst (λ (vs : List Token). Spelled 0 (at line (word w) ∷ ts) (join a.0.0 end) vs) b.1
              (s.row end a.0.1 none));
        }
    go line close_block h e = absurd cc
    go line (single raw) h e = absurd cc
    go line (double column raw) h e = absurd cc
    go line semi h e = absurd cc
    go line open_block h e = absurd cc
    go line finish h e = absurd cc
    go line unclosed_quote h e = absurd cc
    go line unclosed_comment h e = absurd cc
    go line stray_end h e = absurd cc

-- ---- what tokens spell is read

-- `;` or `{` stands first
abbrev starts_body : List Token → Bool
starts_body [] = false
starts_body (t ∷ ts) = is_body_start t.lexeme
  where
    is_body_start : Lexeme → Bool
    is_body_start semi = true
    is_body_start open_block = true
    is_body_start _ = false

says_only : (line : ℕ) (lexeme : Lexeme) (text : Text) → Says lexeme text → piece line lexeme ≡ Ok text
says_only line lexeme text as_it_is = refl
says_only line lexeme text (stripped {raw = raw} h) = rw (escape_lines false raw 1 line h) refl

joined_quoted : (ts : List Token) (text : Text) (us : List Token) → Joined ts text us → begins_quoted ts ≡ true
joined_quoted ts text us (alone as_it_is) = refl
joined_quoted ts text us (alone (stripped h)) = refl
joined_quoted ts text us (with as_it_is j) = refl
joined_quoted ts text us (with (stripped h) j) = refl

not_plus : (t : Token) (ts : List Token) → starts_body (t ∷ ts) ≡ true → is_plus t.lexeme ≡ false
not_plus t ts h = go t.lexeme h
  where
    go : (lexeme : Lexeme) → starts_body (at t.line lexeme ∷ ts) ≡ true → is_plus lexeme ≡ false
    go (word w) h = absurd cc
    go _ h = refl

pieces_only : (ts : List Token) (text : Text) (us : List Token) → Joined ts text us → starts_body us ≡ true
    → pieces ts ≡ Ok (text, us)
unfolding pieces
pieces_only ts text us (alone {line = line} {lexeme = lexeme} says) h = go us h
  where
    go : (us : List Token) → starts_body us ≡ true → pieces (at line lexeme ∷ us) ≡ Ok (text, us)
    go [] h = absurd cc
    go (u ∷ us) h = rw (says_only line lexeme text says, not_plus u us h) refl
pieces_only ts text us (with {line = line} {lexeme = lexeme} {text = x} {more = more} {ts = vs} says j) h =
    rw (says_only line lexeme x says, joined_quoted vs more us j, pieces_only vs more us j h) refl

quoted_argument : (ts : List Token) → begins_quoted ts ≡ true → argument ts ≡ (pieces ts >>= some_argument)
quoted_argument [] h = absurd cc
quoted_argument (t ∷ ts) h = go t.line t.lexeme h
  where
    go : (line : ℕ) (lexeme : Lexeme) → is_quoted lexeme ≡ true
        → argument (at line lexeme ∷ ts) ≡ (pieces (at line lexeme ∷ ts) >>= some_argument)
    go line (single raw) h = refl
    go line (double column raw) h = refl
    go line unclosed_quote h = refl
    go line _ h = absurd cc

no_argument : (ts : List Token) → starts_body ts ≡ true → argument ts ≡ Ok (None, ts)
no_argument [] h = absurd cc
no_argument (t ∷ ts) h = go t.line t.lexeme h
  where
    go : (line : ℕ) (lexeme : Lexeme) → starts_body (at line lexeme ∷ ts) ≡ true
        → argument (at line lexeme ∷ ts) ≡ Ok (None, at line lexeme ∷ ts)
    go line semi h = refl
    go line open_block h = refl
    go line _ h = absurd cc

argument_only : (ts : List Token) (a : Option Text) (us : List Token) → Argument ts a us → starts_body us ≡ true
    → argument ts ≡ Ok (a, us)
argument_only ts a us absent h = no_argument us h
argument_only ts a us unquoted_word h = refl
argument_only ts a us (quoted {text = text} j) h =
    rw (quoted_argument ts (joined_quoted ts text us j), pieces_only ts text us j h) refl

-- `}` or the end of the text stands first
abbrev pub stops_row : List Token → Bool
stops_row [] = false
stops_row (t ∷ ts) = is_stop t.lexeme
  where
    is_stop : Lexeme → Bool
    is_stop close_block = true
    is_stop finish = true
    is_stop _ = false

no_statement : (fuel level : ℕ) (ts : List Token) → stops_row ts ≡ true → statements fuel level ts ≡ Ok (end, ts)
unfolding statements
no_statement zero level ts h = refl
no_statement (suc fuel) level [] h = refl
no_statement (suc fuel) level (t ∷ ts) h = go t.line t.lexeme h
  where
    go : (line : ℕ) (lexeme : Lexeme) → stops_row (at line lexeme ∷ ts) ≡ true
        → statements_at lexeme (statements fuel (level + 1)) (statements fuel level) level (at line lexeme) ts ≡ Ok
        (end, at line lexeme ∷ ts)
    go line close_block h = refl
    go line finish h = refl
    go line _ h = absurd cc

bare_only : (inner : List Token → Result read.Row Slip) (level line l : ℕ) (k : Text) (a : Option Text)
    (ts us : List Token) → is_name k ≡ true → Argument ts a (at l semi ∷ us) → statement inner level k line ts ≡ Ok
    (node (labelled k a line) end end, us)
bare_only inner level line l k a ts us n arg = rw (n, argument_only ts a (at l semi ∷ us) arg refl) refl

block_only : (inner : List Token → Result read.Row Slip) (level line l m : ℕ) (k : Text) (a : Option Text)
    (ts us vs : List Token) (below : Forest Statement) → is_name k ≡ true → Argument ts a (at l open_block ∷ us)
    → level < block_limit → inner us ≡ Ok (below, at m close_block ∷ vs)
    → statement inner level k line ts ≡ Ok (node (labelled k a line) below end, vs)
block_only inner level line l m k a ts us vs below n arg lt i =
    rw (n, argument_only ts a (at l open_block ∷ us) arg refl, lt-ltb level block_limit lt, i) refl

row_only : (fuel level : ℕ) (ts : List Token) (f : Forest Statement) (us : List Token) → Spelled level ts f us
    → stops_row us ≡ true → length ts ≤ fuel → statements fuel level ts ≡ Ok (f, us)
unfolding statements
row_only fuel level ts f us none s h = no_statement fuel level us s
row_only zero level ts f us (bare k arg rest) s h = absurd (omega arith)
row_only (suc fuel) level ts f us (bare {line = line} {l = l} {k = k} {a = a} {after = after} {ts = vs} {us =
    ws} n arg rest) s h =
    let h2 = argument_shorter vs a (at l semi ∷ ws) arg in
    rw (
      bare_only (statements fuel (level + 1)) level line l k a vs ws n arg,
      row_only fuel level ws after us rest s
          (omega arith),
    ) refl
row_only zero level ts f us (block k arg lt inner rest) s h = absurd (omega arith)
row_only (suc fuel) level ts f us (block {line = line} {l = l} {m = m} {k = k} {a = a} {below = below} {after =
    after} {ts = vs} {us = ws} {vs = xs} n arg lt inner rest) s h =
    let h2 = argument_shorter vs a (at l open_block ∷ ws) arg in
    let h3 = row_shorter (level + 1) ws below (at m close_block ∷ xs) inner in
    rw (
      block_only (statements fuel (level + 1)) level line l m k a vs ws xs below n arg lt
          (row_only fuel (level + 1) ws below (at m close_block ∷ xs) inner refl (omega arith)),
      row_only fuel level xs
          after us rest s (omega arith),
    ) refl

end_row : (level : ℕ) (ts us : List Token) → Spelled level ts end us → ts ≡ us
end_row level ts us none = refl

only_one : (s : Statement) (below after : Forest Statement) → IsOne (node s below after) → after ≡ end
only_one s below end h = refl
only_one s below (node t inner after) h = absurd h

-- the last row is empty
last_row : (level : ℕ) (ts us : List Token) (s : Statement) (below after : Forest Statement)
    → IsOne (node s below after) → Spelled level ts after us → (after ≡ end) × (ts ≡ us)
last_row level ts us s below after h row =
    let e = only_one s below after h in (
      e,
      end_row level ts us
          (subst (λ (f : Forest Statement). Spelled level ts f us) e row),
    )

one_row_only : (level line : ℕ) (ts us : List Token) (f : Forest Statement) → IsOne f → us ≡ at line finish ∷ []
    → level ≡ 0 → Spelled level ts f us → top_statement ts ≡ Ok f
one_row_only level line ts us f one e z none = absurd one
one_row_only level line ts us f one e z (bare {line = first} {l = l} {k = k} {a = a} {after = after} {ts = vs} {us =
    ws} n arg rest) =
    let p = last_row level ws us (labelled k a first) end after one rest in
    rw (bare_only (statements (length vs) 1) 0 first l k a vs ws n arg, p.0, p.1, e) refl
one_row_only level line ts us f one e z (block {line = first} {l = l} {m = m} {k = k} {a = a} {below =
    below} {after = after} {ts = vs} {us = ws} {vs = xs} n arg lt inner rest) =
    let p = last_row level xs us (labelled k a first) below after one rest in
    let h2 = argument_shorter vs a (at l open_block ∷ ws) arg in
    let inner_row : Spelled (0 + 1) ws below (at m close_block ∷ xs) =
    subst (λ (d : ℕ). Spelled (d + 1) ws below (at m close_block ∷ xs)) z inner in
    rw (
      block_only (statements (length vs) 1) 0 first l m k a vs ws xs below n arg (omega arith)
          (row_only (length vs) 1 ws below (at m close_block ∷ xs) inner_row refl (omega arith)),
      p.0,
      p.1,
      e,
    ) refl

pub top_only : (ts : List Token) (f : Forest Statement) → TokensSpell ts f → top_statement ts ≡ Ok f
top_only ts f top = one_row_only 0 top.last_line ts (at top.last_line finish ∷ []) f top.one refl refl top.row
