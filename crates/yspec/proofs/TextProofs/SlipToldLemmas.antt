-- What reading tells is the first slip.
use Rattle.std.proofs.Common.{◌≡◌, ℕ, zero, suc, ◌+◌, ◌≤◌, Bool, true, false, cond, List, [], ◌∷◌, ◌++◌, length, take, drop, Option, Some, None, Result, Ok, Err, refl, sym, ap, subst, ◌∙◌, add-one, arith}
use Rattle.std.specs.Prelude.{◌==◌, not, nat_lt}
use Rattle.std.specs.Str.{chars, is_utf8}
use Rattle.std.specs.Str.Lossy.{utf8_valid_len}
use Rattle.std.proofs.lemmas.Option.{same_Some}
use Rattle.std.specs.Option.{option_map_or}
use Rattle.std.proofs.lemmas.Bool.{eqb-true}
use Rattle.yspec.specs.Forest.{Forest, end, node, join}
use Rattle.yspec.specs.text.Text.{Text, is_name, line_after, line_feed, backslash, line_behind, forbidden_line}
use Rattle.yspec.specs.text.Token.{Lexeme, Token, word, single, double, semi, open_block, close_block, finish, unclosed_quote, unclosed_comment, stray_end, at, bad_escape_line, double_text, escape, tokens_of}
use Rattle.yspec.specs.text.Statement.{Statement, Slip, slip, ◌>>=◌, is_quoted, begins_quoted, is_plus, piece, appended, after_piece, pieces, some_argument, argument_at, argument, closed_at, closed, body_at, body, statement, in_row, statements_at, statements, ending_at, ending, top_at, top_statement, block_limit, text_limit, module_of}
use Rattle.yspec.specs.text.Statement as read
use Rattle.yspec.specs.text.Slips.{State, at_keyword, behind_keyword, behind_word, behind_quoted, behind_plus, behind_top, behind_statement, wrong_escapes, slips_from, slips, first, told_slip}
use Rattle.yspec.specs.text.Spelling.{Spells}
use Rattle.yspec.proofs.TextProofs.SpellingLemmas.{text_ends, module_found, module_only}
use Rattle.yspec.proofs.BasicLemmas.{bind_ok}
use Rattle.yspec.proofs.TextProofs.SpellingRowLemmas.{Ends, ends_by, not_empty, Reads, Stated, argument_found, argument_keeps, argument_shorter, statement_found, statements_found, stops_row, ok_is}

abbrev pub first_from : State → List Token → Option Slip
first_from state ts = first (slips_from state ts)

abbrev is_slip : ℕ → ℕ → Option Slip
is_slip code line = Some (record { code = code; line = line })

-- what is read leaves the first slip as it was, and what isn't tells it
abbrev pub Tells : {A : Type 0} → Result A Slip → Option Slip → (A → Option Slip) → Type 0
Tells (Ok x) here there = here ≡ there x
Tells (Err e) here there = here ≡ Some e

tells_bind : {A B : Type 0} (r : Result A Slip) (f : A → Result B Slip) (here : Option Slip) (mid : A → Option Slip)
    (there : B → Option Slip) → Tells r here mid → ((x : A) → r ≡ Ok x → Tells (f x) (mid x) there)
    → Tells (r >>= f) here there
tells_bind (Ok x) f here mid there h k = subst (λ (o : Option Slip). Tells (f x) o there) (sym h) (k x refl)
tells_bind (Err e) f here mid there h k = h

tells_from : {A : Type 0} (r : Result A Slip) (a b : Option Slip) (there : A → Option Slip) → a ≡ b → Tells r b there
    → Tells r a there
tells_from r a b there e h = subst (λ (o : Option Slip). Tells r o there) (sym e) h

-- ---- quoted strings

escape_in_line : (x y line : ℕ) → escape x ≡ Some y → line_after x line ≡ line
escape_in_line x y line h = go (x == line_feed) refl
  where
    go : (b : Bool) → (x == line_feed) ≡ b → line_after x line ≡ line
    go true e = absurd (cc (subst (λ (z : ℕ). escape z ≡ Some y) (eqb-true x line_feed e) h))
    go false e = rw e refl

no_escapes : (after : Bool) (line : ℕ) (raw : Text) → bad_escape_line after line raw ≡ None
    → wrong_escapes after line raw ≡ []
unfolding bad_escape_line wrong_escapes
no_escapes true line [] h = refl
no_escapes false line [] h = refl
no_escapes true line (x ∷ xs) h = go (escape x) refl h (no_escapes false line xs)
  where
    go : (o : Option ℕ) → escape x ≡ o → option_map_or (λ _. bad_escape_line false line xs) o (Some line) ≡ None
        → (bad_escape_line false line xs ≡ None → wrong_escapes false line xs ≡ [])
        → wrong_escapes true line (x ∷ xs) ≡ []
    go None e h below = absurd cc
    go (Some y) e h below = rw (e, escape_in_line x y line e) (below h)
no_escapes false line (x ∷ xs) h = no_escapes (x == backslash) (line_after x line) xs h

first_escape : (after : Bool) (line bad : ℕ) (raw : Text) (rest : List Slip) → bad_escape_line after line raw ≡ Some
    bad → first (wrong_escapes after line raw ++ rest) ≡ is_slip 4 bad
unfolding bad_escape_line wrong_escapes
first_escape true line bad [] rest h = absurd cc
first_escape false line bad [] rest h = absurd cc
first_escape true line bad (x ∷ xs) rest h = go (escape x) refl h (first_escape false line bad xs rest)
  where
    go : (o : Option ℕ) → escape x ≡ o → option_map_or (λ _. bad_escape_line false line xs) o (Some line) ≡ Some bad
        → (bad_escape_line false line xs ≡ Some bad → first (wrong_escapes false line xs ++ rest) ≡ is_slip 4 bad)
        → first (wrong_escapes true line (x ∷ xs) ++ rest) ≡ is_slip 4 bad
    go None e h below = rw e (ap (λ (l : ℕ). is_slip 4 l) cc)
    go (Some y) e h below = rw (e, escape_in_line x y line e) (below h)
first_escape false line bad (x ∷ xs) rest h = first_escape (x == backslash) (line_after x line) bad xs rest h

piece_tells : (level line : ℕ) (lexeme : Lexeme) (ts : List Token) → is_quoted lexeme ≡ true
    → Tells (piece line lexeme) (first_from (behind_plus level) (at line lexeme ∷ ts))
    (λ text. first_from (behind_quoted level) ts)
unfolding slips_from
piece_tells level line (single raw) ts q = refl
piece_tells level line (double column raw) ts q = go (bad_escape_line false line raw) refl
  where
    go : (o : Option ℕ) → bad_escape_line false line raw ≡ o
        → Tells (option_map_or (λ bad. slip 4 bad) o (Ok (double_text column raw)))
        (first_from (behind_plus level) (at line (double column raw) ∷ ts))
        (λ text. first_from (behind_quoted level) ts)
    go None e = rw (no_escapes false line raw e) refl
    go (Some bad) e = first_escape false line bad raw (slips_from (behind_quoted level) ts) e
piece_tells level line unclosed_quote ts q = refl
piece_tells level line _ ts q = absurd cc

plus_step : (level line : ℕ) (lexeme : Lexeme) (ts : List Token) → is_plus lexeme ≡ true → begins_quoted ts ≡ true
    → slips_from (behind_quoted level) (at line lexeme ∷ ts) ≡ slips_from (behind_plus level) ts
unfolding slips_from
plus_step level line (word w) ts p q = rw (p, q) refl
plus_step level line _ ts p q = absurd cc

plus_alone : (level line : ℕ) (lexeme : Lexeme) (ts : List Token) → is_plus lexeme ≡ true → begins_quoted ts ≡ false
    → first_from (behind_quoted level) (at line lexeme ∷ ts) ≡ is_slip 5 line
unfolding slips_from
plus_alone level line (word w) ts p q = rw (p, q) refl
plus_alone level line _ ts p q = absurd cc

no_plus : (level line : ℕ) (lexeme : Lexeme) (ts : List Token) → is_plus lexeme ≡ false
    → first_from (behind_quoted level) (at line lexeme ∷ ts) ≡ first_from (behind_word level) (at line lexeme ∷ ts)
unfolding slips_from
no_plus level line (word w) ts p = rw p refl
no_plus level line _ ts p = refl

after_piece_tells : (level : ℕ) (text : Text) (t : Token) (ts : List Token)
    → (begins_quoted ts ≡ true → Tells (pieces ts) (first_from (behind_plus level) ts)
    (λ x. first_from (behind_word level) x.1))
    → Tells (after_piece text t ts (pieces ts)) (first_from (behind_quoted level) (t ∷ ts))
    (λ x. first_from (behind_word level) x.1)
after_piece_tells level text t ts more = go (is_plus t.lexeme) refl (begins_quoted ts) refl
  where
    go : (p : Bool) → is_plus t.lexeme ≡ p → (q : Bool) → begins_quoted ts ≡ q
        → Tells (cond p (cond q (pieces ts >>= appended text) (slip 5 t.line)) (Ok (text, t ∷ ts)))
        (first_from (behind_quoted level) (t ∷ ts)) (λ x. first_from (behind_word level) x.1)
    go true hp true hq = tells_bind (pieces ts) (appended text) (first_from (behind_quoted level) (t ∷ ts))
        (λ x. first_from (behind_word level) x.1) (λ x. first_from (behind_word level) x.1)
        (tells_from (pieces ts) _ (first_from (behind_plus level) ts) (λ x. first_from (behind_word level) x.1)
        (ap (λ (l : List Slip). first l) (plus_step level t.line t.lexeme ts hp hq)) (more hq)) (λ x e. refl)
    go true hp false hq = plus_alone level t.line t.lexeme ts hp hq
    go false hp q hq = no_plus level t.line t.lexeme ts hp

pieces_tell : (level : ℕ) (ts : List Token) → begins_quoted ts ≡ true
    → Tells (pieces ts) (first_from (behind_plus level) ts) (λ x. first_from (behind_word level) x.1)
unfolding pieces slips_from
pieces_tell level [] q = absurd cc
pieces_tell level (a ∷ []) q = tells_bind (piece a.line a.lexeme) (λ text. Ok (text, [])) _
    (λ text. first_from (behind_quoted level) []) (λ x. first_from (behind_word level) x.1)
    (piece_tells level a.line a.lexeme [] q) (λ text e. refl)
pieces_tell level (a ∷ b ∷ ts) q = tells_bind (piece a.line a.lexeme) (λ text. after_piece text b ts (pieces ts)) _
    (λ text. first_from (behind_quoted level) (b ∷ ts)) (λ x. first_from (behind_word level) x.1)
    (piece_tells level a.line a.lexeme (b ∷ ts) q) (λ text e. after_piece_tells level text b ts
    (pieces_tell level ts))

-- ---- arguments

quoted_tells : (level : ℕ) (ts : List Token) → begins_quoted ts ≡ true → first_from (behind_keyword level)
    ts ≡ first_from (behind_plus level) ts → Tells (pieces ts >>= some_argument)
    (first_from (behind_keyword level) ts) (λ x. first_from (behind_word level) x.1)
quoted_tells level ts q same = tells_bind (pieces ts) some_argument _ (λ x. first_from (behind_word level) x.1)
    (λ x. first_from (behind_word level) x.1) (tells_from (pieces ts) _ _ (λ x. first_from (behind_word level) x.1)
    same (pieces_tell level ts q)) (λ x e. refl)

argument_tells_at : (level line : ℕ) (lexeme : Lexeme) (ts : List Token)
    → Tells (argument_at lexeme (at line lexeme) ts) (first_from (behind_keyword level) (at line lexeme ∷ ts))
    (λ x. first_from (behind_word level) x.1)
unfolding slips_from
argument_tells_at level line (single raw) ts = quoted_tells level (at line (single raw) ∷ ts) refl refl
argument_tells_at level line (double column raw) ts = quoted_tells level (at line (double column raw) ∷ ts) refl refl
argument_tells_at level line unclosed_quote ts = quoted_tells level (at line unclosed_quote ∷ ts) refl refl
argument_tells_at level line _ ts = refl

argument_tells : (level : ℕ) (ts : List Token) → Tells (argument ts) (first_from (behind_keyword level) ts)
    (λ x. first_from (behind_word level) x.1)
unfolding slips_from
argument_tells level [] = refl
argument_tells level (t ∷ ts) = argument_tells_at level t.line t.lexeme ts

-- ---- statements

-- what `inner` reads of the statements of a block at a level
InnerTells : ℕ → (List Token → Result read.Row Slip) → ℕ → Type 0
InnerTells fuel inner level = (ts : List Token) → Ends ts → length ts ≤ fuel
    → Tells (inner ts) (first_from (at_keyword (suc level)) ts) (λ x. first_from (at_keyword (suc level)) x.1)

InnerStops : ℕ → (List Token → Result read.Row Slip) → Type 0
InnerStops fuel inner = (ts : List Token) (x : read.Row) → Ends ts → length ts ≤ fuel → inner ts ≡ Ok x
    → stops_row x.1 ≡ true

closed_tells : (level : ℕ) (x : read.Row) → stops_row x.1 ≡ true
    → Tells (closed x) (first_from (at_keyword (suc level)) x.1) (λ y. first_from (behind_statement level) y.1)
unfolding slips_from
closed_tells level x h = go x.0 x.1 h
  where
    at_token : (below : Forest Statement) (line : ℕ) (lexeme : Lexeme) (ts : List Token)
        → stops_row (at line lexeme ∷ ts) ≡ true → Tells (closed_at lexeme below (at line lexeme) ts)
        (first_from (at_keyword (suc level)) (at line lexeme ∷ ts)) (λ y. first_from (behind_statement level) y.1)
    at_token below line close_block ts h = refl
    at_token below line finish ts h = refl
    at_token below line _ ts h = absurd cc

    go : (below : Forest Statement) (ts : List Token) → stops_row ts ≡ true
        → Tells (closed (below, ts)) (first_from (at_keyword (suc level)) ts)
        (λ y. first_from (behind_statement level) y.1)
    go below [] h = absurd cc
    go below (t ∷ ts) h = at_token below t.line t.lexeme ts h

block_tells : (fuel : ℕ) (inner : List Token → Result read.Row Slip) (level line : ℕ) (ts : List Token)
    → InnerTells fuel inner level → InnerStops fuel inner → Ends ts → length ts ≤ fuel
    → Tells (cond (nat_lt level block_limit) (inner ts >>= closed) (slip 7 line))
    (first_from (behind_word level) (at line open_block ∷ ts)) (λ y. first_from (behind_statement level) y.1)
unfolding slips_from InnerTells InnerStops
block_tells fuel inner level line ts tell stop h n = go (nat_lt level block_limit) refl
  where
    go : (b : Bool) → nat_lt level block_limit ≡ b → Tells (cond b (inner ts >>= closed) (slip 7 line))
        (first_from (behind_word level) (at line open_block ∷ ts)) (λ y. first_from (behind_statement level) y.1)
    go true e = tells_from (inner ts >>= closed) _ (first_from (at_keyword (suc level)) ts)
        (λ y. first_from (behind_statement level) y.1) (rw e refl)
        (tells_bind (inner ts) closed _ (λ x. first_from (at_keyword (suc level)) x.1)
        (λ y. first_from (behind_statement level) y.1) (tell ts h n)
        (λ x r. closed_tells level x (stop ts x h n r)))
    go false e = rw e refl

body_tells : (fuel : ℕ) (inner : List Token → Result read.Row Slip) (level : ℕ) (ts : List Token)
    → InnerTells fuel inner level → InnerStops fuel inner → Ends ts → length ts ≤ fuel
    → Tells (body inner level ts) (first_from (behind_word level) ts) (λ y. first_from (behind_statement level) y.1)
unfolding slips_from
body_tells fuel inner level [] tell stop h n = absurd (not_empty h)
body_tells fuel inner level (t ∷ ts) tell stop h n = go t.line t.lexeme h
  where
    go : (line : ℕ) (lexeme : Lexeme) → Ends (at line lexeme ∷ ts)
        → Tells (body_at lexeme inner level (at line lexeme) ts)
        (first_from (behind_word level) (at line lexeme ∷ ts)) (λ y. first_from (behind_statement level) y.1)
    go line open_block h = block_tells fuel inner level line ts tell stop
        (ends_by (at line open_block ∷ ts) ts refl h) (omega arith)
    go line _ h = refl

keyword_step : (level line : ℕ) (k : Text) (ts : List Token) → is_name k ≡ true → first_from (at_keyword level)
    (at line (word k) ∷ ts) ≡ first_from (behind_keyword level) ts
unfolding slips_from
keyword_step zero line k ts h = rw h refl
keyword_step (suc level) line k ts h = rw h refl

keyword_slip : (level line : ℕ) (k : Text) (ts : List Token) → is_name k ≡ false → first_from (at_keyword level)
    (at line (word k) ∷ ts) ≡ is_slip 8 line
unfolding slips_from
keyword_slip zero line k ts h = rw h refl
keyword_slip (suc level) line k ts h = rw h refl

statement_tells : (fuel : ℕ) (inner : List Token → Result read.Row Slip) (level line : ℕ) (k : Text)
    (ts : List Token) → InnerTells fuel inner level → InnerStops fuel inner → Ends ts → length ts ≤ fuel
    → Tells (statement inner level k line ts) (first_from (at_keyword level) (at line (word k) ∷ ts))
    (λ y. first_from (behind_statement level) y.1)
statement_tells fuel inner level line k ts tell stop h n = go (is_name k) refl
  where
    build : Option Text × List Token → read.Row → Result read.Row Slip
    build a b = Ok (node (record { keyword = k; argument = a.0; line = line }) b.0 end, b.1)

    rest_of : Option Text × List Token → Result read.Row Slip
    rest_of a = body inner level a.1 >>= build a

    go : (b : Bool) → is_name k ≡ b → Tells (cond b (argument ts >>= rest_of) (slip 8 line))
        (first_from (at_keyword level) (at line (word k) ∷ ts)) (λ y. first_from (behind_statement level) y.1)
    go true e = tells_from (argument ts >>= rest_of) _ (first_from (behind_keyword level) ts)
        (λ y. first_from (behind_statement level) y.1) (keyword_step level line k ts e)
        (tells_bind (argument ts) rest_of _ (λ a. first_from (behind_word level) a.1)
        (λ y. first_from (behind_statement level) y.1) (argument_tells level ts)
        (λ a r. let arg = argument_found ts a.0 a.1 r in
        tells_bind (body inner level a.1) (build a) _ (λ y. first_from (behind_statement level) y.1)
        (λ y. first_from (behind_statement level) y.1)
        (body_tells fuel inner level a.1 tell stop (ends_by ts a.1 (argument_keeps ts a.0 a.1 arg) h)
        (omega (arith, argument_shorter ts a.0 a.1 arg)))
        (λ b r2. refl)))
    go false e = keyword_slip level line k ts e

reads_at : (fuel level : ℕ) → Reads level (statements fuel level)
unfolding Reads
reads_at fuel level = statements_found fuel level

stated_at : (fuel level line : ℕ) (k : Text) (ts : List Token) (x : read.Row) → Ends (at line (word k) ∷ ts)
    → statement (statements fuel (level + 1)) level k line ts ≡ Ok x → Stated level line k ts x
stated_at fuel level line k ts x h e = statement_found (statements fuel (level + 1)) level line k ts x
    (reads_at fuel (level + 1)) (ends_by (at line (word k) ∷ ts) ts refl h) e

ok_rest : (x y : read.Row) → ◌≡◌ {A = Result read.Row Slip} (Ok x) (Ok y) → x.1 ≡ y.1
ok_rest x y e = ap (λ (p : read.Row). p.1) (ok_is x y e)

stops_is : (ts us : List Token) → ts ≡ us → stops_row ts ≡ true → stops_row us ≡ true
stops_is ts us e h = subst (λ (vs : List Token). stops_row vs ≡ true) e h

statements_stop : (fuel level : ℕ) (ts : List Token) (x : read.Row) → Ends ts → length ts ≤ fuel
    → statements fuel level ts ≡ Ok x → stops_row x.1 ≡ true
unfolding statements
statements_stop fuel level [] x h n e = absurd (not_empty h)
statements_stop zero level (t ∷ ts) x h n e = absurd (omega arith)
statements_stop (suc fuel) level (t ∷ ts) x h n e = go t.line t.lexeme h e (statements_stop fuel)
  where
    go : (line : ℕ) (lexeme : Lexeme) → Ends (at line lexeme ∷ ts) → statements_at lexeme (statements fuel (level + 1))
        (statements fuel level) level (at line lexeme) ts ≡ Ok x
        → ((level : ℕ) (ts : List Token) (x : read.Row) → Ends ts → length ts ≤ fuel → statements fuel level ts ≡ Ok
        x → stops_row x.1 ≡ true) → stops_row x.1 ≡ true
    go line (word w) h e below =
        let a = bind_ok (statement (statements fuel (level + 1)) level w line ts)
        (λ first. statements fuel level first.1 >>= in_row first) x e in
        let b = bind_ok (statements fuel level a.0.1) (in_row a.0) x a.2 in
        let s : Stated level line w ts a.0 = stated_at fuel level line w ts a.0 h a.1 in
        stops_is b.0.1 x.1 (ok_rest (join a.0.0 b.0.0, b.0.1) x b.2)
        (below level a.0.1 b.0 s.ends (omega (arith, s.shorter)) b.1)
    go line close_block h e below = stops_is (at line close_block ∷ ts) x.1
        (ok_rest (end, at line close_block ∷ ts) x e) refl
    go line finish h e below = stops_is (at line finish ∷ ts) x.1 (ok_rest (end, at line finish ∷ ts) x e) refl
    go line _ h e below = absurd cc

stops_at : (fuel level : ℕ) → InnerStops fuel (statements fuel level)
unfolding InnerStops
stops_at fuel level = statements_stop fuel level

statements_tell : (fuel level : ℕ) (ts : List Token) → Ends ts → length ts ≤ fuel
    → Tells (statements fuel (suc level) ts) (first_from (at_keyword (suc level)) ts)
    (λ x. first_from (at_keyword (suc level)) x.1)
unfolding statements slips_from InnerTells
statements_tell zero level ts h n = refl
statements_tell (suc fuel) level [] h n = refl
statements_tell (suc fuel) level (t ∷ ts) h n = go t.line t.lexeme h (statements_tell fuel)
  where
    go : (line : ℕ) (lexeme : Lexeme) → Ends (at line lexeme ∷ ts)
        → ((level : ℕ) (ts : List Token) → Ends ts → length ts ≤ fuel → Tells (statements fuel (suc level) ts)
        (first_from (at_keyword (suc level)) ts) (λ x. first_from (at_keyword (suc level)) x.1))
        → Tells (statements_at lexeme (statements fuel (suc level + 1)) (statements fuel (suc level)) (suc level)
        (at line lexeme) ts) (first_from (at_keyword (suc level)) (at line lexeme ∷ ts))
        (λ x. first_from (at_keyword (suc level)) x.1)
    go line (word w) h below =
        let inner : InnerTells fuel (statements fuel (suc level + 1)) (suc level) =
        λ vs g m. subst (λ (d : ℕ). Tells (statements fuel d vs) (first_from (at_keyword (suc (suc level))) vs)
        (λ x. first_from (at_keyword (suc (suc level))) x.1)) (sym (add-one (suc level)))
        (below (suc level) vs g m) in
        tells_bind (statement (statements fuel (suc level + 1)) (suc level) w line ts)
        (λ a. statements fuel (suc level) a.1 >>= in_row a) _ (λ a. first_from (at_keyword (suc level)) a.1)
        (λ x. first_from (at_keyword (suc level)) x.1)
        (statement_tells fuel (statements fuel (suc level + 1)) (suc level) line w ts inner
        (stops_at fuel (suc level + 1)) (ends_by (at line (word w) ∷ ts) ts refl h) (omega arith))
        (λ a r. let s = stated_at fuel (suc level) line w ts a h r in
        tells_bind (statements fuel (suc level) a.1) (in_row a) _ (λ x. first_from (at_keyword (suc level)) x.1)
        (λ x. first_from (at_keyword (suc level)) x.1)
        (below level a.1 s.ends (omega (arith, s.shorter)))
        (λ b r2. refl))
    go line (single raw) h below = refl
    go line (double column raw) h below = refl
    go line semi h below = refl
    go line open_block h below = refl
    go line close_block h below = refl
    go line finish h below = refl
    go line unclosed_quote h below = refl
    go line unclosed_comment h below = refl
    go line stray_end h below = refl

-- ---- the whole text

nothing_behind : (line : ℕ) (ts : List Token) → Ends (at line finish ∷ ts) → ts ≡ []
unfolding Ends
nothing_behind line ts h = ap (λ (vs : List Token). drop 1 vs) h.3

ending_tells : (top : Forest Statement) (ts : List Token) → Ends ts
    → Tells (ending (top, ts)) (first_from behind_top ts) (λ f. None)
unfolding slips_from
ending_tells top [] h = absurd (not_empty h)
ending_tells top (t ∷ ts) h = go t.line t.lexeme h
  where
    go : (line : ℕ) (lexeme : Lexeme) → Ends (at line lexeme ∷ ts) → Tells (ending_at lexeme top (at line lexeme))
        (first_from behind_top (at line lexeme ∷ ts)) (λ f. None)
    go line finish h = rw (nothing_behind line ts h) refl
    go line _ h = refl

inner_tells : (fuel : ℕ) → InnerTells fuel (statements fuel 1) 0
unfolding InnerTells
inner_tells fuel = statements_tell fuel 0

pub top_tells : (ts : List Token) → Ends ts → Tells (top_statement ts) (first_from (at_keyword 0) ts) (λ f. None)
unfolding slips_from
top_tells [] h = absurd (not_empty h)
top_tells (t ∷ ts) h = go t.line t.lexeme h
  where
    go : (line : ℕ) (lexeme : Lexeme) → Ends (at line lexeme ∷ ts)
        → Tells (top_at lexeme (length ts) (at line lexeme) ts) (first_from (at_keyword 0) (at line lexeme ∷ ts))
        (λ f. None)
    go line (word w) h = tells_bind (statement (statements (length ts) 1) 0 w line ts) ending _
        (λ a. first_from behind_top a.1) (λ f. None)
        (statement_tells (length ts) (statements (length ts) 1) 0 line w ts (inner_tells (length ts))
        (stops_at (length ts) 1) (ends_by (at line (word w) ∷ ts) ts refl h) (omega arith))
        (λ a r. let s = stated_at (length ts) 0 line w ts a h r in ending_tells a.0 a.1 s.ends)
    go line (single raw) h = refl
    go line (double column raw) h = refl
    go line semi h = refl
    go line open_block h = refl
    go line close_block h = refl
    go line finish h = refl
    go line unclosed_quote h = refl
    go line unclosed_comment h = refl
    go line stray_end h = refl

text_tells : (text : Text) → Tells (module_of text) (told_slip text) (λ f. None)
unfolding module_of told_slip
text_tells text = go (nat_lt text_limit (length text)) (is_utf8 text) (forbidden_line 1 (chars text))
  where
    go : (long utf8 : Bool) (bad : Option ℕ) → Tells
        (cond long (slip 7 1) (cond utf8 (option_map_or (λ line. slip 2 line) bad (top_statement (tokens_of text)))
        (slip 1 (line_behind 1 (take (utf8_valid_len text) text)))))
        (cond long (is_slip 7 1) (cond (not utf8) (is_slip 1 (line_behind 1 (take (utf8_valid_len text) text)))
        (option_map_or (λ line. is_slip 2 line) bad (first (slips text))))) (λ f. None)
    go true utf8 bad = refl
    go false false bad = refl
    go false true (Some line) = refl
    go false true None = top_tells (tokens_of text) (text_ends text)

pub refusal_told : (text : Text) (s : Slip) → module_of text ≡ Err s → told_slip text ≡ Some s
refusal_told text s e = subst (λ (r : Result (Forest Statement) Slip). Tells r (told_slip text) (λ f. None)) e
    (text_tells text)

pub nothing_told : (text : Text) (top : Forest Statement) → module_of text ≡ Ok top → told_slip text ≡ None
nothing_told text top e = subst (λ (r : Result (Forest Statement) Slip). Tells r (told_slip text) (λ f. None)) e
    (text_tells text)

pub told_refused : (text : Text) (s : Slip) → told_slip text ≡ Some s → module_of text ≡ Err s
told_refused text s e = go (module_of text) refl
  where
    go : (r : Result (Forest Statement) Slip) → module_of text ≡ r → module_of text ≡ Err s
    go (Ok top) h = absurd (cc (nothing_told text top h))
    go (Err d) h = h ∙ ap (λ (x : Slip). Err x) (same_Some d s (sym (refusal_told text d h) ∙ e))

pub silent_spells : (text : Text) → told_slip text ≡ None → (top : Forest Statement) × Spells text top
silent_spells text e = go (module_of text) refl
  where
    go : (r : Result (Forest Statement) Slip) → module_of text ≡ r → (top : Forest Statement) × Spells text top
    go (Ok top) h = (top, module_found text top h)
    go (Err d) h = absurd (cc (refusal_told text d h))

pub spelled_silent : (text : Text) (top : Forest Statement) → Spells text top → told_slip text ≡ None
spelled_silent text top s = nothing_told text top (module_only text top s)
