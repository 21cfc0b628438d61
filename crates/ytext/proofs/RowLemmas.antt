-- The reading of rows doesn't rest on how much fuel it is given, if that is enough.
use Rattle.std.proofs.Common.{◌≡◌, ℕ, zero, suc, ◌+◌, ◌≤◌, List, [], ◌∷◌, Bool, true, false, cond, Option, Some, None, Result, Ok, Err, length, refl, sym, ap, ◌∙◌, arith, ◌++◌, nat_lt, le_refl}
use Rattle.yspec.specs.Forest.{Forest, end, node}
use Rattle.yspec.specs.text.Text.{Text, is_name}
use Rattle.yspec.specs.text.Token.{Token, Lexeme, word, single, double, semi, open_block, close_block, finish, unclosed_quote, unclosed_comment, stray_end}
use Rattle.yspec.specs.text.Statement.{Slip, slip, ◌>>=◌, Statement, Row, piece, pieces, after_piece, appended, some_argument, argument, argument_at, is_plus, begins_quoted, body, body_at, closed, closed_at, statement, statements_at, in_row, statements, block_limit}
use Rattle.yspec.specs.Forest.{join}
use Rattle.yspec.specs.text.Token.{at}
use Rattle.yspec.specs.Results.{Fails}
use Rattle.yspec.proofs.ForestLemmas.{join_assoc}
use Rattle.yspec.proofs.BasicLemmas.{bind_ok}
use Rattle.ytext.specs.Told.{told_by}
use Rattle.ytext.specs.Reading.{rows}
use Rattle.ytext.specs.View.{view, row_view}
use Rattle.ytext.specs.declared.statement.Stmt.{Stmt}
use Rattle.ytext.specs.declared.fault.TextFault.{TextFault}
use Rattle.ytext.specs.declared.fault.TextFault.TheVariants.{Refused, Memory}

-- ---- nothing reads more than there is

abbrev Shrinks : {A : Type 0} → ℕ → Result (A × List Token) Slip → Type 0
Shrinks {A} n r = (x : A × List Token) → r ≡ Ok x → length x.1 ≤ n

ok_same : {A : Type 0} (x y : A) → ◌≡◌ {A = Result A Slip} (Ok x) (Ok y) → x ≡ y
ok_same x y e = cc

bind_same : {A B : Type 0} (r : Result A Slip) (f g : A → Result B Slip) → ((x : A) → r ≡ Ok x → f x ≡ g x) → (r >>= f) ≡ (r >>= g)
bind_same (Ok x) f g h = h x refl
bind_same (Err s) f g h = refl

after_shrinks : (plus quoted : Bool) (text : Text) (t : Token) (ts : List Token) (more : Result (Text × List Token) Slip) → Shrinks (length ts) more
    → Shrinks (suc (length ts)) (cond plus (cond quoted (more >>= appended text) (slip 5 t.line)) (Ok (text, t ∷ ts)))
after_shrinks true true text t ts more h x e =
    let parts = bind_ok more (appended text) x e in
    let same = ok_same (text ++ parts.0.0, parts.0.1) x parts.2 in
    let rest = h parts.0 parts.1 in
    omega (arith, rest, ap (λ (y : Text × List Token). length y.1) same)
after_shrinks true false text t ts more h x e = cc
after_shrinks false quoted text t ts more h x e =
    omega (arith, ap (λ (y : Text × List Token). length y.1) (ok_same (text, t ∷ ts) x e))

pieces_shrink : (ts : List Token) → Shrinks (length ts) (pieces ts)
unfolding pieces
pieces_shrink [] x e = omega (arith, ap (λ (y : Text × List Token). length y.1) (ok_same ([], []) x e))
pieces_shrink (first ∷ []) x e =
    let parts = bind_ok (piece first.line first.lexeme) (λ text. Ok (text, [])) x e in
    omega (arith, ap (λ (y : Text × List Token). length y.1) (ok_same (parts.0, []) x parts.2))
pieces_shrink (first ∷ second ∷ ts) x e =
    let parts = bind_ok (piece first.line first.lexeme) (λ text. after_piece text second ts (pieces ts)) x e in
    let rest = after_shrinks (is_plus second.lexeme) (begins_quoted ts) parts.0 second ts (pieces ts) (pieces_shrink ts) x parts.2 in
    omega (arith, rest)

of_pieces : (ts : List Token) → Shrinks (length ts) (pieces ts >>= some_argument)
of_pieces ts x e =
    let parts = bind_ok (pieces ts) some_argument x e in
    let rest = pieces_shrink ts parts.0 parts.1 in
    omega (arith, rest, ap (λ (y : Option Text × List Token). length y.1) (ok_same (Some parts.0.0, parts.0.1) x parts.2))

here : (a : Option Text) (t : Token) (ts : List Token) → Shrinks (suc (length ts)) (Ok (a, t ∷ ts))
here a t ts x e = omega (arith, ap (λ (y : Option Text × List Token). length y.1) (ok_same (a, t ∷ ts) x e))

argument_at_shrinks : (l : Lexeme) (t : Token) (ts : List Token) → Shrinks (suc (length ts)) (argument_at l t ts)
argument_at_shrinks (word w) t ts x e = omega (arith, ap (λ (y : Option Text × List Token). length y.1) (ok_same (Some w, ts) x e))
argument_at_shrinks (single raw) t ts x e = of_pieces (t ∷ ts) x e
argument_at_shrinks (double column raw) t ts x e = of_pieces (t ∷ ts) x e
argument_at_shrinks unclosed_quote t ts x e = of_pieces (t ∷ ts) x e
argument_at_shrinks semi t ts x e = here None t ts x e
argument_at_shrinks open_block t ts x e = here None t ts x e
argument_at_shrinks close_block t ts x e = here None t ts x e
argument_at_shrinks finish t ts x e = here None t ts x e
argument_at_shrinks unclosed_comment t ts x e = here None t ts x e
argument_at_shrinks stray_end t ts x e = here None t ts x e

argument_shrinks : (ts : List Token) → Shrinks (length ts) (argument ts)
argument_shrinks [] x e = omega (arith, ap (λ (y : Option Text × List Token). length y.1) (ok_same (None, []) x e))
argument_shrinks (t ∷ ts) x e = argument_at_shrinks t.lexeme t ts x e

-- ---- rows

abbrev AllShrink : (List Token → Result Row Slip) → Type 0
AllShrink inner = (us : List Token) → Shrinks (length us) (inner us)

closed_at_shrinks : (l : Lexeme) (below : Forest Statement) (t : Token) (ts : List Token) → Shrinks (length ts) (closed_at l below t ts)
closed_at_shrinks close_block below t ts x e = omega (arith, ap (λ (y : Row). length y.1) (ok_same (below, ts) x e))
closed_at_shrinks (word w) below t ts x e = cc
closed_at_shrinks (single raw) below t ts x e = cc
closed_at_shrinks (double column raw) below t ts x e = cc
closed_at_shrinks unclosed_quote below t ts x e = cc
closed_at_shrinks semi below t ts x e = cc
closed_at_shrinks open_block below t ts x e = cc
closed_at_shrinks finish below t ts x e = cc
closed_at_shrinks unclosed_comment below t ts x e = cc
closed_at_shrinks stray_end below t ts x e = cc

closed_shrinks : (below : Forest Statement) (ts : List Token) → Shrinks (length ts) (closed (below, ts))
closed_shrinks below [] x e = omega (arith, ap (λ (y : Row). length y.1) (ok_same (below, []) x e))
closed_shrinks below (t ∷ ts) x e = let rest = closed_at_shrinks t.lexeme below t ts x e in omega (arith, rest)

block_shrinks : (fits : Bool) (inner : List Token → Result Row Slip) (t : Token) (ts : List Token) → AllShrink inner → Shrinks (length ts) (cond fits (inner ts >>= closed) (slip 7 t.line))
block_shrinks true inner t ts h x e =
    let parts = bind_ok (inner ts) closed x e in
    let inside = h ts parts.0 parts.1 in
    let rest = closed_shrinks parts.0.0 parts.0.1 x parts.2 in
    omega (arith, inside, rest)
block_shrinks false inner t ts h x e = cc

body_at_shrinks : (l : Lexeme) (inner : List Token → Result Row Slip) (level : ℕ) (t : Token) (ts : List Token) → AllShrink inner → Shrinks (length ts) (body_at l inner level t ts)
body_at_shrinks semi inner level t ts h x e = omega (arith, ap (λ (y : Row). length y.1) (ok_same (end, ts) x e))
body_at_shrinks open_block inner level t ts h x e = block_shrinks (nat_lt level block_limit) inner t ts h x e
body_at_shrinks (word w) inner level t ts h x e = cc
body_at_shrinks (single raw) inner level t ts h x e = cc
body_at_shrinks (double column raw) inner level t ts h x e = cc
body_at_shrinks unclosed_quote inner level t ts h x e = cc
body_at_shrinks close_block inner level t ts h x e = cc
body_at_shrinks finish inner level t ts h x e = cc
body_at_shrinks unclosed_comment inner level t ts h x e = cc
body_at_shrinks stray_end inner level t ts h x e = cc

body_shrinks : (inner : List Token → Result Row Slip) (level : ℕ) (ts : List Token) → AllShrink inner → Shrinks (length ts) (body inner level ts)
body_shrinks inner level [] h x e = omega (arith, ap (λ (y : Row). length y.1) (ok_same (end, []) x e))
body_shrinks inner level (t ∷ ts) h x e = let rest = body_at_shrinks t.lexeme inner level t ts h x e in omega (arith, rest)

abbrev made : Text → ℕ → Option Text → Row → Result Row Slip
made keyword line a b = Ok (node (record { keyword = keyword; argument = a; line = line }) b.0 end, b.1)

abbrev formed : (List Token → Result Row Slip) → ℕ → Text → ℕ → Option Text × List Token → Result Row Slip
formed inner level keyword line a = body inner level a.1 >>= made keyword line a.0

statement_by : (formed_well : Bool) (inner : List Token → Result Row Slip) (level : ℕ) (keyword : Text) (line : ℕ) (ts : List Token) → AllShrink inner
    → Shrinks (length ts) (cond formed_well (argument ts >>= formed inner level keyword line) (slip 8 line))
statement_by true inner level keyword line ts h x e =
    let one = bind_ok (argument ts) (formed inner level keyword line) x e in
    let two = bind_ok (body inner level one.0.1) (made keyword line one.0.0) x one.2 in
    let first = argument_shrinks ts one.0 one.1 in
    let second = body_shrinks inner level one.0.1 h two.0 two.1 in
    let same = ok_same (node (record { keyword = keyword; argument = one.0.0; line = line }) two.0.0 end, two.0.1) x two.2 in
    omega (arith, first, second, ap (λ (y : Row). length y.1) same)
statement_by false inner level keyword line ts h x e = cc

pub statement_shrinks : (inner : List Token → Result Row Slip) (level : ℕ) (keyword : Text) (line : ℕ) (ts : List Token) → AllShrink inner → Shrinks (length ts) (statement inner level keyword line ts)
statement_shrinks inner level keyword line ts h x e = statement_by (is_name keyword) inner level keyword line ts h x e

stay : (t : Token) (ts : List Token) → Shrinks {A = Forest Statement} (suc (length ts)) (Ok (end, t ∷ ts))
stay t ts x e = omega (arith, ap (λ (y : Row). length y.1) (ok_same (end, t ∷ ts) x e))

row_at_shrinks : (l : Lexeme) (inner others : List Token → Result Row Slip) (level : ℕ) (t : Token) (ts : List Token) → AllShrink inner → AllShrink others
    → Shrinks (suc (length ts)) (statements_at l inner others level t ts)
row_at_shrinks (word w) inner others level t ts h k x e =
    let one = bind_ok (statement inner level w t.line ts) (λ first. others first.1 >>= in_row first) x e in
    let two = bind_ok (others one.0.1) (in_row one.0) x one.2 in
    let first = statement_shrinks inner level w t.line ts h one.0 one.1 in
    let second = k one.0.1 two.0 two.1 in
    let same = ap (λ (y : Row). length y.1) (ok_same (join one.0.0 two.0.0, two.0.1) x two.2) in
    omega (arith, first, second, same)
row_at_shrinks close_block inner others level t ts h k x e = stay t ts x e
row_at_shrinks finish inner others level t ts h k x e = stay t ts x e
row_at_shrinks (single raw) inner others level t ts h k x e = cc
row_at_shrinks (double column raw) inner others level t ts h k x e = cc
row_at_shrinks unclosed_quote inner others level t ts h k x e = cc
row_at_shrinks semi inner others level t ts h k x e = cc
row_at_shrinks open_block inner others level t ts h k x e = cc
row_at_shrinks unclosed_comment inner others level t ts h k x e = cc
row_at_shrinks stray_end inner others level t ts h k x e = cc

statements_shrink : (fuel level : ℕ) → AllShrink (statements fuel level)
unfolding statements
statements_shrink zero level us x e = omega (arith, ap (λ (y : Row). length y.1) (ok_same (end, us) x e))
statements_shrink (suc fuel) level [] x e = omega (arith, ap (λ (y : Row). length y.1) (ok_same (end, []) x e))
statements_shrink (suc fuel) level (t ∷ us) x e =
    row_at_shrinks t.lexeme (statements fuel (level + 1)) (statements fuel level) level t us (statements_shrink fuel (level + 1)) (statements_shrink fuel level) x e

-- ---- what agrees on short lists

abbrev Agree : ℕ → (f g : List Token → Result Row Slip) → Type 0
Agree n f g = (us : List Token) → length us ≤ n → f us ≡ g us

body_at_same : (l : Lexeme) (f g : List Token → Result Row Slip) (level : ℕ) (t : Token) (ts : List Token) (n : ℕ) → Agree n f g → length ts ≤ n → body_at l f level t ts ≡ body_at l g level t ts
body_at_same open_block f g level t ts n h k = ap (λ (r : Result Row Slip). cond (nat_lt level block_limit) (r >>= closed) (slip 7 t.line)) (h ts k)
body_at_same semi f g level t ts n h k = refl
body_at_same (word w) f g level t ts n h k = refl
body_at_same (single raw) f g level t ts n h k = refl
body_at_same (double column raw) f g level t ts n h k = refl
body_at_same unclosed_quote f g level t ts n h k = refl
body_at_same close_block f g level t ts n h k = refl
body_at_same finish f g level t ts n h k = refl
body_at_same unclosed_comment f g level t ts n h k = refl
body_at_same stray_end f g level t ts n h k = refl

body_same : (f g : List Token → Result Row Slip) (level : ℕ) (ts : List Token) (n : ℕ) → Agree n f g → length ts ≤ n → body f level ts ≡ body g level ts
body_same f g level [] n h k = refl
body_same f g level (t ∷ ts) n h k = body_at_same t.lexeme f g level t ts n h (omega (arith, k))

pub statement_same : (f g : List Token → Result Row Slip) (level : ℕ) (keyword : Text) (line : ℕ) (ts : List Token) (n : ℕ) → Agree n f g → length ts ≤ n
    → statement f level keyword line ts ≡ statement g level keyword line ts
statement_same f g level keyword line ts n h k =
    ap (λ (r : Result Row Slip). cond (is_name keyword) r (slip 8 line))
    (bind_same (argument ts) (formed f level keyword line) (formed g level keyword line) (λ a e.
    let short = argument_shrinks ts a e in
    ap (λ (r : Result Row Slip). r >>= made keyword line a.0) (body_same f g level a.1 n h (omega (arith, short, k)))))

row_at_same : (l : Lexeme) (f g others more : List Token → Result Row Slip) (level : ℕ) (t : Token) (ts : List Token) (n : ℕ) → AllShrink g → Agree n f g → Agree n others more → length ts ≤ n
    → statements_at l f others level t ts ≡ statements_at l g more level t ts
row_at_same (word w) f g others more level t ts n s h k m =
    ap (λ (r : Result Row Slip). r >>= (λ first. others first.1 >>= in_row first)) (statement_same f g level w t.line ts n h m)
    ∙ bind_same (statement g level w t.line ts) (λ first. others first.1 >>= in_row first) (λ first. more first.1 >>= in_row first) (λ first e.
    let short = statement_shrinks g level w t.line ts s first e in
    ap (λ (r : Result Row Slip). r >>= in_row first) (k first.1 (omega (arith, short, m))))
row_at_same semi f g others more level t ts n s h k m = refl
row_at_same open_block f g others more level t ts n s h k m = refl
row_at_same (single raw) f g others more level t ts n s h k m = refl
row_at_same (double column raw) f g others more level t ts n s h k m = refl
row_at_same unclosed_quote f g others more level t ts n s h k m = refl
row_at_same close_block f g others more level t ts n s h k m = refl
row_at_same finish f g others more level t ts n s h k m = refl
row_at_same unclosed_comment f g others more level t ts n s h k m = refl
row_at_same stray_end f g others more level t ts n s h k m = refl

enough : (f g level : ℕ) (ts : List Token) → length ts ≤ f → length ts ≤ g → statements f level ts ≡ statements g level ts
unfolding statements
enough zero zero level [] h k = refl
enough zero (suc g) level [] h k = refl
enough (suc f) zero level [] h k = refl
enough (suc f) (suc g) level [] h k = refl
enough zero g level (t ∷ ts) h k = absurd (omega (arith, h))
enough (suc f) zero level (t ∷ ts) h k = absurd (omega (arith, k))
enough (suc f) (suc g) level (t ∷ ts) h k =
    row_at_same t.lexeme (statements f (level + 1)) (statements g (level + 1)) (statements f level) (statements g level) level t ts (length ts) (statements_shrink g (level + 1))
    (λ us m. enough f g (level + 1) us (omega (arith, h, m)) (omega (arith, k, m)))
    (λ us m. enough f g level us (omega (arith, h, m)) (omega (arith, k, m))) (le_refl (length ts))

pub rows_agree : (n level : ℕ) → Agree n (statements n level) (rows level)
rows_agree n level us m = enough n (length us) level us m (le_refl (length us))

pub rows_shrink : (level : ℕ) → AllShrink (rows level)
rows_shrink level us = statements_shrink (length us) level us

-- a row by its first token
pub rows_by : (level : ℕ) (t : Token) (ts : List Token) → rows level (t ∷ ts) ≡ statements_at t.lexeme (rows (level + 1)) (rows level) level t ts
unfolding statements
rows_by level t ts =
    row_at_same t.lexeme (statements (length ts) (level + 1)) (rows (level + 1)) (statements (length ts) level) (rows level) level t ts (length ts) (rows_shrink (level + 1))
    (rows_agree (length ts) (level + 1)) (rows_agree (length ts) level) (le_refl (length ts))

-- ---- rows that the code has read so far

pub with_front : Forest Statement → Result Row Slip → Result Row Slip
with_front front read = read >>= (λ x. Ok (join front x.0, x.1))

pub front_again : (f g : Forest Statement) (read : Result Row Slip) → with_front f (with_front g read) ≡ with_front (join f g) read
unfolding with_front
front_again f g (Ok x) = ap (λ (r : Forest Statement). Ok (r, x.1)) (sym (join_assoc f g x.0))
front_again f g (Err s) = refl

pub front_nothing : (read : Result Row Slip) → with_front end read ≡ read
unfolding with_front
front_nothing (Ok x) = refl
front_nothing (Err s) = refl

pub front_ok : (f : Forest Statement) (g : Forest Statement) (ts : List Token) → with_front f (Ok (g, ts)) ≡ Ok (join f g, ts)
unfolding with_front
front_ok f g ts = refl

pub front_err : (f : Forest Statement) (s : Slip) → with_front f (Err s) ≡ Err s
unfolding with_front
front_err f s = refl

pub row_view_push : (ss : List Stmt) (s : Stmt) → row_view (ss ++ s ∷ []) ≡ join (row_view ss) (row_view (s ∷ []))
row_view_push [] s = refl
row_view_push (x ∷ ss) s = ap (node (view x).0 (view x).1) (row_view_push ss s)

-- a statement at the front of a row
pub row_grows : (level : ℕ) (kw : Text) (line : ℕ) (ts us : List Token) (ss : List Stmt) (s : Stmt)
    → statement (rows (level + 1)) level kw line ts ≡ Ok (row_view (s ∷ []), us)
    → with_front (row_view ss) (rows level (at line (word kw) ∷ ts)) ≡ with_front (row_view (ss ++ s ∷ [])) (rows level us)
unfolding with_front
row_grows level kw line ts us ss s e =
    ap (with_front (row_view ss)) (rows_by level (at line (word kw)) ts
    ∙ ap (λ (r : Result Row Slip). r >>= (λ first. rows level first.1 >>= in_row first)) e)
    ∙ front_again (row_view ss) (row_view (s ∷ [])) (rows level us)
    ∙ ap (λ (f : Forest Statement). with_front f (rows level us)) (sym (row_view_push ss s))

pub row_fails : (level : ℕ) (kw : Text) (line : ℕ) (ts : List Token) (ss : List Stmt) (e : TextFault)
    → Fails (told_by e) (statement (rows (level + 1)) level kw line ts) → Fails (told_by e) (with_front (row_view ss) (rows level (at line (word kw) ∷ ts)))
unfolding with_front
row_fails level kw line ts ss Memory h = tt
row_fails level kw line ts ss (Refused code l) h =
    ap (with_front (row_view ss)) (rows_by level (at line (word kw)) ts ∙ ap (λ (r : Result Row Slip). r >>= (λ first. rows level first.1 >>= in_row first)) h)
