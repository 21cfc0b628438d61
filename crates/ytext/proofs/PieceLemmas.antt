-- How quoted strings joined by `+` go on.
use Rattle.std.proofs.Common.{◌≡◌, ℕ, List, [], ◌∷◌, ◌++◌, Bool, true, false, cond, Option, Some, None, Result, Ok, Err, refl, sym, ap, subst, ◌∙◌, append_assoc}
use Rattle.std.specs.Option.{option_map_or}
use Rattle.yspec.specs.text.Text.{Text}
use Rattle.yspec.specs.text.Token.{Token, double, double_text, bad_escape_line}
use Rattle.yspec.specs.text.Statement.{Slip, slip, ◌>>=◌, piece, pieces, after_piece, appended, is_plus, begins_quoted}
use Rattle.yspec.specs.Results.{Fails}
use Rattle.ytext.specs.Told.{told_by, number_of}
use Rattle.ytext.specs.Quoted.{said, reading, reading_in}
use Rattle.ytext.specs.Versions.{raw_in}
use Rattle.ytext.specs.Reading.{piece_behind, behind_piece}
use Rattle.ytext.specs.declared.fault.TextFault.{TextFault}
use Rattle.ytext.specs.declared.fault.TextFault.TheVariants.{Refused, Memory}

slip_same : (s t : Slip) → Some s ≡ Some t → s ≡ t
slip_same s t e = cc

pub fails_by : {Y : Type 0} (e : TextFault) (s : Slip) (read : Result Y Slip) → told_by e ≡ Some s → read ≡ Err s → Fails (told_by e) read
fails_by (Refused code line) s read told is = is ∙ ap Err (slip_same s (record { code = number_of code; line = line }) (sym told))
fails_by Memory s read told is = tt

-- what a text becomes once the pieces behind it are joined
abbrev pub going : Text → List Token → Result (Text × List Token) Slip
going text [] = Ok (text, [])
going text (t ∷ ts) = after_piece text t ts (pieces ts)

again : (more : Result (Text × List Token) Slip) (text before : Text) → (more >>= appended text) >>= appended before ≡ more >>= appended (before ++ text)
again (Ok m) text before = ap (λ (t : Text). Ok (t, m.1)) (sym (append_assoc before text m.0))
again (Err e) text before = refl

after_again : (plus quoted : Bool) (text before : Text) (t : Token) (ts : List Token) (more : Result (Text × List Token) Slip)
    → cond plus (cond quoted (more >>= appended text) (slip 5 t.line)) (Ok (text, t ∷ ts)) >>= appended before
    ≡ cond plus (cond quoted (more >>= appended (before ++ text)) (slip 5 t.line)) (Ok (before ++ text, t ∷ ts))
after_again true true text before t ts more = again more text before
after_again true false text before t ts more = refl
after_again false quoted text before t ts more = refl

going_again : (text before : Text) (ts : List Token) → going text ts >>= appended before ≡ going (before ++ text) ts
going_again text before [] = refl
going_again text before (t ∷ ts) = after_again (is_plus t.lexeme) (begins_quoted ts) text before t ts (pieces ts)

-- after a piece the rest goes on from its text
pub going_on : (first second : Token) (ts : List Token) (text : Text) → piece first.line first.lexeme ≡ Ok text → pieces (first ∷ second ∷ ts) ≡ going text (second ∷ ts)
unfolding pieces
going_on first second ts text e = ap (λ (r : Result Text Slip). r >>= (λ t. after_piece t second ts (pieces ts))) e

pub piece_fails : (first : Token) (ts : List Token) (s : Slip) → piece first.line first.lexeme ≡ Err s → pieces (first ∷ ts) ≡ Err s
unfolding pieces
piece_fails first [] s e = ap (λ (r : Result Text Slip). r >>= (λ t. Ok (t, []))) e
piece_fails first (second ∷ ts) s e = ap (λ (r : Result Text Slip). r >>= (λ t. after_piece t second ts (pieces ts))) e

by_option : (o : Option ℕ) (text before : Text) → option_map_or (λ bad. slip 4 bad) o (Ok (before ++ text)) ≡ option_map_or (λ bad. slip 4 bad) o (Ok text) >>= (λ t. Ok (before ++ t))
by_option None text before = refl
by_option (Some bad) text before = refl

pub reading_piece : (is_yang_1 : Bool) (column line : ℕ) (before raw : Text) → reading_in is_yang_1 column 0 line before raw ≡ piece line (double column (raw_in is_yang_1 raw)) >>= (λ t. Ok (before ++ t))
unfolding reading_in reading said
reading_piece is_yang_1 column line before raw = by_option (bad_escape_line false line (raw_in is_yang_1 raw)) (double_text column (raw_in is_yang_1 raw)) before

appended_nothing : (r : Result (Text × List Token) Slip) → r >>= appended [] ≡ r
appended_nothing (Ok m) = refl
appended_nothing (Err e) = refl

pair_same : (x y : Text × List Token) → ◌≡◌ {A = Result (Text × List Token) Slip} (Ok x) (Ok y) → x ≡ y
pair_same x y e = cc

taken : (r : Result Text Slip) (before text : Text) (ts us : List Token) → r >>= behind_piece before ts ≡ Ok (text, us) → (x : Text) × (r ≡ Ok x) × (before ++ x ≡ text) × (ts ≡ us)
taken (Ok x) before text ts us e = let same = pair_same (before ++ x, ts) (text, us) e in
    (x, refl, ap (λ (y : Text × List Token). y.0) same, ap (λ (y : Text × List Token). y.1) same)
taken (Err s) before text ts us e = cc

-- once a piece is taken, what is read goes on from the longer text
pub piece_taken : (before text : Text) (first second : Token) (ts us : List Token) → piece_behind before (first ∷ ts) ≡ Ok (text, second ∷ us)
    → pieces (first ∷ ts) >>= appended before ≡ going text (second ∷ us)
piece_taken before text first second ts us e =
    let parts = taken (piece first.line first.lexeme) before text ts (second ∷ us) e in
    ap (λ (ys : List Token). pieces (first ∷ ys) >>= appended before) parts.3
    ∙ ap (λ (r : Result (Text × List Token) Slip). r >>= appended before) (going_on first second us parts.0 parts.1)
    ∙ going_again parts.0 before (second ∷ us)
    ∙ ap (λ (t : Text). going t (second ∷ us)) parts.2

pub first_taken : (text : Text) (first second : Token) (ts us : List Token) → piece_behind [] (first ∷ ts) ≡ Ok (text, second ∷ us) → going text (second ∷ us) ≡ pieces (first ∷ ts)
first_taken text first second ts us e = sym (piece_taken [] text first second ts us e) ∙ appended_nothing (pieces (first ∷ ts))

not_taken : (r : Result Text Slip) (before : Text) (ts : List Token) (s : Slip) → r >>= behind_piece before ts ≡ Err s → r ≡ Err s
not_taken (Ok x) before ts s e = cc
not_taken (Err t) before ts s e = cc

pub fails_taken : (e : TextFault) (before : Text) (first : Token) (ts : List Token) → Fails (told_by e) (piece_behind before (first ∷ ts)) → Fails (told_by e) (pieces (first ∷ ts) >>= appended before)
fails_taken Memory before first ts h = tt
fails_taken (Refused code line) before first ts h =
    let s : Slip = record { code = number_of code; line = line } in
    ap (λ (r : Result (Text × List Token) Slip). r >>= appended before) (piece_fails first ts s (not_taken (piece first.line first.lexeme) before ts s h))

pub first_fails : (e : TextFault) (first : Token) (ts : List Token) → Fails (told_by e) (piece_behind [] (first ∷ ts)) → Fails (told_by e) (pieces (first ∷ ts))
first_fails e first ts h = subst (Fails (told_by e)) (appended_nothing (pieces (first ∷ ts))) (fails_taken e [] first ts h)

-- behind a `+`
pub plus_quoted : (text : Text) (t : Token) (ts : List Token) → is_plus t.lexeme ≡ true → begins_quoted ts ≡ true → going text (t ∷ ts) ≡ pieces ts >>= appended text
plus_quoted text t ts p q =
    ap (λ (b : Bool). cond b (cond (begins_quoted ts) (pieces ts >>= appended text) (slip 5 t.line)) (Ok (text, t ∷ ts))) p
    ∙ ap (λ (b : Bool). cond b (pieces ts >>= appended text) (slip 5 t.line)) q

pub plus_alone : (text : Text) (t : Token) (ts : List Token) → is_plus t.lexeme ≡ true → begins_quoted ts ≡ false → going text (t ∷ ts) ≡ slip 5 t.line
plus_alone text t ts p q =
    ap (λ (b : Bool). cond b (cond (begins_quoted ts) (pieces ts >>= appended text) (slip 5 t.line)) (Ok (text, t ∷ ts))) p
    ∙ ap (λ (b : Bool). cond b (pieces ts >>= appended text) (slip 5 t.line)) q

pub no_plus : (text : Text) (t : Token) (ts : List Token) → is_plus t.lexeme ≡ false → going text (t ∷ ts) ≡ Ok (text, t ∷ ts)
no_plus text t ts p = ap (λ (b : Bool). cond b (cond (begins_quoted ts) (pieces ts >>= appended text) (slip 5 t.line)) (Ok (text, t ∷ ts))) p
