-- What a reader's tokens are by the token at hand.
use Rattle.std.proofs.Common.{◌≡◌, refl, ℕ, Bool, true, false, List, [], ◌∷◌, Bor, cond, length, Result, Ok, sym, ap, subst, ◌∙◌, le_refl, ◌+◌, ◌-◌, ◌<◌, ◌≤◌, arith}
use Rattle.std.specs.Str.{IsCharBoundary}
use Rattle.yspec.specs.Forest.{Forest, end}
use Rattle.yspec.specs.text.Token.{Token, at, word}
use Rattle.yspec.specs.text.Statement.{Statement, Slip, Row, ◌>>=◌, statement, statements, ending, top_statement, statements_at}
use Rattle.yspec.specs.Results.{Fails}
use Rattle.ytext.specs.Told.{told_by}
use Rattle.ytext.specs.Left.{left}
use Rattle.ytext.specs.Reading.{ahead, tokens_ahead, first_of, rest_of, rows}
use Rattle.ytext.specs.View.{row_view}
use Rattle.ytext.specs.View.{lexeme_of, ends_text}
use Rattle.ytext.specs.declared.cursor.Cursor.{Cursor}
use Rattle.ytext.specs.declared.cursor.Lexed.{Lexed}
use Rattle.ytext.specs.declared.lexeme.Lexeme.{Lexeme}
use Rattle.ytext.specs.declared.lexeme.Lexeme.TheVariants.{Word}
use Rattle.ytext.specs.declared.fault.TextFault.{TextFault}
use Rattle.ytext.specs.declared.fault.TextFault.TheVariants.{Refused, Memory}
use Rattle.ytext.specs.declared.reader.Reader.{Reader}
use Rattle.ytext.specs.declared.statement.Stmt.{Stmt}
use Rattle.ytext.proofs.RowLemmas.{rows_by, rows_agree, statement_same, with_front, front_ok, front_err}
use Rattle.yspec.proofs.ForestLemmas.{join_end}

pub word_ahead : (r : Reader) (w : Bor (List ℕ)) → r.token.lexeme ≡ Word w → tokens_ahead r ≡ at r.token.line (word w.now) ∷ left r.cursor
word_ahead r w e = ap (λ (l : Lexeme). at r.token.line (lexeme_of l) ∷ cond (ends_text l) [] (left r.cursor)) e

pub top_of : (r : Reader) (w : Bor (List ℕ)) → r.token.lexeme ≡ Word w → top_statement (tokens_ahead r) ≡ statement (rows 1) 0 w.now r.token.line (left r.cursor) >>= ending
top_of r w e =
    let ts : List Token = left r.cursor in
    ap top_statement (word_ahead r w e)
    ∙ ap (λ (read : Result Row Slip). read >>= ending) (statement_same (statements (length ts) 1) (rows 1) 0 w.now r.token.line ts (length ts) (rows_agree (length ts) 1) (le_refl (length ts)))

pub top_fails : (r : Reader) (w : Bor (List ℕ)) (e : TextFault) → r.token.lexeme ≡ Word w → Fails (told_by e) (statement (rows 1) 0 w.now r.token.line (left r.cursor)) → Fails (told_by e) (top_statement (tokens_ahead r))
top_fails r w Memory is h = tt
top_fails r w (Refused code line) is h = top_of r w is ∙ ap (λ (read : Result Row Slip). read >>= ending) h

-- the end of a row, and a token that may not stand in one
pub row_ends : (level : ℕ) (r : Reader) (ss : List Stmt) (read : Result Row Slip) → with_front (row_view ss) (rows level (tokens_ahead r)) ≡ read
    → statements_at (lexeme_of r.token.lexeme) (rows (level + 1)) (rows level) level (first_of r) (rest_of r) ≡ Ok (end, tokens_ahead r) → read ≡ Ok (row_view ss, tokens_ahead r)
row_ends level r ss read rest e =
    sym rest ∙ ap (with_front (row_view ss)) (rows_by level (first_of r) (rest_of r) ∙ e) ∙ front_ok (row_view ss) end (tokens_ahead r)
    ∙ ap (λ (f : Forest Statement). Ok (f, tokens_ahead r)) (join_end (row_view ss))

pub row_breaks : (level : ℕ) (r : Reader) (ss : List Stmt) (read : Result Row Slip) (e : TextFault) → with_front (row_view ss) (rows level (tokens_ahead r)) ≡ read
    → Fails (told_by e) (statements_at (lexeme_of r.token.lexeme) (rows (level + 1)) (rows level) level (first_of r) (rest_of r)) → Fails (told_by e) read
row_breaks level r ss read Memory rest h = tt
row_breaks level r ss read (Refused code line) rest h =
    sym rest ∙ ap (with_front (row_view ss)) (rows_by level (first_of r) (rest_of r) ∙ h) ∙ front_err (row_view ss) _

-- one step: the token at hand is gone, and fewer bytes are ahead
pub token_gone : (r : Reader) → ends_text r.token.lexeme ≡ false → tokens_ahead r ≡ first_of r ∷ left r.cursor
token_gone r goes_on = ap (λ (b : Bool). first_of r ∷ cond b [] (left r.cursor)) goes_on

fewer : (n place later : ℕ) (ended ends : Bool) → ended ≡ false → later ≤ n → place ≤ later → (ends ≡ false → place < later)
    → (n - later) + cond ends 0 1 < (n - place) + cond ended 0 1
fewer n place later true ends goes_on within forward moved = cc
fewer n place later false true goes_on within forward moved = omega arith
fewer n place later false false goes_on within forward moved =
    let h : place < later = moved refl in
    omega arith

pub fewer_ahead : (t : Lexed) (c : Cursor) (r : Reader) → ends_text r.token.lexeme ≡ false → c.text.now ≡ r.cursor.text.now → IsCharBoundary c.text.now c.at
    → r.cursor.at ≤ c.at → (ends_text t.lexeme ≡ false → r.cursor.at < c.at)
    → (length c.text.now - c.at) + cond (ends_text t.lexeme) 0 1 < ahead r
fewer_ahead t c r goes_on same place forward moved =
    subst (λ (n : ℕ). (length c.text.now - c.at) + cond (ends_text t.lexeme) 0 1 < (n - r.cursor.at) + cond (ends_text r.token.lexeme) 0 1) (ap length same)
    (fewer (length c.text.now) r.cursor.at c.at (ends_text r.token.lexeme) (ends_text t.lexeme) goes_on place.0 forward moved)
