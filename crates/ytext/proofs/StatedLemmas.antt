-- Which version a reader's tokens state, by the token at hand.
use Rattle.std.proofs.Common.{◌≡◌, ℕ, List, [], Bool, true, false, Bor, cond, not, Option, Some, Result, Ok, refl, sym, ap, subst, ◌∙◌}
use Rattle.std.specs.Prelude.{codes}
use Rattle.yspec.specs.text.Text.{Text, is_text, is_name}
use Rattle.yspec.specs.text.Token.{Token, word, single, double, semi, open_block, close_block, finish, unclosed_quote, unclosed_comment, stray_end}
use Rattle.yspec.specs.text.Token as token
use Rattle.yspec.specs.text.Statement.{argument, statement}
use Rattle.yspec.specs.Results.{Gives}
use Rattle.yspec_wide.specs.Language.{YangVersion, yang_1, yang_1_1, is_yang_1, version_stated}
use Rattle.yspec_wide.specs.Texts.{version_by, version_behind, version_below, version_in_block, version_at_top, version_of_tokens}
use Rattle.ytext.specs.Stated.{version_row}
use Rattle.ytext.specs.Told.{told_by}
use Rattle.ytext.specs.Left.{left}
use Rattle.ytext.specs.Reading.{tokens_ahead, first_of, rest_of, rows}
use Rattle.ytext.specs.View.{lexeme_of, ends_text, is_word}
use Rattle.ytext.specs.declared.fault.TextFault.{TextFault}
use Rattle.ytext.specs.declared.lexeme.Lexeme.{Lexeme}
use Rattle.ytext.specs.declared.lexeme.Lexeme.TheVariants as lexemes
use Rattle.ytext.specs.declared.lexeme.Lexeme.TheVariants.{Word, Open}
use Rattle.ytext.specs.declared.reader.Reader.{Reader}
use Rattle.ytext.proofs.ReaderLemmas.{word_ahead}
use Rattle.ytext.proofs.VersionLemmas.{stated_at, other_at, none_at}

-- an answer for a version holds for the same one
pub same_version : (given again : Result Bool TextFault) (v w : YangVersion) → given ≡ again → v ≡ w
    → Gives (λ is. is) told_by again (Ok (is_yang_1 v)) → Gives (λ is. is) told_by given (Ok (is_yang_1 w))
same_version given again v w e f h =
    subst (λ (u : YangVersion). Gives (λ is. is) told_by given (Ok (is_yang_1 u))) f
    (subst (λ (r : Result Bool TextFault). Gives (λ is. is) told_by r (Ok (is_yang_1 v))) (sym e) h)

-- which version an argument names
pub is_named : (t : Text) → is_yang_1 (version_stated (Some t)) ≡ not (is_text t (codes "1.1"))
is_named t = by_test (is_text t (codes "1.1"))
  where
    by_test : (b : Bool) → is_yang_1 (cond b yang_1_1 yang_1) ≡ not b
    by_test true = refl
    by_test false = refl

-- ---- at the top statement

pub top_formed : (r : Reader) (w : Bor (List ℕ)) → r.token.lexeme ≡ Word w → is_name w.now ≡ true → version_of_tokens (tokens_ahead r) ≡ version_below (argument (left r.cursor))
top_formed r w e f = ap version_of_tokens (word_ahead r w e) ∙ ap (λ (b : Bool). cond b (version_below (argument (left r.cursor))) yang_1) f

pub top_unformed : (r : Reader) (w : Bor (List ℕ)) → r.token.lexeme ≡ Word w → is_name w.now ≡ false → version_of_tokens (tokens_ahead r) ≡ yang_1
top_unformed r w e f = ap version_of_tokens (word_ahead r w e) ∙ ap (λ (b : Bool). cond b (version_below (argument (left r.cursor))) yang_1) f

pub top_open : (r : Reader) (text : Option Text) → r.token.lexeme ≡ Open → version_below (Ok (text, tokens_ahead r)) ≡ version_row (left r.cursor)
top_open r text e = ap (λ (l : Lexeme). version_in_block (lexeme_of l) (cond (ends_text l) [] (left r.cursor))) e

-- ---- in its block

pub row_stated : (r : Reader) (w : Bor (List ℕ)) → r.token.lexeme ≡ Word w → is_text w.now (codes "yang-version") ≡ true
    → version_row (tokens_ahead r) ≡ version_by (argument (left r.cursor))
row_stated r w e f = ap version_row (word_ahead r w e) ∙ stated_at w.now r.token.line (left r.cursor) f

pub row_other : (r : Reader) (w : Bor (List ℕ)) → r.token.lexeme ≡ Word w → is_text w.now (codes "yang-version") ≡ false
    → version_row (tokens_ahead r) ≡ version_behind version_row (statement (rows 2) 1 w.now r.token.line (left r.cursor))
row_other r w e f = ap version_row (word_ahead r w e) ∙ other_at w.now r.token.line (left r.cursor) f

pub row_none : (r : Reader) → is_word (lexeme_of r.token.lexeme) ≡ false → version_row (tokens_ahead r) ≡ yang_1
row_none r e = none_at (first_of r) (rest_of r) e

pub not_word : (l : Lexeme) → ((w : Bor (List ℕ)) → l ≡ Word w → ⊥) → is_word (lexeme_of l) ≡ false
not_word (Word w) h = absurd (h w refl)
not_word (lexemes.Single raw) h = refl
not_word (lexemes.Double before raw is_old) h = refl
not_word lexemes.Semi h = refl
not_word Open h = refl
not_word lexemes.Close h = refl
not_word lexemes.End h = refl
not_word lexemes.UnclosedQuote h = refl
not_word lexemes.UnclosedComment h = refl
not_word lexemes.StrayEnd h = refl
