-- The first part of a path that spells no step, part by part; and what is said of bytes by whether they are a text.
use Rattle.std.proofs.Common.{◌≡◌, Bool, true, false, cond, not, Option, Some, None, is_some, find, refl, sym, ap, ◌∙◌}
use Rattle.std.specs.Prelude.{codes}
use Rattle.std.specs.Str.{IsUtf8, is_utf8}
use Rattle.std.proofs.lemmas.Str.{IsUtf8-from_is_utf8, is_utf8-from_IsUtf8}
use Rattle.yspec.specs.text.Text.{Text, slash}
use Rattle.yspec.specs.edit.EditText.{cut_at, step_of}
use Rattle.yinst_path.proofs.CutLemmas.{parts_by_cut, parts_of}
use Rattle.ysay_edit.specs.Spelling.{no_step_in, of_text, said_of_line}

abbrev first_among : Text → Option (Text × Text) → Option Text
first_among t cut = find (λ part. not (is_some (step_of part))) (parts_of slash t cut)

by_cut : (t : Text) (cut : Option (Text × Text)) → cut_at slash None t ≡ cut → no_step_in t ≡ first_among t cut
by_cut t cut is = ap (find (λ part. not (is_some (step_of part)))) (parts_by_cut slash None t) ∙ ap (first_among t) is

pub step_passed : (t part more : Text) → cut_at slash None t ≡ Some (part, more) → is_some (step_of part) ≡ true → no_step_in t ≡ no_step_in more
step_passed t part more is step = by_cut t (Some (part, more)) is ∙ ap (λ b. cond (not b) (Some part) (no_step_in more)) step

pub no_step_first : (t part more : Text) → cut_at slash None t ≡ Some (part, more) → is_some (step_of part) ≡ false → no_step_in t ≡ Some part
no_step_first t part more is step = by_cut t (Some (part, more)) is ∙ ap (λ b. cond (not b) (Some part) (no_step_in more)) step

pub step_last : (t : Text) → cut_at slash None t ≡ None → is_some (step_of t) ≡ true → no_step_in t ≡ None
step_last t is step = by_cut t None is ∙ ap (λ b. cond (not b) (Some t) None) step

pub no_step_last : (t : Text) → cut_at slash None t ≡ None → is_some (step_of t) ≡ false → no_step_in t ≡ Some t
no_step_last t is step = by_cut t None is ∙ ap (λ b. cond (not b) (Some t) None) step

-- ---- what bytes are

abbrev said_where : Bool → Text → Text
said_where is_text line = cond is_text (of_text line) (codes "the line isn't UTF-8.")

pub of_utf8 : (line text : Text) → text ≡ line → IsUtf8 line → of_text text ≡ said_of_line line
of_utf8 line text is utf8 = ap of_text is ∙ sym (ap (λ b. said_where b line) (is_utf8-from_IsUtf8 line utf8))

no_text_so : (line : Text) (b : Bool) → is_utf8 line ≡ b → (IsUtf8 line → ⊥) → is_utf8 line ≡ false
no_text_so line true is not_text = absurd (not_text (IsUtf8-from_is_utf8 line is))
no_text_so line false is not_text = is

pub of_no_utf8 : (line : Text) → (IsUtf8 line → ⊥) → codes "the line isn't UTF-8." ≡ said_of_line line
of_no_utf8 line not_text = sym (ap (λ b. said_where b line) (no_text_so line (is_utf8 line) refl not_text))
