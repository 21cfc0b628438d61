-- The lines of a script: by what they ask for, and by what came of the edits among them.
use Rattle.std.proofs.Common.{◌≡◌, ◌≢◌, ℕ, Bool, true, false, ◌+◌, List, [], ◌∷◌, ◌++◌, Option, Some, None, map, refl, sym, ap, ap₂, ◌∙◌, append_assoc, eqb-true}
use Rattle.std.specs.Prelude.{Result, Ok, Err, ◌==◌, is_some, if◌then◌else◌}
use Rattle.std.specs.Option.{option_map_or}
use Rattle.std.specs.Borrow.{Bor}
use Rattle.std.specs.Str.{IsUtf8, is_utf8}
use Rattle.std.proofs.lemmas.List.{append-nil, map-append}
use Rattle.std.proofs.lemmas.Str.{IsUtf8-from_is_utf8, is_utf8-from_IsUtf8}
use Rattle.yspec.specs.Results.{◌>>=◌}
use Rattle.yspec.specs.text.Text.{Text}
use Rattle.yspec.specs.schema.Schema.{Schema}
use Rattle.yspec.specs.document.Document.{Tree}
use Rattle.yspec.specs.edit.EditText.{Edit, is_passed_over}
use Rattle.yspec.specs.edit.Editing.{Decision, EditRefusal, after, applied, decision, decisions, edit_asked, refused, tree_or}
use Rattle.yspec_run.specs.Hint.{hinted}
use Rattle.yspec_run.specs.Part.{Part}
use Rattle.yspec_run.specs.Script.{after_lines, asked_in, edit_in, line_parts, refused_from, refused_hint, refused_line, refused_lines, spelled_in, without_return, without_returns}
use Rattle.yapp_script.specs.Asked as spec
use Rattle.yapp_script.specs.Asked.{IsScript, Line, an_edit, any_refused, behind, decision_parts, edit_of, edits_of, hint_in, kinds_of, line_of, refusal_in, told_from}

-- ---- edits in place of lines

module _ (is_strict : Bool) where
  -- what a line does that asks for this
  abbrev done : Schema → Tree → Result (Option Edit) EditRefusal → Result Tree EditRefusal
  done s t asked = asked >>= (λ a. option_map_or (applied s t) a (Ok t))

  after_asked : (s : Schema) (t : Tree) (asked : Result (Option Edit) EditRefusal) (lines : List Text)
      → ((t : Tree) → after_lines is_strict s t lines ≡ after s t (edits_of is_strict lines))
      → after_lines is_strict s (tree_or (done s t asked) t) lines ≡ after s t (edit_of asked ++ edits_of is_strict lines)
  after_asked s t (Ok None) lines rest = rest t
  after_asked s t (Ok (Some e)) lines rest = rest (tree_or (applied s t e) t)
  after_asked s t (Err e) lines rest = rest t

  pub after_is : (s : Schema) (t : Tree) (lines : List Text) → after_lines is_strict s t lines ≡ after s t (edits_of is_strict lines)
  after_is s t [] = refl
  after_is s t (line ∷ lines) = after_asked s t (asked_in is_strict line) lines (λ t. after_is s t lines)

  parts_of_answer : (hint said : EditRefusal → Text) (k : ℕ) (answer : Result Tree EditRefusal) → ((e : EditRefusal) → hint e ≡ said e)
      → line_parts hint k answer ≡ decision_parts said k (decision answer)
  parts_of_answer hint said k (Ok tree) same = refl
  parts_of_answer hint said k (Err e) same = ap (λ (t : Text). hinted t (refused_line k e) ∷ []) (same e)

  refused_asked : (s : Schema) (now : Tree) (k : ℕ) (t : Tree) (line : Text) (asked : Result (Option Edit) EditRefusal) (lines : List Text)
      → ((k : ℕ) (t : Tree) → refused_from is_strict s now k t lines ≡ told_from s now k (kinds_of is_strict lines) (edits_of is_strict lines) (decisions s t (edits_of is_strict lines)))
      → line_parts (refused_hint s now line (edit_in asked)) k (done s t asked) ++ refused_from is_strict s now (k + 1) (tree_or (done s t asked) t) lines
      ≡ told_from s now k (line_of line asked ∷ kinds_of is_strict lines) (edit_of asked ++ edits_of is_strict lines) (decisions s t (edit_of asked ++ edits_of is_strict lines))
  refused_asked s now k t line (Ok None) lines rest = rest (k + 1) t
  refused_asked s now k t line (Ok (Some e)) lines rest =
      ap₂ (λ (xs ys : List Part). xs ++ ys) (parts_of_answer (refused_hint s now line (Some e)) (hint_in s now (an_edit line) (e ∷ edits_of is_strict lines)) k (applied s t e) (λ r. refl)) (rest (k + 1) (tree_or (applied s t e) t))
  refused_asked s now k t line (Err e) lines rest = ap (λ (xs : List Part). line_parts (refused_hint s now line None) k (Err e) ++ xs) (rest (k + 1) t)

  refused_by : (s : Schema) (now : Tree) (k : ℕ) (t : Tree) (lines : List Text)
      → refused_from is_strict s now k t lines ≡ told_from s now k (kinds_of is_strict lines) (edits_of is_strict lines) (decisions s t (edits_of is_strict lines))
  refused_by s now k t [] = refl
  refused_by s now k t (line ∷ lines) = refused_asked s now k t line (asked_in is_strict line) lines (λ k t. refused_by s now k t lines)

  pub refused_is : (s : Schema) (k : ℕ) (t : Tree) (lines : List Text)
      → refused_lines is_strict s k t lines
      ≡ told_from s (after s t (edits_of is_strict lines)) k (kinds_of is_strict lines) (edits_of is_strict lines) (decisions s t (edits_of is_strict lines))
  refused_is s k t lines = ap (λ (now : Tree). refused_from is_strict s now k t lines) (after_is s t lines)
      ∙ refused_by s (after s t (edits_of is_strict lines)) k t lines

-- ---- what is told

-- nothing where none is refused
pub none_told : (s : Schema) (now : Tree) (k : ℕ) (kinds : List Line) (edits : List Edit) (ds : List Decision) → any_refused kinds ds ≡ false
    → [] ≡ told_from s now k kinds edits ds
none_told s now k [] edits ds none = refl
none_told s now k (line ∷ kinds) edits ds none = by (refusal_in line ds) (λ k. none_told s now k kinds (spec.edits_behind line edits) (behind line ds)) none
  where
    by : (d : Decision) → ((k : ℕ) → any_refused kinds (behind line ds) ≡ false → [] ≡ told_from s now k kinds (spec.edits_behind line edits) (behind line ds))
        → (if is_some d then true else any_refused kinds (behind line ds)) ≡ false
        → [] ≡ decision_parts (hint_in s now line edits) k d ++ told_from s now (k + 1) kinds (spec.edits_behind line edits) (behind line ds)
    by None rest none = rest (k + 1) none
    by (Some e) rest none = cc

-- ---- reading lines

abbrev pub parts_in : List (Bor Text) → List Text
parts_in = map (λ part. part.now)

-- the lines in front of the last, as the code holds them
abbrev pub lines_in : List (Bor Text) → List Text
lines_in = map (λ line. without_return line.now)

-- the last line keeps its carriage return
pub lines_with_last : (front : List (Bor Text)) (last : Bor Text)
    → without_returns (parts_in (front ++ last ∷ [])) ≡ lines_in front ++ last.now ∷ []
lines_with_last [] last = refl
lines_with_last (x ∷ []) last = refl
lines_with_last (x ∷ y ∷ front) last = ap (λ (ls : List Text). without_return x.now ∷ ls) (lines_with_last (y ∷ front) last)

pub return_dropped : (front : Text) (x : ℕ) → x ≡ 13 → without_return (front ++ x ∷ []) ≡ front
return_dropped [] x is = rw is refl
return_dropped (y ∷ []) x is = rw is refl
return_dropped (y ∷ z ∷ front) x is = ap (λ (t : Text). y ∷ t) (return_dropped (z ∷ front) x is)

no_return : (x : ℕ) (b : Bool) → (x == 13) ≡ b → x ≢ 13 → (x == 13) ≡ false
no_return x true is other = absurd (other (eqb-true x 13 is))
no_return x false is other = is

last_kept : (x : ℕ) → x ≢ 13 → without_return (x ∷ []) ≡ x ∷ []
last_kept x other = ap (λ (b : Bool). if b then [] else x ∷ []) (no_return x (x == 13) refl other)

pub return_kept : (front : Text) (x : ℕ) → x ≢ 13 → without_return (front ++ x ∷ []) ≡ front ++ x ∷ []
return_kept [] x other = last_kept x other
return_kept (y ∷ []) x other = ap (λ (t : Text). y ∷ t) (last_kept x other)
return_kept (y ∷ z ∷ front) x other = ap (λ (t : Text). y ∷ t) (return_kept (z ∷ front) x other)

module _ (is_strict : Bool) where
  -- so many lines in front of the last are read, and these are left
  pub record ReadSoFar (kinds : List Line) (edits : List Edit) (lines left : List Text) : Type 0 where
    pub kinds_are : kinds ++ kinds_of is_strict left ≡ kinds_of is_strict lines
    pub edits_are : edits ++ edits_of is_strict left ≡ edits_of is_strict lines

  pub none_read : (kinds : List Line) (edits : List Edit) (lines : List Text) → kinds ≡ [] → edits ≡ [] → ReadSoFar kinds edits lines lines
  none_read kinds edits lines no_kinds no_edits = record {
    kinds_are = ap (λ (ks : List Line). ks ++ kinds_of is_strict lines) no_kinds;
    edits_are = ap (λ (es : List Edit). es ++ edits_of is_strict lines) no_edits;
  }

  pub line_read : (kinds more_kinds : List Line) (edits more_edits : List Edit) (lines left later : List Text) (line : Text)
      → left ≡ line ∷ later
      → more_kinds ≡ kinds ++ line_of line (asked_in is_strict line) ∷ [] → more_edits ≡ edits ++ edit_of (asked_in is_strict line)
      → ReadSoFar kinds edits lines left → ReadSoFar more_kinds more_edits lines later
  line_read kinds more_kinds edits more_edits lines left later line first kinds_more edits_more so_far = record {
    kinds_are = ap (λ (ks : List Line). ks ++ kinds_of is_strict later) kinds_more
        ∙ append_assoc kinds (line_of line (asked_in is_strict line) ∷ []) (kinds_of is_strict later)
        ∙ ap (λ (ls : List Text). kinds ++ kinds_of is_strict ls) (sym first) ∙ so_far.kinds_are;
    edits_are = ap (λ (es : List Edit). es ++ edits_of is_strict later) edits_more
        ∙ append_assoc edits (edit_of (asked_in is_strict line)) (edits_of is_strict later)
        ∙ ap (λ (ls : List Text). edits ++ edits_of is_strict ls) (sym first) ∙ so_far.edits_are;
  }

  edits_behind : (lines : List Text) (last : Text) → edits_of is_strict (lines ++ last ∷ []) ≡ edits_of is_strict lines ++ edit_of (asked_in is_strict last)
  edits_behind [] last = append-nil (edit_of (asked_in is_strict last))
  edits_behind (line ∷ lines) last = ap (λ (es : List Edit). edit_of (asked_in is_strict line) ++ es) (edits_behind lines last)
      ∙ sym (append_assoc (edit_of (asked_in is_strict line)) (edits_of is_strict lines) (edit_of (asked_in is_strict last)))

  pub last_read : (kinds more_kinds : List Line) (edits more_edits : List Edit) (lines whole : List Text) (last : Text)
      → whole ≡ lines ++ last ∷ []
      → more_kinds ≡ kinds ++ line_of last (asked_in is_strict last) ∷ [] → more_edits ≡ edits ++ edit_of (asked_in is_strict last)
      → ReadSoFar kinds edits lines [] → IsScript is_strict more_kinds more_edits whole
  last_read kinds more_kinds edits more_edits lines whole last is kinds_more edits_more so_far = record {
    kinds_are = kinds_more
        ∙ ap (λ (ks : List Line). ks ++ line_of last (asked_in is_strict last) ∷ []) (sym (append-nil kinds) ∙ so_far.kinds_are)
        ∙ sym (map-append (λ line. line_of line (asked_in is_strict line)) lines (last ∷ [])) ∙ ap (kinds_of is_strict) (sym is);
    edits_are = edits_more
        ∙ ap (λ (es : List Edit). es ++ edit_of (asked_in is_strict last)) (sym (append-nil edits) ∙ so_far.edits_are)
        ∙ sym (edits_behind lines last) ∙ ap (edits_of is_strict) (sym is);
  }

-- ---- what bytes ask for

pub passed : (line : Text) → is_passed_over line ≡ true → spelled_in line ≡ Ok None
passed line is = ap (λ (b : Bool). if b then Ok None else (if is_utf8 line then edit_asked line else refused 1)) is

pub asked_of_text : (line text : Text) → is_passed_over line ≡ false → text ≡ line → IsUtf8 line → spelled_in line ≡ edit_asked text
asked_of_text line text passed is utf8 =
    ap (λ (b : Bool). if b then Ok None else (if is_utf8 line then edit_asked line else refused 1)) passed
    ∙ (ap (λ (b : Bool). if b then edit_asked line else refused 1) (is_utf8-from_IsUtf8 line utf8) ∙ ap edit_asked (sym is))

no_text_so : (line : Text) (b : Bool) → is_utf8 line ≡ b → (IsUtf8 line → ⊥) → is_utf8 line ≡ false
no_text_so line true is not_text = absurd (not_text (IsUtf8-from_is_utf8 line is))
no_text_so line false is not_text = is

pub asked_of_bytes : (line : Text) → is_passed_over line ≡ false → (IsUtf8 line → ⊥) → spelled_in line ≡ refused 1
asked_of_bytes line passed not_text =
    ap (λ (b : Bool). if b then Ok None else (if is_utf8 line then edit_asked line else refused 1)) passed
    ∙ ap (λ (b : Bool). if b then edit_asked line else refused 1) (no_text_so line (is_utf8 line) refl not_text)
