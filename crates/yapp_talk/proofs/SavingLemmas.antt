-- The file that a line names, and what is kept for it.
use Rattle.std.proofs.Common.{◌≡◌, inl, inr, ℕ, Bool, true, false, List, [], ◌∷◌, Option, Some, None, ap, ap₂, refl, subst, sym, ◌∙◌}
use Rattle.std.specs.Prelude.{◌-◌, OnErr, Result, Ok, Err, codes, if◌then◌else◌, option_and_then, option_map}
use Rattle.std.specs.Str.{IsUtf8, is_utf8}
use Rattle.std.proofs.lemmas.Slice.Eq.{bytes_eq-Decides}
use Rattle.std.proofs.lemmas.Str.{IsUtf8-from_is_utf8, is_utf8-from_IsUtf8}
use Rattle.yspec.specs.text.Text.{Text, is_text, space}
use Rattle.yspec.specs.edit.EditText.{cut_at, operands, position_alone}
use Rattle.yspec.specs.edit.Editing.{edit_asked}
use Rattle.yspec.specs.edit.Live.{Live}
use Rattle.yspec.proofs.BasicLemmas.{of_either}
use Rattle.yspec_session.specs.Session.{Request, back, begin, below, change, commit, document, faults, undo, value}
use Rattle.yspec_session.specs.Requests.{edit_in, file_named, or_else, page_asked, path_alone, request_in, request_of, request_with}
use Rattle.ybase_talk.specs.Talk.{IsUnanswered, Party, followed_by, keeping, kept}
use Rattle.ybase_talk.proofs.TalkLemmas.{nothing_followed}
use Rattle.ysay_session.specs.AnswerText.{short_text}
use Rattle.ylive.specs.View.{view}
use Rattle.yapp_session.specs.Answered.{AnswersLine}
use Rattle.yapp_session.specs.Kept as session
use Rattle.yapp_talk.specs.Saving.{AreKept, IsSaved, IsSavedOrShort, file_asked, file_in, file_text, named_by, saved_text, unsaved_text}
use Rattle.yapp_talk.specs.Watching.{AnswersOrSaves}

-- ---- the file

-- a word alone names none
alone : (t w : Text) → is_text t w ≡ true → cut_at space None w ≡ None → file_in t ≡ None
alone t w is none =
    ap (λ (s : Text). option_and_then named_by (cut_at space None s)) ((bytes_eq-Decides t w).0 is) ∙ ap (option_and_then named_by) none

none_mapped : {A : Type 0} (f : A → Request) → ((a : A) → file_asked (Some (f a)) ≡ None) → (o : Option A) → file_asked (option_map f o) ≡ None
none_mapped f none None = refl
none_mapped f none (Some a) = none a

no_page : (p : Text × Text) → file_asked (page_asked p) ≡ None
no_page (first, []) = none_mapped (λ n. faults (n - 1) None) (λ n. refl) (position_alone first)
no_page (first, x ∷ xs) = behind (position_alone first)
  where
    behind : (o : Option ℕ)
        → file_asked (option_and_then (λ n. option_map (λ count. faults (n - 1) (Some count)) (position_alone (x ∷ xs))) o) ≡ None
    behind None = refl
    behind (Some n) = none_mapped (λ count. faults (n - 1) (Some count)) (λ count. refl) (position_alone (x ∷ xs))

other_word : (verb w rest : Text) → is_text verb w ≡ true → is_text w (codes "save") ≡ false → named_by (verb, rest) ≡ None
other_word verb w [] is other = refl
other_word verb w (c ∷ cs) is other =
    ap (λ (v : Text). if is_text v (codes "save") then Some (c ∷ cs) else None) ((bytes_eq-Decides verb w).0 is)
    ∙ ap (λ (b : Bool). if b then Some (c ∷ cs) else None) other

save_word : (verb rest : Text) → is_text verb (codes "save") ≡ true → named_by (verb, rest) ≡ file_asked (file_named rest)
save_word verb [] is = refl
save_word verb (c ∷ cs) is = ap (λ (b : Bool). if b then Some (c ∷ cs) else None) is

no_save_word : (verb rest : Text) → is_text verb (codes "save") ≡ false → named_by (verb, rest) ≡ None
no_save_word verb [] is = refl
no_save_word verb (c ∷ cs) is = ap (λ (b : Bool). if b then Some (c ∷ cs) else None) is

by_words : (t verb rest : Text) → named_by (verb, rest) ≡ file_asked (request_with t (verb, rest))
by_words t verb rest =
    let P : Option Request → Type 0 = λ o. named_by (verb, rest) ≡ file_asked o in
    of_either P (is_text verb (codes "faults")) _ _ (λ is. other_word verb (codes "faults") rest is refl ∙ sym (no_page (operands rest))) (λ no.
    of_either P (is_text verb (codes "below")) _ _ (λ is. other_word verb (codes "below") rest is refl
    ∙ sym (none_mapped below (λ p. refl) (path_alone (operands rest)))) (λ no.
    of_either P (is_text verb (codes "value")) _ _ (λ is. other_word verb (codes "value") rest is refl
    ∙ sym (none_mapped value (λ p. refl) (path_alone (operands rest)))) (λ no.
    of_either P (is_text verb (codes "save")) _ _ (save_word verb rest) (λ no. no_save_word verb rest no
    ∙ sym (none_mapped change (λ e. refl) (edit_in (edit_asked t)))))))

by_cut : (t : Text) (o : Option (Text × Text)) → option_and_then named_by o ≡ file_asked (option_and_then (request_with t) o)
by_cut t None = refl
by_cut t (Some (verb, rest)) = by_words t verb rest

file_in_asked : (t : Text) → file_in t ≡ file_asked (request_in t)
unfolding cut_at
file_in_asked t =
    let other = option_and_then (request_with t) (cut_at space None t) in
    let P : Option Request → Type 0 = λ o. file_in t ≡ file_asked (or_else o other) in
    of_either P (is_text t (codes "undo")) (Some undo) _ (λ is. alone t (codes "undo") is refl) (λ no.
    of_either P (is_text t (codes "document")) (Some document) _ (λ is. alone t (codes "document") is refl) (λ no.
    of_either P (is_text t (codes "begin")) (Some begin) _ (λ is. alone t (codes "begin") is refl) (λ no.
    of_either P (is_text t (codes "commit")) (Some commit) _ (λ is. alone t (codes "commit") is refl) (λ no.
    of_either P (is_text t (codes "back")) (Some back) _ (λ is. alone t (codes "back") is refl) (λ no.
    of_either P (is_text t (codes "faults")) (Some (faults 0 None)) None (λ is. alone t (codes "faults") is refl) (λ no.
    by_cut t (cut_at space None t)))))))

pub named_in_text : (line text : Text) → text ≡ line → IsUtf8 line → file_in text ≡ file_asked (request_of line)
named_in_text line text is utf8 = ap file_in is
    ∙ (file_in_asked line ∙ sym (ap (λ (b : Bool). file_asked (if b then request_in line else None)) (is_utf8-from_IsUtf8 line utf8)))

no_text : (line : Text) (b : Bool) → is_utf8 line ≡ b → (IsUtf8 line → ⊥) → is_utf8 line ≡ false
no_text line true is not_text = absurd (not_text (IsUtf8-from_is_utf8 line is))
no_text line false is not_text = is

pub none_in_bytes : (line : Text) → (IsUtf8 line → ⊥) → None ≡ file_asked (request_of line)
none_in_bytes line not_text =
    sym (ap (λ (b : Bool). file_asked (if b then request_in line else None)) (no_text line (is_utf8 line) refl not_text))

-- ---- what is kept

pub kept_well : (live : Live) (file answer name text : Text) (so_far now : Party) → name ≡ file → text ≡ file_text live → answer ≡ saved_text file
    → now ≡ followed_by so_far (kept (keeping name text None) ∷ []) → AreKept (IsSaved live file answer) so_far now
kept_well live file answer name text so_far now names texts said went = (
  keeping file (file_text live) None ∷ [],
  inl (refl, said),
  went ∙ ap₂ (λ n t. followed_by so_far (kept (keeping n t None) ∷ [])) names texts,
)

pub kept_badly : (live : Live) (file answer name text cause : Text) (so_far now : Party) → name ≡ file → text ≡ file_text live
    → answer ≡ unsaved_text file cause → now ≡ followed_by so_far (kept (keeping name text (Some cause)) ∷ []) → AreKept (IsSaved live file answer) so_far now
kept_badly live file answer name text cause so_far now names texts said went = (
  keeping file (file_text live) (Some cause) ∷ [],
  inr (cause, refl, said),
  went ∙ ap₂ (λ n t. followed_by so_far (kept (keeping n t (Some cause)) ∷ [])) names texts,
)

pub on_err : {X E : Type 0} (r : Result X E) (P : Type 0) → P → OnErr r P
on_err (Ok x) P p = tt
on_err (Err e) P p = p

pub none_asked : (so_far : Party) → IsUnanswered so_far so_far
none_asked so_far = ([], refl, nothing_followed so_far)

pub one_unkept : (name text cause : Text) (so_far now : Party) → now ≡ followed_by so_far (kept (keeping name text (Some cause)) ∷ [])
    → IsUnanswered so_far now
one_unkept name text cause so_far now went = (keeping name text (Some cause) ∷ [], refl, went)

pub as_it_is : (live : Live) (file answer : Text) (so_far now : Party) → AreKept (IsSaved live file answer) so_far now
    → AreKept (IsSavedOrShort live file answer) so_far now
as_it_is live file answer so_far now (ks, is, went) = (ks, inl is, went)

pub as_short : (live : Live) (file answer : Text) (so_far now : Party) → IsUnanswered so_far now → answer ≡ short_text
    → AreKept (IsSavedOrShort live file answer) so_far now
as_short live file answer so_far now (ks, none, went) said = (ks, inr (none, said), went)

-- ---- a line

pub saves : (asked : Option Text) (file : Text) (live : Live) (before : session.Parts) (line answer : Text) (so_far now : Party) → Some file ≡ asked
    → live ≡ view before.live → AreKept (IsSavedOrShort live file answer) so_far now → AreKept (AnswersOrSaves asked before line answer before) so_far now
saves asked file live before line answer so_far now e same (ks, is, went) =
    subst (λ (a : Option Text). AreKept (AnswersOrSaves a before line answer before) so_far now) e
    (ks, (refl, subst (λ (l : Live). IsSavedOrShort l file answer ks) same is), went)

pub answers_only : (asked : Option Text) (before after : session.Parts) (line answer : Text) (so_far : Party) → None ≡ asked
    → AnswersLine before line answer after → AreKept (AnswersOrSaves asked before line answer after) so_far so_far
answers_only asked before after line answer so_far e is =
    subst (λ (a : Option Text). AreKept (AnswersOrSaves a before line answer after) so_far so_far) e ([], (refl, is), nothing_followed so_far)
