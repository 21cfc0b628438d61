-- Of each line that spells no edit something is said, and of each that spells one nothing.
use Rattle.std.proofs.Common.{◌≡◌, ◌≢◌, ℕ, Bool, true, false, cond, not, List, [], ◌∷◌, ◌++◌, Option, Some, None, is_some, find, option_map, refl, sym, ap, ◌∙◌, subst}
use Rattle.std.specs.Prelude.{codes, option_and_then, ◌||◌}
use Rattle.std.specs.List.{list_any}
use Rattle.std.specs.Option.{option_map_or}
use Rattle.std.specs.Str.{is_utf8}
use Rattle.yspec.specs.text.Text.{Text, is_text, slash, space}
use Rattle.yspec.specs.edit.EditText.{Edit, create, replace, remove, move_to, NamedStep, Path, all_or_none, behind, cut_at, done_by, edit_of, edit_with, has_line_feed, operands, parts_at, path_of, position_alone, step_of}
use Rattle.std.proofs.lemmas.Slice.Eq.{bytes_eq-Decides}
use Rattle.yspec.proofs.LiteralLemmas.{yspec_on_literals}
use Rattle.ysay_text.specs.Near.{nearest}
use Rattle.ysay_edit.specs.Spelling as spec

abbrev IsSaid : Text → Type 0
IsSaid [] = ⊥
IsSaid (x ∷ said) = Unit {0}

-- what is said of a line that spells this, if it spells anything
abbrev Says : Option Edit → Text → Type 0
Says None said = IsSaid said
Says (Some e) said = said ≡ []

-- ---- the verb

verb_said : (verb : Text) (near : Option Text) → IsSaid (spec.other_verb verb near)
verb_said verb None = tt
verb_said verb (Some near) = tt

word_said : (word : Text) (verb : Option Text) → IsSaid (option_map_or spec.tab_told verb (spec.other_verb word (nearest word spec.verbs)))
word_said word (Some verb) = tt
word_said word None = verb_said word (nearest word spec.verbs)

no_verb_said : (verb : Text) → IsSaid (spec.of_verb verb)
no_verb_said [] = tt
no_verb_said (x ∷ verb) = word_said (x ∷ verb) (spec.verb_before_tab (x ∷ verb))

-- ---- the value

behind_text : (verb said : Text) → IsSaid said → IsSaid (verb ++ said)
behind_text [] said is = is
behind_text (x ∷ verb) said is = tt

no_value_said : (verb : Text) (path : Path) → Says (done_by verb [] path) (spec.of_value verb [])
no_value_said verb path = by (is_text verb (codes "remove")) (is_text verb (codes "move"))
  where
    by : (removes moves : Bool) → Says (cond removes (Some (remove path)) None)
        (cond removes [] (cond moves (codes "move has a position behind its path.") (verb ++ codes " has a value behind its path.")))
    by true moves = refl
    by false true = tt
    by false false = behind_text verb (codes " has a value behind its path.") tt

remove_alone : (verb : Text) → is_text verb (codes "remove") ≡ true
    → (is_text verb (codes "create") ≡ false) × ((is_text verb (codes "replace") ≡ false) × (is_text verb (codes "move") ≡ false))
unfolding yspec_on_literals
remove_alone verb is = subst (λ (v : Text). (is_text v (codes "create") ≡ false) × ((is_text v (codes "replace") ≡ false) × (is_text v (codes "move") ≡ false)))
    (sym ((bytes_eq-Decides verb (codes "remove")).0 is)) (refl, (refl, refl))

move_alone : (verb : Text) → is_text verb (codes "move") ≡ true → (is_text verb (codes "create") ≡ false) × (is_text verb (codes "replace") ≡ false)
unfolding yspec_on_literals
move_alone verb is = subst (λ (v : Text). (is_text v (codes "create") ≡ false) × (is_text v (codes "replace") ≡ false))
    (sym ((bytes_eq-Decides verb (codes "move")).0 is)) (refl, refl)

position_said : (path : Path) (o : Option ℕ)
    → Says (option_map (move_to path) o) (cond (is_some o) [] (codes "move has one position behind its path, as in move PATH 2."))
position_said path None = tt
position_said path (Some position) = refl

some_value_said : (verb value : Text) (x : ℕ) (path : Path) → list_any (is_text verb) spec.verbs ≡ true
    → Says (done_by verb (x ∷ value) path) (spec.of_value verb (x ∷ value))
some_value_said verb value x path known =
    by (is_text verb (codes "create")) (is_text verb (codes "replace")) (is_text verb (codes "remove")) (is_text verb (codes "move")) known
    (remove_alone verb) (move_alone verb)
  where
    by : (creates replaces removes moves : Bool) → (creates || (replaces || (removes || (moves || false)))) ≡ true
        → (removes ≡ true → (creates ≡ false) × ((replaces ≡ false) × (moves ≡ false))) → (moves ≡ true → (creates ≡ false) × (replaces ≡ false))
        → Says (cond creates (Some (create path (x ∷ value)))
        (cond replaces (Some (replace path (x ∷ value))) (cond moves (option_map (move_to path) (position_alone (x ∷ value))) None)))
        (cond removes (codes "remove has no value behind its path.") (cond moves (spec.of_position (x ∷ value)) []))
    by true replaces true moves one removed moved = absurd (let no = (removed refl).0 in cc)
    by false true true moves one removed moved = absurd (let no = (removed refl).1.0 in cc)
    by false false true true one removed moved = absurd (let no = (removed refl).1.1 in cc)
    by false false true false one removed moved = tt
    by true replaces false true one removed moved = absurd (let no = (moved refl).0 in cc)
    by false true false true one removed moved = absurd (let no = (moved refl).1 in cc)
    by false false false true one removed moved = position_said path (position_alone (x ∷ value))
    by true replaces false false one removed moved = refl
    by false true false false one removed moved = refl
    by false false false false one removed moved = absurd cc

value_said : (verb value : Text) (path : Path) → list_any (is_text verb) spec.verbs ≡ true → Says (done_by verb value path) (spec.of_value verb value)
value_said verb [] path known = no_value_said verb path
value_said verb (x ∷ value) path known = some_value_said verb value x path known

-- ---- the path

no_step_said : (part : Text) → IsSaid (spec.of_no_step part)
no_step_said [] = tt
no_step_said (x ∷ part) = tt

abbrev no_step : Text → Bool
no_step part = not (is_some (step_of part))

joined : (f : Path → Option Edit) (s : NamedStep) (o : Option Path) → option_and_then (λ path. f (s ∷ path)) o ≡ option_and_then f (option_map (λ path. s ∷ path) o)
joined f s None = refl
joined f s (Some path) = refl

steps_said : (parts : List Text) (f : Path → Option Edit) (said : Text) → ((path : Path) → Says (f path) said)
    → Says (option_and_then f (all_or_none step_of parts)) (option_map_or spec.of_no_step (find no_step parts) said)
steps_said [] f said each = each []
steps_said (part ∷ parts) f said each = by (λ s. steps_said parts (λ path. f (s ∷ path)) said (λ path. each (s ∷ path))) (step_of part)
  where
    by : ((s : NamedStep) → Says (option_and_then (λ path. f (s ∷ path)) (all_or_none step_of parts)) (option_map_or spec.of_no_step (find no_step parts) said))
        → (o : Option NamedStep) → Says (option_and_then f (option_and_then (λ s. option_map (λ path. s ∷ path) (all_or_none step_of parts)) o))
        (option_map_or spec.of_no_step (cond (not (is_some o)) (Some part) (find no_step parts)) said)
    by later None = no_step_said part
    by later (Some s) = subst (λ (o : Option Edit). Says o (option_map_or spec.of_no_step (find no_step parts) said)) (joined f s (all_or_none step_of parts)) (later s)

operands_said : (verb path value : Text) → list_any (is_text verb) spec.verbs ≡ true
    → Says (option_and_then (done_by verb value) (path_of path)) (spec.of_operands verb path value)
unfolding path_of
operands_said verb path value known = by (behind slash path)
  where
    by : (o : Option Text) → Says (option_and_then (done_by verb value) (option_and_then (λ steps. all_or_none step_of (parts_at slash None steps)) o))
        (option_map_or (spec.of_steps verb value) o (codes "a path begins with /."))
    by None = tt
    by (Some steps) = steps_said (parts_at slash None steps) (done_by verb value) (spec.of_value verb value) (λ path. value_said verb value path known)

-- ---- all

-- no other verb does anything
no_verb_does : (creates replaces removes moves : Bool) (c r d : Edit) (m : Option Edit) → (creates || (replaces || (removes || (moves || false)))) ≡ false
    → (cond creates (Some c) (cond replaces (Some r) (cond moves m None)) ≡ None) × (cond removes (Some d) None ≡ None)
no_verb_does true replaces removes moves c r d m is = absurd cc
no_verb_does false true removes moves c r d m is = absurd cc
no_verb_does false false true moves c r d m is = absurd cc
no_verb_does false false false true c r d m is = absurd cc
no_verb_does false false false false c r d m is = (refl, refl)

other_does_nothing : (verb value : Text) (o : Option Path) → list_any (is_text verb) spec.verbs ≡ false → option_and_then (done_by verb value) o ≡ None
other_does_nothing verb value None other = refl
other_does_nothing verb [] (Some path) other =
    (no_verb_does (is_text verb (codes "create")) (is_text verb (codes "replace")) (is_text verb (codes "remove")) (is_text verb (codes "move"))
    (remove path) (remove path) (remove path) None other).1
other_does_nothing verb (x ∷ value) (Some path) other =
    (no_verb_does (is_text verb (codes "create")) (is_text verb (codes "replace")) (is_text verb (codes "remove")) (is_text verb (codes "move"))
    (create path (x ∷ value)) (replace path (x ∷ value)) (remove path) (option_map (move_to path) (position_alone (x ∷ value))) other).0

words_said : (verb rest : Text) → Says (edit_with (verb, rest)) (spec.of_words verb rest)
words_said verb rest = by (list_any (is_text verb) spec.verbs) refl
  where
    by : (b : Bool) → list_any (is_text verb) spec.verbs ≡ b
        → Says (edit_with (verb, rest)) (cond b (spec.of_operands verb (operands rest).0 (operands rest).1) (spec.of_verb verb))
    by true known = operands_said verb (operands rest).0 (operands rest).1 known
    by false other = subst (λ (o : Option Edit). Says o (spec.of_verb verb))
        (sym (other_does_nothing verb (operands rest).1 (path_of (operands rest).0) other)) (no_verb_said verb)

nothing_spelled : (line : Text) → edit_with (line, []) ≡ None
unfolding cut_at path_of
nothing_spelled line = refl

cut_said : (line : Text) (o : Option (Text × Text)) → Says (option_and_then edit_with o)
    (spec.of_words (option_map_or (λ parts. parts) o (line, [])).0 (option_map_or (λ parts. parts) o (line, [])).1)
cut_said line None = subst (λ (o : Option Edit). Says o (spec.of_words line [])) (nothing_spelled line) (words_said line [])
cut_said line (Some (verb, rest)) = words_said verb rest

text_said : (line : Text) → has_line_feed line ≡ false → Says (edit_of line) (spec.of_text line)
unfolding edit_of
text_said line one = subst (λ (b : Bool). Says (cond b None (option_and_then edit_with (cut_at space None line))) (spec.of_text line)) (sym one)
    (cut_said line (cut_at space None line))

line_said : (line : Text) (b : Bool) → Says (edit_of line) (spec.of_text line) → edit_of line ≡ None
    → IsSaid (cond b (spec.of_text line) (codes "the line isn't UTF-8."))
line_said line true said none = subst (λ (o : Option Edit). Says o (spec.of_text line)) none said
line_said line false said none = tt

pub no_edit_said : (line : Text) → has_line_feed line ≡ false → edit_of line ≡ None → spec.said_of_line line ≢ []
no_edit_said line one none is = subst IsSaid is (line_said line (is_utf8 line) (text_said line one) none)

pub an_edit_unsaid : (line : Text) (e : Edit) → has_line_feed line ≡ false → is_utf8 line ≡ true → edit_of line ≡ Some e → spec.said_of_line line ≡ []
an_edit_unsaid line e one utf8 is = ap (λ (b : Bool). cond b (spec.of_text line) (codes "the line isn't UTF-8.")) utf8
    ∙ subst (λ (o : Option Edit). Says o (spec.of_text line)) is (text_said line one)
