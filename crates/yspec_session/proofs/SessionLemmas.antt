-- What holds of every session.
use Rattle.std.proofs.Common.{◌≡◌, ℕ, zero, suc, ◌+◌, Bool, true, false, ◌||◌, List, [], ◌∷◌, length, Option, Some, None, Result, Ok, Err, map, refl, sym, ap, ◌∙◌, ◌≤◌, arith}
use Rattle.std.specs.Prelude.{if◌then◌else◌, take, option_map, unwrap_or, ◌==◌, ◌&&◌}
use Rattle.std.specs.Option.{option_map_or}
use Rattle.std.specs.List.{list_any, list_all}
use Rattle.std.proofs.lemmas.Bool.{and_parts, eq-eqb}
use Rattle.yspec.proofs.BasicLemmas.{same_text}
use Rattle.yspec.specs.schema.Schema.{Schema}
use Rattle.yspec.specs.document.Document.{Tree, Step}
use Rattle.yspec.specs.document.FaultCode.{fault_number}
use Rattle.yspec.specs.document.StateData.{seen_faults}
use Rattle.yspec.specs.document.Fault.{Fault, Info, no_info, choice_name, unique_number}
use Rattle.yspec.specs.edit.EditText.{Edit}
use Rattle.yspec.specs.edit.Editing.{EditRefusal, applied, tree_or, decision, after, decisions}
use Rattle.yspec_session.specs.Carrying.{Turn, Difference, same_position, same_step, same_place, same_info, same_fault, fault_behind, without_one, with_gone, difference}
use Rattle.yspec_session.specs.Session.{Turns, Earlier, Begun, Session, Request, Why, change, faults, below, value, undo, document, save, begin, commit, back, refused, turns_of, with_turns, without_turns, with_remembered, change_answered, configured_by, told_of, undone, begun_with, committed, fallen, answered, behind_all, undos, accepted_among, accepted, is_inside}

-- ---- how many

one_less : (f : Fault) (gs : List Fault) → list_any (same_fault f) gs ≡ true → length gs ≡ suc (length (without_one f gs))
one_less f [] e = absurd cc
one_less f (g ∷ gs) e = by (same_fault f g) e (one_less f gs)
  where
    by : (b : Bool) → (b || list_any (same_fault f) gs) ≡ true → (list_any (same_fault f) gs ≡ true → length gs ≡ suc (length (without_one f gs)))
        → length (g ∷ gs) ≡ suc (length (if b then gs else (g ∷ without_one f gs)))
    by true e others = refl
    by false e others = omega (arith, others e)

pub as_many : (turns : List Turn) (earlier later : List Fault)
    → length earlier + length (difference turns earlier later).told ≡ length later + length (difference turns earlier later).gone
as_many turns [] later = omega (arith)
as_many turns (f ∷ fs) later = by (fault_behind turns f) (as_many turns fs later) (λ g. as_many turns fs (without_one g later))
  where
    -- both lists of a difference make up for each other
    Even : ℕ → List Fault → Difference → Type 0
    Even count later d = count + length d.told ≡ length later + length d.gone

    more : Even (length fs) later (difference turns fs later) → Even (length (f ∷ fs)) later (with_gone f (difference turns fs later))
    more even = omega (arith, even)

    found : (g : Fault) (b : Bool) → list_any (same_fault g) later ≡ b → Even (length fs) later (difference turns fs later)
        → Even (length fs) (without_one g later) (difference turns fs (without_one g later))
        → Even (length (f ∷ fs)) later (if b then difference turns fs (without_one g later) else with_gone f (difference turns fs later))
    found g true e even less = omega (arith, one_less g later e, less)
    found g false e even less = more even

    by : (o : Option Fault) → Even (length fs) later (difference turns fs later)
        → ((g : Fault) → Even (length fs) (without_one g later) (difference turns fs (without_one g later)))
        → Even (length (f ∷ fs)) later (option_map_or (λ g. if list_any (same_fault g) later
        then difference turns fs (without_one g later) else with_gone f (difference turns fs later)) o (with_gone f (difference turns fs later)))
    by None even less = more even
    by (Some g) even less = found g (list_any (same_fault g) later) refl even (less g)

-- ---- the same list

equal_numbers : (n : ℕ) → (n == n) ≡ true
equal_numbers n = eq-eqb n n refl

same_positions : (p : Option ℕ) → same_position p p ≡ true
same_positions None = refl
same_positions (Some p) = equal_numbers p

both_true : (a b : Bool) → a ≡ true → b ≡ true → (a && b) ≡ true
both_true true true e f = refl
both_true true false e f = absurd cc
both_true false b e f = absurd cc

same_steps : (s : Step) → same_step s s ≡ true
same_steps s = both_true (s.schema_number == s.schema_number) (same_position s.position s.position) (equal_numbers s.schema_number) (same_positions s.position)

same_places : (steps : List Step) → same_place steps steps ≡ true
same_places [] = refl
same_places (s ∷ steps) = both_true (same_step s s) (same_place steps steps) (same_steps s) (same_places steps)

same_infos : (i : Info) → same_info i i ≡ true
same_infos no_info = refl
same_infos (choice_name name) = same_text name
same_infos (unique_number n) = equal_numbers n

same_faults : (f : Fault) → same_fault f f ≡ true
same_faults f = both_true (fault_number f.code == fault_number f.code) (same_place f.steps f.steps && same_info f.info f.info)
    (equal_numbers (fault_number f.code)) (both_true (same_place f.steps f.steps) (same_info f.info f.info) (same_places f.steps) (same_infos f.info))

pub unchanged : (fs : List Fault) → difference [] fs fs ≡ record { told = []; gone = [] }
unchanged [] = refl
unchanged (f ∷ fs) = by (same_fault f f) (same_faults f) (unchanged fs)
  where
    by : (b : Bool) → b ≡ true → difference [] fs fs ≡ record { told = []; gone = [] }
        → (if b || list_any (same_fault f) fs then difference [] fs (if b then fs else f ∷ without_one f fs) else with_gone f (difference [] fs (f ∷ fs)))
        ≡ record { told = []; gone = [] }
    by true e others = others
    by false e others = absurd cc

-- ---- what is refused

change_left : (configured : Option Schema) (schema : Schema) (limit : ℕ) (s : Session) (turns : Turns) (r : Result Tree EditRefusal) (why : Why)
    → (change_answered configured schema limit s turns r).0 ≡ refused why → (change_answered configured schema limit s turns r).1 ≡ s
change_left configured schema limit s turns (Err e) why is = refl
change_left configured schema limit s turns (Ok later) why is = absurd cc

undo_left : (configured : Option Schema) (schema : Schema) (s : Session) (es : List Earlier) (why : Why) → (undone configured schema s es).0 ≡ refused why → (undone configured schema s es).1 ≡ s
undo_left configured schema s [] why is = refl
undo_left configured schema s (e ∷ es) why is = absurd cc

begin_left : (s : Session) (o : Option Begun) (why : Why) → (begun_with s o).0 ≡ refused why → (begun_with s o).1 ≡ s
begin_left s None why is = absurd cc
begin_left s (Some b) why is = refl

commit_left : (limit : ℕ) (s : Session) (o : Option Begun) (why : Why) → (committed limit s o).0 ≡ refused why → (committed limit s o).1 ≡ s
commit_left limit s None why is = refl
commit_left limit s (Some b) why is = absurd cc

back_left : (configured : Option Schema) (schema : Schema) (s : Session) (o : Option Begun) (why : Why) → (fallen configured schema s o).0 ≡ refused why → (fallen configured schema s o).1 ≡ s
back_left configured schema s None why is = refl
back_left configured schema s (Some b) why is = absurd cc

pub left : (configured : Option Schema) (schema : Schema) (limit : ℕ) (s : Session) (r : Request) (why : Why) → (answered configured schema limit s r).0 ≡ refused why → (answered configured schema limit s r).1 ≡ s
left configured schema limit s (change e) why is = change_left configured schema limit s (turns_of schema s.tree e) (applied schema s.tree e) why is
left configured schema limit s (faults behind count) why is = refl
left configured schema limit s (below path) why is = refl
left configured schema limit s (value path) why is = refl
left configured schema limit s undo why is = undo_left configured schema s s.remembered why is
left configured schema limit s document why is = refl
left configured schema limit s (save file) why is = refl
left configured schema limit s begin why is = begin_left s s.begun why is
left configured schema limit s commit why is = commit_left limit s s.begun why is
left configured schema limit s back why is = back_left configured schema s s.begun why is

-- ---- what is looked at

same_told : (schema : Schema) (tree : Tree) (of_configuration : Bool) → told_of (configured_by of_configuration schema) schema tree ≡ seen_faults of_configuration schema tree
same_told schema tree true = refl
same_told schema tree false = refl

pub told : (of_configuration : Bool) (schema : Schema) (tree : Tree) → told_of (configured_by of_configuration schema) schema tree ≡ seen_faults of_configuration schema tree
told of_configuration schema tree = same_told schema tree of_configuration

module _ (configured other : Option Schema) where
  same_change : (schema : Schema) (limit : ℕ) (s : Session) (turns : Turns) (r : Result Tree EditRefusal)
      → (change_answered configured schema limit s turns r).1 ≡ (change_answered other schema limit s turns r).1
  same_change schema limit s turns (Err e) = refl
  same_change schema limit s turns (Ok later) = refl

  same_undo : (schema : Schema) (s : Session) (es : List Earlier) → (undone configured schema s es).1 ≡ (undone other schema s es).1
  same_undo schema s [] = refl
  same_undo schema s (e ∷ es) = refl

  same_back : (schema : Schema) (s : Session) (o : Option Begun) → (fallen configured schema s o).1 ≡ (fallen other schema s o).1
  same_back schema s None = refl
  same_back schema s (Some b) = refl

  pub same_left : (schema : Schema) (limit : ℕ) (s : Session) (r : Request) → (answered configured schema limit s r).1 ≡ (answered other schema limit s r).1
  same_left schema limit s (change e) = same_change schema limit s (turns_of schema s.tree e) (applied schema s.tree e)
  same_left schema limit s (faults behind count) = refl
  same_left schema limit s (below path) = refl
  same_left schema limit s (value path) = refl
  same_left schema limit s undo = same_undo schema s s.remembered
  same_left schema limit s document = refl
  same_left schema limit s (save file) = refl
  same_left schema limit s begin = refl
  same_left schema limit s commit = refl
  same_left schema limit s back = same_back schema s s.begun

-- ---- documents

changed_tree : (configured : Option Schema) (schema : Schema) (limit : ℕ) (s : Session) (turns : Turns) (r : Result Tree EditRefusal)
    → (change_answered configured schema limit s turns r).1.tree ≡ tree_or r s.tree
changed_tree configured schema limit s turns (Err e) = refl
changed_tree configured schema limit s turns (Ok later) = refl

pub documents : (configured : Option Schema) (schema : Schema) (limit : ℕ) (s : Session) (edits : List Edit)
    → (behind_all configured schema limit s (map change edits)).tree ≡ after schema s.tree edits
documents configured schema limit s [] = refl
documents configured schema limit s (e ∷ edits) = documents configured schema limit (answered configured schema limit s (change e)).1 edits
    ∙ ap (λ tree. after schema tree edits) (changed_tree configured schema limit s (turns_of schema s.tree e) (applied schema s.tree e))

-- ---- what is taken back

take_whole : {A : Type 0} (n : ℕ) (xs : List A) → length xs ≤ n → take n xs ≡ xs
take_whole zero [] le = refl
take_whole (suc n) [] le = refl
take_whole zero (x ∷ xs) le = absurd (omega (arith, le))
take_whole (suc n) (x ∷ xs) le = ap (λ ys. x ∷ ys) (take_whole n xs (omega (arith, le)))

same_begun : (turns : List Turn) (o : Option Begun) → option_map without_turns (option_map (with_turns turns) o) ≡ o
same_begun turns None = refl
same_begun turns (Some b) = refl

one_undone : (configured : Option Schema) (schema : Schema) (limit : ℕ) (turns : List Turn) (later : Tree) (s : Session) → length s.remembered + 1 ≤ limit
    → (answered configured schema limit (with_remembered limit turns later s) undo).1 ≡ s
one_undone configured schema limit turns later s le =
    ap (λ es. (undone configured schema (with_remembered limit turns later s) es).1)
    (take_whole limit (record { tree = s.tree; turns = turns } ∷ s.remembered) (omega (arith, le)))
    ∙ ap (λ o. record { tree = s.tree; remembered = s.remembered; begun = o }) (same_begun turns s.begun)

last_undone : (configured : Option Schema) (schema : Schema) (limit : ℕ) (s : Session) (n : ℕ)
    → behind_all configured schema limit s (undos (suc n)) ≡ (answered configured schema limit (behind_all configured schema limit s (undos n)) undo).1
last_undone configured schema limit s zero = refl
last_undone configured schema limit s (suc n) = last_undone configured schema limit (answered configured schema limit s undo).1 n

no_longer : {A : Type 0} (n : ℕ) (xs : List A) → length (take n xs) ≤ length xs
no_longer zero [] = omega (arith)
no_longer zero (x ∷ xs) = omega (arith)
no_longer (suc n) [] = omega (arith)
no_longer (suc n) (x ∷ xs) = omega (arith, no_longer n xs)

pub all_undone : (configured : Option Schema) (schema : Schema) (limit : ℕ) (s : Session) (edits : List Edit) → length s.remembered + length edits ≤ limit
    → behind_all configured schema limit (behind_all configured schema limit s (map change edits)) (undos (accepted schema s.tree edits)) ≡ s
all_undone configured schema limit s [] le = refl
all_undone configured schema limit s (e ∷ edits) le = by (applied schema s.tree e) (λ t le. all_undone configured schema limit t edits le)
  where
    turns : Turns
    turns = turns_of schema s.tree e

    count : Tree → ℕ
    count tree = accepted schema tree edits

    by : (r : Result Tree EditRefusal)
        → ((t : Session) → length t.remembered + length edits ≤ limit → behind_all configured schema limit (behind_all configured schema limit t (map change edits)) (undos (count t.tree)) ≡ t)
        → behind_all configured schema limit (behind_all configured schema limit (change_answered configured schema limit s turns r).1 (map change edits))
        (undos (accepted_among (decision r ∷ decisions schema (tree_or r s.tree) edits))) ≡ s
    by (Err refusal) others = others s (omega (arith, le))
    by (Ok later) others = let next = with_remembered limit turns.back later s in
        last_undone configured schema limit (behind_all configured schema limit next (map change edits)) (count later)
        ∙ (ap (λ t. (answered configured schema limit t undo).1) (others next (omega (arith, le, no_longer limit (record { tree = s.tree; turns = turns.back } ∷ s.remembered))))
        ∙ one_undone configured schema limit turns.back later s (omega (arith, le)))

-- ---- what falls

-- what edits together began with
abbrev ground : Option Begun → Option (Tree × List Earlier)
ground o = option_map (λ b. (b.tree, b.remembered)) o

with_ground : (turns : List Turn) (o : Option Begun) → ground (option_map (with_turns turns) o) ≡ ground o
with_ground turns None = refl
with_ground turns (Some b) = refl

without_ground : (o : Option Begun) → ground (option_map without_turns o) ≡ ground o
without_ground None = refl
without_ground (Some b) = refl

change_grounded : (configured : Option Schema) (schema : Schema) (limit : ℕ) (s : Session) (turns : Turns) (r : Result Tree EditRefusal)
    → ground (change_answered configured schema limit s turns r).1.begun ≡ ground s.begun
change_grounded configured schema limit s turns (Err e) = refl
change_grounded configured schema limit s turns (Ok later) = with_ground turns.back s.begun

undo_grounded : (configured : Option Schema) (schema : Schema) (s : Session) (es : List Earlier) → ground (undone configured schema s es).1.begun ≡ ground s.begun
undo_grounded configured schema s [] = refl
undo_grounded configured schema s (e ∷ es) = without_ground s.begun

begin_grounded : (s : Session) (o : Option Begun) (g : Tree × List Earlier) → s.begun ≡ o → ground o ≡ Some g → ground (begun_with s o).1.begun ≡ Some g
begin_grounded s None g is e = absurd cc
begin_grounded s (Some b) g is e = ap ground is ∙ e

grounded : (configured : Option Schema) (schema : Schema) (limit : ℕ) (s : Session) (g : Tree × List Earlier) (r : Request) → is_inside r ≡ true
    → ground s.begun ≡ Some g → ground (answered configured schema limit s r).1.begun ≡ Some g
grounded configured schema limit s g (change e) inside is = change_grounded configured schema limit s (turns_of schema s.tree e) (applied schema s.tree e) ∙ is
grounded configured schema limit s g (faults behind count) inside is = is
grounded configured schema limit s g (below path) inside is = is
grounded configured schema limit s g (value path) inside is = is
grounded configured schema limit s g undo inside is = undo_grounded configured schema s s.remembered ∙ is
grounded configured schema limit s g document inside is = is
grounded configured schema limit s g (save file) inside is = is
grounded configured schema limit s g begin inside is = begin_grounded s s.begun g refl is
grounded configured schema limit s g commit inside is = absurd cc
grounded configured schema limit s g back inside is = absurd cc

all_grounded : (configured : Option Schema) (schema : Schema) (limit : ℕ) (s : Session) (g : Tree × List Earlier) (requests : List Request) → list_all is_inside requests ≡ true
    → ground s.begun ≡ Some g → ground (behind_all configured schema limit s requests).begun ≡ Some g
all_grounded configured schema limit s g [] inside is = is
all_grounded configured schema limit s g (r ∷ requests) inside is = let parts = and_parts (is_inside r) (list_all is_inside requests) inside in
    all_grounded configured schema limit (answered configured schema limit s r).1 g requests parts.1 (grounded configured schema limit s g r parts.0 is)

fallen_to : (configured : Option Schema) (schema : Schema) (s : Session) (g : Tree × List Earlier) (o : Option Begun) → ground o ≡ Some g
    → (fallen configured schema s o).1 ≡ record { tree = g.0; remembered = g.1; begun = None }
fallen_to configured schema s g None e = absurd cc
fallen_to configured schema s g (Some b) e = ap (λ o. record { tree = (unwrap_or o g).0; remembered = (unwrap_or o g).1; begun = None }) e

pub all_fallen : (configured : Option Schema) (schema : Schema) (limit : ℕ) (s : Session) (requests : List Request) → s.begun ≡ None → list_all is_inside requests ≡ true
    → (answered configured schema limit (behind_all configured schema limit (answered configured schema limit s begin).1 requests) back).1 ≡ s
all_fallen configured schema limit s requests none inside =
    let inner = behind_all configured schema limit (answered configured schema limit s begin).1 requests in
    fallen_to configured schema inner (s.tree, s.remembered) inner.begun
    (all_grounded configured schema limit (answered configured schema limit s begin).1 (s.tree, s.remembered) requests inside
    (ap (λ o. ground (begun_with s o).1.begun) none))
    ∙ ap (λ o. record { tree = s.tree; remembered = s.remembered; begun = o }) (sym none)
