-- Reads after one another.
use Rattle.std.proofs.Common.{◌≡◌, ℕ, ◌+◌, ◌≤◌, List, [], ◌∷◌, ◌++◌, map, Option, Some, None, Bor, Vec, Global, length, refl, sym, subst, ap, ◌∙◌, append_assoc, arith}
use Rattle.std.specs.Prelude.{option_map, Result, Ok, Err, IsErr}
use Rattle.std.proofs.lemmas.List.{append-nil, length-append, length-map, map-append}
use Rattle.yspec.specs.text.Text.{Text}
use Rattle.yapp_report.specs.Unread.{IsTold}
use Rattle.yapp_search.specs.Reading.{Answered, AreTexts, Contents, FileAnswers, Keeps, Replied, Store, WasStopped, WereAsked, WereRead, texts_of, unread_in}

abbrev pub names_in : List (Bor Text) → List Text
names_in = map (λ n. n.now)

abbrev pub texts_in : List (Vec ℕ Global) → List (List ℕ)
texts_in = map (λ t. t.items)

abbrev pub no_name : Bor Text
no_name = record { ref_ptr = (0, 0); now = [] }

-- ---- one file

pub read_once : (before after : Store) (name : Text) (bytes : List ℕ) → IsTold (before.contents name) bytes → Keeps before after
    → after.reads ≡ before.reads + 1 → after.failures ≡ before.failures + 0 → WereAsked before after (name ∷ []) (Some bytes ∷ [])
read_once before after name bytes told kept reads same =
    record { replied = (told, tt); kept = kept; reads = omega (arith, reads); failures = omega (arith, same) }

pub unread_once : (before after : Store) (name : Text) → Keeps before after
    → after.reads ≡ before.reads + 1 → after.failures ≡ before.failures + 1 → WereAsked before after (name ∷ []) (None ∷ [])
unread_once before after name kept reads one = record { replied = tt; kept = kept; reads = omega (arith, reads); failures = omega (arith, one) }

pub stopped_once : (before after : Store) → Keeps before after → after.reads ≡ before.reads + 1 → after.failures ≡ before.failures + 0 → WasStopped before after
stopped_once before after kept reads same = record { kept = kept; more = omega (arith, reads); failures = omega (arith, reads, same) }

-- ---- several

replied_same : (told given : Contents) (names : List Text) (answers : FileAnswers) → ((name : Text) → given name ≡ told name)
    → Replied given names answers → Replied told names answers
replied_same told given [] [] same r = tt
replied_same told given [] (answer ∷ answers) same r = absurd r
replied_same told given (name ∷ names) [] same r = absurd r
replied_same told given (name ∷ names) (None ∷ answers) same r = replied_same told given names answers same r
replied_same told given (name ∷ names) (Some bytes ∷ answers) same r =
    (subst (λ (t : Option (List ℕ)). IsTold t bytes) (same name) r.0, replied_same told given names answers same r.1)

replied_both : (contents : Contents) (names more : List Text) (answers others : FileAnswers) → Replied contents names answers → Replied contents more others
    → Replied contents (names ++ more) (answers ++ others)
replied_both contents [] more [] others r s = s
replied_both contents [] more (answer ∷ answers) others r s = absurd r
replied_both contents (name ∷ names) more [] others r s = absurd r
replied_both contents (name ∷ names) more (None ∷ answers) others r s = replied_both contents names more answers others r s
replied_both contents (name ∷ names) more (Some bytes ∷ answers) others r s = (r.0, replied_both contents names more answers others r.1 s)

unread_both : (answers others : FileAnswers) → unread_in (answers ++ others) ≡ unread_in answers + unread_in others
unread_both [] others = omega arith
unread_both (None ∷ answers) others = omega (arith, unread_both answers others)
unread_both (Some bytes ∷ answers) others = unread_both answers others

unread_few : (contents : Contents) (names : List Text) (answers : FileAnswers) → Replied contents names answers → unread_in answers ≤ length names
unread_few contents [] [] r = omega arith
unread_few contents [] (answer ∷ answers) r = absurd r
unread_few contents (name ∷ names) [] r = absurd r
unread_few contents (name ∷ names) (None ∷ answers) r = omega (arith, unread_few contents names answers r)
unread_few contents (name ∷ names) (Some bytes ∷ answers) r = omega (arith, unread_few contents names answers r.1)

pub none_asked : (s : Store) → WereAsked s s [] []
none_asked s = record { replied = tt; kept = λ name. refl; reads = omega arith; failures = omega arith }

pub asked_both : (before between after : Store) (names more : List Text) (answers others : FileAnswers) → WereAsked before between names answers
    → WereAsked between after more others → WereAsked before after (names ++ more) (answers ++ others)
asked_both before between after names more answers others first second = record {
  replied = replied_both before.contents names more answers others first.replied (replied_same before.contents between.contents more others first.kept second.replied);
  kept = λ name. second.kept name ∙ first.kept name;
  reads = omega (arith, first.reads, second.reads, length-append names more);
  failures = omega (arith, first.failures, second.failures, unread_both answers others);
}

pub stopped_here : (before now : Store) (names : List Text) (answers : FileAnswers) → WereAsked before now names answers → WasStopped before now
stopped_here before now names answers asked = record {
  kept = asked.kept;
  more = omega (arith, asked.reads);
  failures = omega (arith, asked.reads, asked.failures, unread_few before.contents names answers asked.replied);
}

pub never_stopped : (s : Store) → WasStopped s s
never_stopped s = record { kept = λ name. refl; more = omega arith; failures = omega arith }

pub stopped_both : (before now after : Store) → WasStopped before now → WasStopped now after → WasStopped before after
stopped_both before now after first second = record {
  kept = λ name. second.kept name ∙ first.kept name;
  more = omega (arith, first.more, second.more);
  failures = omega (arith, first.failures, second.failures);
}

pub stopped_then : (before now after : Store) (names : List Text) (answers : FileAnswers) → WereAsked before now names answers → WasStopped now after
    → WasStopped before after
stopped_then before now after names answers asked stopped = stopped_both before now after (stopped_here before now names answers asked) stopped

-- ---- files that are read up to the first that can't be

-- so much is read of the files of some names, and these names are left
pub record ReadSoFar (start now : Store) (names left : List Text) (texts : List (List ℕ)) : Type 0 where
  pub answered : (rest : FileAnswers) → Answered start.contents left rest → Answered start.contents names (map Some texts ++ rest)
  pub kept : Keeps start now
  pub reads : now.reads ≡ start.reads + length texts
  pub same : now.failures ≡ start.failures

pub none_read : (s : Store) (names : List Text) → ReadSoFar s s names names []
none_read s names = record { answered = λ rest a. a; kept = λ name. refl; reads = omega arith; same = refl }

behind : (texts : List (List ℕ)) (text : List ℕ) (rest : FileAnswers) → map Some texts ++ (Some text ∷ rest) ≡ map Some (texts ++ text ∷ []) ++ rest
behind texts text rest = sym (append_assoc (map Some texts) (Some text ∷ []) rest) ∙ ap (λ (xs : FileAnswers). xs ++ rest) (sym (map-append Some texts (text ∷ [])))

pub one_read : (start now after : Store) (names left : List Text) (texts : List (List ℕ)) (name : Text) (text : List ℕ)
    → ReadSoFar start now names (name ∷ left) texts → WereAsked now after (name ∷ []) (Some text ∷ []) → ReadSoFar start after names left (texts ++ text ∷ [])
one_read start now after names left texts name text so_far asked = record {
  answered = λ rest a. subst (Answered start.contents names) (behind texts text rest)
      (so_far.answered (Some text ∷ rest) (subst (λ (t : Option (List ℕ)). IsTold t text) (so_far.kept name) asked.replied.0, a));
  kept = λ other. asked.kept other ∙ so_far.kept other;
  reads = omega (arith, asked.reads, so_far.reads, length-append texts (text ∷ []));
  same = omega (arith, asked.failures, so_far.same);
}

none_unread : (texts : List (List ℕ)) → unread_in (map Some texts) ≡ 0
none_unread [] = refl
none_unread (text ∷ texts) = none_unread texts

texts_all : (texts : List (List ℕ)) → Some texts ≡ texts_of (map Some texts)
texts_all [] = refl
texts_all (text ∷ texts) = ap (option_map (λ (ts : List (List ℕ)). text ∷ ts)) (texts_all texts)

-- what is answered where all were read, or one couldn't be
abbrev pub AreRead : Store → Store → List Text → Option (List (List ℕ)) → Type 0
AreRead before after names texts = (answers : FileAnswers) × WereRead before after names answers × Keeps before after × (texts ≡ texts_of answers)

pub all_read : (start now : Store) (names : List Text) (texts : List (List ℕ)) → ReadSoFar start now names [] texts → AreRead start now names (Some texts)
all_read start now names texts so_far = (
  map Some texts,
  record {
    answered = subst (Answered start.contents names) (append-nil (map Some texts)) (so_far.answered [] tt);
    reads = omega (arith, so_far.reads, length-map texts (λ (t : List ℕ). Some t));
    failures = omega (arith, so_far.same, none_unread texts);
  },
  so_far.kept,
  texts_all texts,
)

length_behind : (texts : List (List ℕ)) → length (map Some texts ++ None ∷ []) ≡ length texts + 1
length_behind texts = omega (arith, length-append (map (λ (t : List ℕ). Some t) texts) (None ∷ []), length-map texts (λ (t : List ℕ). Some t))

unread_behind : (texts : List (List ℕ)) → unread_in (map Some texts ++ None ∷ []) ≡ 1
unread_behind [] = refl
unread_behind (text ∷ texts) = unread_behind texts

texts_without : (texts : List (List ℕ)) → None ≡ texts_of (map Some texts ++ None ∷ [])
texts_without [] = refl
texts_without (text ∷ texts) = ap (option_map (λ (ts : List (List ℕ)). text ∷ ts)) (texts_without texts)

pub one_unread : (start now after : Store) (names left : List Text) (texts : List (List ℕ)) (name : Text) → ReadSoFar start now names (name ∷ left) texts
    → WereAsked now after (name ∷ []) (None ∷ []) → AreRead start after names None
one_unread start now after names left texts name so_far asked = (
  map Some texts ++ None ∷ [],
  record {
    answered = so_far.answered (None ∷ []) refl;
    reads = omega (arith, asked.reads, so_far.reads, length_behind texts);
    failures = omega (arith, asked.failures, so_far.same, unread_behind texts);
  },
  λ other. asked.kept other ∙ so_far.kept other,
  texts_without texts,
)

pub reading_stopped : (start now after : Store) (names left : List Text) (texts : List (List ℕ)) → ReadSoFar start now names left texts → WasStopped now after
    → WasStopped start after
reading_stopped start now after names left texts so_far stopped = record {
  kept = λ other. stopped.kept other ∙ so_far.kept other;
  more = omega (arith, so_far.reads, stopped.more);
  failures = omega (arith, so_far.reads, so_far.same, stopped.failures);
}

pub read_stopped : (before after : Store) (names : List Text) (answers : FileAnswers) → WereRead before after names answers → Keeps before after → WasStopped before after
read_stopped before after names answers read kept = record {
  kept = kept;
  more = omega (arith, read.reads);
  failures = omega (arith, read.reads, read.failures, unread_least answers);
}
  where
    unread_least : (answers : FileAnswers) → unread_in answers ≤ length answers
    unread_least [] = omega arith
    unread_least (None ∷ answers) = omega (arith, unread_least answers)
    unread_least (Some bytes ∷ answers) = omega (arith, unread_least answers)

-- ---- calls that had no memory

pub texts_stopped : {X E : Type 0} → (see : X → List (List ℕ)) (before after : Store) (names : List Text) (r : Result (Option X) E) → IsErr r → WasStopped before after
    → AreTexts see before after names r
texts_stopped see before after names (Ok o) failed stopped = cc
texts_stopped see before after names (Err e) failed stopped = stopped
