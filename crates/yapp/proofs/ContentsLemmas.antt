-- Reading files and modules one after another.
use Rattle.std.proofs.Common.{◌≡◌, ◌⊎◌, inl, inr, ℕ, Bool, ◌+◌, ◌≤◌, List, [], ◌∷◌, ◌++◌, map, Some, None, refl, sym, subst, ap, ◌∙◌, append_assoc, arith}
use Rattle.std.proofs.Common.{Vec, Global, length}
use Rattle.std.specs.Borrow.{Bor}
use Rattle.std.specs.Prelude.{Result, Ok, Err, IsErrAnd}
use Rattle.std.proofs.lemmas.List.{append-nil, length-append, length-map, map-append}
use Rattle.yspec.specs.Forest.{Forest, end, node, join}
use Rattle.yspec.specs.text.Statement.{Statement, Slip}
use Rattle.yspec.specs.text.Text.{Text}
use Rattle.yspec_wide.specs.Language.{Language}
use Rattle.yspec_wide.specs.Texts.{module_in}
use Rattle.yspec_run.specs.Output.{Besides, Outcome, Request, files_of, with_files, with_module, with_modules}
use Rattle.yspec_run.specs.Lines.{said_by, said_with}
use Rattle.yspec.proofs.ForestLemmas.{join_end, join_assoc}
use Rattle.ytext.specs.View.{view, modules_view}
use Rattle.ytext.specs.declared.statement.Module.{Module}
use Rattle.yapp_report.specs.Failing.{FailsWith, FromFile, LeadsTo, outcome_of, unsaid}
use Rattle.yapp.specs.Files.{Answered, Contents, FileAnswers, IsFound, LeadsBy, ReadsAll, Store, WasCut, WereRead, came_to, found_as, unread_in}
use Rattle.yapp_report.specs.Unread.{IsTold, failed_reads}
use Rattle.yapp_report.specs.declared.failure.Failure.{Failure}
use Rattle.yapp_report.specs.declared.failure.Failure.TheVariants as failures
use Rattle.yapp_report.specs.declared.files.FileFault.{FileFault}
use Rattle.yapp_report.specs.declared.files.FileFault.TheVariants as faults
use Rattle.yapp.specs.declared.unjudged.Found.{Found}

-- the names and the texts that the code holds
abbrev pub names_in : List (Bor Text) → List Text
names_in = map (λ n. n.now)

abbrev pub texts_in : List (Vec ℕ Global) → List (List ℕ)
texts_in = map (λ t. t.items)

-- what stands in the place of a name that isn't there
abbrev pub no_name : Bor Text
no_name = record { ref_ptr = (0, 0); now = [] }

-- ---- files

with_files_same : (names : List Text) (answers : FileAnswers) (f g : List (List ℕ) → Outcome) → ((texts : List (List ℕ)) → f texts ≡ g texts)
    → with_files names answers f ≡ with_files names answers g
with_files_same [] answers f g same = same []
with_files_same (name ∷ names) [] f g same = refl
with_files_same (name ∷ names) (None ∷ answers) f g same = refl
with_files_same (name ∷ names) (Some bytes ∷ answers) f g same =
    with_files_same names answers (λ rest. f (bytes ∷ rest)) (λ rest. g (bytes ∷ rest)) (λ rest. same (bytes ∷ rest))

-- so much is read of the files of some names, and these names are left
pub record ReadSoFar (contents : Contents) (names left : List Text) (texts : List (List ℕ)) : Type 0 where
  pub answered : (rest : FileAnswers) → Answered contents left rest → Answered contents names (map Some texts ++ rest)
  pub goes_on : (rest : FileAnswers) (next : List (List ℕ) → Outcome)
      → with_files names (map Some texts ++ rest) next ≡ with_files left rest (λ more. next (texts ++ more))

pub none_read : (contents : Contents) (names : List Text) → ReadSoFar contents names names []
none_read contents names = record { answered = λ rest a. a; goes_on = λ rest next. refl }

behind : (texts : List (List ℕ)) (text : List ℕ) (rest : FileAnswers) → map Some texts ++ (Some text ∷ rest) ≡ map Some (texts ++ text ∷ []) ++ rest
behind texts text rest = sym (append_assoc (map Some texts) (Some text ∷ []) rest) ∙ ap (λ (xs : FileAnswers). xs ++ rest) (sym (map-append Some texts (text ∷ [])))

pub one_read : (contents : Contents) (names left : List Text) (texts : List (List ℕ)) (name : Text) (text : List ℕ)
    → IsTold (contents name) text → ReadSoFar contents names (name ∷ left) texts → ReadSoFar contents names left (texts ++ text ∷ [])
one_read contents names left texts name text tells so_far = record {
  answered = λ rest a. subst (Answered contents names) (behind texts text rest) (so_far.answered (Some text ∷ rest) (tells, a));
  goes_on = λ rest next. ap (λ (answers : FileAnswers). with_files names answers next) (sym (behind texts text rest))
      ∙ so_far.goes_on (Some text ∷ rest) next
      ∙ with_files_same left rest (λ more. next (texts ++ (text ∷ more))) (λ more. next ((texts ++ text ∷ []) ++ more))
      (λ more. ap next (sym (append_assoc texts (text ∷ []) more)));
}

pub all_read : (contents : Contents) (names : List Text) (texts : List (List ℕ)) → ReadSoFar contents names [] texts
    → Answered contents names (map Some texts)
all_read contents names texts so_far = subst (Answered contents names) (append-nil (map Some texts)) (so_far.answered [] tt)

pub none_unread : (texts : List (List ℕ)) → unread_in (map Some texts) ≡ 0
none_unread [] = refl
none_unread (text ∷ texts) = none_unread texts

pub with_all_read : (contents : Contents) (names : List Text) (texts : List (List ℕ)) (next : List (List ℕ) → Outcome)
    → Answered contents names (map Some texts) → with_files names (map Some texts) next ≡ next texts
with_all_read contents [] [] next a = refl
with_all_read contents [] (text ∷ texts) next a = absurd a
with_all_read contents (name ∷ names) [] next a = absurd a
with_all_read contents (name ∷ names) (text ∷ texts) next a = with_all_read contents names texts (λ rest. next (text ∷ rest)) a.1

length_behind : (texts : List (List ℕ)) → length (map Some texts ++ None ∷ []) ≡ length texts + 1
length_behind texts = omega (arith, length-append (map (λ (t : List ℕ). Some t) texts) (None ∷ []), length-map texts (λ (t : List ℕ). Some t))

-- a file has one answer at most
pub answers_few : (contents : Contents) (names : List Text) (answers : FileAnswers) → Answered contents names answers → length answers ≤ length names
answers_few contents [] [] a = omega arith
answers_few contents [] (answer ∷ answers) a = absurd a
answers_few contents (name ∷ names) [] a = absurd a
answers_few contents (name ∷ names) (None ∷ answers) a = omega (arith, ap length a)
answers_few contents (name ∷ names) (Some bytes ∷ answers) a = omega (arith, answers_few contents names answers a.1)

unread_behind : (texts : List (List ℕ)) → unread_in (map Some texts ++ None ∷ []) ≡ 1
unread_behind [] = refl
unread_behind (text ∷ texts) = unread_behind texts

-- ---- modules

with_module_same : (name : Text) (text : List ℕ) (read : Result (Forest Statement) Slip) (f g : Forest Statement → Outcome) → ((top : Forest Statement) → f top ≡ g top)
    → with_module name text read f ≡ with_module name text read g
with_module_same name text (Ok top) f g same = same top
with_module_same name text (Err slip) f g same = refl

with_modules_same : (language : Language) (names : List Text) (texts : List (List ℕ)) (f g : Forest Statement → List (List ℕ) → Outcome)
    → ((rest : Forest Statement) (files : List (List ℕ)) → f rest files ≡ g rest files) → with_modules language names texts f ≡ with_modules language names texts g
with_modules_same language [] texts f g same = same end texts
with_modules_same language (name ∷ names) [] f g same = same end []
with_modules_same language (name ∷ names) (text ∷ texts) f g same = with_module_same name text (module_in language text)
    (λ top. with_modules language names texts (λ rest. f (join top rest))) (λ top. with_modules language names texts (λ rest. g (join top rest)))
    (λ top. with_modules_same language names texts (λ rest. f (join top rest)) (λ rest. g (join top rest)) (λ rest files. same (join top rest) files))

modules_behind : (ms : List Module) (m : Module) → modules_view (ms ++ m ∷ []) ≡ join (modules_view ms) (modules_view (m ∷ []))
modules_behind [] m = refl
modules_behind (x ∷ ms) m = ap (node (view x.top).0 (view x.top).1) (modules_behind ms m)

-- so many modules are read, and these names and texts are left
abbrev pub ParsedSoFar : Language → List Text → List (List ℕ) → List Text → List (List ℕ) → Forest Statement → Type 0
ParsedSoFar language names texts left_names left_texts modules = (next : Forest Statement → List (List ℕ) → Outcome)
    → with_modules language names texts next ≡ with_modules language left_names left_texts (λ rest files. next (join modules rest) files)

pub parsed_same : (language : Language) (names left_names : List Text) (texts left_texts : List (List ℕ)) (modules : Forest Statement) (names' : List Text) (texts' : List (List ℕ))
    → left_names ≡ names' → left_texts ≡ texts' → ParsedSoFar language names texts left_names left_texts modules → ParsedSoFar language names texts names' texts' modules
parsed_same language names left_names texts left_texts modules names' texts' same_names same_texts so_far =
    subst (λ ns. ParsedSoFar language names texts ns texts' modules) same_names (subst (λ ts. ParsedSoFar language names texts left_names ts modules) same_texts so_far)

pub none_parsed : (language : Language) (names : List Text) (texts : List (List ℕ)) → ParsedSoFar language names texts names texts end
none_parsed language names texts next = refl

pub one_parsed : (language : Language) (names left_names : List Text) (texts left_texts : List (List ℕ)) (name : Text) (text : List ℕ) (ms : List Module) (m : Module)
    → ParsedSoFar language names texts (name ∷ left_names) (text ∷ left_texts) (modules_view ms)
    → ((next : Forest Statement → Outcome) → with_module name text (module_in language text) next ≡ next (modules_view (m ∷ [])))
    → ParsedSoFar language names texts left_names left_texts (modules_view (ms ++ m ∷ []))
one_parsed language names left_names texts left_texts name text ms m so_far read next = so_far next
    ∙ read (λ top. with_modules language left_names left_texts (λ rest files. next (join (modules_view ms) (join top rest)) files))
    ∙ with_modules_same language left_names left_texts (λ rest files. next (join (modules_view ms) (join (modules_view (m ∷ [])) rest)) files)
    (λ rest files. next (join (modules_view (ms ++ m ∷ [])) rest) files)
    (λ rest files. ap (λ (f : Forest Statement). next f files)
    (sym (join_assoc (modules_view ms) (modules_view (m ∷ [])) rest)
    ∙ ap (λ (f : Forest Statement). join f rest) (sym (modules_behind ms m))))

pub all_parsed : (language : Language) (names : List Text) (texts left_texts : List (List ℕ)) (ms : List Module) → ParsedSoFar language names texts [] left_texts (modules_view ms)
    → (next : Forest Statement → List (List ℕ) → Outcome) → with_modules language names texts next ≡ next (modules_view ms) left_texts
all_parsed language names texts left_texts ms so_far next = so_far next ∙ ap (λ (f : Forest Statement). next f left_texts) (join_end (modules_view ms))

pub texts_parsed : (language : Language) (names left_names : List Text) (texts left_texts : List (List ℕ)) (name : Text) (ms : List Module) → length left_texts ≡ 0
    → ParsedSoFar language names texts (name ∷ left_names) left_texts (modules_view ms)
    → (next : Forest Statement → List (List ℕ) → Outcome) → with_modules language names texts next ≡ next (modules_view ms) left_texts
texts_parsed language names left_names texts [] name ms none so_far next = so_far next ∙ ap (λ (f : Forest Statement). next f []) (join_end (modules_view ms))
texts_parsed language names left_names texts (text ∷ left_texts) name ms none so_far next = cc

-- the module of which the text is refused
pub parsing_fails : (language : Language) (names left_names : List Text) (texts left_texts : List (List ℕ)) (name : Text) (text : List ℕ) (ms : List Module) (f : Failure)
    → ParsedSoFar language names texts (name ∷ left_names) (text ∷ left_texts) (modules_view ms)
    → ((next : Forest Statement → Outcome) → FailsWith f (with_module name text (module_in language text) next))
    → (next : Forest Statement → List (List ℕ) → Outcome) → FailsWith f (with_modules language names texts next)
parsing_fails language names left_names texts left_texts name text ms f so_far refused next = subst (FailsWith f) (sym (so_far next))
    (refused (λ top. with_modules language left_names left_texts (λ rest files. next (join (modules_view ms) (join top rest)) files)))

-- ---- what a call answers

-- all files were read
pub were_read : (before after : Store) (names : List Text) (texts : List (List ℕ)) → ReadSoFar before.contents names [] texts
    → after.reads ≡ before.reads + length texts → after.failures ≡ before.failures → WereRead before after names (map Some texts)
were_read before after names texts so_far reads same = record {
  answered = all_read before.contents names texts so_far;
  reads = omega (arith, reads, length-map texts (λ (t : List ℕ). Some t));
  failures = omega (arith, same, none_unread texts);
}

-- one couldn't be read, whatever is to be made of the files; or memory was wanting
abbrev pub ReadsNot : Store → Store → List Text → Failure → Type 0
ReadsNot before after names f = ((answers : FileAnswers) × WereRead before after names answers
    × ((next : List (List ℕ) → Outcome) → with_files names answers next ≡ outcome_of f))
    ⊎ (WasCut before after names × (f ≡ failures.Memory))

-- there was no memory for the file at hand
pub cut_short : (before after : Store) (names left : List Text) (texts : List (List ℕ)) (name : Text)
    → ReadSoFar before.contents names (name ∷ left) texts → after.reads ≡ before.reads + (length texts + 1) → after.failures ≡ before.failures
    → WasCut before after names
cut_short before after names left texts name so_far reads same =
    let few = answers_few before.contents names (map Some texts ++ None ∷ []) (so_far.answered (None ∷ []) refl) in
    record { failures = same; reads = omega (arith, reads, few, length_behind texts) }

-- the file at hand couldn't be read, or there was no memory for it
pub reading_fails : (X : Type 0) (before now after : Store) (names left : List Text) (texts : List (List ℕ)) (name : Text) (fault : FileFault) (f : Failure)
    → ReadSoFar before.contents names (name ∷ left) texts → now.reads ≡ before.reads + length texts → now.failures ≡ before.failures
    → after.reads ≡ now.reads + 1 → after.failures ≡ now.failures + failed_reads {X = X} (Err fault) → FromFile name fault f
    → ReadsNot before after names f
reading_fails X before now after names left texts name (faults.Unread cause) f so_far reads same one_more counted is = inl (
  map Some texts ++ None ∷ [],
  record {
    answered = so_far.answered (None ∷ []) refl;
    reads = omega (arith, one_more, reads, length_behind texts);
    failures = omega (arith, counted, same, unread_behind texts);
  },
  λ next. so_far.goes_on (None ∷ []) next ∙ sym is,
)
reading_fails X before now after names left texts name faults.Memory f so_far reads same one_more counted is =
    inr (cut_short before after names left texts name so_far (omega (arith, one_more, reads)) (omega (arith, counted, same)), is)

pub memory_reads : {X : Type 0} (see : X → List (List ℕ)) (before after : Store) (names : List Text) (r : Result X Failure)
    → IsErrAnd r (λ e. e ≡ failures.Memory) → WasCut before after names → ReadsAll see before after names r
memory_reads see before after names (Ok x) e cut = absurd e
memory_reads see before after names (Err f) e cut = inr (cut, e)

-- what is returned is what is found, or there was no memory
came_of_answer : (by_lines : Bool) (before after : Store) (request : Request) (stop : Besides) (answers : FileAnswers) (r : Result Found Failure)
    → WereRead before after (files_of request) answers → after.failures ≡ before.failures → LeadsTo (said_by by_lines stop request answers) found_as r
    → IsFound by_lines before after request (came_to r)
came_of_answer by_lines before after request stop answers (Ok found) read same is = inl (stop, answers, read, sym is)
came_of_answer by_lines before after request stop answers (Err (failures.Unread name cause)) read same is = inl (stop, answers, read, sym is)
came_of_answer by_lines before after request stop answers (Err (failures.Text name code line hint jump)) read same is = inl (stop, answers, read, sym is)
came_of_answer by_lines before after request stop answers (Err (failures.Compile name code line hint jump)) read same is = inl (stop, answers, read, sym is)
came_of_answer by_lines before after request stop answers (Err (failures.Document name schema code place hint at jump)) read same is = inl (stop, answers, read, sym is)
came_of_answer by_lines before after request stop answers (Err (failures.Repeated name schema place hint jump)) read same is = inl (stop, answers, read, sym is)
came_of_answer by_lines before after request stop answers (Err (failures.NoModule name)) read same is = inl (stop, answers, read, sym is)
came_of_answer by_lines before after request stop answers (Err (failures.NoCode word)) read same is = inl (stop, answers, read, sym is)
came_of_answer by_lines before after request stop answers (Err failures.Memory) read same is =
    let few = answers_few before.contents (files_of request) answers read.answered in
    inr (record { failures = same; reads = omega (arith, read.reads, few) }, refl)

-- a request after its files were read
pub came_of_texts : (by_lines : Bool) (before after : Store) (request : Request) (files : List Text) (texts : List (List ℕ)) (r : Result Found Failure)
    → files ≡ files_of request → WereRead before after files (map Some texts) → LeadsBy (λ stop. said_with by_lines stop request texts) found_as r
    → IsFound by_lines before after request (came_to r)
came_of_texts by_lines before after request files texts r e read leads =
    let told : WereRead before after (files_of request) (map Some texts) = subst (λ ns. WereRead before after ns (map Some texts)) e read in
    let none : after.failures ≡ before.failures = omega (arith, read.failures, none_unread texts) in
    let goes_on = with_all_read before.contents (files_of request) texts (said_with by_lines leads.0 request) told.answered in
    came_of_answer by_lines before after request leads.0 (map Some texts) r told none (subst (λ o. LeadsTo o found_as r) (sym goes_on) leads.1)

-- a request whose files couldn't all be read
pub came_of_reading : (by_lines : Bool) (before after : Store) (request : Request) (files : List Text) (f : Failure) → files ≡ files_of request
    → ReadsNot before after files f → IsFound by_lines before after request (outcome_of f)
came_of_reading by_lines before after request files f e (inl read) = inl (
  unsaid,
  read.0,
  subst (λ ns. WereRead before after ns read.0) e read.1,
  sym (subst (λ ns. with_files ns read.0 (said_with by_lines unsaid request) ≡ outcome_of f) e (read.2 (said_with by_lines unsaid request))),
)
came_of_reading by_lines before after request files f e (inr none) = inr (subst (WasCut before after) e none.0, ap outcome_of none.1)
