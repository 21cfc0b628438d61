-- What a run that ends in a report has met: its files, its modules and its document.
use Rattle.std.proofs.Common.{◌≡◌, ℕ, suc, ◌≤◌, List, [], ◌∷◌, ◌++◌, length, take, drop, Option, Some, None, Result, Ok, Err, refl, ap, ◌∙◌, subst, arith}
use Rattle.yspec.specs.Forest.{Forest, end, join}
use Rattle.yspec.specs.text.Text.{Text}
use Rattle.yspec.specs.text.Statement.{Statement, Slip}
use Rattle.yspec.specs.schema.Breaks.{Break}
use Rattle.yspec.specs.schema.Schema.{Schema}
use Rattle.yspec.specs.document.Document.{Tree}
use Rattle.yspec.specs.document.Reading.{Refusal}
use Rattle.yspec_wide.specs.Texts.{module_in}
use Rattle.yspec_wide.specs.Language.{Language}
use Rattle.yspec_wide.specs.Compiling.{compiled_in}
use Rattle.yspec_run.specs.Output.{Outcome, with_files, with_module, with_modules, with_compiled, with_schema, with_tree}

-- a report, be there faults or not
abbrev pub IsReport : Outcome → Type 0
IsReport o = o.status ≤ 1

-- ---- files

-- the first of the files were read with these contents, whatever comes of them and whichever follow
pub record AreRead (names more : List Text) (answers : List (Option (List ℕ))) : Type 0 where
  pub contents : List (List ℕ)
  pub count : length contents ≡ length names
  pub here : (next : List (List ℕ) → Outcome)
      → with_files (names ++ more) answers next ≡ with_files more (drop (length names) answers) (λ rest. next (contents ++ rest))
  pub again : (others : List Text) (given : List (Option (List ℕ))) (next : List (List ℕ) → Outcome)
      → with_files (names ++ others) (take (length names) answers ++ given) next ≡ with_files others given (λ rest. next (contents ++ rest))

pub are_read : (names more : List Text) (answers : List (Option (List ℕ))) (next : List (List ℕ) → Outcome)
    → IsReport (with_files (names ++ more) answers next) → AreRead names more answers
are_read [] more answers next shown =
    record { contents = []; count = refl; here = λ next. refl; again = λ others given next. refl }
are_read (name ∷ names) more [] next shown = absurd (omega (arith, shown))
are_read (name ∷ names) more (None ∷ answers) next shown = absurd (omega (arith, shown))
are_read (name ∷ names) more (Some bytes ∷ answers) next shown =
    let rest = are_read names more answers (λ found. next (bytes ∷ found)) shown in
    record {
      contents = bytes ∷ rest.contents;
      count = ap suc rest.count;
      here = λ next. rest.here (λ found. next (bytes ∷ found));
      again = λ others given next. rest.again others given (λ found. next (bytes ∷ found));
    }

-- two files were read
pub record BothRead (first second : Text) (answers : List (Option (List ℕ))) : Type 0 where
  pub bytes : List ℕ
  pub others : List ℕ
  pub is : (next : List (List ℕ) → Outcome) → with_files (first ∷ second ∷ []) answers next ≡ next (bytes ∷ others ∷ [])

pub both_read : (first second : Text) (answers : List (Option (List ℕ))) (next : List (List ℕ) → Outcome)
    → IsReport (with_files (first ∷ second ∷ []) answers next) → BothRead first second answers
both_read first second [] next shown = absurd (omega (arith, shown))
both_read first second (None ∷ answers) next shown = absurd (omega (arith, shown))
both_read first second (Some bytes ∷ []) next shown = absurd (omega (arith, shown))
both_read first second (Some bytes ∷ None ∷ answers) next shown = absurd (omega (arith, shown))
both_read first second (Some bytes ∷ Some others ∷ answers) next shown = record { bytes = bytes; others = others; is = λ next. refl }

-- ---- modules

pub record AreParsed (language : Language) (names : List Text) (contents : List (List ℕ)) : Type 0 where
  pub top : Forest Statement
  pub is : (rest : List (List ℕ)) (next : Forest Statement → List (List ℕ) → Outcome) → with_modules language names (contents ++ rest) next ≡ next top rest

pub are_parsed : (language : Language) (names : List Text) (contents rest : List (List ℕ)) (next : Forest Statement → List (List ℕ) → Outcome)
    → length contents ≡ length names → IsReport (with_modules language names (contents ++ rest) next) → AreParsed language names contents
are_parsed language [] [] rest next count shown = record { top = end; is = λ rest next. refl }
are_parsed language [] (bytes ∷ contents) rest next count shown = absurd (omega (arith, count))
are_parsed language (name ∷ names) [] rest next count shown = absurd (omega (arith, count))
are_parsed language (name ∷ names) (bytes ∷ contents) rest next count shown =
    by (module_in language bytes) refl (λ top shown. are_parsed language names contents rest (λ below files. next (join top below) files) (omega (arith, count)) shown) shown
  where
    others : (Forest Statement → List (List ℕ) → Outcome) → List (List ℕ) → Forest Statement → Outcome
    others next rest top = with_modules language names (contents ++ rest) (λ below files. next (join top below) files)

    by : (o : Result (Forest Statement) Slip) → module_in language bytes ≡ o
        → ((top : Forest Statement) → IsReport (others next rest top) → AreParsed language names contents)
        → IsReport (with_module name bytes o (others next rest)) → AreParsed language (name ∷ names) (bytes ∷ contents)
    by (Err slip) is inner shown = absurd (omega (arith, shown))
    by (Ok top) is inner shown = let behind = inner top shown in record {
      top = join top behind.top;
      is = λ rest next. ap (λ (o : Result (Forest Statement) Slip). with_module name bytes o (others next rest)) is
          ∙ behind.is rest (λ below files. next (join top below) files);
    }

pub record IsCompiled (language : Language) (names : List Text) (contents : List (List ℕ)) : Type 0 where
  pub top : Forest Statement
  pub schema : Schema
  pub compiles : compiled_in language top ≡ Ok schema
  pub is : (rest : List (List ℕ)) (next : Schema → List (List ℕ) → Outcome) → with_schema language names (contents ++ rest) next ≡ next schema rest

pub is_compiled : (language : Language) (names : List Text) (contents rest : List (List ℕ)) (next : Schema → List (List ℕ) → Outcome)
    → length contents ≡ length names → IsReport (with_schema language names (contents ++ rest) next) → IsCompiled language names contents
is_compiled language names contents rest next count shown =
    by (compiled_in language parsed.top) refl (subst IsReport (parsed.is rest (λ modules files. with_compiled language names (contents ++ rest) modules (compiled_in language modules) (λ schema. next schema files))) shown)
  where
    parsed : AreParsed language names contents
    parsed = are_parsed language names contents rest (λ modules files. with_compiled language names (contents ++ rest) modules (compiled_in language modules) (λ schema. next schema files)) count shown

    by : (o : Result Schema Break) → compiled_in language parsed.top ≡ o → IsReport (with_compiled language names (contents ++ rest) parsed.top o (λ schema. next schema rest)) → IsCompiled language names contents
    by (Err broken) is shown = absurd (omega (arith, shown))
    by (Ok schema) is shown = record {
      top = parsed.top;
      schema = schema;
      compiles = is;
      is = λ rest next.
          parsed.is rest (λ modules files. with_compiled language names (contents ++ rest) modules (compiled_in language modules) (λ schema. next schema files))
          ∙ ap (λ (o : Result Schema Break). with_compiled language names (contents ++ rest) parsed.top o (λ schema. next schema rest)) is;
    }

-- ---- the document

pub record IsFound (o : Result Tree Refusal) : Type 0 where
  pub tree : Tree
  pub is : o ≡ Ok tree

pub is_found : (schema : Schema) (name : Text) (bytes : List ℕ) (o : Result Tree Refusal) (next : Tree → Outcome)
    → IsReport (with_tree schema name bytes o next) → IsFound o
is_found schema name bytes (Err refused) next shown = absurd (omega (arith, shown))
is_found schema name bytes (Ok tree) next shown = record { tree = tree; is = refl }
