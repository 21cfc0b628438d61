-- Modules that compile in a language have different names, without colons.
use Rattle.std.proofs.Common.{◌≡◌, ◌≢◌, ℕ, zero, suc, ◌+◌, ◌<◌, false, List, [], ◌∷◌, length, map, refl, sym, ap, ◌∙◌, arith}
use Rattle.std.specs.Prelude.{slice_get, unwrap_or}
use Rattle.std.specs.List.{list_any}
use Rattle.std.specs.Option.{option_map_or}
use Rattle.yspec.specs.Forest.{Forest, end, node}
use Rattle.yspec.specs.text.Text.{Text, is_text}
use Rattle.yspec.specs.text.Statement.{Statement}
use Rattle.yspec.specs.schema.Breaks.{module_breaks}
use Rattle.yspec.specs.schema.Schema.{SchemaModule, argument_text}
use Rattle.yspec.specs.document.Writing.{IsPlain, ModulesDiffer}
use Rattle.yspec.specs.linking.Source.{Source, argument_in}
use Rattle.yspec.specs.linking.Planned.{Plan}
use Rattle.yspec.specs.linking.Compiling.{schema_modules}
use Rattle.yspec.proofs.LinkingProofs.BreakLemmas.{none_first, none_second, unbroken}
use Rattle.yspec.proofs.BasicLemmas.{or_parts, texts_differ}
use Rattle.yspec.proofs.IdentifierLemmas.{identifier_plain}
use Rattle.yspec_wide.specs.Language.{Language}
use Rattle.yspec_wide.specs.StatementBreaks.{top_breaks, breaks_in_from}
use Rattle.yspec_wide.specs.Sources.{sources_in_from, sources_in}
use Rattle.yspec_wide.specs.Compiling.{schema_in}
use Rattle.yspec_wide_fit.proofs.LegalLemmas.{AreModules, is_module, sources_first, are_modules}
use Rattle.yspec_wide_fit.proofs.CompilingLemmas.{plan_of, BreaksNothing}

abbrev names_of : Forest Statement → List Text
names_of end = []
names_of (node s below after) = argument_text s ∷ names_of after

abbrev text_at : List Text → ℕ → Text
text_at names i = unwrap_or (slice_get names i) []

module_names : (language : Language) (plan : Plan) (home number : ℕ) (modules : Forest Statement) → breaks_in_from language home modules ≡ []
    → map (λ m. m.name) (schema_modules plan (sources_in_from language home number modules)) ≡ names_of modules
unfolding sources_in_from breaks_in_from
module_names language plan home number end e = refl
module_names language plan home number (node s below after) e =
    let here = is_module language home s below (none_first (top_breaks language home s below) (breaks_in_from language (home + 1) after) e) in
    ap (λ f. map (λ m. m.name) (schema_modules plan f)) (sources_first language home number s below after here.keyword)
    ∙ ap (λ names. argument_text s ∷ names)
    (module_names language plan (home + 1) _ after (none_second (top_breaks language home s below) (breaks_in_from language (home + 1) after) e))

name_at : (modules : List SchemaModule) (i : ℕ) → option_map_or (λ m. m.name) (slice_get modules i) [] ≡ text_at (map (λ m. m.name) modules) i
name_at [] i = refl
name_at (m ∷ ms) zero = refl
name_at (m ∷ ms) (suc i) = name_at ms i

length_named : (modules : List SchemaModule) → length modules ≡ length (map (λ m. m.name) modules)
length_named [] = refl
length_named (m ∷ ms) = ap suc (length_named ms)

-- a module's name is none of those before
fresh_at : (m i : ℕ) (before : List Text) (modules : Forest Statement) → i < length (names_of modules) → module_breaks m before modules ≡ []
    → list_any (is_text (text_at (names_of modules) i)) before ≡ false
fresh_at m i before end few e = absurd (omega (arith, few))
fresh_at m zero before (node s below after) few e =
    unbroken (list_any (is_text (argument_text s)) before) 7 m s.line (none_first _ (module_breaks (m + 1) (argument_text s ∷ before) after) e)
fresh_at m (suc i) before (node s below after) few e =
    let name = text_at (names_of after) i in
    (or_parts (is_text name (argument_text s)) (list_any (is_text name) before)
    (fresh_at (m + 1) i (argument_text s ∷ before) after (omega (arith, few)) (none_second _ (module_breaks (m + 1) (argument_text s ∷ before) after) e))).1

-- the first module's name is none of the later ones'
first_apart : (m i : ℕ) (before : List Text) (s : Statement) (after : Forest Statement) → i < length (names_of after)
    → module_breaks m (argument_text s ∷ before) after ≡ [] → text_at (names_of after) i ≢ argument_text s
first_apart m i before s after few e =
    let name = text_at (names_of after) i in
    texts_differ name (argument_text s) (or_parts (is_text name (argument_text s)) (list_any (is_text name) before) (fresh_at m i (argument_text s ∷ before) after few e)).0

names_once : (m i j : ℕ) (before : List Text) (modules : Forest Statement) → i < length (names_of modules) → j < length (names_of modules)
    → module_breaks m before modules ≡ [] → text_at (names_of modules) i ≡ text_at (names_of modules) j → i ≡ j
names_once m i j before end here there e same = absurd (omega (arith, here))
names_once m zero zero before (node s below after) here there e same = refl
names_once m zero (suc j) before (node s below after) here there e same =
    absurd (first_apart (m + 1) j before s after (omega (arith, there)) (none_second _ (module_breaks (m + 1) (argument_text s ∷ before) after) e) (sym same))
names_once m (suc i) zero before (node s below after) here there e same =
    absurd (first_apart (m + 1) i before s after (omega (arith, here)) (none_second _ (module_breaks (m + 1) (argument_text s ∷ before) after) e) same)
names_once m (suc i) (suc j) before (node s below after) here there e same =
    ap suc (names_once (m + 1) i j (argument_text s ∷ before) after (omega (arith, here)) (omega (arith, there))
    (none_second _ (module_breaks (m + 1) (argument_text s ∷ before) after) e) same)

plain_at : (plan : Plan) (home i : ℕ) (f : Forest Source) → AreModules home f → i < length (schema_modules plan f)
    → IsPlain (option_map_or (λ m. m.name) (slice_get (schema_modules plan f) i) [])
plain_at plan home i end legal few = absurd (omega (arith, few))
plain_at plan home zero (node s below after) legal few = identifier_plain (argument_in s) legal.2
plain_at plan home (suc i) (node s below after) legal few = plain_at plan (home + 1) i after legal.4 (omega (arith, few))

pub modules_differ : (language : Language) (modules : Forest Statement) → BreaksNothing language modules → ModulesDiffer (schema_in language modules)
modules_differ language modules none i j here there =
    let sources = sources_in language modules in
    let plan = plan_of language modules in
    let names = module_names language plan 0 0 modules none.statements in
    let count : length (schema_modules plan sources) ≡ length (names_of modules) = length_named (schema_modules plan sources) ∙ ap length names in
    let first = name_at (schema_modules plan sources) i ∙ ap (λ ns. text_at ns i) names in
    let second = name_at (schema_modules plan sources) j ∙ ap (λ ns. text_at ns j) names in (
      plain_at plan 0 i sources (are_modules language 0 modules none.statements 0) here,
      λ same. names_once 0 i j [] modules (omega (arith, count, here)) (omega (arith, count, there)) none.module_names (sym first ∙ (same ∙ second)),
    )
