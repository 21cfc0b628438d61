-- Versions of modules by their names, and imports where all modules are of one version.
use Rattle.std.proofs.Common.{◌≡◌, ℕ, Bool, true, false, cond, ◌&&◌, ◌++◌, List, [], ◌∷◌, Option, Some, None, is_some, option_map, refl, sym, ap, ap₂, ◌∙◌}
use Rattle.std.specs.Prelude.{find, not}
use Rattle.std.specs.List.{flat_map}
use Rattle.std.specs.Option.{option_map_or}
use Rattle.yspec.specs.Forest.{Forest, node, row, first_of}
use Rattle.yspec.specs.text.Text.{Text, is_text}
use Rattle.yspec.specs.linking.Imports.{module_called}
use Rattle.yspec.specs.linking.Keyword as word
use Rattle.yspec.specs.linking.Scopes.{Placed, statements_of}
use Rattle.yspec.specs.linking.Source.{Source, is_source_of, argument_in, argument_with}
use Rattle.yspec.specs.schema.Breaks.{broken, when}
use Rattle.yspec_wide.specs.Language.{Language, YangVersion, is_yang_1, version_of, yang_1_1}
use Rattle.yspec_wide.specs.VersionBreaks.{version_import_break, version_import_breaks}
use Rattle.yspec_wide.proofs.CoreLinkingLemmas.{when_never}

-- ---- the first of each name

module _ {V W : Type 0} (see : V → W) (says : ℕ → W) where
  abbrev called : Forest Source → Text → Option W
  called among name = option_map says (module_called among name)

  pub next_called : (old new : Option V) (v : V) (argument name : Text) (s : Source) (below after before : Forest Source) (whole : Option W)
      → before ≡ node s below after → new ≡ first_of old (cond (is_text argument name) (Some v) None) → argument ≡ argument_in s → see v ≡ says s.home
      → first_of (option_map see old) (called before name) ≡ whole → first_of (option_map see new) (called after name) ≡ whole
  next_called old new v argument name s below after before whole first added argument_is version_is so_far =
      ap (λ o. first_of (option_map see o) (called after name)) (added ∙ ap (λ a. first_of old (cond (is_text a name) (Some v) None)) argument_is)
      ∙ (by old (is_text (argument_in s) name)
      ∙ (sym (ap (λ f. first_of (option_map see old) (called f name)) first) ∙ so_far))
    where
      others : Option Source
      others = find (λ r. is_text (argument_in r) name) (row after)

      by : (o : Option V) (b : Bool) → first_of (option_map see (first_of o (cond b (Some v) None))) (option_map says (option_map (λ (r : Source). r.home) others))
          ≡ first_of (option_map see o) (option_map says (option_map (λ (r : Source). r.home) (cond b (Some s) others)))
      by (Some x) b = refl
      by None true = ap Some version_is
      by None false = refl

pub later_called : (says : ℕ → YangVersion) (held : Option YangVersion) (found : Option ℕ) → held ≡ option_map says found
    → option_map_or (λ v. not (is_yang_1 v)) held false ≡ option_map_or (λ m. not (is_yang_1 (says m))) found false
later_called says held found is = ap (λ o. option_map_or (λ v. not (is_yang_1 v)) o false) is ∙ by found
  where
    by : (o : Option ℕ) → option_map_or (λ v. not (is_yang_1 v)) (option_map says o) false ≡ option_map_or (λ m. not (is_yang_1 (says m))) o false
    by None = refl
    by (Some m) = refl

-- ---- where all modules are of YANG 1.1

module _ (language : Language) (modules : Forest Source) (later : (home : ℕ) → yang_1_1 ≡ version_of language modules home) where
  none_here : (p : Placed) → version_import_break language modules p ≡ []
  none_here p =
      let is_import = is_source_of word.import_word p.source in
      let others = is_some (argument_with word.revision_date_word p.below)
      && option_map_or (λ m. not (is_yang_1 (version_of language modules m))) (module_called modules (argument_in p.source)) false in
      let told = broken 5 p.source.home p.source.statement.line in
      ap (λ v. when (is_import && (is_yang_1 v && others)) told) (sym (later p.source.home)) ∙ when_never is_import told

  none_of : (ps : List Placed) → flat_map (version_import_break language modules) ps ≡ []
  none_of [] = refl
  none_of (p ∷ ps) = ap₂ (λ here others. here ++ others) (none_here p) (none_of ps)

  pub no_later_imports : version_import_breaks language modules ≡ []
  no_later_imports = none_of (statements_of modules)
