-- What reading back what is written rests on of a schema that compiles.
use Rattle.std.proofs.Common.{◌≡◌, ℕ, zero, suc, ◌+◌, ◌≤◌, ◌<◌, true, ◌&&◌, nat_lt, [], ◌∷◌, length, Ok, refl, ◌∙◌, IsUtf8, arith, subst}
use Rattle.std.proofs.lemmas.Bool.{and_parts}
use Rattle.std.proofs.lemmas.Str.{IsUtf8-append, IsUtf8-nil}
use Rattle.std.specs.Prelude.{slice_get}
use Rattle.std.specs.List.{list_all}
use Rattle.std.specs.Option.{option_map_or}
use Rattle.yspec.specs.Forest.{Forest, end, node, size, levels, relabelled}
use Rattle.yspec.specs.text.Text.{Text, continues_identifier, begins_identifier, is_identifier}
use Rattle.yspec.specs.text.Statement.{Statement}
use Rattle.yspec.specs.schema.Breaks.{level_limit, low_level_limit}
use Rattle.yspec.specs.schema.Schema.{Schema, has_anything}
use Rattle.yspec.specs.document.Fitting.{IsNumbered, LeafsAreBare}
use Rattle.yspec.specs.document.Writing.{NamesDiffer}
use Rattle.yspec.specs.linking.Source.{Source, argument_in}
use Rattle.yspec.specs.linking.Parts.{Part}
use Rattle.yspec.specs.linking.Planned.{Plan, Around, at_top, around_below, planned}
use Rattle.yspec.specs.linking.Compiling.{schema_modules}
use Rattle.yspec_wide.specs.Language.{Language}
use Rattle.yspec_wide.specs.Sources.{sources_in}
use Rattle.yspec_wide.specs.Types.{schema_node_in}
use Rattle.yspec_wide.specs.Compiling.{schema_in, compiled_in}
use Rattle.yspec.proofs.BasicLemmas.{ascii_text}
use Rattle.yspec.proofs.LinkingProofs.LinkedLemmas.{relabelled-size, planned-size}
use Rattle.yspec.proofs.LinkingProofs.LinkedTextLemmas.{NodesAreTexts, NamesAreTexts}
use Rattle.yspec_wide_fit.proofs.LegalLemmas.{AreModules, are_modules}
use Rattle.yspec_wide_fit.proofs.SoundLemmas.{Row, elsewhere, row_below, is_choice_part, AreSound}
use Rattle.yspec_wide_fit.proofs.CompilingLemmas.{BreaksNothing, compiles, count_of, plan_of, standing_parts, sound_plan}
use Rattle.yspec_wide_fit.proofs.FitLemmas.{fit_in}

pub record IsReadable (schema : Schema) : Type 0 where
  pub numbered : IsNumbered 0 schema.nodes
  pub differ : NamesDiffer schema
  pub bare : LeafsAreBare schema.nodes
  pub within : levels schema.nodes ≤ level_limit
  pub low : has_anything schema.nodes ≡ true → levels schema.nodes ≤ low_level_limit
  pub texts : NamesAreTexts schema

-- ---- identifiers are UTF-8

byte_small : (c : ℕ) → continues_identifier c ≡ true → c < 128
byte_small c e = grind arith

first_small : (c : ℕ) → begins_identifier c ≡ true → c < 128
first_small c e = grind arith

all_text : (cs : Text) → list_all continues_identifier cs ≡ true → IsUtf8 cs
all_text [] e = IsUtf8-nil
all_text (c ∷ cs) e =
    let parts = and_parts (continues_identifier c) (list_all continues_identifier cs) e in
    IsUtf8-append (c ∷ []) cs (ascii_text c (byte_small c parts.0)) (all_text cs parts.1)

identifier_text : (t : Text) → is_identifier t ≡ true → IsUtf8 t
identifier_text [] e = absurd cc
identifier_text (c ∷ cs) e =
    let parts = and_parts (begins_identifier c) (list_all continues_identifier cs && nat_lt (length cs) 64) e in
    let rest = and_parts (list_all continues_identifier cs) (nat_lt (length cs) 64) parts.1 in
    IsUtf8-append (c ∷ []) cs (ascii_text c (first_small c parts.0)) (all_text cs rest.0)

-- ---- nodes and modules

module _ (language : Language) (plan : Plan) where
  nodes_texts : (count next : ℕ) (around : Around) (r : Row) (f : Forest Part) → AreSound count r f
      → NodesAreTexts (relabelled (schema_node_in language plan) (planned next around f))
  unfolding planned
  nodes_texts count next around r end sound = tt
  nodes_texts count next around r (node p below after) sound = (
    identifier_text (argument_in p.source) sound.1.name,
    nodes_texts count (next + 1) (around_below next around p) (row_below (is_choice_part p)) below sound.2,
    nodes_texts count (next + suc (size below)) around r after sound.3,
  )

  numbered_from : (next : ℕ) (around : Around) (f : Forest Part) → IsNumbered next (relabelled (schema_node_in language plan) (planned next around f))
  unfolding planned
  numbered_from next around end = tt
  numbered_from next around (node p below after) =
      let inner = relabelled (schema_node_in language plan) (planned (next + 1) (around_below next around p) below) in
      let count : size inner ≡ size below = relabelled-size (schema_node_in language plan) (planned (next + 1) (around_below next around p) below)
      ∙ planned-size (next + 1) (around_below next around p) below in (
        refl,
        numbered_from (next + 1) (around_below next around p) below,
        subst (λ (k : ℕ). IsNumbered k (relabelled (schema_node_in language plan) (planned (next + suc (size below)) around after))) (omega (arith, count))
            (numbered_from (next + suc (size below)) around after),
      )

module_text : (plan : Plan) (home i : ℕ) (f : Forest Source) → AreModules home f → IsUtf8 (option_map_or (λ m. m.name) (slice_get (schema_modules plan f) i) [])
module_text plan home i end legal = IsUtf8-nil
module_text plan home zero (node s below after) legal = identifier_text (argument_in s) legal.2
module_text plan home (suc i) (node s below after) legal = module_text plan (home + 1) i after legal.4

names_texts : (language : Language) (modules : Forest Statement) → BreaksNothing language modules → NamesAreTexts (schema_in language modules)
names_texts language modules none = (
  λ i. module_text (plan_of language modules) 0 i (sources_in language modules) (are_modules language 0 modules none.statements 0),
  nodes_texts language (plan_of language modules) (count_of language modules) 0 at_top elsewhere (standing_parts language modules)
      (sound_plan language modules none),
)

-- in any language
pub readable_in : (language : Language) (modules : Forest Statement) (schema : Schema) → compiled_in language modules ≡ Ok schema → IsReadable schema
readable_in language modules schema e =
    let i = compiles language modules schema e in
    let fit = fit_in language modules schema e in
    record {
      numbered = subst (λ (s : Schema). IsNumbered 0 s.nodes) i.is (numbered_from language (plan_of language modules) 0 at_top (standing_parts language modules));
      differ = fit.names_differ;
      bare = fit.bare;
      within = fit.within;
      low = fit.low;
      texts = subst NamesAreTexts i.is (names_texts language modules i.none);
    }
