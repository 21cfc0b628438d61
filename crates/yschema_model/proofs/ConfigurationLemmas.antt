-- Slots that ask of configuration alone lie as those do that they are made of, and their nodes are found as before.
use Rattle.std.proofs.Common.{◌≡◌, ℕ, zero, suc, ◌+◌, Bool, true, false, cond, ◌&&◌, List, [], ◌∷◌, ◌++◌, map, filter, length, take, drop, Option, Some, None, refl, sym, ap, ap₂, ◌∙◌}
use mathlib.Core.Logic.{∥∥₁_map}
use Rattle.std.specs.Prelude.{◌==◌}
use Rattle.std.specs.List.{list_any}
use Rattle.std.specs.Option.{option_eq}
use Rattle.std.proofs.lemmas.List.{map-append}
use Rattle.yspec.specs.Forest.{Forest, end, node, relabelled}
use Rattle.yspec.specs.schema.Configuration.{unasked, asked_node, configuration_schema}
use Rattle.yspec.specs.schema.References.{refers_to, targets_in}
use Rattle.yspec.specs.schema.Schema.{Schema, SchemaNode, Kind, container, leaf, leaf_list, list, choice, case, is_called}
use Rattle.yspec_fit.specs.Fit.{IsFit}
use Rattle.yspec_fit.proofs.ConfigurationLemmas.{data_kept, kept_by}
use Rattle.yspec_fit.proofs.FitLemmas.{configuration_is_fit}
use Rattle.yspec.proofs.LinkingProofs.LinkedLemmas.{relabelled-size}
use Rattle.ybase_index.specs.Names.{ascends, found_by, number_among, text_in}
use Rattle.ybase_index.specs.declared.keys.Among.TheVariants.{Children, DataNodes}
use Rattle.yschema_model.specs.declared.children.Slot.{Slot}
use Rattle.yschema_model.specs.declared.index.Index.{Index}
use Rattle.yschema_model.specs.declared.references.References.{References}
use Rattle.yschema_model.specs.declared.schema.SchemaModule.{SchemaModule}
use Rattle.yschema_model.specs.Configuration.{asked_place, AreAsked}
use Rattle.yschema_model.specs.Layout.{Place, data_at, data_places, laid, place_of, places, schema_view, IsLaidOut}
use Rattle.yschema_model.specs.Lookup.{first_below, is_data_called, names_in, FindsNamed, FindsWritten}
use Rattle.yschema_model.specs.References.{referring, FindsReferences}
use Rattle.yschema_model.specs.View.{forest_of, forest_within}

-- ---- one slot more

pub asked_push : (slots asked : List Slot) (r s : Slot) → AreAsked slots asked → place_of 0 s ≡ asked_place (place_of 0 r) → AreAsked (slots ++ r ∷ []) (asked ++ s ∷ [])
asked_push slots asked r s e here =
    map-append (place_of 0) asked (s ∷ [])
    ∙ (ap₂ (λ ps p. ps ++ p ∷ []) e here
    ∙ sym (ap (map asked_place) (map-append (place_of 0) slots (r ∷ []))
    ∙ map-append asked_place (map (place_of 0) slots) (place_of 0 r ∷ [])))

-- ---- what a node keeps

unasked-target : (k : Kind) → targets_in (unasked k) ≡ targets_in k
unasked-target (container presence) = refl
unasked-target (leaf type absence) = refl
unasked-target (leaf_list type defaults amount) = refl
unasked-target (list tuples amount) = refl
unasked-target (choice default_case is_mandatory) = refl
unasked-target case = refl

asked-refers : (target : ℕ) (n : SchemaNode) → refers_to target (asked_node n) ≡ refers_to target n
asked-refers target n = ap (list_any (λ t. t == target)) (kept_by targets_in unasked-target n)

-- ---- rows of nodes

places-asked : (parent : Option ℕ) (f : Forest SchemaNode) → places parent (relabelled asked_node f) ≡ map asked_place (places parent f)
places-asked parent end = refl
places-asked parent (node l below after) =
    ap₂ (λ n ps. record { parent = parent; label = asked_node l; below = n } ∷ ps) (relabelled-size asked_node below)
    (ap₂ (λ ps qs. ps ++ qs) (places-asked (Some l.number) below) (places-asked parent after)
    ∙ sym (map-append asked_place (places (Some l.number) below) (places parent after)))

data_at-asked : (above : Option ℕ) (n : SchemaNode) → data_at above (asked_node n) ≡ data_at above n
data_at-asked above n = ap (λ b. cond b (Some n.number) above) (data_kept n)

data_places-asked : (above : Option ℕ) (f : Forest SchemaNode) → data_places above (relabelled asked_node f) ≡ map asked_place (data_places above f)
data_places-asked above end = refl
data_places-asked above (node l below after) =
    ap₂ (λ n ps. record { parent = above; label = asked_node l; below = n } ∷ ps) (relabelled-size asked_node below)
    (ap₂ (λ ps qs. ps ++ qs)
    (ap (λ o. data_places o (relabelled asked_node below)) (data_at-asked above l) ∙ data_places-asked (data_at above l) below)
    (data_places-asked above after)
    ∙ sym (map-append asked_place (data_places (data_at above l) below) (data_places above after)))

-- ---- slots, one by one

asked_parts : (r s : Slot) (slots asked : List Slot) → AreAsked (r ∷ slots) (s ∷ asked) → (place_of 0 s ≡ asked_place (place_of 0 r)) × AreAsked slots asked
asked_parts r s slots asked e = (cc, cc)

numbered : ℕ → Place → Place
numbered k p = record p { label = record p.label { number = k } }

at_number : (k : ℕ) (r s : Slot) → place_of 0 s ≡ asked_place (place_of 0 r) → place_of k s ≡ asked_place (place_of k r)
unfolding numbered
at_number k r s e = ap (numbered k) e

pub length-asked : (slots asked : List Slot) → AreAsked slots asked → length asked ≡ length slots
length-asked [] [] e = refl
length-asked [] (s ∷ asked) e = absurd cc
length-asked (r ∷ slots) [] e = absurd cc
length-asked (r ∷ slots) (s ∷ asked) e = ap suc (length-asked slots asked (asked_parts r s slots asked e).1)

take-asked : (n : ℕ) (slots asked : List Slot) → AreAsked slots asked → AreAsked (take n slots) (take n asked)
take-asked zero slots asked e = refl
take-asked (suc n) [] [] e = refl
take-asked (suc n) [] (s ∷ asked) e = absurd cc
take-asked (suc n) (r ∷ slots) [] e = absurd cc
take-asked (suc n) (r ∷ slots) (s ∷ asked) e =
    let parts = asked_parts r s slots asked e in ap₂ (λ p ps. p ∷ ps) parts.0 (take-asked n slots asked parts.1)

drop-asked : (n : ℕ) (slots asked : List Slot) → AreAsked slots asked → AreAsked (drop n slots) (drop n asked)
drop-asked zero slots asked e = e
drop-asked (suc n) [] [] e = refl
drop-asked (suc n) [] (s ∷ asked) e = absurd cc
drop-asked (suc n) (r ∷ slots) [] e = absurd cc
drop-asked (suc n) (r ∷ slots) (s ∷ asked) e = drop-asked n slots asked (asked_parts r s slots asked e).1

laid-asked : (k : ℕ) (slots asked : List Slot) → AreAsked slots asked → laid k asked ≡ map asked_place (laid k slots)
laid-asked k [] [] e = refl
laid-asked k [] (s ∷ asked) e = absurd cc
laid-asked k (r ∷ slots) [] e = absurd cc
laid-asked k (r ∷ slots) (s ∷ asked) e =
    let parts = asked_parts r s slots asked e in
    ap₂ (λ p ps. p ∷ ps) (at_number k r s parts.0) (laid-asked (k + 1) slots asked parts.1)

names-asked : (slots asked : List Slot) → AreAsked slots asked → names_in asked ≡ names_in slots
names-asked [] [] e = refl
names-asked [] (s ∷ asked) e = absurd cc
names-asked (r ∷ slots) [] e = absurd cc
names-asked (r ∷ slots) (s ∷ asked) e =
    let parts = asked_parts r s slots asked e in
    ap₂ (λ n ns. n ∷ ns) (ap (λ (p : Place). p.label.name) parts.0) (names-asked slots asked parts.1)

forest_within-asked : (n k : ℕ) (slots asked : List Slot) → AreAsked slots asked → forest_within n k asked ≡ relabelled asked_node (forest_within n k slots)
unfolding forest_within
forest_within-asked zero k slots asked e = refl
forest_within-asked (suc n) k [] [] e = refl
forest_within-asked (suc n) k [] (s ∷ asked) e = absurd cc
forest_within-asked (suc n) k (r ∷ slots) [] e = absurd cc
forest_within-asked (suc n) k (r ∷ slots) (s ∷ asked) e =
    let parts = asked_parts r s slots asked e in
    let front = take-asked r.below slots asked parts.1 in
    ap (λ b. node (place_of k s).label (forest_within n (k + 1) (take b asked)) (forest_within n (k + 1 + length (take b asked)) (drop b asked)))
    (ap (λ (p : Place). p.below) parts.0)
    ∙ (ap (λ m. node (place_of k s).label (forest_within n (k + 1) (take r.below asked)) (forest_within n (k + 1 + m) (drop r.below asked)))
    (length-asked (take r.below slots) (take r.below asked) front)
    ∙ (ap (λ (p : Place). node p.label (forest_within n (k + 1) (take r.below asked)) (forest_within n (k + 1 + length (take r.below slots)) (drop r.below asked)))
    (at_number k r s parts.0)
    ∙ ap₂ (node (asked_node (place_of k r).label))
    (forest_within-asked n (k + 1) (take r.below slots) (take r.below asked) front)
    (forest_within-asked n (k + 1 + length (take r.below slots)) (drop r.below slots) (drop r.below asked) (drop-asked r.below slots asked parts.1))))

forest_of-asked : (slots asked : List Slot) → AreAsked slots asked → forest_of 0 asked ≡ relabelled asked_node (forest_of 0 slots)
forest_of-asked slots asked e =
    ap (λ n. forest_within n 0 asked) (length-asked slots asked e) ∙ forest_within-asked (length slots) 0 slots asked e

-- ---- what a schema knows of its slots

pub asked_laid_out : (slots asked : List Slot) → AreAsked slots asked → IsLaidOut slots → IsLaidOut asked
asked_laid_out slots asked e laid_out =
    laid-asked 0 slots asked e
    ∙ (ap (map asked_place) laid_out
    ∙ (sym (places-asked None (forest_of 0 slots))
    ∙ ap (places None) (sym (forest_of-asked slots asked e))))

first_below-asked : (parent : Option ℕ) (test : SchemaNode → Bool) → ((n : SchemaNode) → test (asked_node n) ≡ test n)
    → (ps : List Place) → first_below parent test (map asked_place ps) ≡ first_below parent test ps
first_below-asked parent test same [] = refl
first_below-asked parent test same (p ∷ ps) =
    ap₂ (λ b o. cond (option_eq (λ m n. m == n) parent p.parent && b) (Some p.label.number) o) (same p.label) (first_below-asked parent test same ps)

pub asked_named : (x : Index) (slots asked : List Slot) → AreAsked slots asked → FindsNamed x slots → FindsNamed x asked
asked_named x slots asked e finds =
    let names = names-asked slots asked e in (
      ap (λ ns. ascends (text_in ns) x.names.items) names ∙ finds.0,
      λ parent m name. ap (λ ns. found_by (number_among (text_in ns) x.names.items) x.nodes Children parent m name) names
          ∙ (finds.1 parent m name
          ∙ sym (ap (first_below parent (is_called m name)) (laid-asked 0 slots asked e)
          ∙ first_below-asked parent (is_called m name) (λ n. refl) (laid 0 slots))),
    )

pub asked_written : (x : Index) (slots asked : List Slot) → AreAsked slots asked
    → FindsWritten x slots (data_places None (forest_of 0 slots)) → FindsWritten x asked (data_places None (forest_of 0 asked))
asked_written x slots asked e finds above m name =
    ap (λ ns. found_by (number_among (text_in ns) x.names.items) x.nodes DataNodes above m name) (names-asked slots asked e)
    ∙ (finds above m name
    ∙ sym (ap (λ f. first_below above (is_data_called m name) (data_places None f)) (forest_of-asked slots asked e)
    ∙ (ap (first_below above (is_data_called m name)) (data_places-asked None (forest_of 0 slots))
    ∙ first_below-asked above (is_data_called m name) (λ n. ap (λ b. b && is_called m name n) (data_kept n)) (data_places None (forest_of 0 slots)))))

referring-asked : (target : ℕ) (ps : List Place) → referring target (map asked_place ps) ≡ referring target ps
referring-asked target [] = refl
referring-asked target (p ∷ ps) =
    ap (λ b. map (λ (q : Place). q.label.number) (cond b (asked_place p ∷ filter (λ (q : Place). refers_to target q.label) (map asked_place ps)) (filter (λ (q : Place). refers_to target q.label) (map asked_place ps))))
    (asked-refers target p.label)
    ∙ by (refers_to target p.label) (referring-asked target ps)
  where
    by : (b : Bool) → referring target (map asked_place ps) ≡ referring target ps → map (λ (q : Place). q.label.number) (cond b (asked_place p ∷ filter (λ (q : Place). refers_to target q.label) (map asked_place ps)) (filter (λ (q : Place). refers_to target q.label) (map asked_place ps)))
        ≡ map (λ (q : Place). q.label.number) (cond b (p ∷ filter (λ (q : Place). refers_to target q.label) ps) (filter (λ (q : Place). refers_to target q.label) ps))
    by true h = ap (λ ns. p.label.number ∷ ns) h
    by false h = h

pub asked_referred : (x : References) (slots asked : List Slot) → AreAsked slots asked → FindsReferences x (laid 0 slots) → FindsReferences x (laid 0 asked)
asked_referred x slots asked e finds target =
    finds target ∙ sym (ap (referring target) (laid-asked 0 slots asked e) ∙ referring-asked target (laid 0 slots))

-- ---- the schema

pub asked_view : (modules : List SchemaModule) (slots asked : List Slot) → AreAsked slots asked → schema_view modules asked ≡ configuration_schema (schema_view modules slots)
asked_view modules slots asked e = ap (λ f. record (schema_view modules slots) { nodes = f }) (forest_of-asked slots asked e)

pub configuration_fit : (s : Schema) → ∥ IsFit s ∥₁ → ∥ IsFit (configuration_schema s) ∥₁
configuration_fit s fit = ∥∥₁_map fit (configuration_is_fit s)
