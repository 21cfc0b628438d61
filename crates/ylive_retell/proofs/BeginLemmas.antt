-- An empty document is told of once what isn't stored at its top is.
use Rattle.std.proofs.Common.{◌≡◌, ℕ, suc, ◌+◌, ◌-◌, ◌^◌, ◌≤◌, true, List, [], ◌∷◌, length, Option, Some, None, option_map, refl, sym, ap, ◌∙◌, arith, subst}
use Rattle.std.specs.Prelude.{IfSome, count_by}
use Rattle.std.specs.Option.{option_map_or}
use Rattle.std.proofs.lemmas.Option.{none-some}
use Rattle.std.proofs.lemmas.List.Sums.{count_by-le-length}
use Rattle.yspec.specs.Forest.{end, size}
use Rattle.yspec.specs.schema.Schema.{Schema, row_at}
use Rattle.yspec.specs.types.Types.{Val}
use Rattle.yspec.specs.document.Document.{instances_in}
use Rattle.yspec.specs.document.Instances.{times_below, times_in}
use Rattle.ycheck.specs.declared.fault.FaultCode.{FaultCode}
use Rattle.yschema_model.specs.declared.node.SchemaId.{SchemaId}
use Rattle.ystore.specs.Held.{Held, Told, nothing_held, with_play}
use Rattle.ystore.specs.Store.{held_at, holders_at, instances_at, same_key}
use Rattle.ystore_rows.specs.declared.row.Row.{Row}
use Rattle.ystore_rows.specs.declared.row.Row.TheVariants.{Top, Below}
use Rattle.ystore.specs.declared.key.Key as rust
use Rattle.ystore.specs.declared.key.Key.TheVariants.{Value}
use Rattle.ystore.specs.declared.nodes.Nodes.{Nodes}
use Rattle.ystore_tree.specs.Hanging.{Branches, Keeps, tree_of}
use Rattle.ystore_tree.specs.Parts.{OnlyReads}
use Rattle.ystore_tree.proofs.FrameLemmas.{keeps_same}
use Rattle.ystore_tree.proofs.OpenLemmas.{keeps_nothing}
use Rattle.yspec_play.specs.Absences.{Default, is_default}
use Rattle.yspec_play.proofs.AbsenceLemmas.{few_absences}
use Rattle.ylive_facts.specs.Given.{given_view}
use Rattle.ylive_facts.specs.InPlay.{absence_views}
use Rattle.ylive_marks.specs.Keys.{Agrees, Keys}
use Rattle.ylive_marks.specs.Totals.{ChangesTold, IsFew, IsTree, StandsIn, Totals, number_of, told_at}
use Rattle.ylive_marks.proofs.AgreeLemmas.{agrees_empty, agrees_play}
use Rattle.ylive_marks.proofs.LawLemmas.{faults_shapes, silent_document, tree_kept}
use Rattle.ylive_retell.specs.Bare.{IsBare}
use Rattle.ylive_retell.specs.Empty.{IsEmpty}
use Rattle.ylive_retell.specs.Few.{HasFewDefaults}
use Rattle.ylive_retell.specs.Growing.{AreThere, Grows, times_valued}
use Rattle.ylive_retell.specs.IsTold.{IsTold}
use Rattle.ylive_retell.specs.Joins.{Follows, KeepsRows}
use Rattle.ylive_retell.specs.Standing.{Every, absences_in_row, defaults_in_row}
use Rattle.ylive_retell.proofs.AgainLemmas.{play_by}
use Rattle.ylive_retell.proofs.BareLemmas.{bare_still, bare_with_play}
use Rattle.ylive_retell.proofs.FewLemmas.{few_in_use}
use Rattle.ylive_retell.proofs.GrownLemmas.{grown_keeps}
use Rattle.ylive_retell.proofs.InstanceLemmas.{valued_is, valued_none}
use Rattle.ylive_retell.proofs.JoiningLemmas.{shapes_of, tree_on}
use Rattle.ylive_retell.proofs.PlanLemmas.{keeps_read}
use Rattle.ylive_retell.proofs.SwappedLemmas.{IsReferred, all_referred}
use Rattle.ylive_retell.proofs.ValueLemmas.{in_use}
use Rattle.ylive_retell.proofs.WholeLemmas.{length_views}

length_given : (ps : List (SchemaId × Val)) → length (given_view ps) ≡ length ps
length_given [] = refl
length_given (p ∷ ps) = ap suc (length_given ps)

module _ (schema : Schema) (start read ready added last : Nodes) (empty : IsEmpty start) (reads : OnlyReads start read) (grows : Grows read ready)
    (added_kept : KeepsRows ready added) (play : List (FaultCode × SchemaId)) (plays : ChangesTold Top (with_play play) added last) where
  keeps_ready : Keeps ready end Top end
  keeps_ready =
      grown_keeps read ready grows end Top end (keeps_read start read end Top end reads (keeps_nothing start empty.top empty.count))

  pub keeps_begun : Keeps last end Top end
  keeps_begun =
      keeps_same added last (faults_shapes added last plays.kept) end Top end (keeps_same ready added (shapes_of ready added added_kept) end Top end keeps_ready)

  tree_ready : IsTree ready end
  tree_ready = tree_kept ready end Top end keeps_ready

  held_ready : (row : Row) → held_at ready row ≡ held_at start row
  held_ready row = grows.held row ∙ reads.held row

  told_top : told_at ready Top ≡ Some nothing_held.told
  told_top = ap (option_map (λ (h : Held). h.told)) (held_ready Top ∙ empty.top)

  no_holders : (key : rust.Key) → holders_at ready key ≡ []
  no_holders key = grows.holders key ∙ ap (λ o. option_map_or (λ e. e.nodes) o []) (reads.entries key ∙ empty.index key)

  no_instances : (key : rust.Key) → instances_at ready key ≡ 0
  no_instances key = grows.instances key ∙ ap (λ o. option_map_or (λ e. e.instances) o 0) (reads.entries key ∙ empty.index key)

  abbrev none : Keys
  none number slot = None

  agrees_ready : Agrees ready none end
  agrees_ready = agrees_empty ready end no_holders (λ id more. absurd (omega (arith, more)))

  totals_ready : Totals ready end
  totals_ready =
      silent_document ready end (λ id more. absurd (omega (arith, more)))
      (ap (λ o. option_map_or number_of o 0) told_top) (ap (λ o. option_map_or (λ (h : Held). h.total) o 0) (held_ready Top ∙ empty.top))
      (record { few = omega arith; each = each })
    where
      each : (row : Row) → IfSome (told_at ready row) IsFew
      each Top = subst (λ o. IfSome o IsFew) (sym told_top) (omega arith, omega arith)
      each (Below id) = subst (λ o. IfSome o IsFew) (sym (ap (option_map (λ (h : Held). h.told)) (held_ready (Below id) ∙ empty.none_below id))) tt

  module _ (values : List (SchemaId × Val)) (is_values : given_view values ≡ defaults_in_row schema None end)
      (is_play : absence_views play ≡ absences_in_row schema None end) (few : HasFewDefaults schema) (few_rows : (o : Option ℕ) → size (row_at schema o) ≤ 2 ^ 32)
      (there : AreThere ready values)
      (add_follows : (held : Keys) (f : Branches) → IsTree ready f → Agrees ready held f → Totals ready f → Follows held f ready added)
      (add_instances : AreThere ready values → ((key : rust.Key) → instances_at ready key + times_valued key values ≤ 2 ^ 64 - 1)
      → (key : rust.Key) → instances_at added key ≡ instances_at ready key + times_valued key values)
      (play_totals : (f : Branches) → IsTree added f → Totals added f → StandsIn Top f → length play ≤ 2 ^ 32 → Totals last f) where
    follows : Follows none end ready added
    follows = add_follows none end tree_ready agrees_ready totals_ready

    few_absent : length play ≤ 2 ^ 32
    few_absent =
        let views = ap length is_play in
        let same = length_views play in
        let most = few_absences (row_at schema None) (instances_in (tree_of end)) [] in
        let rows = few_rows None in
        omega (arith, views, same, most, rows)

    few_values : (key : rust.Key) → times_valued key values ≤ 2 ^ 32
    few_values key =
        let most = count_by-le-length (λ (p : SchemaId × Val). same_key (Value p.0 p.1) key) values in
        let views = ap length is_values in
        let same = length_given values in
        let used = few_in_use schema few None end in
        omega (arith, most, views, same, used)

    instances : (key : rust.Key) → instances_at last key ≡ times_valued key values
    instances key =
        let kept = ap (λ o. option_map_or (λ e. e.instances) o 0) (plays.kept.entries key) in
        let more = add_instances there (λ k. let zero = no_instances k in let most = few_values k in omega (arith, zero, most)) key in
        let zero = no_instances key in
        omega (arith, kept, more, zero)

    top_there : (o : Option Told) → o ≡ Some nothing_held.told → option_map_or (λ (t : Told). t.play) (option_map (with_play play) o) [] ≡ play
    top_there (Some t) e = refl
    top_there None e = absurd (none-some nothing_held.told e)

    bare_ready : IsBare ready
    bare_ready = record { judged = ap (option_map (λ (t : Told). t.judged)) told_top; same = ap (option_map (λ (t : Told). t.same)) told_top }

    pub told_begun : IsTold schema last end
    told_begun =
        record {
          held = none;
          keyed = tt;
          agrees = agrees_play added last none end Top play plays follows.agrees;
          values = λ key number v sees refers.
              instances key
              ∙ (valued_is key number v sees values
              ∙ (ap (λ (ds : List Default). count_by (is_default number v) ds) is_values ∙ (in_use schema number v refers None end ∙ whole number v)));
          bare = bare_with_play added last true play plays.changed (bare_still ready added follows.top bare_ready);
          top =
              ap absence_views
              (play_by (held_at last Top)
              ∙ (ap (λ o. option_map_or (λ (t : Told). t.play) o []) plays.changed ∙ top_there (told_at added Top) (follows.top ∙ told_top)))
              ∙ is_play;
          others = λ key off.
              instances key
              ∙ valued_none schema key off values (subst (λ (ds : List Default). Every (IsReferred schema) ds) (sym is_values) (all_referred schema _));
          few = few;
          each = tt;
          totals = play_totals end (tree_on ready added end (shapes_of ready added added_kept) tree_ready) follows.totals tt few_absent;
        }
      where
        whole : (number : ℕ) (v : Val) → times_below schema number v (row_at schema None) end ≡ times_in schema end number v
        whole number v = omega arith
