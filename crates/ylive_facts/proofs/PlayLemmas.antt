-- What is in play in a row, node by node.
use Rattle.std.proofs.Common.{◌≡◌, ℕ, ◌+◌, ◌<◌, ◌≤◌, Bool, true, false, cond, ltb, List, [], ◌∷◌, ◌++◌, map, drop, length, get_or, Option, Some, None, refl, sym, ap, ap₂, ◌∙◌, append_assoc}
use Rattle.std.proofs.Math.Path.{fun_ext}
use Rattle.std.proofs.lemmas.List.{append-nil, at_drop_more, at_drop_all}
use Rattle.std.proofs.lemmas.List.Elements.{filter-append}
use Rattle.yspec.specs.Forest.{Forest, end, node}
use Rattle.yspec.specs.types.Types.{Val}
use Rattle.yspec.specs.schema.Schema.{Schema, SchemaNode, Kind, container, leaf, leaf_list, list, choice, case, is_data, row_at}
use Rattle.yspec.specs.document.Document.{instances_in}
use Rattle.yspec.specs.document.Play.{cases, stored_cases, or_default, stored_inside, is_among}
use Rattle.yspec_play.specs.Absences.{Absent, Default, choice_told, absences_in, node_absences, defaults_in, node_defaults}
use Rattle.yspec_play.specs.Over.{told_over, used_over}
use Rattle.ystore.specs.Store.{children_at}
use Rattle.ystore_rows.specs.declared.row.Row.{Row}
use Rattle.ystore.specs.declared.nodes.Nodes.{Nodes}
use Rattle.ystore_tree.specs.Hanging.{Branches, Hangs, tree_of}
use Rattle.ystore_tree.proofs.FoundLemmas.{counted}
use Rattle.ylive_facts.specs.Rows.{count_in}
use Rattle.ylive_facts.specs.declared.play.InPlay.{InPlay}
use Rattle.ylive_facts.specs.Given.{given_view, referred, is_referred}
use Rattle.ylive_facts.specs.InPlay.{Gains, FindsRow, FindsNode, FindsAbsent, absence_views, told_at, used_at, wrong_amount, absent_told, absent_used}

-- ---- what is found in turn

pub referred_both : (s : Schema) (f g : List Default) → referred s (f ++ g) ≡ referred s f ++ referred s g
referred_both s f g = filter-append (λ (d : Default). is_referred s d.0) f g

pub gains_none : (p : InPlay) → Gains p p [] []
gains_none p =
    record { absences = sym (append-nil (absence_views p.absences.items)); defaults = sym (append-nil (given_view p.defaults.items)) }

pub gains_same : (p q : InPlay) (t u : List Absent) (d e : List Default) → t ≡ u → d ≡ e → Gains p q t d → Gains p q u e
gains_same p q t u d e told used gains =
    record {
      absences = gains.absences ∙ ap (λ x. absence_views p.absences.items ++ x) told;
      defaults = gains.defaults ∙ ap (λ x. given_view p.defaults.items ++ x) used;
    }

pub gains_both : (p q r : InPlay) (t u : List Absent) (d e : List Default) → Gains p q t d → Gains q r u e → Gains p r (t ++ u) (d ++ e)
gains_both p q r t u d e first second =
    record {
      absences = second.absences ∙ (ap (λ x. x ++ u) first.absences ∙ append_assoc (absence_views p.absences.items) t u);
      defaults = second.defaults ∙ (ap (λ x. x ++ e) first.defaults ∙ append_assoc (given_view p.defaults.items) d e);
    }

-- ---- a row

-- what was found with what is in play of the nodes that are left
pub record RowLeft (s : Schema) (stored : ℕ → ℕ) (chosen : List ℕ) (f left : Forest SchemaNode) (start now : InPlay) : Type 0 where
  pub absences : absence_views now.absences.items ++ absences_in stored chosen left ≡ absence_views start.absences.items ++ absences_in stored chosen f
  pub defaults : given_view now.defaults.items ++ referred s (defaults_in stored chosen left) ≡ given_view start.defaults.items ++ referred s (defaults_in stored chosen f)

pub row_begins : (s : Schema) (stored : ℕ → ℕ) (chosen : List ℕ) (f : Forest SchemaNode) (start : InPlay) → RowLeft s stored chosen f f start start
row_begins s stored chosen f start = record { absences = refl; defaults = refl }

pub row_next : (s : Schema) (stored : ℕ → ℕ) (chosen : List ℕ) (f left after below : Forest SchemaNode) (n : SchemaNode) (start now next : InPlay)
    → left ≡ node n below after → FindsNode s stored chosen n below now next → RowLeft s stored chosen f left start now → RowLeft s stored chosen f after start next
unfolding absences_in defaults_in
row_next s stored chosen f left after below n start now next is finds so =
    record {
      absences = ap (λ x. x ++ absences_in stored chosen after) finds.absences
          ∙ (append_assoc (absence_views now.absences.items) (told_at stored chosen n below) (absences_in stored chosen after)
          ∙ (sym (ap (λ g. absence_views now.absences.items ++ absences_in stored chosen g) is) ∙ so.absences));
      defaults = ap (λ x. x ++ referred s (defaults_in stored chosen after)) finds.defaults
          ∙ (append_assoc (given_view now.defaults.items) (referred s (used_at stored chosen n below)) (referred s (defaults_in stored chosen after))
          ∙ (sym (ap (λ x. given_view now.defaults.items ++ x) (referred_both s (used_at stored chosen n below) (defaults_in stored chosen after)))
          ∙ (sym (ap (λ g. given_view now.defaults.items ++ referred s (defaults_in stored chosen g)) is) ∙ so.defaults)));
    }

pub row_ended : (s : Schema) (stored : ℕ → ℕ) (chosen : List ℕ) (f left : Forest SchemaNode) (start now : InPlay)
    → left ≡ end → RowLeft s stored chosen f left start now → FindsRow s stored chosen f start now
unfolding absences_in defaults_in
row_ended s stored chosen f left start now is so =
    record {
      absences = sym (append-nil (absence_views now.absences.items)) ∙ (sym (ap (λ g. absence_views now.absences.items ++ absences_in stored chosen g) is) ∙ so.absences);
      defaults = sym (append-nil (given_view now.defaults.items)) ∙ (sym (ap (λ g. given_view now.defaults.items ++ referred s (defaults_in stored chosen g)) is) ∙ so.defaults);
    }

-- ---- choices and cases

abbrev told_by : (ℕ → ℕ) → List ℕ → SchemaNode → Kind → Forest SchemaNode → List Absent
told_by stored chosen n kind below = node_absences stored chosen n kind below (absences_in (stored_inside kind stored) (cases stored kind below) below)

abbrev used_by : (ℕ → ℕ) → List ℕ → SchemaNode → Kind → Forest SchemaNode → List Default
used_by stored chosen n kind below = node_defaults stored chosen n kind (defaults_in (stored_inside kind stored) (cases stored kind below) below)

pub choice_told_at : (stored : ℕ → ℕ) (chosen : List ℕ) (n : SchemaNode) (below : Forest SchemaNode) (default_case : Option ℕ) (is_mandatory : Bool) → n.kind ≡ choice default_case is_mandatory
    → choice_told n.number is_mandatory (stored_cases stored below) ++ absences_in stored (or_default default_case (stored_cases stored below)) below ≡ told_at stored chosen n below
choice_told_at stored chosen n below default_case is_mandatory is = sym (ap (λ kind. told_by stored chosen n kind below) is)

pub choice_used_at : (stored : ℕ → ℕ) (chosen : List ℕ) (n : SchemaNode) (below : Forest SchemaNode) (default_case : Option ℕ) (is_mandatory : Bool) → n.kind ≡ choice default_case is_mandatory
    → defaults_in stored (or_default default_case (stored_cases stored below)) below ≡ used_at stored chosen n below
choice_used_at stored chosen n below default_case is_mandatory is = sym (ap (λ kind. used_by stored chosen n kind below) is)

pub case_told_at : (stored : ℕ → ℕ) (chosen : List ℕ) (n : SchemaNode) (below : Forest SchemaNode) (b : Bool) → n.kind ≡ case → is_among chosen n.number ≡ b
    → cond b (absences_in stored [] below) [] ≡ told_at stored chosen n below
case_told_at stored chosen n below b is among = sym (ap (λ kind. told_by stored chosen n kind below) is ∙ ap (λ c. cond c (absences_in stored [] below) []) among)

pub case_used_at : (stored : ℕ → ℕ) (chosen : List ℕ) (n : SchemaNode) (below : Forest SchemaNode) (b : Bool) → n.kind ≡ case → is_among chosen n.number ≡ b
    → cond b (defaults_in stored [] below) [] ≡ used_at stored chosen n below
case_used_at stored chosen n below b is among = sym (ap (λ kind. used_by stored chosen n kind below) is ∙ ap (λ c. cond c (defaults_in stored [] below) []) among)

-- ---- data nodes

none_either : {A : Type 0} (b : Bool) (xs : List A) → xs ≡ xs ++ cond b [] []
none_either true xs = sym (append-nil xs)
none_either false xs = sym (append-nil xs)

data_told : (stored : ℕ → ℕ) (chosen : List ℕ) (n : SchemaNode) (kind : Kind) (below : Forest SchemaNode) → is_data kind ≡ true
    → wrong_amount n.number kind (stored n.number) ++ cond (ltb 0 (stored n.number)) [] (absent_told n.number kind (absences_in (λ number. 0) [] below))
    ≡ told_by stored chosen n kind below
data_told stored chosen n (container presence) below is = refl
data_told stored chosen n (leaf type absence) below is = refl
data_told stored chosen n (leaf_list type defaults amount) below is = sym (none_either (ltb 0 (stored n.number)) (wrong_amount n.number (leaf_list type defaults amount) (stored n.number)))
data_told stored chosen n (list tuples amount) below is = sym (none_either (ltb 0 (stored n.number)) (wrong_amount n.number (list tuples amount) (stored n.number)))
data_told stored chosen n (choice default_case is_mandatory) below is = absurd cc
data_told stored chosen n case below is = absurd cc

data_used : (stored : ℕ → ℕ) (chosen : List ℕ) (n : SchemaNode) (kind : Kind) (below : Forest SchemaNode) → is_data kind ≡ true
    → cond (ltb 0 (stored n.number)) [] (absent_used n.number kind (defaults_in (λ number. 0) [] below)) ≡ used_by stored chosen n kind below
data_used stored chosen n (container presence) below is = refl
data_used stored chosen n (leaf type absence) below is = refl
data_used stored chosen n (leaf_list type defaults amount) below is = refl
data_used stored chosen n (list tuples amount) below is = sym (none_either (ltb 0 (stored n.number)) [])
data_used stored chosen n (choice default_case is_mandatory) below is = absurd cc
data_used stored chosen n case below is = absurd cc

-- one that is stored, and one that isn't
pub data_stored : (s : Schema) (stored : ℕ → ℕ) (chosen : List ℕ) (n : SchemaNode) (below : Forest SchemaNode) (count : ℕ) (old new : InPlay) → is_data n.kind ≡ true
    → count ≡ stored n.number → ltb 0 count ≡ true → Gains old new (wrong_amount n.number n.kind count) [] → FindsNode s stored chosen n below old new
data_stored s stored chosen n below count old new is_data_node is some gains =
    gains_same old new (wrong_amount n.number n.kind count) (told_at stored chosen n below) [] (referred s (used_at stored chosen n below))
    (sym (append-nil (wrong_amount n.number n.kind count))
    ∙ (ap₂ (λ k b. wrong_amount n.number n.kind k ++ cond b [] (absent_told n.number n.kind (absences_in (λ number. 0) [] below))) is (sym some ∙ ap (ltb 0) is)
    ∙ data_told stored chosen n n.kind below is_data_node))
    (ap (referred s) (ap (λ b. cond b [] (absent_used n.number n.kind (defaults_in (λ number. 0) [] below))) (sym some ∙ ap (ltb 0) is) ∙ data_used stored chosen n n.kind below is_data_node))
    gains

pub data_absent : (s : Schema) (stored : ℕ → ℕ) (chosen : List ℕ) (n : SchemaNode) (below : Forest SchemaNode) (count : ℕ) (old mid new : InPlay) → is_data n.kind ≡ true
    → count ≡ stored n.number → ltb 0 count ≡ false → Gains old mid (wrong_amount n.number n.kind count) [] → FindsAbsent s n below mid new
    → FindsNode s stored chosen n below old new
data_absent s stored chosen n below count old mid new is_data_node is none first second =
    let told = absent_told n.number n.kind (absences_in (λ number. 0) [] below) in
    let used = absent_used n.number n.kind (defaults_in (λ number. 0) [] below) in
    gains_same old new (wrong_amount n.number n.kind count ++ told) (told_at stored chosen n below) (referred s used) (referred s (used_at stored chosen n below))
    (ap₂ (λ k b. wrong_amount n.number n.kind k ++ cond b [] told) is (sym none ∙ ap (ltb 0) is) ∙ data_told stored chosen n n.kind below is_data_node)
    (ap (referred s) (ap (λ b. cond b [] used) (sym none ∙ ap (ltb 0) is) ∙ data_used stored chosen n n.kind below is_data_node))
    (gains_both old mid new (wrong_amount n.number n.kind count) told [] (referred s used) first second)

-- ---- several values

-- what was found with the values that are left
pub record ValuesLeft (s : Schema) (number : ℕ) (all left : List Val) (start now : InPlay) : Type 0 where
  pub absences : absence_views now.absences.items ≡ absence_views start.absences.items
  pub defaults : given_view now.defaults.items ++ referred s (map (λ v. (number, v)) left) ≡ given_view start.defaults.items ++ referred s (map (λ v. (number, v)) all)

pub values_next : (s : Schema) (number : ℕ) (all : List Val) (i : ℕ) (v : Val) (start now next : InPlay) → i < length all → v ≡ get_or all i v
    → Gains now next [] (referred s ((number, v) ∷ [])) → ValuesLeft s number all (drop i all) start now → ValuesLeft s number all (drop (i + 1) all) start next
values_next s number all i v start now next less is gains so =
    let each : Val → Default = λ w. (number, w) in
    let rest = map each (drop (i + 1) all) in
    record {
      absences = gains.absences ∙ (append-nil (absence_views now.absences.items) ∙ so.absences);
      defaults = ap (λ x. x ++ referred s rest) gains.defaults
          ∙ (append_assoc (given_view now.defaults.items) (referred s ((number, v) ∷ [])) (referred s rest)
          ∙ (sym (ap (λ x. given_view now.defaults.items ++ x) (referred_both s ((number, v) ∷ []) rest))
          ∙ (ap (λ (w : Val). given_view now.defaults.items ++ referred s (each w ∷ rest)) is
          ∙ (sym (at_drop_more (λ ws. given_view now.defaults.items ++ referred s (map each ws)) all i v less) ∙ so.defaults))));
    }

pub values_ended : (s : Schema) (number : ℕ) (all : List Val) (i : ℕ) (start now : InPlay) → length all ≤ i → ValuesLeft s number all (drop i all) start now
    → Gains start now [] (referred s (map (λ v. (number, v)) all))
values_ended s number all i start now ended so =
    let each : Val → Default = λ w. (number, w) in
    record {
      absences = so.absences ∙ sym (append-nil (absence_views start.absences.items));
      defaults = sym (append-nil (given_view now.defaults.items))
          ∙ (sym (at_drop_all (λ ws. given_view now.defaults.items ++ referred s (map each ws)) all i ended) ∙ so.defaults);
    }

-- ---- a choice, with what code has of it

pub choice_found : (s : Schema) (stored mid : ℕ → ℕ) (chosen : List ℕ) (n : SchemaNode) (below inner again : Forest SchemaNode) (default_case : Option ℕ) (is_mandatory : Bool) (told : List Absent)
    (with_stored chosen_inside : List ℕ) (number : ℕ) (p q r : InPlay) → n.kind ≡ choice default_case is_mandatory → mid ≡ stored → inner ≡ below → again ≡ below → number ≡ n.number
    → with_stored ≡ stored_cases stored inner → told ≡ choice_told number is_mandatory with_stored → chosen_inside ≡ or_default default_case with_stored
    → Gains p q told [] → FindsRow s mid chosen_inside again q r → FindsNode s stored chosen n below p r
choice_found s stored mid chosen n below inner again default_case is_mandatory told with_stored chosen_inside number p q r is same_count same_row same_again same_number with_is told_is chosen_is first second =
    let cases_here : with_stored ≡ stored_cases stored below = with_is ∙ ap (stored_cases stored) same_row in
    let all_told : told ≡ choice_told n.number is_mandatory (stored_cases stored below) = told_is ∙ ap₂ (λ k ns. choice_told k is_mandatory ns) same_number cases_here in
    let all_chosen : chosen_inside ≡ or_default default_case (stored_cases stored below) = chosen_is ∙ ap (or_default default_case) cases_here in
    let absences : absences_in mid chosen_inside again ≡ absences_in stored (or_default default_case (stored_cases stored below)) below =
    ap (λ st. absences_in st chosen_inside again) same_count ∙ ap₂ (absences_in stored) all_chosen same_again in
    let defaults : defaults_in mid chosen_inside again ≡ defaults_in stored (or_default default_case (stored_cases stored below)) below =
    ap (λ st. defaults_in st chosen_inside again) same_count ∙ ap₂ (defaults_in stored) all_chosen same_again in
    gains_same p r (told ++ absences_in mid chosen_inside again) (told_at stored chosen n below) (referred s (defaults_in mid chosen_inside again)) (referred s (used_at stored chosen n below))
    (ap₂ ◌++◌ all_told absences ∙ choice_told_at stored chosen n below default_case is_mandatory is)
    (ap (referred s) (defaults ∙ choice_used_at stored chosen n below default_case is_mandatory is))
    (gains_both p q r told (absences_in mid chosen_inside again) [] (referred s (defaults_in mid chosen_inside again)) first second)

-- ---- a row of a store

pub row_found : (s : Schema) (nodes : Nodes) (row : Row) (f : Branches) (above : Option ℕ) (children : Forest SchemaNode) (p q : InPlay) → Hangs nodes row f → children ≡ row_at s above
    → p.absences.items ≡ [] → p.defaults.items ≡ [] → FindsRow s (count_in (children_at nodes row)) [] children p q
    → (absence_views q.absences.items ≡ absences_in (instances_in (tree_of f)) [] (row_at s above))
    × (given_view q.defaults.items ≡ referred s (defaults_in (instances_in (tree_of f)) [] (row_at s above)))
row_found s nodes row f above children p q hangs is none_told none_given finds =
    let counts : count_in (children_at nodes row) ≡ instances_in (tree_of f) = ap count_in hangs.listed ∙ fun_ext (λ m. counted (record { 0 = m }) f) in (
      finds.absences ∙ (ap (λ ps. absence_views ps ++ absences_in (count_in (children_at nodes row)) [] children) none_told ∙ ap₂ (λ st g. absences_in st [] g) counts is),
      finds.defaults ∙ (ap (λ ps. given_view ps ++ referred s (defaults_in (count_in (children_at nodes row)) [] children)) none_given
          ∙ ap₂ (λ st g. referred s (defaults_in st [] g)) counts is),
    )

pub node_found : (s : Schema) (nodes : Nodes) (row : Row) (f : Branches) (n : SchemaNode) (below : Forest SchemaNode) (p q : InPlay) → Hangs nodes row f
    → p.absences.items ≡ [] → p.defaults.items ≡ [] → FindsNode s (count_in (children_at nodes row)) [] n below p q
    → (absence_views q.absences.items ≡ told_at (instances_in (tree_of f)) [] n below)
    × (given_view q.defaults.items ≡ referred s (used_at (instances_in (tree_of f)) [] n below))
node_found s nodes row f n below p q hangs none_told none_given finds =
    let counts : count_in (children_at nodes row) ≡ instances_in (tree_of f) = ap count_in hangs.listed ∙ fun_ext (λ m. counted (record { 0 = m }) f) in (
      finds.absences ∙ (ap (λ ps. absence_views ps ++ told_at (count_in (children_at nodes row)) [] n below) none_told ∙ ap (λ st. told_at st [] n below) counts),
      finds.defaults ∙ (ap (λ ps. given_view ps ++ referred s (used_at (count_in (children_at nodes row)) [] n below)) none_given
          ∙ ap (λ st. referred s (used_at st [] n below)) counts),
    )

-- of one child, and of none
pub over_found : (s : Schema) (nodes : Nodes) (row : Row) (f : Branches) (child : Option (SchemaNode × Forest SchemaNode)) (n : SchemaNode) (below : Forest SchemaNode) (p q found : InPlay)
    → child ≡ Some (n, below) → found ≡ q → Hangs nodes row f → p.absences.items ≡ [] → p.defaults.items ≡ [] → FindsNode s (count_in (children_at nodes row)) [] n below p q
    → (absence_views found.absences.items ≡ told_over (instances_in (tree_of f)) child)
    × (given_view found.defaults.items ≡ referred s (used_over (instances_in (tree_of f)) child))
over_found s nodes row f child n below p q found is found_is hangs none_told none_given finds =
    let so = node_found s nodes row f n below p q hangs none_told none_given finds in (
      ap (λ (x : InPlay). absence_views x.absences.items) found_is ∙ (so.0 ∙ ap (told_over (instances_in (tree_of f))) (sym is)),
      ap (λ (x : InPlay). given_view x.defaults.items) found_is ∙ (so.1 ∙ ap (λ o. referred s (used_over (instances_in (tree_of f)) o)) (sym is)),
    )

pub over_nothing : (s : Schema) (f : Branches) (child : Option (SchemaNode × Forest SchemaNode)) (p found : InPlay) → child ≡ None → found ≡ p
    → p.absences.items ≡ [] → p.defaults.items ≡ []
    → (absence_views found.absences.items ≡ told_over (instances_in (tree_of f)) child)
    × (given_view found.defaults.items ≡ referred s (used_over (instances_in (tree_of f)) child))
over_nothing s f child p found is found_is none_told none_given = (
  ap (λ (x : InPlay). absence_views x.absences.items) found_is ∙ (ap absence_views none_told ∙ ap (told_over (instances_in (tree_of f))) (sym is)),
  ap (λ (x : InPlay). given_view x.defaults.items) found_is ∙ (ap given_view none_given ∙ ap (λ o. referred s (used_over (instances_in (tree_of f)) o)) (sym is)),
)
