-- What is told of new nodes, from what is to be told of each.
use Rattle.std.proofs.Common.{◌≡◌, ℕ, ◌≤◌, ◌^◌, Bool, true, false, ◌||◌, List, [], ◌∷◌, length, map, Option, Some, None, option_map, refl, sym, ap, ap₂, ◌∙◌, arith, subst, cond, eqb}
use Rattle.std.specs.List.{list_any}
use Rattle.std.specs.Option.{option_map_or}
use Rattle.std.proofs.lemmas.Bool.{ne_eqb, eq-eqb, eqb-false}
use Rattle.std.proofs.lemmas.List.{length-map, length-replicate}
use Rattle.yspec.specs.Forest.{size}
use Rattle.yspec.specs.types.Types.{Raw, Val, YangType, taken, app_tag_of}
use Rattle.yspec.specs.schema.Schema.{Schema, SchemaNode, row_at, type_in, node_at}
use Rattle.yspec.specs.document.Document.{Stored, instances_in}
use Rattle.ycheck.specs.View.{code_view}
use Rattle.yspec_play.proofs.AbsenceLemmas.{few_absences}
use Rattle.ylive_facts.specs.InPlay.{absence_views}
use Rattle.ylive_facts.specs.Judging.{Judged, right, wrong, missing, kind_judged, judged_view, value_judged}
use Rattle.ystore.specs.Held.{Told}
use Rattle.ystore.specs.Store.{same_row}
use Rattle.ystore_rows.specs.declared.row.NodeId.{NodeId}
use Rattle.ystore_rows.specs.declared.row.Row.{Row}
use Rattle.ystore_rows.specs.declared.row.Row.TheVariants.{Below}
use Rattle.ystore.specs.declared.record.Judged as rust_judged
use Rattle.ystore.specs.declared.record.Judged.TheVariants.{Right, Wrong, Missing}
use Rattle.ystore.specs.declared.nodes.Nodes.{Nodes}
use Rattle.ystore_tree.specs.Growing.{flag_count, nothing_told}
use Rattle.ystore_tree.specs.Hanging.{Branches, stored_of, tree_of}
use Rattle.ylive_marks.specs.Keys.{own_of, own_at, wrong_of, is_missing}
use Rattle.ylive_marks.specs.Totals.{StandsIn, told_at, judged_at}
use Rattle.ylive_retell.specs.Accounts.{News, news_view, news_of}
use Rattle.ylive_retell.specs.IsTold.{TellsOwn, wrong_in}
use Rattle.ylive_retell.specs.Standing.{Standing, Every, absences_there}
use Rattle.ylive_retell.specs.Telling.{AreNew, told_by, with_news}
use Rattle.ylive_retell.specs.Unlike.{NotIn, Unlike}
use Rattle.ylive_retell.specs.declared.account.News as rust

-- ---- flags

kept_flags : (n : rust.News) (b : Bool) (told : Option Told)
    → option_map (λ (t : Told). t.same) (cond b (option_map (with_news n) told) told) ≡ option_map (λ (t : Told). t.same) told
kept_flags n true None = refl
kept_flags n true (Some t) = refl
kept_flags n false told = refl

-- flags stay
pub told_flags : (news : List rust.News) (row : Row) (told : Option Told)
    → option_map (λ (t : Told). t.same) (told_by news row told) ≡ option_map (λ (t : Told). t.same) told
told_flags [] row told = refl
told_flags (n ∷ ns) row told =
    told_flags ns row (cond (same_row (Below n.id) row) (option_map (with_news n) told) told) ∙ kept_flags n (same_row (Below n.id) row) told

-- ---- lists of news

abbrev first_or : News → List News → News
first_or d [] = d
first_or d (x ∷ xs) = x

abbrev rest_of : List News → List News
rest_of [] = []
rest_of (x ∷ xs) = xs

first_same : (x y : News) (xs ys : List News) → x ∷ xs ≡ y ∷ ys → x ≡ y
first_same x y xs ys e = ap (first_or x) e

rest_same : (x y : News) (xs ys : List News) → x ∷ xs ≡ y ∷ ys → xs ≡ ys
rest_same x y xs ys e = ap rest_of e

none-more : (y : News) (ys : List News) → [] ≡ y ∷ ys → ⊥
none-more y ys e = let n : 0 ≡ length (y ∷ ys) = ap length e in omega (arith, n)

turned : (a b : ℕ) → eqb a b ≡ false → eqb b a ≡ false
turned a b differ = ne_eqb b a (λ e. eqb-false a b differ (sym e))

-- ---- other nodes

-- of others nothing is told
pub told_elsewhere : (schema : Schema) (ss : List Standing) (news : List rust.News) (id : NodeId) (told : Option Told)
    → map news_view news ≡ map (news_of schema) ss → NotIn id.0 ss → told_by news (Below id) told ≡ told
told_elsewhere schema [] [] id told so others = refl
told_elsewhere schema [] (n ∷ ns) id told so others = absurd (none-more (news_view n) (map news_view ns) (sym so))
told_elsewhere schema (s ∷ ss) [] id told so others = absurd (none-more (news_of schema s) (map (news_of schema) ss) so)
told_elsewhere schema (s ∷ ss) (n ∷ ns) id told so others =
    ap (λ b. told_by ns (Below id) (cond b (option_map (with_news n) told) told)) other
    ∙ told_elsewhere schema ss ns id told (rest_same (news_view n) (news_of schema s) (map news_view ns) (map (news_of schema) ss) so) others.1
  where
    same_id : n.id ≡ s.label.id
    same_id = ap (λ (v : News). v.id) (first_same (news_view n) (news_of schema s) (map news_view ns) (map (news_of schema) ss) so)

    other : eqb n.id.0 id.0 ≡ false
    other = ap (λ (i : NodeId). eqb i.0 id.0) same_id ∙ turned id.0 s.label.id.0 others.0

-- ---- values

abbrev lacks : Judged → Bool
lacks right = false
lacks (wrong tag) = false
lacks missing = true

lacks_same : (j : rust_judged.Judged) → is_missing j ≡ lacks (judged_view j)
lacks_same Right = refl
lacks_same (Wrong tag) = refl
lacks_same Missing = refl

-- no instance is missing by a type alone
type_lacks_none : (type : Option YangType) (value : Option Raw) → lacks (kind_judged type value) ≡ false
type_lacks_none None value = refl
type_lacks_none (Some t) None = refl
type_lacks_none (Some t) (Some raw) = by (taken t raw)
  where
    by : (o : Option Val) → lacks (option_map_or (λ v. right) o (wrong (app_tag_of t raw))) ≡ false
    by None = refl
    by (Some v) = refl

lacks_none : (schema : Schema) (s : Stored) → lacks (value_judged schema s) ≡ false
lacks_none schema s = by (node_at schema s.schema_number)
  where
    by : (o : Option SchemaNode) → lacks (option_map_or (λ n. kind_judged (option_map (λ type. type.type) (type_in n.kind)) s.value) o right) ≡ false
    by None = refl
    by (Some n) = type_lacks_none (option_map (λ type. type.type) (type_in n.kind)) s.value

still_right : (n : rust.News) (b : Bool) (told : Option Told) → is_missing n.judged ≡ false
    → option_map_or is_missing (option_map (λ (t : Told). t.judged) told) false ≡ false
    → option_map_or is_missing (option_map (λ (t : Told). t.judged) (cond b (option_map (with_news n) told) told)) false ≡ false
still_right n true None is so = refl
still_right n true (Some t) is so = is
still_right n false told is so = so

-- what is told of a value never misses an instance
pub told_right : (schema : Schema) (ss : List Standing) (news : List rust.News) (row : Row) (told : Option Told)
    → map news_view news ≡ map (news_of schema) ss → option_map_or is_missing (option_map (λ (t : Told). t.judged) told) false ≡ false
    → option_map_or is_missing (option_map (λ (t : Told). t.judged) (told_by news row told)) false ≡ false
told_right schema ss [] row told so is = is
told_right schema [] (n ∷ ns) row told so is = absurd (none-more (news_view n) (map news_view ns) (sym so))
told_right schema (s ∷ ss) (n ∷ ns) row told so is =
    told_right schema ss ns row (cond (same_row (Below n.id) row) (option_map (with_news n) told) told)
    (rest_same (news_view n) (news_of schema s) (map news_view ns) (map (news_of schema) ss) so)
    (still_right n (same_row (Below n.id) row) told
    (lacks_same n.judged
    ∙ (ap (λ (v : News). lacks v.judged) (first_same (news_view n) (news_of schema s) (map news_view ns) (map (news_of schema) ss) so)
    ∙ lacks_none schema (stored_of s.label)))
    is)

-- ---- new nodes

none_like : (schema : Schema) (number : ℕ) (ss : List Standing) (news : List rust.News) → map news_view news ≡ map (news_of schema) ss
    → NotIn number ss → list_any (λ (m : rust.News). eqb number m.id.0) news ≡ false
none_like schema number ss [] so others = refl
none_like schema number [] (n ∷ ns) so others = absurd (none-more (news_view n) (map news_view ns) (sym so))
none_like schema number (s ∷ ss) (n ∷ ns) so others =
    ap₂ (λ (a b : Bool). a || b)
    (ap (λ (v : News). eqb number v.id.0) (first_same (news_view n) (news_of schema s) (map news_view ns) (map (news_of schema) ss) so) ∙ others.0)
    (none_like schema number ss ns (rest_same (news_view n) (news_of schema s) (map news_view ns) (map (news_of schema) ss) so) others.1)

within : (a b c d most : ℕ) → b ≡ a → b ≡ c → c ≤ d → d ≤ most → a ≤ most
within a b c d most viewed same in_row few = omega (arith, viewed, same, in_row, few)

-- what is to be told of new nodes can be told
pub are_new : (schema : Schema) (nodes : Nodes) (f : Branches) (ss : List Standing) (news : List rust.News)
    → map news_view news ≡ map (news_of schema) ss → Unlike ss → ((above : Option ℕ) → size (row_at schema above) ≤ 2 ^ 32)
    → Every (λ s. StandsIn (Below s.label.id) f × (judged_at nodes s.label.id ≡ Some Right)) ss → AreNew nodes f news
are_new schema nodes f ss [] so unlike few fresh = tt
are_new schema nodes f [] (n ∷ ns) so unlike few fresh = absurd (none-more (news_view n) (map news_view ns) (sym so))
are_new schema nodes f (s ∷ ss) (n ∷ ns) so unlike few fresh = (
  subst (λ (i : NodeId). StandsIn (Below i) f) (sym same_id) fresh.0.0,
  ap (judged_at nodes) same_id ∙ fresh.0.1,
  few_told,
  none_like schema n.id.0 ss ns rest (subst (λ (i : NodeId). NotIn i.0 ss) (sym same_id) unlike.0),
  are_new schema nodes f ss ns rest unlike.1 few fresh.1,
)
  where
    same_news : news_view n ≡ news_of schema s
    same_news = first_same (news_view n) (news_of schema s) (map news_view ns) (map (news_of schema) ss) so

    rest : map news_view ns ≡ map (news_of schema) ss
    rest = rest_same (news_view n) (news_of schema s) (map news_view ns) (map (news_of schema) ss) so

    same_id : n.id ≡ s.label.id
    same_id = ap (λ (v : News). v.id) same_news

    few_told : length n.absences.items ≤ 2 ^ 32
    few_told =
        let viewed = length-map n.absences.items (λ a. (code_view a.0, a.1.0)) in
        let same_number : length (absence_views n.absences.items) ≡ length (absences_there schema s) = ap (λ (v : News). length v.absences) same_news in
        let in_row : length (absences_there schema s) ≤ size (row_at schema (Some s.label.schema.0)) = few_absences (row_at schema (Some s.label.schema.0)) (instances_in (tree_of s.below)) [] in
        let row_few = few (Some s.label.schema.0) in
        within (length n.absences.items) (length (absence_views n.absences.items)) (length (absences_there schema s)) (size (row_at schema (Some s.label.schema.0))) (2 ^ 32) viewed same_number in_row row_few

-- ---- what no key tells

wrong_same : (j : rust_judged.Judged) → wrong_of j ≡ wrong_in (judged_view j)
wrong_same Right = refl
wrong_same (Wrong tag) = refl
wrong_same Missing = refl

-- of other nodes the first tells nothing
without_first : (before after : Nodes) (n : rust.News) (ns : List rust.News) (ss : List Standing) → NotIn n.id.0 ss
    → Every (λ s. own_at after (Below s.label.id) ≡ option_map own_of (told_by (n ∷ ns) (Below s.label.id) (told_at before (Below s.label.id)))) ss
    → Every (λ s. own_at after (Below s.label.id) ≡ option_map own_of (told_by ns (Below s.label.id) (told_at before (Below s.label.id)))) ss
without_first before after n ns [] others told = tt
without_first before after n ns (s ∷ ss) others told = (
  told.0
      ∙ ap (λ b. option_map own_of (told_by ns (Below s.label.id) (cond b (option_map (with_news n) (told_at before (Below s.label.id))) (told_at before (Below s.label.id)))))
      others.0,
  without_first before after n ns ss others.1 told.1,
)

-- and then what no key tells of them is told
pub own_new : (schema : Schema) (before after : Nodes) (ss : List Standing) (news : List rust.News)
    → map news_view news ≡ map (news_of schema) ss → Unlike ss
    → Every (λ s. told_at before (Below s.label.id) ≡ Some (nothing_told (flag_count schema s.label.schema.0))) ss
    → Every (λ s. own_at after (Below s.label.id) ≡ option_map own_of (told_by news (Below s.label.id) (told_at before (Below s.label.id)))) ss
    → Every (λ s. TellsOwn schema after s.row s.label s.below) ss
own_new schema before after [] news so unlike fresh told = tt
own_new schema before after (s ∷ ss) [] so unlike fresh told = absurd (none-more (news_of schema s) (map (news_of schema) ss) so)
own_new schema before after (s ∷ ss) (n ∷ ns) so unlike fresh told = (
  record {
    own = own_of (with_news n (nothing_told (flag_count schema s.label.schema.0)));
    held = told.0 ∙ ap (option_map own_of) all_told;
    is_wrong = wrong_same n.judged ∙ ap (λ (v : News). wrong_in v.judged) same_news;
    is_play = ap (λ (v : News). v.absences) same_news;
    are_flags = length-replicate (flag_count schema s.label.schema.0) false;
  },
  own_new schema before after ss ns rest unlike.1 fresh.1
      (without_first before after n ns ss (subst (λ (i : NodeId). NotIn i.0 ss) (sym same_id) unlike.0) told.1),
)
  where
    same_news : news_view n ≡ news_of schema s
    same_news = first_same (news_view n) (news_of schema s) (map news_view ns) (map (news_of schema) ss) so

    rest : map news_view ns ≡ map (news_of schema) ss
    rest = rest_same (news_view n) (news_of schema s) (map news_view ns) (map (news_of schema) ss) so

    same_id : n.id ≡ s.label.id
    same_id = ap (λ (v : News). v.id) same_news

    all_told : told_by (n ∷ ns) (Below s.label.id) (told_at before (Below s.label.id)) ≡ Some (with_news n (nothing_told (flag_count schema s.label.schema.0)))
    all_told =
        ap (told_by (n ∷ ns) (Below s.label.id)) fresh.0
        ∙ (ap (λ b. told_by ns (Below s.label.id) (cond b (Some (with_news n (nothing_told (flag_count schema s.label.schema.0)))) (Some (nothing_told (flag_count schema s.label.schema.0)))))
        (eq-eqb n.id.0 s.label.id.0 (ap (λ (i : NodeId). i.0) same_id))
        ∙ told_elsewhere schema ss ns s.label.id (Some (with_news n (nothing_told (flag_count schema s.label.schema.0)))) rest unlike.0)
