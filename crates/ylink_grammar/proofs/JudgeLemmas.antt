-- What is broken at statements where they stand, by language and version.
use Rattle.std.proofs.Common.{◌≡◌, ℕ, ◌+◌, ◌<◌, Bool, true, false, List, [], ◌∷◌, ◌++◌, length, get_or, drop, Option, Some, None, arith, refl, sym, ap, ap₂, subst, ◌∙◌}
use Rattle.std.specs.Prelude.{not, if◌then◌else◌}
use Rattle.std.specs.Option.{option_map_or}
use Rattle.std.proofs.lemmas.List.{at_drop_more}
use Rattle.yspec.specs.Forest.{Forest, node}
use Rattle.yspec.specs.text.Text.{Text}
use Rattle.yspec.specs.text.Statement.{Statement}
use Rattle.yspec.specs.linking.Keyword.{extension_word, module_word}
use Rattle.yspec.specs.linking.StatementBreaks.{is_prefixed}
use Rattle.yspec.specs.schema.Breaks.{Break, broken, least_from, when}
use Rattle.yspec.proofs.SchemaProofs.LeastLemmas.{least_of_both}
use Rattle.yspec_wide.specs.Language.{Language, YangVersion}
use Rattle.yspec_wide.specs.Words.{Word, known, same_word, word_named}
use Rattle.yspec_wide.specs.Table.{Allowed, rule_in}
use Rattle.yspec_wide.specs.StatementBreaks.{has_word, is_allowed, form_at, own_breaks, known_breaks, named_breaks, breaks_at, substatements_of, row_breaks_in, top_breaks, breaks_in_from, version_in}
use Rattle.ytext.specs.View.{view, row_view, modules_view}
use Rattle.ytext.specs.declared.statement.Stmt.{Stmt}
use Rattle.ytext.specs.declared.statement.Module.{Module}
use Rattle.ytext.proofs.ViewLemmas.{row_view_at}
use Rattle.ylink_grammar.specs.Counts.{allowed_word}
use Rattle.ylink_grammar.proofs.WordLemmas.{prefixed_is_no_word}

pub known_word : (allowed : List Allowed) (o : Option Word) (w : Word) → Some w ≡ allowed_word allowed o → (o ≡ Some w) × (is_allowed w allowed ≡ true)
known_word allowed None w e = absurd cc
known_word allowed (Some v) w e = go (is_allowed v allowed) refl
  where
    go : (b : Bool) → is_allowed v allowed ≡ b → (Some v ≡ Some w) × (is_allowed w allowed ≡ true)
    go true is = let same : Some w ≡ Some v = rw is at e in (sym same, subst (λ (o : Option Word). option_map_or (λ i. is_allowed i allowed) o false ≡ true) (sym same) is)
    go false is = let clash : Some w ≡ None = rw is at e in absurd cc

-- no keyword has a prefix
pub not_prefixed : (l : Language) (allowed : List Allowed) (t : Text) (w : Word) → Some w ≡ allowed_word allowed (word_named l t) → is_prefixed t ≡ false
not_prefixed l allowed t w some = by (is_prefixed t) refl
  where
    by : (b : Bool) → is_prefixed t ≡ b → b ≡ false
    by true is = let clash : Some w ≡ None = sym (known_word allowed (word_named l t) w some).0 ∙ prefixed_is_no_word l t is in absurd cc
    by false is = refl

module _ (l : Language) (v : YangVersion) (m : ℕ) where
  pub breaks_known : (allowed : List Allowed) (s : Statement) (below : Forest Statement) (w : Word) → is_prefixed s.keyword ≡ false
      → Some w ≡ allowed_word allowed (word_named l s.keyword) → same_word w (known extension_word) ≡ false
      → breaks_at l v m allowed s below (row_breaks_in l v m (substatements_of l v s.keyword) below)
      ≡ own_breaks l v m (form_at l allowed w (rule_in l v w).form) w s below ++ row_breaks_in l v m (rule_in l v w).substatements below
  breaks_known allowed s below w e some other =
      let found = known_word allowed (word_named l s.keyword) w some in rw (e, found.0, found.1, other) refl

  -- what is passed over, and what may not stand there
  pub judged_prefixed : (allowed : List Allowed) (s : Statement) (below : Forest Statement) (inner : List Break) (so_far : Option Break)
      → is_prefixed s.keyword ≡ true → so_far ≡ least_from so_far (breaks_at l v m allowed s below inner)
  judged_prefixed allowed s below inner so_far e = rw e refl

  unknown : (allowed : List Allowed) (o : Option Word) (s : Statement) (below : Forest Statement) (inner : List Break) → None ≡ allowed_word allowed o
      → named_breaks l v m allowed o s below inner ≡ broken 1 m s.line
  unknown allowed None s below inner none = refl
  unknown allowed (Some w) s below inner none = by (is_allowed w allowed) refl
    where
      by : (b : Bool) → is_allowed w allowed ≡ b → known_breaks l v m allowed w s below inner ≡ broken 1 m s.line
      by true is = let clash : None ≡ Some w = rw is at none in absurd cc
      by false is = rw is refl

  pub judged_unknown : (allowed : List Allowed) (s : Statement) (below : Forest Statement) (inner : List Break) (so_far told : Option Break)
      → None ≡ allowed_word allowed (word_named l s.keyword) → is_prefixed s.keyword ≡ false → told ≡ least_from so_far (broken 1 m s.line)
      → told ≡ least_from so_far (breaks_at l v m allowed s below inner)
  judged_unknown allowed s below inner so_far told none plain is =
      is ∙ ap (least_from so_far) (sym (ap (λ (b : Bool). if b then [] else named_breaks l v m allowed (word_named l s.keyword) s below inner) plain
      ∙ unknown allowed (word_named l s.keyword) s below inner none))

  pub judged_extension : (allowed : List Allowed) (s : Statement) (below : Forest Statement) (inner : List Break) (w : Word) (so_far : Option Break)
      → Some w ≡ allowed_word allowed (word_named l s.keyword) → same_word w (known extension_word) ≡ true
      → so_far ≡ least_from so_far (breaks_at l v m allowed s below inner)
  judged_extension allowed s below inner w so_far some is =
      let found = known_word allowed (word_named l s.keyword) w some in
      rw (not_prefixed l allowed s.keyword w some, found.0, found.1, is) refl

  -- first the statement's own, then those below it
  pub judged_known : (allowed : List Allowed) (s : Statement) (below row : Forest Statement) (w : Word) (rows : List Allowed) (so_far told result : Option Break)
      → is_prefixed s.keyword ≡ false → Some w ≡ allowed_word allowed (word_named l s.keyword) → same_word w (known extension_word) ≡ false
      → told ≡ least_from so_far (own_breaks l v m (form_at l allowed w (rule_in l v w).form) w s below) → row ≡ below → rows ≡ (rule_in l v w).substatements
      → result ≡ least_from told (row_breaks_in l v m rows row)
      → result ≡ least_from so_far (breaks_at l v m allowed s below (row_breaks_in l v m (substatements_of l v s.keyword) below))
  judged_known allowed s below row w rows so_far told result plain some other alone same ruled under =
      under ∙ ap (λ rs. least_from told (row_breaks_in l v m rs row)) ruled ∙ ap (λ t. least_from t (row_breaks_in l v m (rule_in l v w).substatements row)) alone
      ∙ ap (λ f. least_from (least_from so_far (own_breaks l v m (form_at l allowed w (rule_in l v w).form) w s below)) (row_breaks_in l v m (rule_in l v w).substatements f)) same
      ∙ sym (least_of_both so_far (own_breaks l v m (form_at l allowed w (rule_in l v w).form) w s below) (row_breaks_in l v m (rule_in l v w).substatements below))
      ∙ ap (least_from so_far) (sym (breaks_known allowed s below w plain some other))

  -- nothing below it
  pub judged_leaf : (allowed : List Allowed) (s : Statement) (below : Forest Statement) (ss : List Stmt) (w : Word) (so_far told : Option Break)
      → is_prefixed s.keyword ≡ false → Some w ≡ allowed_word allowed (word_named l s.keyword) → same_word w (known extension_word) ≡ false
      → told ≡ least_from so_far (own_breaks l v m (form_at l allowed w (rule_in l v w).form) w s below) → row_view ss ≡ below → length ss ≡ 0
      → told ≡ least_from so_far (breaks_at l v m allowed s below (row_breaks_in l v m (substatements_of l v s.keyword) below))
  unfolding row_breaks_in
  judged_leaf allowed s below [] w so_far told plain some other alone same none =
      judged_known allowed s below (row_view []) w (rule_in l v w).substatements so_far told told plain some other alone same refl refl
  judged_leaf allowed s below (x ∷ ss) w so_far told plain some other alone same none = absurd (omega (arith, none))

  -- one statement of a row, and the others
  pub judged_row : (allowed : List Allowed) (ss : List Stmt) (i : ℕ) (s : Stmt) (told result whole : Option Break)
      → i < length ss → s ≡ get_or ss i s
      → result ≡ least_from told (breaks_at l v m allowed (view s).0 (view s).1 (row_breaks_in l v m (substatements_of l v (view s).0.keyword) (view s).1))
      → least_from told (row_breaks_in l v m allowed (row_view (drop i ss))) ≡ whole
      → least_from result (row_breaks_in l v m allowed (row_view (drop (i + 1) ss))) ≡ whole
  unfolding row_breaks_in
  judged_row allowed ss i s told result whole within is judged so =
      ap (λ t. least_from t (row_breaks_in l v m allowed (row_view (drop (i + 1) ss)))) judged
      ∙ sym (least_of_both told (breaks_at l v m allowed (view s).0 (view s).1 (row_breaks_in l v m (substatements_of l v (view s).0.keyword) (view s).1))
      (row_breaks_in l v m allowed (row_view (drop (i + 1) ss))))
      ∙ ap (λ f. least_from told (row_breaks_in l v m allowed f)) (sym (row_view_at ss i s within is)) ∙ so

-- a module of a set, and the others
pub judged_top : (l : Language) (v : YangVersion) (m : ℕ) (s : Statement) (below row : Forest Statement) (rows : List Allowed) (so_far told result : Option Break)
    → has_word l (known module_word) s ≡ true → v ≡ version_in l below → told ≡ least_from so_far (own_breaks l v m (rule_in l v (known module_word)).form (known module_word) s below) → row ≡ below
    → rows ≡ (rule_in l v (known module_word)).substatements
    → result ≡ least_from told (row_breaks_in l v m rows row)
    → result ≡ least_from so_far (top_breaks l m s below)
judged_top l v m s below row rows so_far told result top read alone same ruled under =
    under ∙ ap (λ rs. least_from told (row_breaks_in l v m rs row)) ruled ∙ ap (λ t. least_from t (row_breaks_in l v m (rule_in l v (known module_word)).substatements row)) alone
    ∙ ap (λ f. least_from (least_from so_far (own_breaks l v m (rule_in l v (known module_word)).form (known module_word) s below)) (row_breaks_in l v m (rule_in l v (known module_word)).substatements f)) same
    ∙ sym (least_of_both so_far (own_breaks l v m (rule_in l v (known module_word)).form (known module_word) s below) (row_breaks_in l v m (rule_in l v (known module_word)).substatements below))
    ∙ ap (λ u. least_from so_far (own_breaks l u m (rule_in l u (known module_word)).form (known module_word) s below ++ row_breaks_in l u m (rule_in l u (known module_word)).substatements below)) read
    ∙ rw top refl

pub modules_view_at : (ms : List Module) (i : ℕ) (m : Module) → i < length ms → m ≡ get_or ms i m
    → modules_view (drop i ms) ≡ node (view m.top).0 (view m.top).1 (modules_view (drop (i + 1) ms))
modules_view_at ms i m within is =
    at_drop_more modules_view ms i m within ∙ ap (λ (x : Module). node (view x.top).0 (view x.top).1 (modules_view (drop (i + 1) ms))) (sym is)

pub judged_module : (l : Language) (ms : List Module) (i : ℕ) (m : Module) (told result whole : Option Break)
    → i < length ms → m ≡ get_or ms i m
    → result ≡ least_from told (top_breaks l i (view m.top).0 (view m.top).1)
    → least_from told (breaks_in_from l i (modules_view (drop i ms))) ≡ whole
    → least_from result (breaks_in_from l (i + 1) (modules_view (drop (i + 1) ms))) ≡ whole
unfolding breaks_in_from
judged_module l ms i m told result whole within is judged so =
    let own = top_breaks l i (view m.top).0 (view m.top).1 in
    let others = breaks_in_from l (i + 1) (modules_view (drop (i + 1) ms)) in
    ap (λ t. least_from t others) judged ∙ sym (least_of_both told own others)
    ∙ ap (λ f. least_from told (breaks_in_from l i f)) (sym (modules_view_at ms i m within is)) ∙ so

-- ---- what a statement breaks by itself

-- the least of what is told so far and of four more lists
pub judged_alone : (told first second third last : Option Break) (a b c d x y z w : List Break) → first ≡ least_from told a → second ≡ least_from first b
    → third ≡ least_from second c → last ≡ least_from third d → a ≡ x → b ≡ y → c ≡ z → d ≡ w → last ≡ least_from told (x ++ (y ++ (z ++ w)))
judged_alone told first second third last a b c d x y z w first_is second_is third_is last_is a_is b_is c_is d_is =
    let one : first ≡ least_from told x = first_is ∙ ap (least_from told) a_is in
    let two : second ≡ least_from told (x ++ y) = second_is ∙ (ap₂ least_from one b_is ∙ sym (least_of_both told x y)) in
    let last_two : last ≡ least_from second (z ++ w) = last_is ∙ (ap₂ least_from (third_is ∙ ap (least_from second) c_is) d_is ∙ sym (least_of_both second z w)) in
    last_two ∙ (ap (λ t. least_from t (z ++ w)) (second_is ∙ ap₂ least_from one b_is)
    ∙ (sym (least_of_both (least_from told x) y (z ++ w)) ∙ sym (least_of_both told x (y ++ (z ++ w)))))

-- nothing of four lists is told
pub unbroken : (told : Option Break) (f p q r : Bool) (a b c d : List Break) → (f ≡ true) × (p ≡ false) × (q ≡ false) × (r ≡ false)
    → told ≡ least_from told (when (not f) a ++ (when p b ++ (when q c ++ when r d)))
unbroken told f p q r a b c d e = rw (e.0, e.1, e.2, e.3) refl
