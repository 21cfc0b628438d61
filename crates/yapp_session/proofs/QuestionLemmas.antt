-- What is answered of a node: its faults, and what is stored there.
use Rattle.std.proofs.Common.{◌≡◌, ℕ, Bool, false, List, length, Option, Some, None, Result, Ok, Err, refl, sym, ap, ap₂, subst, ◌∙◌}
use Rattle.std.specs.Prelude.{option_map}
use Rattle.std.proofs.lemmas.Option.{same_Some}
use Rattle.yspec.specs.Results.{Fails, ◌>>=◌}
use Rattle.yspec.specs.text.Text.{Text}
use Rattle.yspec.specs.schema.Schema.{Schema}
use Rattle.yspec.specs.document.Document.{Tree, Step}
use Rattle.yspec.specs.document.Fault.{Fault}
use Rattle.yspec.specs.edit.EditText.{Path}
use Rattle.yspec.specs.edit.Editing.{Branch, EditRefusal, target_of}
use Rattle.yspec.specs.edit.Live.{Live}
use Rattle.yspec_session.specs.Session as spec
use Rattle.yspec_session.specs.Session.{below_told, faults_below, place_of, told_of, value_at, value_told}
use Rattle.yspec_session.specs.Remembering.{Kept}
use Rattle.ysay_session.specs.AnswerText as text
use Rattle.yinst_path.specs.Applying.{told_by}
use Rattle.yinst_path.specs.declared.edit.EditFault.{EditFault}
use Rattle.yapp_session.specs.Answered.{Replies, Told, answer_text, below_text, found_text, told_in, value_text}

-- a document with its schema and its faults
abbrev Seen : Type 0
Seen = Schema × (Tree × List Fault)

said_of : Path → Seen → Text
said_of path d = answer_text false d.0 d.1.0 d.1.0 (below_told d.1.1 (place_of d.0 d.1.0 path))

module _ (configured : Option Schema) (live : Live) (path : Path) (s : Schema) (tree : Tree) (fs : List Fault) (schema : s ≡ live.schema) (copy : tree ≡ live.tree) (told : fs ≡ told_in configured live) where
  same_said : said_of path (s, (tree, fs)) ≡ below_text configured live path
  unfolding said_of
  same_said = ap (said_of path) (ap₂ (λ (s : Schema) (p : Tree × List Fault). (s, p)) schema (ap₂ (λ (t : Tree) (fs : List Fault). (t, fs)) copy told))

  pub below_listed : (place : List Step) (t : Text) → place_of s tree path ≡ Ok place → t ≡ text.listed_text s tree (faults_below place fs) (length fs) → t ≡ below_text configured live path
  unfolding said_of
  below_listed place t found is = is ∙ (sym (ap (λ r. answer_text false s tree tree (below_told fs r)) found) ∙ same_said)

  pub below_refused : (fault : EditFault) (t : Text) → Fails (told_by fault) (place_of s tree path) → option_map text.edit_refused_text (told_by fault) ≡ Some t → t ≡ below_text configured live path
  unfolding said_of
  below_refused fault t fails is = by (told_by fault) fails is
    where
      by : (o : Option EditRefusal) → Fails o (place_of s tree path) → option_map text.edit_refused_text o ≡ Some t → t ≡ below_text configured live path
      by None fails is = absurd cc
      by (Some e) fails is = sym (same_Some (text.edit_refused_text e) t is) ∙ (sym (ap (λ r. answer_text false s tree tree (below_told fs r)) fails) ∙ same_said)

-- of a question nothing came of faults
below_as : (tells_changes : Bool) (schema : Schema) (tree : Tree) (fs : List Fault) (r : Result (List Step) EditRefusal)
    → answer_text false schema tree tree (below_told fs r) ≡ answer_text tells_changes schema tree tree (below_told fs r)
below_as tells_changes schema tree fs (Err e) = refl
below_as tells_changes schema tree fs (Ok place) = refl

pub below_replied : (tells_changes : Bool) (configured : Option Schema) (limit : ℕ) (live : Live) (k : Kept) (path : Path) (t : Text) → (live.is_stale ≡ false → t ≡ below_text configured live path)
    → Replies tells_changes configured limit live k (spec.below path) t live k
below_replied tells_changes configured limit live k path t said s h = (
  said h.fresh ∙ (ap (λ (tree : Tree). below_text configured (record live { tree = tree }) path) h.tree
      ∙ below_as tells_changes live.schema s.tree (told_of configured live.schema s.tree) (place_of live.schema s.tree path)),
  h,
)

-- nothing changes with a question
pub told_question : (tells_changes : Bool) (configured : Option Schema) (limit : ℕ) (live after : Live) (k l : Kept) (asked : Option spec.Request) (r : spec.Request) (t : Text) → asked ≡ Some r
    → after ≡ live → l ≡ k → Replies tells_changes configured limit live k r t live k → Told tells_changes configured limit live k asked t after l
told_question tells_changes configured limit live after k l asked r t is same past replies =
    subst (λ (o : Option spec.Request). Told tells_changes configured limit live k o t after l) (sym is)
    (subst (λ (after : Live). Replies tells_changes configured limit live k r t after l) (sym same) (subst (λ (l : Kept). Replies tells_changes configured limit live k r t live l) (sym past) replies))

-- ---- what is stored at a node

value_said : Path → Schema × Tree → Text
value_said path d = answer_text false d.0 d.1 d.1 (value_told (target_of d.0 d.1 false path >>= value_at d.0))

module _ (live : Live) (path : Path) (s : Schema) (tree : Tree) (schema : s ≡ live.schema) (copy : tree ≡ live.tree) where
  same_value : value_said path (s, tree) ≡ value_text live path
  unfolding value_said
  same_value = ap (value_said path) (ap₂ (λ (s : Schema) (t : Tree). (s, t)) schema copy)

  pub value_found : (found : Option Branch) (t : Text) → target_of s tree false path >>= value_at s ≡ Ok found → t ≡ found_text s found → t ≡ value_text live path
  unfolding value_said
  value_found found t is said = said ∙ (by found ∙ (sym (ap (λ r. answer_text false s tree tree (value_told r)) is) ∙ same_value))
    where
      by : (found : Option Branch) → found_text s found ≡ answer_text false s tree tree (value_told (Ok found))
      by None = refl
      by (Some b) = refl

  pub value_refused : (fault : EditFault) (t : Text) → Fails (told_by fault) (target_of s tree false path >>= value_at s) → option_map text.edit_refused_text (told_by fault) ≡ Some t
      → t ≡ value_text live path
  unfolding value_said
  value_refused fault t fails is = by (told_by fault) fails is
    where
      by : (o : Option EditRefusal) → Fails o (target_of s tree false path >>= value_at s) → option_map text.edit_refused_text o ≡ Some t → t ≡ value_text live path
      by None fails is = absurd cc
      by (Some e) fails is = sym (same_Some (text.edit_refused_text e) t is) ∙ (sym (ap (λ r. answer_text false s tree tree (value_told r)) fails) ∙ same_value)

value_as : (tells_changes : Bool) (schema : Schema) (tree : Tree) (r : Result (Option Branch) EditRefusal)
    → answer_text false schema tree tree (value_told r) ≡ answer_text tells_changes schema tree tree (value_told r)
value_as tells_changes schema tree (Err e) = refl
value_as tells_changes schema tree (Ok None) = refl
value_as tells_changes schema tree (Ok (Some b)) = refl

pub value_replied : (tells_changes : Bool) (configured : Option Schema) (limit : ℕ) (live : Live) (k : Kept) (path : Path) (t : Text) → t ≡ value_text live path
    → Replies tells_changes configured limit live k (spec.value path) t live k
value_replied tells_changes configured limit live k path t said s h = (
  said ∙ (ap (λ (tree : Tree). value_text (record live { tree = tree }) path) h.tree
      ∙ value_as tells_changes live.schema s.tree (target_of live.schema s.tree false path >>= value_at live.schema)),
  h,
)
