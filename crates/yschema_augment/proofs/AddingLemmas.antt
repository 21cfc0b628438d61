-- What is found once nodes come behind the children of a node.
use Rattle.std.proofs.Common.{◌≡◌, ℕ, Bool, true, false, cond, ◌&&◌, ◌==◌, List, [], ◌∷◌, ◌++◌, Option, Some, None, refl, sym, ap, ◌∙◌}
use Rattle.std.specs.Prelude.{option_map, option_and_then, slice_get}
use Rattle.std.specs.Option.{option_map_or}
use Rattle.yspec.specs.Forest.{end, node, row, join, first_of}
use Rattle.yspec.specs.text.Text.{Text, is_text}
use Rattle.yspec.specs.linking.Source.{argument_in}
use Rattle.yspec.specs.linking.Parts.{Part}
use Rattle.yspec.specs.linking.Prefixes.{NodeName}
use Rattle.yspec.specs.linking.Planned.{same_number}
use Rattle.ybase_index.specs.declared.keys.Among.TheVariants.{Children}
use Rattle.ybase_index.specs.declared.index.NodeIndex.{NodeIndex}
use Rattle.ybase_index.specs.Index.{found, texts_of}
use Rattle.ybase_index.specs.Names.{text_in}
use Rattle.yschema_augment.specs.Hanging.{is_step_of}
use Rattle.yschema_expand.specs.NumberedView.{Numbered}
use Rattle.yschema_augment.specs.Searching.{first_in}
use Rattle.yschema_augment.specs.SearchView.{Adds, look_in, woken_by}
use Rattle.yschema_augment.specs.WaitingView.{waiters_at}
use Rattle.yschema_augment.specs.declared.waiting.Waiter.{Waiter}
use Rattle.yschema_augment.specs.declared.search.Search.{Search}
use Rattle.yschema_augment.proofs.HangingLemmas.{Nodes}
use Rattle.yschema_augment.proofs.SearchLemmas.{first_join, of_none}

abbrev Parts : Type 0
Parts = Nodes Part

pub adds_none : (target : ℕ) (s : Search) → Adds target end s s
adds_none target s = record {
  texts = refl;
  names = refl;
  waiting = refl;
  arrived = refl;
  look = λ above name. by (same_number above (Some target)) (look_in s above name);
}
  where
    by : (b : Bool) (o : Option ℕ) → o ≡ first_of o (cond b None None)
    by true o = sym (of_none o)
    by false o = sym (of_none o)

both_behind : (b : Bool) (o p q : Option ℕ) → first_of (first_of o (cond b p None)) (cond b q None) ≡ first_of o (cond b (first_of p q) None)
both_behind b (Some n) p q = refl
both_behind true None p q = refl
both_behind false None p q = refl

pub adds_both : (target : ℕ) (f g : Parts) (a b c : Search) → Adds target f a b → Adds target g b c → Adds target (join f g) a c
adds_both target f g a b c first second = record {
  texts = second.texts ∙ first.texts;
  names = second.names ∙ first.names;
  waiting = second.waiting ∙ first.waiting;
  arrived = second.arrived ∙ first.arrived;
  look = λ above name. second.look above name
      ∙ (ap (λ o. first_of o (cond (same_number above (Some target)) (first_in name g) None)) (first.look above name)
      ∙ (both_behind (same_number above (Some target)) (look_in a above name) (first_in name f) (first_in name g)
      ∙ ap (λ o. first_of (look_in a above name) (cond (same_number above (Some target)) o None)) (sym (first_join name f g))));
}

-- one node alone
split : (a b : Bool) (x : Option ℕ) → cond (a && b) x None ≡ cond a (cond b x None) None
split true b x = refl
split false b x = refl

none_of : (b : Bool) → cond {A = Option ℕ} b None None ≡ None
none_of true = refl
none_of false = refl

number_of : (b : Bool) (l : Numbered Part) → option_map (λ (k : Numbered Part). k.number) (cond b (Some l) None) ≡ cond b (Some l.number) None
number_of true l = refl
number_of false l = refl

first_alone : (name : NodeName) (l : Numbered Part) (below : Parts) (o : Option ℕ) → name.module_number ≡ o
    → first_in name (node l below end) ≡ cond (same_number o (Some l.label.owner) && is_text name.name (argument_in l.label.source)) (Some l.number) None
first_alone name l below o e = number_of (is_step_of name l) l
    ∙ ap (λ q. cond (same_number q (Some l.label.owner) && is_text name.name (argument_in l.label.source)) (Some l.number) None) e

pub found_alone : (old new : NodeIndex) (target number owner : ℕ) (l : Numbered Part) (below : Parts) → l.number ≡ number → l.label.owner ≡ owner
    → text_in (texts_of old) number ≡ argument_in l.label.source
    → ((above : Option ℕ) (m : ℕ) (t : Text) → found new Children above m t ≡ first_of (found old Children above m t)
    (cond (same_number above (Some target) && (m == owner && is_text t (text_in (texts_of old) number))) (Some number) None))
    → (above : Option ℕ) (name : NodeName)
    → option_and_then (λ m. found new Children above m name.name) name.module_number
    ≡ first_of (option_and_then (λ m. found old Children above m name.name) name.module_number)
    (cond (same_number above (Some target)) (first_in name (node l below end)) None)
found_alone old new target number owner l below number_is owner_is text_is is above name = by name.module_number refl
  where
    by : (o : Option ℕ) → name.module_number ≡ o
        → option_and_then (λ m. found new Children above m name.name) o
        ≡ first_of (option_and_then (λ m. found old Children above m name.name) o) (cond (same_number above (Some target)) (first_in name (node l below end)) None)
    by None e = sym (ap (λ o. cond (same_number above (Some target)) o None) (first_alone name l below None e) ∙ none_of (same_number above (Some target)))
    by (Some m) e = is above m name.name
        ∙ ap (first_of (found old Children above m name.name))
        (split (same_number above (Some target)) (m == owner && is_text name.name (text_in (texts_of old) number)) (Some number)
        ∙ ap (λ o. cond (same_number above (Some target)) o None) (sym (first_alone name l below (Some m) e
        ∙ (ap (λ k. cond (m == l.label.owner && is_text name.name (argument_in l.label.source)) (Some k) None) number_is
        ∙ (ap (λ w. cond (m == w && is_text name.name (argument_in l.label.source)) (Some number) None) owner_is
        ∙ ap (λ t. cond (m == owner && is_text name.name t) (Some number) None) (sym text_is))))))

pub row_join : (f g : Parts) → row (join f g) ≡ row f ++ row g
row_join end g = refl
row_join (node l below after) g = ap (λ ls. l ∷ ls) (row_join after g)

-- a node without a number of its name lets none go on
pub woken_none : (s : Search) (target : ℕ) (l : Numbered Part) → slice_get s.names.of_nodes.items l.number ≡ None → woken_by s target l ≡ []
woken_none s target l e = by (same_number (found s.index Children (Some target) l.label.owner (text_in (texts_of s.index) l.number)) (Some l.number))
  where
    waiters : Option ℕ → List Waiter
    waiters o = option_map_or (λ n. waiters_at s.waiting (record { above = Some target; «module» = l.label.owner; name = n })) o []

    by : (b : Bool) → cond b (waiters (slice_get s.names.of_nodes.items l.number)) [] ≡ []
    by true = ap waiters e
    by false = refl
