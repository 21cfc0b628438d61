-- Entries that are given back.
use Rattle.std.proofs.Common.{◌≡◌, List, [], ◌∷◌, ◌++◌, subst, Bool, true, false, ◌&&◌, length, Option, Some, None, option_map, refl, sym, ap, ◌∙◌, cond, eqb}
use Rattle.std.specs.Option.{option_map_or}
use Rattle.std.proofs.lemmas.Bool.{eqb-true, false≢true}
use Rattle.std.proofs.lemmas.List.{append_assoc, append-nil}
use Rattle.ystore.specs.Entries.{Entry, is_idle}
use Rattle.ystore.specs.Held.{Held}
use Rattle.ystore.specs.Index.{tidied}
use Rattle.ystore_rows.specs.declared.row.Row.TheVariants.{Top, Below}
use Rattle.ystore.specs.Store.{entry_at, same_key, ChangesEntry}
use Rattle.ystore_rows.specs.declared.row.NodeId.{NodeId}
use Rattle.ystore.specs.declared.key.Key.{Key}
use Rattle.ystore.specs.declared.nodes.Nodes.{Nodes}
use Rattle.ystore_tree.specs.Hanging.{Branches}
use Rattle.ylive_marks.specs.Keys.{AreKeys, Keys, SameKeys, own_of}
use Rattle.ylive_marks.proofs.AgreeLemmas.{keys_on, agrees_told}
use Rattle.ylive_marks.proofs.LawLemmas.{held_faults}
use Rattle.ylive_marks.proofs.TotalLemmas.{totals_same}
use Rattle.ylive_retell.specs.Growing.{awaited_of, awaited_at}
use Rattle.ylive_retell.specs.Joins.{Follows, IsTidy, KeepsRows, Tidies}
use Rattle.ylive_retell.specs.Standing.{Every}
use Rattle.ylive_retell.proofs.EachLemmas.{every_join}
use Rattle.ylive_retell.proofs.UnlikeLemmas.{every_map}

-- an entry that is given back awaited nothing
idle_awaits : (e : Entry) (b : Bool) → is_idle e ≡ b → awaited_of (cond b None (Some e)) ≡ e.awaited
idle_awaits e true is = sym (eqb-true e.awaited 0 (last (eqb e.instances 0) (eqb (length e.nodes) 0) (eqb e.awaited 0) is))
  where
    last : (a b c : Bool) → ((a && b) && c) ≡ true → c ≡ true
    last true true c e = e
    last true false c e = absurd (false≢true e)
    last false b c e = absurd (false≢true e)
idle_awaits e false is = refl

tidied_awaits : (o : Option Entry) → awaited_of (tidied o) ≡ awaited_of o
tidied_awaits None = refl
tidied_awaits (Some e) = idle_awaits e (is_idle e) refl

pub tidies_one : (laws : AreKeys) (key : Key) (before after : Nodes) → SameKeys before after → ChangesEntry key tidied before after → Tidies before after
tidies_one laws key before after same changes =
    record { held = changes.held; keys = same; awaited = λ other. by other (same_key key other) refl; node_count = changes.node_count }
  where
    by : (other : Key) (b : Bool) → same_key key other ≡ b → awaited_at after other ≡ awaited_at before other
    by other true e =
        ap awaited_of (sym (laws.found after key other e) ∙ changes.changed) ∙ (tidied_awaits (entry_at before key) ∙ ap awaited_of (laws.found before key other e))
    by other false e = ap awaited_of (changes.others other e)

pub tidies_nothing : (nodes : Nodes) → Tidies nodes nodes
tidies_nothing nodes =
    record { held = λ row. refl; keys = record { holders = λ key. refl; instances = λ key. refl }; awaited = λ key. refl; node_count = refl }

pub tidies_on : (first second third : Nodes) → Tidies first second → Tidies second third → Tidies first third
tidies_on first second third a b =
    record {
      held = λ row. b.held row ∙ a.held row;
      keys = keys_on first second third a.keys b.keys;
      awaited = λ key. b.awaited key ∙ a.awaited key;
      node_count = b.node_count ∙ a.node_count;
    }

pub tidied_rows : (before after : Nodes) → Tidies before after → KeepsRows before after
tidied_rows before after tidies =
    record {
      shapes = λ row. ap (option_map (λ (h : Held). h.shape)) (tidies.held row);
      rooms = λ row. ap (option_map (λ (h : Held). h.room)) (tidies.held row);
      node_count = tidies.node_count;
    }

-- what is told agrees on
pub tidied_follows : (held : Keys) (f : Branches) (first before after : Nodes) → Follows held f first before → Tidies before after → Follows held f first after
tidied_follows held f first before after follows tidies =
    record {
      agrees = agrees_told before after held f tidies.keys (λ id stands. ap (option_map (λ (h : Held). h.told)) (tidies.held (Below id))) follows.agrees;
      totals = totals_same before after (held_faults before after tidies.held) f follows.totals;
      own = λ row. ap (λ (o : Option Held). option_map own_of (option_map (λ (h : Held). h.told) o)) (tidies.held row) ∙ follows.own row;
      top = ap (option_map (λ (h : Held). h.told)) (tidies.held Top) ∙ follows.top;
      beside = λ id none. ap (option_map (λ (h : Held). h.told)) (tidies.held (Below id)) ∙ follows.beside id none;
      totals_beside = λ id none. ap (λ (o : Option Held). option_map_or (λ (h : Held). h.total) o 0) (tidies.held (Below id)) ∙ follows.totals_beside id none;
    }

-- ---- no entry is idle

tidied_twice : (o : Option Entry) → tidied (tidied o) ≡ tidied o
tidied_twice None = refl
tidied_twice (Some e) = by (is_idle e) refl
  where
    by : (b : Bool) → is_idle e ≡ b → tidied (cond b None (Some e)) ≡ cond b None (Some e)
    by true is = refl
    by false is = ap (λ b. cond b None (Some e)) is

pub tidy_itself : (key : Key) (before after : Nodes) → ChangesEntry key tidied before after → IsTidy after key
tidy_itself key before after changes = ap tidied changes.changed ∙ (tidied_twice (entry_at before key) ∙ sym changes.changed)

pub tidy_on : (laws : AreKeys) (key : Key) (before after : Nodes) → ChangesEntry key tidied before after → (other : Key) → IsTidy before other → IsTidy after other
tidy_on laws key before after changes other is = by (same_key key other) refl
  where
    by : (b : Bool) → same_key key other ≡ b → IsTidy after other
    by true e =
        let same : entry_at after other ≡ tidied (entry_at before other) =
        sym (laws.found after key other e) ∙ (changes.changed ∙ ap tidied (laws.found before key other e)) in
        ap tidied same ∙ (tidied_twice (entry_at before other) ∙ sym same)
    by false e = ap tidied (changes.others other e) ∙ (is ∙ sym (changes.others other e))

-- those so far, and the others
pub record TidySoFar (nodes : Nodes) (rest keys : List (Key × NodeId)) : Type 0 where
  pub done : List (Key × NodeId)
  pub all : done ++ rest ≡ keys
  pub tidy : Every (λ p. IsTidy nodes p.0) done

pub tidy_more : (laws : AreKeys) (p : Key × NodeId) (rest next keys : List (Key × NodeId)) (before after : Nodes) → rest ≡ p ∷ next
    → ChangesEntry p.0 tidied before after → TidySoFar before rest keys → TidySoFar after next keys
tidy_more laws p rest next keys before after is changes so =
    record {
      done = so.done ++ p ∷ [];
      all = append_assoc so.done (p ∷ []) next ∙ (ap (λ ps. so.done ++ ps) (sym is) ∙ so.all);
      tidy =
          every_join (λ (q : Key × NodeId). IsTidy after q.0) so.done (p ∷ [])
          (every_map (λ (q : Key × NodeId). IsTidy before q.0) (λ (q : Key × NodeId). IsTidy after q.0) (λ q was. tidy_on laws p.0 before after changes q.0 was) so.done so.tidy)
          (tidy_itself p.0 before after changes, tt);
    }

pub tidy_whole : (nodes : Nodes) (rest keys : List (Key × NodeId)) → rest ≡ [] → TidySoFar nodes rest keys → Every (λ p. IsTidy nodes p.0) keys
tidy_whole nodes rest keys none so =
    subst (λ (ps : List (Key × NodeId)). Every (λ p. IsTidy nodes p.0) ps)
    (sym (append-nil so.done) ∙ (ap (λ ps. so.done ++ ps) (sym none) ∙ so.all)) so.tidy
