-- How the faults that are found grow.
use Rattle.std.proofs.Common.{◌≡◌, ◌-◌, List, [], ◌∷◌, ◌++◌, length, take, map, refl, sym, ap, ap₂, ◌∙◌, subst, arith, append_assoc, length-append}
use Rattle.std.proofs.lemmas.List.{append-nil, map-append, take_at}
use Rattle.yspec.specs.document.Document.{Step}
use Rattle.yspec.specs.document.Fault.{Fault}
use Rattle.yspec.specs.document.Faults.{under}
use Rattle.yspec.specs.document.RowFaults.{prefixed}
use Rattle.yspec.proofs.DocumentProofs.CheckingRowLemmas.{prefixed_twice}
use Rattle.yinst_tree.specs.declared.tree.Step as inst
use Rattle.yinst_tree.specs.View.{step_view, place_view}
use Rattle.ycheck.specs.declared.fault.Fault as check
use Rattle.ycheck.specs.declared.checking.Findings.{Findings}
use Rattle.ycheck.specs.View.{view, views}
use Rattle.ycheck.specs.Found.{Adds}

grown : (change : Fault → Fault) (old first second : List Fault) → (old ++ map change first) ++ map change second ≡ old ++ map change (first ++ second)
grown change old first second =
    append_assoc old (map change first) (map change second) ∙ ap (λ (fs : List Fault). old ++ fs) (sym (map-append change first second))

-- ---- steps of the walk

pub adds_none : (f : Findings) → Adds f f []
adds_none f = record { found = sym (append-nil (views f.faults.items)); place = refl }

pub adds_same : (old new : Findings) (fs gs : List Fault) → fs ≡ gs → Adds old new fs → Adds old new gs
adds_same old new fs gs is so = subst (λ xs. Adds old new xs) is so

pub adds_both : (a b c : Findings) (fs gs : List Fault) → Adds a b fs → Adds b c gs → Adds a c (fs ++ gs)
adds_both a b c fs gs first second = record {
  found = second.found
      ∙ (ap₂ (λ (p : List Step) (xs : List Fault). xs ++ map (prefixed p) gs) (ap place_view first.place) first.found
      ∙ grown (prefixed (place_view a.steps.items)) (views a.faults.items) fs gs);
  place = second.place ∙ first.place;
}

-- the last step is taken away again
left_again : {X : Type 0} (place : List X) (step : X) (inner outer : List X)
    → inner ≡ place ++ step ∷ [] → outer ≡ take (length inner - 1) inner → outer ≡ place
left_again place step inner outer is out =
    out ∙ (ap (λ xs. take (length xs - 1) xs) is ∙ take_at place (step ∷ []) (length (place ++ step ∷ []) - 1) (omega (arith, length-append place (step ∷ []))))

-- what is found between going down a step and leaving it
pub adds_below : (outer inner last left : Findings) (step : inst.Step) (fs : List Fault)
    → inner.steps.items ≡ outer.steps.items ++ step ∷ [] → inner.faults.items ≡ outer.faults.items → Adds inner last fs
    → left.steps.items ≡ take (length last.steps.items - 1) last.steps.items → left.faults.items ≡ last.faults.items
    → Adds outer left (map (under (step_view step)) fs)
adds_below outer inner last left step fs down as_before more up as_found = record {
  found = ap views as_found ∙ (more.found
      ∙ (ap₂ (λ (p : List Step) (xs : List check.Fault). views xs ++ map (prefixed p) fs)
      (ap place_view down ∙ map-append step_view outer.steps.items (step ∷ [])) as_before
      ∙ ap (λ (xs : List Fault). views outer.faults.items ++ xs) (prefixed_twice (place_view outer.steps.items) (step_view step) fs)));
  place = left_again outer.steps.items step last.steps.items left.steps.items (more.place ∙ down) up;
}

-- one fault of the node at hand
pub adds_one : (old new : Findings) (f : check.Fault) (g : Fault) (steps : List inst.Step) → new.faults.items ≡ old.faults.items ++ f ∷ [] → new.steps.items ≡ old.steps.items
    → f.steps.items ≡ steps → steps ≡ old.steps.items → view f ≡ record g { steps = place_view f.steps.items } → g.steps ≡ [] → Adds old new (g ∷ [])
adds_one old new f g steps pushed still at here is bare = record {
  found = ap views pushed ∙ (map-append view old.faults.items (f ∷ [])
      ∙ ap (λ (x : Fault). views old.faults.items ++ x ∷ []) (is
      ∙ ap (λ (p : List Step). record g { steps = p }) (ap place_view (at ∙ here) ∙ (sym (append-nil (place_view old.steps.items))
      ∙ ap (λ (p : List Step). place_view old.steps.items ++ p) (sym bare)))));
  place = still;
}

-- ---- loops

-- with what is left to find, all is found
pub record Leaves (old now : Findings) (rest whole : List Fault) : Type 0 where
  pub found : views now.faults.items ++ map (prefixed (place_view old.steps.items)) rest ≡ views old.faults.items ++ map (prefixed (place_view old.steps.items)) whole
  pub place : now.steps.items ≡ old.steps.items

pub leaves_all : (f : Findings) (whole : List Fault) → Leaves f f whole whole
leaves_all f whole = record { found = refl; place = refl }

pub leaves_after : (old now next : Findings) (fs rest left whole : List Fault) → left ≡ fs ++ rest → Leaves old now left whole → Adds now next fs → Leaves old next rest whole
leaves_after old now next fs rest left whole is so more = record {
  found = ap (λ (xs : List Fault). xs ++ map (prefixed (place_view old.steps.items)) rest)
      (more.found ∙ ap (λ (p : List inst.Step). views now.faults.items ++ map (prefixed (place_view p)) fs) so.place)
      ∙ (grown (prefixed (place_view old.steps.items)) (views now.faults.items) fs rest
      ∙ (ap (λ (xs : List Fault). views now.faults.items ++ map (prefixed (place_view old.steps.items)) xs) (sym is) ∙ so.found));
  place = more.place ∙ so.place;
}

pub leaves_none : (old now : Findings) (rest whole : List Fault) → rest ≡ [] → Leaves old now rest whole → Adds old now whole
leaves_none old now rest whole is so = record {
  found = sym (append-nil (views now.faults.items))
      ∙ (ap (λ (xs : List Fault). views now.faults.items ++ map (prefixed (place_view old.steps.items)) xs) (sym is) ∙ so.found);
  place = so.place;
}
