-- What becomes of a past that is counted from a later document.
use Rattle.std.proofs.Common.{◌≡◌, Bool, true, false, ℕ, List, Option, Some, None, refl, sym, ap, ap₂, subst, ◌∙◌}
use Rattle.std.specs.Prelude.{if◌then◌else◌, drop, option_map}
use Rattle.yspec.specs.schema.Schema.{Schema}
use Rattle.yspec.specs.document.Document.{Tree}
use Rattle.yspec.specs.document.Fitting.{Fits}
use Rattle.yspec.specs.edit.EditText.{Edit}
use Rattle.yspec.specs.edit.Live.{Live}
use Rattle.yspec_session.specs.Session.{Session}
use Rattle.yspec_session.specs.Remembering.{Since, Later, Kept, Remembers, counted_from, less_groups, marked, settled, settled_by, stands_behind}
use Rattle.yspec_session.proofs.RememberingLemmas.{marks, settles}
use Rattle.yapp_session.specs.Kept.{AreFit, LaterFits}
use Rattle.yapp_session.specs.Answered.{Holds}

-- ---- the session that it is

pub settled_holds : (live : Live) (k l : Kept) (s : Session) → l ≡ settled k → Holds live k s → Holds live l s
settled_holds live k l s is h = subst (λ (l : Kept). Holds live l s) (sym is)
    (record { fresh = h.fresh; tree = h.tree; remembers = settles live.schema k s h.remembers })

pub marked_holds : (live : Live) (k l : Kept) (t : Tree) (s : Session) → l ≡ marked t k → t ≡ live.tree → Holds live k s → Holds live l s
marked_holds live k l t s is copy h = subst (λ (l : Kept). Holds live l s) (sym (is ∙ ap (λ t. marked t k) (copy ∙ h.tree)))
    (record { fresh = h.fresh; tree = h.tree; remembers = marks live.schema k s h.remembers })

-- ---- the documents fit

pub settled_fits : (schema : Schema) (k l : Kept) → l ≡ settled k → AreFit schema k → AreFit schema l
settled_fits schema k l is fit = subst (AreFit schema) (sym is) (by k.later refl)
  where
    by : (o : Option Later) → k.later ≡ o → AreFit schema (settled_by o k)
    by None e = fit
    by (Some l) e = either (stands_behind l.groups k)
      where
        either : (b : Bool) → AreFit schema (if b then counted_from l k else k)
        either true = (subst (LaterFits schema) e fit.1, tt)
        either false = fit

pub marked_fits : (schema : Schema) (k l : Kept) (t : Tree) → l ≡ marked t k → Fits schema t → AreFit schema k → AreFit schema l
marked_fits schema k l t is fits fit = subst (AreFit schema) (sym is) (fit.0, fits)

-- ---- how it is done

-- the later document is put in again where it isn't counted from it
with_later : Kept → Option Later → Kept
with_later k o = settled_by o (record k { later = o })

pub settled_again : (k m : Kept) (o : Option Later) → k.later ≡ o → m ≡ settled_by o (record k { later = o }) → m ≡ settled k
unfolding with_later
settled_again k m o e is = is ∙ sym (ap (with_later k) e)

pub settled_now : (l : Later) (k m : Kept) → stands_behind l.groups k ≡ true → m ≡ counted_from l k → m ≡ settled_by (Some l) k
settled_now l k m behind is = is ∙ sym (ap (λ (b : Bool). if b then counted_from l k else k) behind)

pub settled_not : (l : Later) (k m : Kept) → stands_behind l.groups k ≡ false → m ≡ k → m ≡ settled_by (Some l) k
settled_not l k m behind is = is ∙ sym (ap (λ (b : Bool). if b then counted_from l k else k) behind)

pub counted_as : (l : Later) (k : Kept) (gs : List (List Edit)) (b : Option Since) (o : Option Later) → gs ≡ drop l.groups k.groups
    → b ≡ option_map (less_groups l.groups) k.begun → o ≡ None
    → record { base = l.tree; groups = gs; kept = k.kept; begun = b; later = o } ≡ counted_from l k
counted_as l k gs b o groups begun none =
    ap₂ (λ (gs : List (List Edit)) (b : Option Since). record { base = l.tree; groups = gs; kept = k.kept; begun = b; later = o }) groups begun
    ∙ ap (λ (o : Option Later). record { base = l.tree; groups = drop l.groups k.groups; kept = k.kept; begun = option_map (less_groups l.groups) k.begun; later = o }) none
