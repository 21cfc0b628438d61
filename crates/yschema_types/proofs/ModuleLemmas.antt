-- What the modules of a set are called, by their numbers.
use Rattle.std.proofs.Common.{◌≡◌, ℕ, zero, suc, List, [], ◌∷◌, ◌++◌, map, sym, ap, refl, ◌∙◌, append_assoc}
use Rattle.std.proofs.lemmas.List.{append-nil, map-append}
use Rattle.yspec.specs.Forest.{Forest, end, node}
use Rattle.yspec.specs.types.Identities.{ModuleNames}
use Rattle.yspec.specs.linking.Source.{Source}
use Rattle.yspec.specs.linking.Identities.{names_of}
use Rattle.yschema_types.specs.ModulesView.{named_view, names_at, names_by, names_in_row}
use Rattle.yschema_types.specs.declared.modules.NamedModule.{NamedModule}

-- one module more
pub next_named : (made more : List NamedModule) (m : NamedModule) (s : Source) (below after before : Forest Source) (whole : List ModuleNames)
    → before ≡ node s below after → more ≡ made ++ m ∷ [] → named_view m ≡ names_by s below
    → map named_view made ++ names_in_row before ≡ whole → map named_view more ++ names_in_row after ≡ whole
next_named made more m s below after before whole first pushed is so_far =
    ap (λ l. map named_view l ++ names_in_row after) pushed
    ∙ (ap (λ l. l ++ names_in_row after) (map-append named_view made (m ∷ []))
    ∙ (append_assoc (map named_view made) (named_view m ∷ []) (names_in_row after)
    ∙ (ap (λ y. map named_view made ++ y ∷ names_in_row after) is
    ∙ (sym (ap (λ f. map named_view made ++ names_in_row f) first) ∙ so_far))))

pub last_named : (made : List NamedModule) (left : Forest Source) (whole : List ModuleNames) → left ≡ end
    → map named_view made ++ names_in_row left ≡ whole → map named_view made ≡ whole
last_named made left whole ended so_far =
    sym (ap (λ f. map named_view made ++ names_in_row f) ended ∙ append-nil (map named_view made)) ∙ so_far

pub all_named : (modules : Forest Source) (table : List NamedModule) → map named_view table ≡ names_in_row modules
    → (n : ℕ) → names_at table n ≡ names_of modules n
all_named end [] are n = refl
all_named end (m ∷ table) are n = absurd cc
all_named (node s below after) [] are n = absurd cc
all_named (node s below after) (m ∷ table) are zero = let here : named_view m ≡ names_by s below = cc in here
all_named (node s below after) (m ∷ table) are (suc n) =
    let others : map named_view table ≡ names_in_row after = cc in all_named after table others n
