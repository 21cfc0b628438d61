-- Texts that are read one after the other, and refusals that are passed on.
use Rattle.std.proofs.Common.{◌≡◌, ℕ, ◌+◌, List, [], ◌∷◌, ◌++◌, Option, Some, None, Result, Ok, refl, ap, sym, ◌∙◌}
use Rattle.yspec.specs.Forest.{Forest, end, node, join}
use Rattle.yspec.specs.Results.{◌>>=◌, Fails}
use Rattle.yspec.specs.linking.Compiling.{compiled}
use Rattle.yspec.specs.text.Statement.{Statement, Slip, module_of}
use Rattle.ylink.specs.Told as set
use Rattle.ylink.specs.declared.fault.CompileFault.{CompileFault}
use Rattle.ylink.specs.declared.fault.CompileFault.TheVariants as faults
use Rattle.ytext.specs.View.{view, modules_view}
use Rattle.ytext.specs.declared.statement.Module.{Module}
use Rattle.yanglive_uses.specs.Compiling.{Refusal, at_text, of_set, read_behind, schema_of, told_by}
use Rattle.yanglive_uses.specs.declared.compiling.Uncompiled.TheVariants.{Modules}

modules_behind : (ms : List Module) (m : Module) → modules_view (ms ++ m ∷ []) ≡ join (modules_view ms) (modules_view (m ∷ []))
modules_behind [] m = refl
modules_behind (x ∷ ms) m = ap (node (view x.top).0 (view x.top).1) (modules_behind ms m)

-- one more is read
pub one_read : (ms later : List Module) (m : Module) (number : ℕ) (bytes : List ℕ) (texts : List (List ℕ)) (all : Result (Forest Statement) Refusal)
    → all ≡ read_behind (modules_view ms) number (bytes ∷ texts) → module_of bytes ≡ Ok (modules_view (m ∷ [])) → later ≡ ms ++ m ∷ []
    → all ≡ read_behind (modules_view later) (number + 1) texts
one_read ms later m number bytes texts all so_far read pushed =
    so_far ∙ ap (λ (r : Result (Forest Statement) Slip). at_text number r >>= (λ top. read_behind (join (modules_view ms) top) (number + 1) texts)) read
    ∙ ap (λ (f : Forest Statement). read_behind f (number + 1) texts) (sym (ap modules_view pushed ∙ modules_behind ms m))

-- what is refused first is refused of the whole
pub still_refused : {Y Z R : Type 0} (told : Option R) (r : Result Y R) (f : Y → Result Z R) → Fails told r → Fails told (r >>= f)
still_refused (Some refusal) r f refused = ap (λ q. q >>= f) refused
still_refused None r f refused = tt

-- the set of texts that were read is refused
pub set_refused : (texts : List (List ℕ)) (modules shown : Forest Statement) (fault : CompileFault) → read_behind end 0 texts ≡ Ok modules → shown ≡ modules
    → Fails (set.told_by fault) (compiled shown) → Fails (told_by (Modules fault)) (schema_of texts)
set_refused texts modules shown (faults.Refused code at line) read same refused =
    ap (λ (r : Result (Forest Statement) Refusal). r >>= (λ ms. of_set (compiled ms))) read
    ∙ ap of_set (sym (ap compiled same) ∙ refused)
set_refused texts modules shown faults.Memory read same refused = tt
