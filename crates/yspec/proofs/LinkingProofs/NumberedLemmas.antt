-- As many statements with numbers as without.
use Rattle.std.proofs.Common.{◌≡◌, ℕ, Bool, suc, ◌+◌, refl, ap₂}
use Rattle.yspec.specs.Forest.{Forest, end, node, size}
use Rattle.yspec.specs.text.Statement.{Statement}
use Rattle.yspec.specs.linking.Keyword.{Keyword}
use Rattle.yspec.specs.linking.Source.{numbered}

pub size-numbered : (may : Bool) (home k : ℕ) (f : Forest (Keyword × Statement)) → size (numbered may home k f) ≡ size f
unfolding numbered
size-numbered may home k end = refl
size-numbered may home k (node (word, s) below after) =
    ap₂ (λ a b. suc (a + b)) (size-numbered may home (k + 1) below) (size-numbered may home (k + suc (size below)) after)
