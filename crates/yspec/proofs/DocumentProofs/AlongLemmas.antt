-- A stored row that fits a schema row, node by node along the schema row: the instances of each data node stand one behind
-- another, and then those of the nodes after it.
use Rattle.std.proofs.Common.{◌≡◌, ◌≢◌, ℕ, suc, ◌+◌, ◌≤◌, ◌<◌, Bool, true, false, cond, eqb, Option, Some, refl, sym, ap, ◌∙◌, subst, arith}
use Rattle.std.specs.Prelude.{unwrap_or}
use Rattle.std.proofs.lemmas.Bool.{eqb-true, eq-eqb}
use Rattle.yspec.specs.Forest.{Forest, end, node, size, join}
use Rattle.yspec.specs.types.Types.{Raw}
use Rattle.yspec.specs.schema.Schema.{SchemaNode, is_many, data_row, child_in}
use Rattle.yspec.specs.document.Document.{Stored, Tree, instances}
use Rattle.yspec.specs.document.Fitting.{IsNumbered, next_after, FitsBy}
use Rattle.yspec.proofs.DocumentProofs.FittingLemmas.{eqb_other}
use Rattle.yspec.proofs.DocumentProofs.DataRowWritingLemmas.{Rises, rises_lower, numbers_rise, least_of_row}

-- more than one instance only of a list or leaf-list
abbrev pub MayBe : Bool → Tree → Type 0
MayBe many end = Unit {0}
MayBe many (node s b a) = many ≡ false → a ≡ end

module _ (Held : SchemaNode → Option Raw → Type 0) where
  -- all nodes of the row are instances of one data node
  abbrev pub AreOf : SchemaNode → Forest SchemaNode → Tree → Type 0
  AreOf n below end = Unit {0}
  AreOf n below (node s b a) = (s.schema_number ≡ n.number) × Held n s.value × FitsBy Held below 0 b × AreOf n below a

  -- the row is the instances of the first data node, and behind them those of the others
  abbrev pub Along : Forest SchemaNode → Tree → Type 0
  Along end t = t ≡ end
  Along (node n below after) t = (front : Tree) × (back : Tree) × (t ≡ join front back) × AreOf n below front × MayBe (is_many n.kind) front × Along after back

  -- ---- from the fit

  -- where none of its instances is stored
  none_of_it : (n : SchemaNode) (below after : Forest SchemaNode) (t : Tree) → Along after t → Along (node n below after) t
  none_of_it n below after t along = (end, t, refl, tt, tt, along)

  one_of_it : (n : SchemaNode) (below after : Forest SchemaNode) (s : Stored) (b a : Tree) → s.schema_number ≡ n.number → Held n s.value → FitsBy Held below 0 b → Along after a
      → Along (node n below after) (node s b a)
  one_of_it n below after s b a same held fits along = (node s b end, a, refl, (same, held, fits, tt), λ _. refl, along)

  one_more : (n : SchemaNode) (below after : Forest SchemaNode) (s : Stored) (b a : Tree) → is_many n.kind ≡ true → s.schema_number ≡ n.number → Held n s.value → FitsBy Held below 0 b
      → Along (node n below after) a → Along (node n below after) (node s b a)
  one_more n below after s b a many same held fits along =
      (node s b along.0, along.1, ap (node s b) along.2, (same, held, fits, along.3), λ single. absurd (let no : true ≡ false = sym many ∙ single in cc), along.5)

  abbrev Agrees : Forest SchemaNode → Forest SchemaNode → ℕ → Type 0
  Agrees whole f low = (m : ℕ) → low ≤ m → child_in whole m ≡ child_in f m

  agrees_after : (whole : Forest SchemaNode) (n : SchemaNode) (below after : Forest SchemaNode) (low : ℕ) → low ≤ n.number → Agrees whole (node n below after) low
      → Agrees whole after (suc n.number)
  agrees_after whole n below after low less agrees = λ m from.
      agrees m (omega (arith, less, from)) ∙ ap (λ b. cond b (Some (n, below)) (child_in after m)) (eqb_other n.number m (λ e. absurd (omega (arith, e, from))))

  -- the row that is given, from a greater number on
  fits_from : (children : Forest SchemaNode) (least more : ℕ) (s : Stored) (b a : Tree) → more ≤ s.schema_number → FitsBy Held children least (node s b a)
      → FitsBy Held children more (node s b a)
  fits_from children least more s b a from fits = (fits.0, fits.1, from, fits.3, fits.4, fits.5)

  pub along_row : (children f : Forest SchemaNode) (low high least : ℕ) (t : Tree) → Rises low high f → Agrees (data_row children) f low → low ≤ least → FitsBy Held children least t
      → Along f t
  along_row children end low high least end rises agrees from fits = refl
  along_row children end low high least (node s b a) rises agrees from fits =
      absurd (let none = sym fits.1 ∙ agrees s.schema_number (omega (arith, from, fits.2)) in cc)
  along_row children (node n below after) low high least end rises agrees from fits =
      none_of_it n below after end (along_row children after (suc n.number) high (suc n.number) end rises.1 (agrees_after (data_row children) n below after low rises.0 agrees) (omega arith) tt)
  along_row children (node n below after) low high least (node s b a) rises agrees from fits =
      by (eqb n.number s.schema_number) refl (sym (agrees s.schema_number (omega (arith, from, fits.2))) ∙ fits.1)
      (λ later. along_row children after (suc n.number) high (suc n.number) a rises.1 (agrees_after (data_row children) n below after low rises.0 agrees) (omega arith) later)
      (λ later. along_row children (node n below after) low high n.number a rises agrees rises.0 later)
      (λ past. along_row children after (suc n.number) high (suc n.number) (node s b a) rises.1 (agrees_after (data_row children) n below after low rises.0 agrees) (omega arith)
      (fits_from children least (suc n.number) s b a past fits))
    where
      by_many : (many : Bool) → is_many n.kind ≡ many → s.schema_number ≡ n.number → Held n s.value → FitsBy Held below 0 b → FitsBy Held children (cond many n.number (suc n.number)) a
          → (FitsBy Held children (suc n.number) a → Along after a) → (FitsBy Held children n.number a → Along (node n below after) a) → Along (node n below after) (node s b a)
      by_many true is same held inner later single many = one_more n below after s b a is same held inner (many later)
      by_many false is same held inner later single many = one_of_it n below after s b a same held inner (single later)

      by_found : (found : SchemaNode × Forest SchemaNode) → (n, below) ≡ found → s.schema_number ≡ n.number → Held found.0 s.value → FitsBy Held found.1 0 b
          → FitsBy Held children (next_after found.0) a
          → (FitsBy Held children (suc n.number) a → Along after a) → (FitsBy Held children n.number a → Along (node n below after) a) → Along (node n below after) (node s b a)
      by_found found is same held inner later single many =
          by_many (is_many n.kind) refl same
          (subst (λ (x : SchemaNode × Forest SchemaNode). Held x.0 s.value) (sym is) held)
          (subst (λ (x : SchemaNode × Forest SchemaNode). FitsBy Held x.1 0 b) (sym is) inner)
          (subst (λ (x : SchemaNode × Forest SchemaNode). FitsBy Held children (next_after x.0) a) (sym is) later) single many

      by : (c : Bool) → eqb n.number s.schema_number ≡ c → cond c (Some (n, below)) (child_in after s.schema_number) ≡ Some fits.0
          → (FitsBy Held children (suc n.number) a → Along after a) → (FitsBy Held children n.number a → Along (node n below after) a)
          → (suc n.number ≤ s.schema_number → Along after (node s b a)) → Along (node n below after) (node s b a)
      by true same is single many past =
          by_found fits.0 (ap (λ (o : Option (SchemaNode × Forest SchemaNode)). unwrap_or o fits.0) is) (sym (eqb-true n.number s.schema_number same)) fits.3 fits.4 fits.5 single many
      by false other is single many past =
          none_of_it n below after (node s b a) (past (least_of_row after (suc n.number) high s.schema_number fits.0 rises.1 is))

  pub along_of : (f : Forest SchemaNode) (k : ℕ) (t : Tree) → IsNumbered k f → FitsBy Held f 0 t → Along (data_row f) t
  along_of f k t numbered fits =
      along_row f (data_row f) 0 (k + size f) 0 t (rises_lower k 0 (k + size f) (data_row f) (omega arith) (numbers_rise f k numbered)) (λ m _. refl) (omega arith) fits

  -- ---- instances

  -- among instances of one data node none is of another number
  pub others_behind : (n : SchemaNode) (below : Forest SchemaNode) (front back : Tree) (m : ℕ) → n.number ≢ m → AreOf n below front
      → instances m (join front back) ≡ instances m back
  others_behind n below end back m other are = refl
  others_behind n below (node s b a) back m other are =
      ap (λ c. cond c (node s b (instances m (join a back))) (instances m (join a back))) (eqb_other s.schema_number m (λ e. other (sym are.0 ∙ e)))
      ∙ others_behind n below a back m other are.3

  -- of a number before those of the schema row nothing is stored
  pub none_before : (f : Forest SchemaNode) (low high m : ℕ) (t : Tree) → Rises low high f → Along f t → m < low → instances m t ≡ end
  none_before end low high m t rises along before = ap (instances m) along
  none_before (node n below after) low high m t rises along before =
      ap (instances m) along.2
      ∙ (others_behind n below along.0 along.1 m (λ e. absurd (omega (arith, e, before, rises.0))) along.3
      ∙ none_before after (suc n.number) high m along.1 rises.1 along.5 (omega (arith, before, rises.0)))

  -- those of the first data node
  pub its_instances : (n : SchemaNode) (below : Forest SchemaNode) (front back : Tree) → AreOf n below front → instances n.number back ≡ end
      → instances n.number (join front back) ≡ front
  its_instances n below end back are none = none
  its_instances n below (node s b a) back are none =
      ap (λ c. cond c (node s b (instances n.number (join a back))) (instances n.number (join a back))) (eq-eqb s.schema_number n.number are.0)
      ∙ ap (node s b) (its_instances n below a back are.3 none)

  pub first_instances : (n : SchemaNode) (below after : Forest SchemaNode) (low high : ℕ) (t : Tree) → Rises low high (node n below after) → (along : Along (node n below after) t)
      → instances n.number t ≡ along.0
  first_instances n below after low high t rises along =
      ap (instances n.number) along.2
      ∙ its_instances n below along.0 along.1 along.3 (none_before after (suc n.number) high n.number along.1 rises.1 along.5 (omega arith))

  -- those of the data nodes after it
  pub later_instances : (n : SchemaNode) (below after : Forest SchemaNode) (t : Tree) → (along : Along (node n below after) t)
      → (m : ℕ) → suc n.number ≤ m → instances m t ≡ instances m along.1
  later_instances n below after t along m behind =
      ap (instances m) along.2 ∙ others_behind n below along.0 along.1 m (λ e. absurd (omega (arith, e, behind))) along.3
