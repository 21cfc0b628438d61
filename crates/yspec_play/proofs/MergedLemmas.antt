-- What is told of nodes that aren't stored, merged with what is told of children: of nodes before all children it comes
-- first, and children before all of it come first.
use Rattle.std.proofs.Common.{◌≡◌, ◌≢◌, ℕ, suc, ◌+◌, ◌≤◌, ◌<◌, Bool, true, false, cond, eqb, List, [], ◌∷◌, ◌++◌, map, length, filter, Option, refl, sym, ap, ap₂, ◌∙◌, arith, append_assoc}
use Rattle.std.proofs.lemmas.Bool.{eq-eqb, ne_eqb, le-leb, lt-leb}
use Rattle.std.proofs.lemmas.List.{map-append}
use Rattle.std.proofs.lemmas.List.Elements.{filter-append}
use Rattle.std.specs.List.{flat_map}
use Rattle.std.specs.Option.{option_map_or}
use Rattle.yspec.specs.schema.Schema.{Schema, is_many, node_at}
use Rattle.yspec.specs.document.Document.{step_to, step_at}
use Rattle.yspec.specs.document.Fault.{Fault}
use Rattle.yspec.specs.document.Faults.{Told, under, told_of, at_positions}
use Rattle.yspec_play.specs.Absences.{Absent}
use Rattle.yspec_play.specs.Merging.{absence_fault, up_to, behind, position_behind, step_of, merged_behind, merged}
use Rattle.yspec_play.proofs.AbsenceLemmas.{Between}

-- ---- numbers of a list

abbrev pub AllTold : (ℕ → Type 0) → List Told → Type 0
AllTold P [] = Unit {0}
AllTold P (t ∷ ts) = P t.schema_number × AllTold P ts

abbrev pub AllAbsent : (ℕ → Type 0) → List Absent → Type 0
AllAbsent P [] = Unit {0}
AllAbsent P (a ∷ absences) = P a.1 × AllAbsent P absences

pub all_told : (P Q : ℕ → Type 0) (ts : List Told) → ((m : ℕ) → P m → Q m) → AllTold P ts → AllTold Q ts
all_told P Q [] so all = tt
all_told P Q (t ∷ ts) so all = (so t.schema_number all.0, all_told P Q ts so all.1)

pub all_told_joined : (P : ℕ → Type 0) (ts us : List Told) → AllTold P ts → AllTold P us → AllTold P (ts ++ us)
all_told_joined P [] us first second = second
all_told_joined P (t ∷ ts) us first second = (first.0, all_told_joined P ts us first.1 second)

pub all_absent : (P Q : ℕ → Type 0) (xs : List Absent) → ((m : ℕ) → P m → Q m) → AllAbsent P xs → AllAbsent Q xs
all_absent P Q [] so all = tt
all_absent P Q (a ∷ xs) so all = (so a.1 all.0, all_absent P Q xs so all.1)

pub all_absent_joined : (P : ℕ → Type 0) (xs ys : List Absent) → AllAbsent P xs → AllAbsent P ys → AllAbsent P (xs ++ ys)
all_absent_joined P [] ys first second = second
all_absent_joined P (a ∷ xs) ys first second = (first.0, all_absent_joined P xs ys first.1 second)

pub between_all : (least limit : ℕ) (xs : List Absent) → Between least limit xs → AllAbsent (λ m. (least ≤ m) × (m < limit)) xs
between_all least limit [] b = tt
between_all least limit (a ∷ xs) b =
    ((b.0, b.1), all_absent (λ m. (suc a.1 ≤ m) × (m < limit)) (λ m. (least ≤ m) × (m < limit)) xs (λ m w. (omega (arith, w.0, b.0), w.1)) (between_all (suc a.1) limit xs b.2))

-- ---- what is told of the children of a number

told_cons : (t : Told) (ts : List Told) (m : ℕ) (b : Bool) → eqb t.schema_number m ≡ b
    → told_of (t ∷ ts) m ≡ cond b (t.faults ∷ told_of ts m) (told_of ts m)
told_cons t ts m true same = ap (λ b. map (λ (x : Told). x.faults) (cond b (t ∷ filter (λ (x : Told). eqb x.schema_number m) ts) (filter (λ (x : Told). eqb x.schema_number m) ts))) same
told_cons t ts m false other = ap (λ b. map (λ (x : Told). x.faults) (cond b (t ∷ filter (λ (x : Told). eqb x.schema_number m) ts) (filter (λ (x : Told). eqb x.schema_number m) ts))) other

pub told_joined : (ts us : List Told) (m : ℕ) → told_of (ts ++ us) m ≡ told_of ts m ++ told_of us m
told_joined ts us m = ap (map (λ (x : Told). x.faults)) (filter-append (λ (x : Told). eqb x.schema_number m) ts us)
    ∙ map-append (λ (x : Told). x.faults) (filter (λ (x : Told). eqb x.schema_number m) ts) (filter (λ (x : Told). eqb x.schema_number m) us)

pub told_of_others : (ts : List Told) (m : ℕ) → AllTold (λ n. n ≢ m) ts → told_of ts m ≡ []
told_of_others [] m others = refl
told_of_others (t ∷ ts) m others = told_cons t ts m false (ne_eqb t.schema_number m others.0) ∙ told_of_others ts m others.1

pub told_of_all : (ts : List Told) (m : ℕ) → AllTold (λ n. n ≡ m) ts → told_of ts m ≡ map (λ (t : Told). t.faults) ts
told_of_all [] m all = refl
told_of_all (t ∷ ts) m all = told_cons t ts m true (eq-eqb t.schema_number m all.0) ∙ ap (λ xs. t.faults ∷ xs) (told_of_all ts m all.1)

-- how many of a number are among some numbers
abbrev pub count_in : ℕ → List ℕ → ℕ
count_in m [] = 0
count_in m (x ∷ xs) = cond (eqb x m) 1 0 + count_in m xs

pub count_told : (ts : List Told) (m : ℕ) → length (told_of ts m) ≡ count_in m (map (λ (t : Told). t.schema_number) ts)
count_told [] m = refl
count_told (t ∷ ts) m = by (eqb t.schema_number m) refl (count_told ts m)
  where
    by : (b : Bool) → eqb t.schema_number m ≡ b → length (told_of ts m) ≡ count_in m (map (λ (t : Told). t.schema_number) ts)
        → length (told_of (t ∷ ts) m) ≡ cond b 1 0 + count_in m (map (λ (t : Told). t.schema_number) ts)
    by true same rest = ap length (told_cons t ts m true same) ∙ (let one : suc (length (told_of ts m)) ≡ 1 + count_in m (map (λ (t : Told). t.schema_number) ts) = omega (arith, rest) in one)
    by false other rest = ap length (told_cons t ts m false other) ∙ (let none : length (told_of ts m) ≡ 0 + count_in m (map (λ (t : Told). t.schema_number) ts) = omega (arith, rest) in none)

-- ---- absences up to a number

up_to_none : (number : ℕ) (xs : List Absent) → AllAbsent (λ m. number < m) xs → up_to number xs ≡ []
up_to_none number [] later = refl
up_to_none number (a ∷ xs) later = ap (λ b. cond b (a ∷ up_to number xs) []) (lt-leb a.1 number later.0)

behind_none : (number : ℕ) (xs : List Absent) → AllAbsent (λ m. number < m) xs → behind number xs ≡ xs
behind_none number [] later = refl
behind_none number (a ∷ xs) later = ap (λ b. cond b (behind number xs) (a ∷ xs)) (lt-leb a.1 number later.0)

up_to_first : (number : ℕ) (xs ys : List Absent) → AllAbsent (λ m. m ≤ number) xs → up_to number (xs ++ ys) ≡ xs ++ up_to number ys
up_to_first number [] ys before = refl
up_to_first number (a ∷ xs) ys before =
    ap (λ b. cond b (a ∷ up_to number (xs ++ ys)) []) (le-leb a.1 number before.0) ∙ ap (λ zs. a ∷ zs) (up_to_first number xs ys before.1)

behind_first : (number : ℕ) (xs ys : List Absent) → AllAbsent (λ m. m ≤ number) xs → behind number (xs ++ ys) ≡ behind number ys
behind_first number [] ys before = refl
behind_first number (a ∷ xs) ys before =
    ap (λ b. cond b (behind number (xs ++ ys)) (a ∷ (xs ++ ys))) (le-leb a.1 number before.0) ∙ behind_first number xs ys before.1

module _ (schema : Schema) (above : Option ℕ) where
  -- what is told of nodes before all children comes first
  pub told_first : (j last position : ℕ) (xs ys : List Absent) (ts : List Told) → AllAbsent (λ m. m ≤ j) xs → AllTold (λ m. j ≤ m) ts
      → merged_behind schema above last position (xs ++ ys) ts ≡ map (absence_fault schema above) xs ++ merged_behind schema above last position ys ts
  told_first j last position xs ys [] before later = map-append (absence_fault schema above) xs ys
  told_first j last position xs ys (t ∷ ts) before later =
      let number = t.schema_number in
      let place = position_behind last position number in
      let first : AllAbsent (λ m. m ≤ number) xs = all_absent (λ m. m ≤ j) (λ m. m ≤ number) xs (λ m h. omega (arith, h, later.0)) before in
      ap₂ (λ (us vs : List Absent). map (absence_fault schema above) us
      ++ (map (under (step_of schema number place)) t.faults ++ merged_behind schema above number place vs ts))
      (up_to_first number xs ys first) (behind_first number xs ys first)
      ∙ (ap (λ fs. fs ++ (map (under (step_of schema number place)) t.faults ++ merged_behind schema above number place (behind number ys) ts))
      (map-append (absence_fault schema above) xs (up_to number ys))
      ∙ append_assoc (map (absence_fault schema above) xs) (map (absence_fault schema above) (up_to number ys)) _)

  -- ---- children

  abbrev child_merged : ℕ → ℕ → List Fault → List Absent → List Told → List Fault
  child_merged number place fs xs ts = map (absence_fault schema above) (up_to number xs)
      ++ (map (under (step_of schema number place)) fs ++ merged_behind schema above number place (behind number xs) ts)

  -- the first of a number has the first position
  starts : (last number : ℕ) → position_behind last 0 number ≡ 1
  starts last number = by (eqb number last)
    where
      by : (b : Bool) → cond b (0 + 1) 1 ≡ 1
      by true = refl
      by false = refl

  pub any_start : (last other : ℕ) (xs : List Absent) (ts : List Told) → merged_behind schema above last 0 xs ts ≡ merged_behind schema above other 0 xs ts
  any_start last other xs [] = refl
  any_start last other xs (t ∷ ts) = ap (λ place. child_merged t.schema_number place t.faults xs ts) (starts last t.schema_number ∙ sym (starts other t.schema_number))

  fresh : (last position : ℕ) (xs : List Absent) (ts : List Told) → AllTold (λ m. last < m) ts
      → merged_behind schema above last position xs ts ≡ merged schema above xs ts
  fresh last position xs [] later = refl
  fresh last position xs (t ∷ ts) later = ap (λ place. child_merged t.schema_number place t.faults xs ts)
      (ap (λ b. cond b (position + 1) 1) (ne_eqb t.schema_number last (λ e. absurd (omega (arith, e, later.0)))) ∙ sym (starts 0 t.schema_number))

  -- a child before all that is told of nodes that aren't stored
  child_first : (number position : ℕ) (t : Told) (xs : List Absent) (ts : List Told) → t.schema_number ≡ number → AllAbsent (λ m. number < m) xs
      → merged_behind schema above number position xs (t ∷ ts)
      ≡ map (under (step_of schema number (position + 1))) t.faults ++ merged_behind schema above number (position + 1) xs ts
  child_first number position t xs ts same later =
      ap (λ x. child_merged x (position_behind number position x) t.faults xs ts) same
      ∙ (ap (λ b. child_merged number (cond b (position + 1) 1) t.faults xs ts) (eq-eqb number number refl)
      ∙ ap₂ (λ (us vs : List Absent). map (absence_fault schema above) us
      ++ (map (under (step_of schema number (position + 1))) t.faults ++ merged_behind schema above number (position + 1) vs ts))
      (up_to_none number xs later) (behind_none number xs later))

  abbrev pub IsMany : Bool → ℕ → Type 0
  IsMany b number = option_map_or (λ n. is_many n.kind) (node_at schema number) false ≡ b

  many_from : (number position : ℕ) (xs : List Absent) (first rest : List Told) → IsMany true number → AllTold (λ m. m ≡ number) first
      → AllTold (λ m. number < m) rest → AllAbsent (λ m. number < m) xs
      → merged_behind schema above number position xs (first ++ rest)
      ≡ at_positions number (position + 1) (map (λ (t : Told). t.faults) first) ++ merged schema above xs rest
  many_from number position xs [] rest many all behind later = fresh number position xs rest behind
  many_from number position xs (t ∷ first) rest many all behind later =
      child_first number position t xs (first ++ rest) all.0 later
      ∙ (ap (λ b. map (under (cond b (step_at number (position + 1)) (step_to number))) t.faults ++ merged_behind schema above number (position + 1) xs (first ++ rest)) many
      ∙ (ap (λ fs. map (under (step_at number (position + 1))) t.faults ++ fs) (many_from number (position + 1) xs first rest many all.1 behind later)
      ∙ sym (append_assoc (map (under (step_at number (position + 1))) t.faults) (at_positions number (position + 1 + 1) (map (λ (t : Told). t.faults) first)) (merged schema above xs rest))))

  one_from : (number position : ℕ) (xs : List Absent) (first rest : List Told) → IsMany false number → AllTold (λ m. m ≡ number) first
      → AllTold (λ m. number < m) rest → AllAbsent (λ m. number < m) xs
      → merged_behind schema above number position xs (first ++ rest)
      ≡ flat_map (map (under (step_to number))) (map (λ (t : Told). t.faults) first) ++ merged schema above xs rest
  one_from number position xs [] rest many all behind later = fresh number position xs rest behind
  one_from number position xs (t ∷ first) rest many all behind later =
      child_first number position t xs (first ++ rest) all.0 later
      ∙ (ap (λ b. map (under (cond b (step_at number (position + 1)) (step_to number))) t.faults ++ merged_behind schema above number (position + 1) xs (first ++ rest)) many
      ∙ (ap (λ fs. map (under (step_to number)) t.faults ++ fs) (one_from number (position + 1) xs first rest many all.1 behind later)
      ∙ sym (append_assoc (map (under (step_to number)) t.faults) (flat_map (map (under (step_to number))) (map (λ (t : Told). t.faults) first)) (merged schema above xs rest))))

  -- the children of a number before all others and all that is told of nodes that aren't stored
  pub entries_first : (number : ℕ) (xs : List Absent) (first rest : List Told) → IsMany true number → AllTold (λ m. m ≡ number) first
      → AllTold (λ m. number < m) rest → AllAbsent (λ m. number < m) xs
      → merged schema above xs (first ++ rest) ≡ at_positions number 1 (map (λ (t : Told). t.faults) first) ++ merged schema above xs rest
  entries_first number xs first rest many all behind later = any_start 0 number xs (first ++ rest) ∙ many_from number 0 xs first rest many all behind later

  pub instance_first : (number : ℕ) (xs : List Absent) (first rest : List Told) → IsMany false number → AllTold (λ m. m ≡ number) first
      → AllTold (λ m. number < m) rest → AllAbsent (λ m. number < m) xs
      → merged schema above xs (first ++ rest) ≡ flat_map (map (under (step_to number))) (map (λ (t : Told). t.faults) first) ++ merged schema above xs rest
  instance_first number xs first rest many all behind later = any_start 0 number xs (first ++ rest) ∙ one_from number 0 xs first rest many all behind later
