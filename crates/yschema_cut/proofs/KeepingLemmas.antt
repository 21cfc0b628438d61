-- What is kept of a table is the nodes that stand.
use Rattle.std.proofs.Common.{◌≡◌, ◌≢◌, ℕ, zero, suc, ◌+◌, ◌-◌, Bool, true, false, cond, List, [], ◌∷◌, ◌++◌, length, Option, Some, None, refl, sym, ap, ap₂, ◌∙◌, append_assoc, arith}
use Rattle.std.specs.Prelude.{◌==◌, option_map}
use Rattle.std.proofs.lemmas.Bool.{eq-eqb, ne_eqb}
use Rattle.std.proofs.lemmas.List.{append-nil}
use Rattle.yspec.specs.Forest.{Forest, node, end, size}
use Rattle.yspec.specs.linking.Parts.{Part}
use Rattle.yspec_wide.specs.Standing.{with_default_on, standing_by}
use Rattle.ybase_preorder.specs.Layout.{Place, places}
use Rattle.ybase_preorder.proofs.LayoutLemmas.{length-places}
use Rattle.yschema_cut.specs.Totals.{at, totals_of, totals_from}
use Rattle.yschema_cut.specs.Keeping.{kept_from, moved, with_defaults_on}
use Rattle.yschema_cut.proofs.TotalLemmas.{stays, standing_end, standing_node, own_size, at_first, at_past, at_behind, totals_are}

-- those below a node that is cut
pub skipped_all : {L : Type 0} (t : List ℕ) (number : ℕ) (qs ps : List (Place L))
    → kept_from t number (length qs) (qs ++ ps) ≡ kept_from t (number + length qs) 0 ps
skipped_all t number [] ps = ap (λ n. kept_from t n 0 ps) (omega arith)
skipped_all t number (q ∷ qs) ps =
    let next : number + 1 + length qs ≡ number + suc (length qs) = omega arith in
    skipped_all t (number + 1) qs ps ∙ ap (λ n. kept_from t n 0 ps) next

module _ (holds : Part → Bool) where
  pub size_on : (f : Forest Part) → size (with_defaults_on holds f) ≡ size f
  size_on end = refl
  size_on (node p below after) = ap₂ (λ m n. suc (m + n)) (size_on below) (size_on after)

  module _ (t : List ℕ) where
    abbrev number_of : ℕ → ℕ
    number_of above = at t 0 - at t above

    abbrev Kept : ℕ → ℕ → Option ℕ → Option ℕ → Forest Part → List (Place Part) → Type 0
    Kept number m parent new_parent f ps = kept_from t number 0 (places parent number (with_defaults_on holds f) ++ ps)
        ≡ places new_parent m (standing_by holds f) ++ kept_from t (number + size f) 0 ps

    -- a node that doesn't stand
    cut : (p : Part) (below after : Forest Part) (number m : ℕ) (parent new_parent : Option ℕ) (ps : List (Place Part))
        → at t number ≡ at t (number + 1 + size (with_defaults_on holds below))
        → Kept (number + suc (size below)) m parent new_parent after ps
        → stays holds p below ≡ false
        → Kept number m parent new_parent (node p below after) ps
    cut p below after number m parent new_parent ps same rest off =
        let d = with_defaults_on holds below in
        let inner = places (Some number) (number + 1) d in
        let behind = places parent (number + suc (size d)) (with_defaults_on holds after) in
        let count : length inner ≡ size d = length-places (Some number) (number + 1) d in
        let past : number + 1 + length inner ≡ number + suc (size below) = omega (arith, count, size_on below) in
        let from : number + suc (size d) ≡ number + suc (size below) = omega (arith, size_on below) in
        let whole : number + suc (size below) + size after ≡ number + suc (size below + size after) = omega arith in
        ap (λ b. cond b (kept_from t (number + 1) (size d) ((inner ++ behind) ++ ps)) (moved t number (record { parent = parent; label = with_default_on p below (standing_by holds below); below = size d }) ∷ kept_from t (number + 1) 0 ((inner ++ behind) ++ ps)))
        (eq-eqb (at t number) (at t (number + 1 + size d)) same)
        ∙ (ap₂ (λ n qs. kept_from t (number + 1) n qs) (sym count) (append_assoc inner behind ps)
        ∙ (skipped_all t (number + 1) inner (behind ++ ps)
        ∙ (ap₂ (λ n k. kept_from t n 0 (places parent k (with_defaults_on holds after) ++ ps)) past from
        ∙ (rest
        ∙ ap₂ (λ f n. places new_parent m f ++ kept_from t n 0 ps)
        (sym (standing_node holds p below after ∙ ap (λ b. cond b (node (with_default_on p below (standing_by holds below)) (standing_by holds below) (standing_by holds after)) (standing_by holds after)) off))
        whole))))

    -- a node that stands
    stood : (p : Part) (below after : Forest Part) (number m : ℕ) (parent new_parent : Option ℕ) (ps : List (Place Part))
        → at t number ≢ at t (number + 1 + size (with_defaults_on holds below))
        → option_map number_of parent ≡ new_parent
        → at t (number + 1) - at t (number + 1 + size (with_defaults_on holds below)) ≡ size (standing_by holds below)
        → ((qs : List (Place Part)) → Kept (number + 1) (m + 1) (Some number) (Some m) below qs)
        → Kept (number + suc (size below)) (m + suc (size (standing_by holds below))) parent new_parent after ps
        → stays holds p below ≡ true
        → Kept number m parent new_parent (node p below after) ps
    stood p below after number m parent new_parent ps other above sized inside rest on =
        let d = with_defaults_on holds below in
        let q = with_default_on p below (standing_by holds below) in
        let s = standing_by holds below in
        let inner = places (Some number) (number + 1) d in
        let behind = places parent (number + suc (size d)) (with_defaults_on holds after) in
        let from : number + suc (size d) ≡ number + suc (size below) = omega (arith, size_on below) in
        let past : number + 1 + size below ≡ number + suc (size below) = omega arith in
        let whole : number + suc (size below) + size after ≡ number + suc (size below + size after) = omega arith in
        ap (λ b. cond b (kept_from t (number + 1) (size d) ((inner ++ behind) ++ ps)) (moved t number (record { parent = parent; label = q; below = size d }) ∷ kept_from t (number + 1) 0 ((inner ++ behind) ++ ps)))
        (ne_eqb (at t number) (at t (number + 1 + size d)) other)
        ∙ (ap₂ (λ above n. record { parent = above; label = q; below = n } ∷ kept_from t (number + 1) 0 ((inner ++ behind) ++ ps)) above sized
        ∙ (ap (λ xs. record { parent = new_parent; label = q; below = size s } ∷ xs)
        (ap (kept_from t (number + 1) 0) (append_assoc inner behind ps)
        ∙ (inside (behind ++ ps)
        ∙ (ap (λ n. places (Some m) (m + 1) s ++ kept_from t n 0 (behind ++ ps)) past
        ∙ (ap (λ k. places (Some m) (m + 1) s ++ kept_from t (number + suc (size below)) 0 (places parent k (with_defaults_on holds after) ++ ps)) from
        ∙ (ap (λ xs. places (Some m) (m + 1) s ++ xs) rest
        ∙ sym (append_assoc (places (Some m) (m + 1) s) (places new_parent (m + suc (size s)) (standing_by holds after)) (kept_from t (number + suc (size below) + size after) 0 ps)))))))
        ∙ ap₂ (λ f n. places new_parent m f ++ kept_from t n 0 ps)
        (sym (standing_node holds p below after ∙ ap (λ b. cond b (node q s (standing_by holds after)) (standing_by holds after)) on))
        whole))

    pub kept_is : (f : Forest Part) (behind : List ℕ) (number m : ℕ) (parent new_parent : Option ℕ) (ps : List (Place Part))
        → ((n : ℕ) → at t (number + n) ≡ at (totals_from holds f behind) n)
        → option_map number_of parent ≡ new_parent
        → m + at (totals_from holds f behind) 0 ≡ at t 0
        → Kept number m parent new_parent f ps
    kept_is end behind number m parent new_parent ps same above count =
        ap₂ (λ n f. places new_parent m f ++ kept_from t n 0 ps) (omega arith) (sym (standing_end holds))
    kept_is (node p below after) behind number m parent new_parent ps same above count =
        let later = totals_from holds after behind in
        let u = totals_from holds below later in
        let x = size (standing_by holds (node p below end)) in
        let s = size (standing_by holds below) in
        let d = with_defaults_on holds below in
        let plain : number ≡ number + 0 = omega arith in
        let one : number + 1 ≡ number + suc 0 = omega arith in
        let far : number + 1 + size d ≡ number + suc (size below) = omega (arith, size_on below) in
        let here : at t number ≡ x + at later 0 = ap (at t) plain ∙ same 0 in
        let inside : at t (number + 1) ≡ s + at later 0 = ap (at t) one ∙ (same 1 ∙ at_first holds below later) in
        let past : at t (number + 1 + size d) ≡ at later 0 = ap (at t) far ∙ (same (suc (size below)) ∙ at_past holds below later) in
        let next : (n : ℕ) → at t (number + 1 + n) ≡ at u n = λ n. ap (at t) (one_less number n) ∙ same (suc n) in
        let beyond : (n : ℕ) → at t (number + suc (size below) + n) ≡ at later n =
        λ n. ap (at t) (more_less number (size below) n) ∙ (same (suc (size below + n)) ∙ at_behind holds below later n) in
        by (stays holds p below) refl here inside past
        (λ n. kept_is after behind (number + suc (size below)) n parent new_parent ps beyond above)
        (λ qs new_number room. kept_is below later (number + 1) (m + 1) (Some number) (Some m) qs next (ap Some new_number) room)
      where
        one_less : (a n : ℕ) → a + 1 + n ≡ a + suc n
        one_less a n = omega arith

        more_less : (a b n : ℕ) → a + suc b + n ≡ a + suc (b + n)
        more_less a b n = omega arith

        by : (b : Bool) → stays holds p below ≡ b
            → at t number ≡ size (standing_by holds (node p below end)) + at (totals_from holds after behind) 0
            → at t (number + 1) ≡ size (standing_by holds below) + at (totals_from holds after behind) 0
            → at t (number + 1 + size (with_defaults_on holds below)) ≡ at (totals_from holds after behind) 0
            → ((n : ℕ) → n + at (totals_from holds after behind) 0 ≡ at t 0 → Kept (number + suc (size below)) n parent new_parent after ps)
            → ((qs : List (Place Part)) → number_of number ≡ m → m + 1 + at (totals_from holds below (totals_from holds after behind)) 0 ≡ at t 0
            → Kept (number + 1) (m + 1) (Some number) (Some m) below qs)
            → Kept number m parent new_parent (node p below after) ps
        by false off here inside past rest under =
            let x : size (standing_by holds (node p below end)) ≡ 0 = own_size holds p below ∙ ap (λ b. cond b (suc (size (standing_by holds below))) 0) off in
            cut p below after number m parent new_parent ps (omega (arith, here, past, x))
            (rest m (omega (arith, count, x))) off
        by true on here inside past rest under =
            let s = size (standing_by holds below) in
            let later = totals_from holds after behind in
            let x : size (standing_by holds (node p below end)) ≡ suc s = own_size holds p below ∙ ap (λ b. cond b (suc (size (standing_by holds below))) 0) on in
            let first = at_first holds below later in
            let new_number : at t 0 - at t number ≡ m = omega (arith, count, here, x) in
            stood p below after number m parent new_parent ps (λ e. omega (arith, here, past, x, e)) above (omega (arith, inside, past))
            (λ qs. under qs new_number (omega (arith, count, x, first)))
            (rest (m + suc s) (omega (arith, count, x))) on

  -- of a whole table
  pub all_kept : (f : Forest Part) → kept_from (totals_of holds (places None 0 f)) 0 0 (places None 0 (with_defaults_on holds f)) ≡ places None 0 (standing_by holds f)
  all_kept f =
      let t = totals_of holds (places None 0 f) in
      let is : t ≡ totals_from holds f (0 ∷ []) = ap (totals_of holds) (sym (append-nil (places None 0 f))) ∙ totals_are holds f None 0 [] in
      let plain : (n : ℕ) → 0 + n ≡ n = λ n. omega arith in
      ap (kept_from t 0 0) (sym (append-nil (places None 0 (with_defaults_on holds f))))
      ∙ (kept_is t f (0 ∷ []) 0 0 None None [] (λ n. ap (at t) (plain n) ∙ ap (λ ns. at ns n) is) refl (plain (at (totals_from holds f (0 ∷ [])) 0) ∙ ap (λ ns. at ns 0) (sym is))
      ∙ append-nil (places None 0 (standing_by holds f)))
