-- What tasks come to, one after another.
use Rattle.std.proofs.Common.{◌≡◌, ℕ, suc, ◌+◌, ◌≤◌, ◌++◌, Result, Ok, Err, OnOk, List, [], ◌∷◌, refl, sym, subst, arith}
use Rattle.yschema_expand.specs.Turns.{Runs, AllGood, work, Leaves}

module _ {T S : Type 0} (does : T → S → S → Type 0) (toll : T → ℕ) (Good : T → Type 0) where
  -- ---- one more task

  pub runs_push : (ts : List T) (t : T) (now mid final : S) → does t now mid → Runs does ts mid final → Runs does (ts ++ t ∷ []) now final
  runs_push [] t now mid final done same = (now, refl, subst (does t now) same done)
  runs_push (x ∷ xs) t now mid final done runs = (runs.0, runs_push xs t now mid runs.0 done runs.1, runs.2)

  pub runs_pop : (ts : List T) (t : T) (now final : S) → Runs does (ts ++ t ∷ []) now final → (mid : S) × does t now mid × Runs does ts mid final
  runs_pop [] t now final runs = (final, subst (λ m. does t m final) (sym runs.1) runs.2, refl)
  runs_pop (x ∷ xs) t now final runs = let inner = runs_pop xs t now runs.0 runs.1 in (inner.0, inner.1, (runs.0, inner.2, runs.2))

  pub good_push : (ts : List T) (t : T) → AllGood Good ts → Good t → AllGood Good (ts ++ t ∷ [])
  good_push [] t all one = (one, tt)
  good_push (x ∷ xs) t all one = (all.0, good_push xs t all.1 one)

  pub good_pop : (ts : List T) (t : T) → AllGood Good (ts ++ t ∷ []) → AllGood Good ts × Good t
  good_pop [] t all = (tt, all.0)
  good_pop (x ∷ xs) t all = let inner = good_pop xs t all.1 in ((all.0, inner.0), inner.1)

  pub work_push : (ts : List T) (t : T) → work toll (ts ++ t ∷ []) ≡ work toll ts + suc (toll t)
  work_push [] t = omega arith
  work_push (x ∷ xs) t = let rest = work_push xs t in omega (arith, rest)

  -- ---- steps

  -- nothing is left behind
  pub leaves_none : (this : S → S → Type 0) (most : ℕ) (ts : List T) (old new : S) → this old new → Leaves does toll Good this most ts ts old new
  leaves_none this most ts old new done = record {
    runs = λ final runs. (new, done, runs);
    good = λ all. all;
    less = omega arith;
  }

  -- it is said in other words
  pub leaves_so : (this that : S → S → Type 0) (most more : ℕ) (before after : List T) (old new : S)
      → ((mid : S) → this old mid → that old mid) → most ≤ more → Leaves does toll Good this most before after old new
      → Leaves does toll Good that more before after old new
  leaves_so this that most more before after old new so few leaves = record {
    runs = λ final runs. let all = leaves.runs final runs in (all.0, so all.0 all.1, all.2);
    good = leaves.good;
    less = let less = leaves.less in omega (arith, few, less);
  }

  -- a task was left behind first
  pub leaves_behind : (this that : S → S → Type 0) (most more : ℕ) (t : T) (before after : List T) (old mid new : S)
      → ((full final : S) → this mid full → does t full final → that old final) → Good t → suc (toll t) + most ≤ more
      → Leaves does toll Good this most (before ++ t ∷ []) after mid new → Leaves does toll Good that more before after old new
  leaves_behind this that most more t before after old mid new both one few leaves = record {
    runs = λ final runs.
        let all = leaves.runs final runs in
        let rest = runs_pop before t all.0 final all.2 in
        (rest.0, both all.0 rest.0 all.1 rest.1, rest.2);
    good = λ all. leaves.good (good_push before t all one);
    less = let less = leaves.less in let more = work_push before t in omega (arith, few, less, more);
  }

  -- three were, the last of which is done first
  pub leaves_three : (this that : S → S → Type 0) (most more : ℕ) (t u v : T) (before after : List T) (old mid new : S)
      → ((a b c d : S) → this mid a → does v a b → does u b c → does t c d → that old d) → Good t → Good u → Good v
      → suc (toll t) + (suc (toll u) + (suc (toll v) + most)) ≤ more
      → Leaves does toll Good this most (((before ++ t ∷ []) ++ u ∷ []) ++ v ∷ []) after mid new → Leaves does toll Good that more before after old new
  leaves_three this that most more t u v before after old mid new all_of t_good u_good v_good few leaves =
      let one = before ++ t ∷ [] in
      let two = one ++ u ∷ [] in
      record {
        runs = λ final runs.
            let all = leaves.runs final runs in
            let third = runs_pop two v all.0 final all.2 in
            let second = runs_pop one u third.0 final third.2 in
            let first = runs_pop before t second.0 final second.2 in
            (first.0, all_of all.0 third.0 second.0 first.0 all.1 third.1 second.1 first.1, first.2);
        good = λ all. leaves.good (good_push two v (good_push one u (good_push before t all t_good) u_good) v_good);
        less =
            let less = leaves.less in
            let more_t = work_push before t in
            let more_u = work_push one u in
            let more_v = work_push two v in
            omega (arith, few, less, more_t, more_u, more_v);
      }

  -- a task is left behind, and nothing else
  pub leaves_task : (t : T) (before : List T) (now : S) → Good t → Leaves does toll Good (does t) (suc (toll t)) before (before ++ t ∷ []) now now
  leaves_task t before now one = record {
    runs = λ final runs. runs_pop before t now final runs;
    good = λ all. good_push before t all one;
    less = let more = work_push before t in omega (arith, more);
  }

-- what is answered of each is answered of all
pub on_ok_all : {A E X : Type 0} (P : X → Type 0) (r : Result A E) → ((x : X) → OnOk r (P x)) → OnOk r ((x : X) → P x)
on_ok_all P (Ok a) all = all
on_ok_all P (Err e) all = tt
