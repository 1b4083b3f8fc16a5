-- Where each object's link rows end, and so where they start. Assumes nothing.
use Prim.Native.Nat.{ℕ, zero, suc, ◌+◌, ◌-◌, ◌*◌, ◌≤◌, ◌<◌}
use mathlib.Core.List.{List}
use mathlib.Core.Logic.{◌⊎◌, inl, inr, ⊎_elim}
use mathlib.Core.Path.{◌≡◌, refl, sym, ap, subst, ◌∙◌}
use native.Mathlib.Decide.{ℕ_discrete}
use native.Mathlib.Nat.{eq-or-lt_of_le}
use native.Mathlib.Omega.{arith}
use lib.ListN.{length, get_or, set, length-set, replicate, length-replicate, get_or-replicate}
use lib.Seq.{get_or-set_same, get_or-set_other}
use Rattle.folds.specs.Folds.{before}
use Rattle.store_rules.specs.Store.{per_link, row_parent}
use Rattle.store_reader.specs.Rows.{key_of, row_key, InOrder, FirstRow}
use Rattle.store_walk.specs.Marks.{Blank, LastOf, Lasts}

-- there is none, or some
pub zero_or : (x : ℕ) → (x ≡ 0) ⊎ (0 < x)
zero_or zero = inl refl
zero_or (suc x) = inr (omega arith)

-- the first of all rows is the first of object 0's, if it has any
pub first_start : (l : List ℕ) (m : ℕ) → FirstRow l m (key_of 0 0) 0
first_start l m = record { within = omega arith; below = λ k h. absurd (omega arith); above = λ k h g. omega arith }

-- an object's rows start where those of the object before it end
pub rows_start : (l : List ℕ) (m n : ℕ) (w : List ℕ) → ((i : ℕ) → i < n → FirstRow l m (key_of (i + 1) 0) (get_or w (n + i) 0)) → (i : ℕ) → i < n → FirstRow l m (key_of i 0) (before (λ j. get_or w (n + j) 0) i)
unfolding before
rows_start l m n w ends zero h = first_start l m
rows_start l m n w ends (suc i) h = let e : i + 1 ≡ suc i = omega arith in subst (λ (x : ℕ). FirstRow l m (key_of x 0) (get_or w (n + i) 0)) e (ends i (omega arith))

-- ---- the scratch before the first walk

-- as long as it came
pub blank_still : {l c w w' : List ℕ} → Blank l c w → length w' ≡ length w → Blank l c w'
blank_still b e = record { bytes = b.bytes; objects = b.objects; is_sound = b.is_sound; room = omega (arith, b.room) }

-- and zero
pub blank_zero : {l c w z : List ℕ} → Blank l c w → z ≡ replicate (length w) 0 → Blank l c z × (z ≡ replicate (length z) 0)
blank_zero {w = w} b e =
    let same = ap length e ∙ length-replicate {A = ℕ} (length w) 0 in
    (blank_still b same, e ∙ ap (λ (n : ℕ). replicate n 0) (sym same))

-- ---- one row after another: the last row of each object

-- after the first k rows
pub record Passed (l : List ℕ) (m n : ℕ) (w₀ w : List ℕ) (k : ℕ) : Type 0 where
  pub few : k ≤ m
  pub long : length w ≡ length w₀
  pub unmarked : (i : ℕ) → i < n → get_or w i 0 ≡ 0
  pub lasts : (i : ℕ) → i < n → LastOf l k i (get_or w (n + i) 0)

none_last : (l : List ℕ) (i v : ℕ) → v ≡ 0 → LastOf l 0 i v
none_last l i v z = record { all = λ j h q. absurd (omega arith); last = inl z }

pub none_passed : {l : List ℕ} {m n : ℕ} {w : List ℕ} → w ≡ replicate (length w) 0 → 2 * n ≤ length w → Passed l m n w w 0
none_passed {l} {m} {n} {w} z room =
    let zero-at : (i : ℕ) → i < length w → get_or w i 0 ≡ 0 = λ i h. ap (λ (x : List ℕ). get_or x i 0) z ∙ get_or-replicate {A = ℕ} (length w) i 0 0 h in
    record { few = omega arith; long = refl; unmarked = λ i h. zero-at i (omega arith); lasts = λ i h. none_last l i (get_or w (n + i) 0) (zero-at (n + i) (omega arith)) }

-- one row more
pub passed_more : {l : List ℕ} {m n : ℕ} {w₀ w : List ℕ} {k : ℕ} → Passed l m n w₀ w k → 2 * n ≤ length w₀ → k < m → get_or l (per_link * k + row_parent) 0 < n → Passed l m n w₀ (set w (n + get_or l (per_link * k + row_parent) 0) (k + 1)) (k + 1)
passed_more {l} {m} {n} {w₀} {w} {k} v room more h = record {
  few = omega arith;
  long = simp length-set v.long;
  unmarked = λ i g. get_or-set_other w (n + p) i (k + 1) 0 (omega arith) ∙ v.unmarked i g;
  lasts = λ i g. elim (ℕ_discrete i p) [
    | yes e ↦ subst (LastOf l (k + 1) i) (sym (ap (λ (x : ℕ). get_or (set w (n + p) (k + 1)) (n + x) 0) e ∙ get_or-set_same w (n + p) (k + 1) 0 (omega (arith, v.long)))) (here i e)
    | no d ↦ subst (LastOf l (k + 1) i) (sym (get_or-set_other w (n + p) (n + i) (k + 1) 0 (omega arith))) (there i d (v.lasts i g))
  ];
}
  where
    p : ℕ
    p = get_or l (per_link * k + row_parent) 0

    here : (i : ℕ) → i ≡ p → LastOf l (k + 1) i (k + 1)
    here i e = let z : k + 1 - 1 ≡ k = omega arith in record { all = λ j a b. a; last = inr (omega arith, ap (λ (x : ℕ). get_or l (per_link * x + row_parent) 0) z ∙ sym e) }

    there : (i : ℕ) → (i ≡ p → ⊥) → {x : ℕ} → LastOf l k i x → LastOf l (k + 1) i x
    there i d {x} f = record {
      all = λ j a b. ⊎_elim (λ e. absurd (d (sym b ∙ ap (λ (y : ℕ). get_or l (per_link * y + row_parent) 0) e))) (λ (g : j < k). f.all j g b) (eq-or-lt_of_le (omega arith));
      last = ⊎_elim inl (λ z. inr (omega (arith, z.0), z.1)) f.last;
    }

-- all rows have been seen
pub lasts_all : {l c w₀ w : List ℕ} {k : ℕ} → Passed l (get_or c 2 0) (get_or c 1 0) w₀ w k → get_or c 2 0 ≤ k → Lasts l c w
lasts_all {l} {c} {w₀} {w} {k} v h =
    let all : k ≡ get_or c 2 0 = omega (arith, v.few) in
    record { unmarked = v.unmarked; lasts = λ i g. subst (λ (x : ℕ). LastOf l x i (get_or w (get_or c 1 0 + i) 0)) all (v.lasts i g) }

-- ---- one object after another: where its rows end

-- where the last of object i's rows is known, so is where the next object's start
module _ {l : List ℕ} {m : ℕ} (ordered : InOrder l m) {i end v : ℕ} (s : FirstRow l m (key_of i 0) end) (f : LastOf l m i v) where
  -- rows at or past this object's, of another one
  past : (k : ℕ) → k < m → key_of i 0 ≤ row_key l k → (get_or l (per_link * k + row_parent) 0 ≡ i → ⊥) → key_of (i + 1) 0 ≤ row_key l k
  past k h a d = omega (arith, ordered.places k h)

  pub end_moves : end < v → FirstRow l m (key_of (i + 1) 0) v
  end_moves g = ⊎_elim (λ z. absurd (omega arith)) (λ (z : (v ≤ m) × (get_or l (per_link * (v - 1) + row_parent) 0 ≡ i)). at z.0 z.1) f.last
    where
      at : v ≤ m → get_or l (per_link * (v - 1) + row_parent) 0 ≡ i → FirstRow l m (key_of (i + 1) 0) v
      at a q =
          let own : row_key l (v - 1) < key_of (i + 1) 0 = omega (arith, ordered.places (v - 1) (omega arith)) in
          record {
            within = a;
            below = λ k h. ⊎_elim (λ e. rw e own) (λ (b : k < v - 1). omega (arith, ordered.rising k (v - 1) b (omega arith))) (eq-or-lt_of_le (omega arith));
            above = λ k b h. past k h (omega (arith, ordered.rising (v - 1) k (omega arith) h)) (λ e. omega (arith, f.all k h e));
          }

  pub end_stays : v ≤ end → FirstRow l m (key_of (i + 1) 0) end
  end_stays g = record { within = s.within; below = λ k h. omega (arith, s.below k h); above = λ k b h. past k h (s.above k b h) (λ e. omega (arith, none, f.all k h e)) }
    where
      none : v ≡ 0
      none = ⊎_elim (λ z. z) (λ (z : (v ≤ m) × (get_or l (per_link * (v - 1) + row_parent) 0 ≡ i)). ⊎_elim (λ e. e) (λ (b : 0 < v). absurd (omega (arith, z.1, s.below (v - 1) (omega arith)))) (zero_or v)) f.last

-- for the first i of n objects it is written down where their rows end; the last of these is `end`
pub record Ended (l : List ℕ) (m n : ℕ) (w₀ w : List ℕ) (end i : ℕ) : Type 0 where
  pub long : length w ≡ length w₀
  pub few : i ≤ n
  pub start : FirstRow l m (key_of i 0) end
  pub marks : (j : ℕ) → j < n → get_or w j 0 ≡ get_or w₀ j 0
  pub rest : (j : ℕ) → i ≤ j → j < n → get_or w (n + j) 0 ≡ get_or w₀ (n + j) 0
  pub ends : (j : ℕ) → j < i → FirstRow l m (key_of (j + 1) 0) (get_or w (n + j) 0)

module _ {l : List ℕ} {m n : ℕ} {w₀ : List ℕ} where
  pub none_ended : Ended l m n w₀ w₀ 0 0
  none_ended = record { long = refl; few = omega arith; start = first_start l m; marks = λ j h. refl; rest = λ j g h. refl; ends = λ j h. absurd (omega arith) }

  -- one object more
  pub ended_more : {w : List ℕ} {end i : ℕ} → Ended l m n w₀ w end i → 2 * n ≤ length w₀ → i < n → {next : ℕ} → FirstRow l m (key_of (i + 1) 0) next → Ended l m n w₀ (set w (n + i) next) next (i + 1)
  ended_more {w} {end} {i} v room h {next} f = record {
    long = simp length-set v.long;
    few = omega arith;
    start = f;
    marks = λ j g. other j (omega arith) ∙ v.marks j g;
    rest = λ j g g'. other (n + j) (omega arith) ∙ v.rest j (omega arith) g';
    ends = λ j g. ⊎_elim (λ q. rw q (subst (FirstRow l m (key_of (i + 1) 0)) (sym last) f)) (λ (g' : j < i). rw (other (n + j) (omega arith)) (v.ends j g')) (eq-or-lt_of_le (omega arith));
  }
    where
      other : (j : ℕ) → (j ≡ n + i → ⊥) → get_or (set w (n + i) next) j 0 ≡ get_or w j 0
      other j d = get_or-set_other w (n + i) j next 0 d

      last : get_or (set w (n + i) next) (n + i) 0 ≡ next
      last = get_or-set_same w (n + i) next 0 (omega (arith, v.long))
