-- The rows of a lookup that lead to the table, counted one by one. Assumes nothing.
use Prim.Native.Nat.{ℕ, ◌+◌, ◌-◌, ◌*◌, ◌≤◌, ◌<◌}
use mathlib.Core.Path.{◌≡◌, sym, ap, ◌∙◌}
use mathlib.Core.Bool.{cond}
use mathlib.Core.List.{List}
use native.Mathlib.Omega.{arith}
use lib.ListN.{length, get_or}
use lib.Dec.{eqb}
use borrow.Author.Tests.{eq-eqb, ne_eqb}
use Rattle.folds.specs.Folds.{sum}
use Rattle.folds.proofs.Folds.{sum_none, sum_more}
use Rattle.store_rules.specs.Store.{per_link, row_child}
use Rattle.store_reader.specs.declared.LinkRows.{LinkRows}
use Rattle.lookup_new_objects.specs.Counted.{listed_in}

-- 1 where row i of these leads to t
abbrev leads : List ℕ → LinkRows → ℕ → ℕ → ℕ
leads ls rows t i = cond (eqb (get_or ls (per_link * (rows.first + i) + row_child) 0) t) 1 0

-- the rows before k are counted
pub record Counted (ls : List ℕ) (rows : LinkRows) (t listings k : ℕ) : Type 0 where
  pub low : rows.first ≤ k
  pub high : k ≤ rows.after
  pub room : per_link * rows.after ≤ length ls
  pub few : listings ≤ k - rows.first
  pub is : listings ≡ sum (leads ls rows t) (k - rows.first)

module _ (ls : List ℕ) (rows : LinkRows) (t : ℕ) where
  pub counted_start : rows.first ≤ rows.after → per_link * rows.after ≤ length ls → Counted ls rows t 0 rows.first
  counted_start rise room =
      let z : rows.first - rows.first ≡ 0 = omega arith in
      record {
        low = omega arith;
        high = rise;
        room = room;
        few = omega arith;
        is = sym (ap (sum (leads ls rows t)) z ∙ sum_none (leads ls rows t));
      }

  module _ (listings k : ℕ) (c : Counted ls rows t listings k) where
    pub counted_stop : rows.after ≤ k → listings ≡ listed_in ls rows t
    unfolding listed_in
    counted_stop l = let z : k ≡ rows.after = omega (arith, c.high) in c.is ∙ ap (λ (n : ℕ). sum (leads ls rows t) (n - rows.first)) z

    module _ (l : k < rows.after) where
      -- row k, among these
      here : rows.first + (k - rows.first) ≡ k
      here = omega (arith, c.low)

      more : sum (leads ls rows t) (k + 1 - rows.first) ≡ sum (leads ls rows t) (k - rows.first) + cond (eqb (get_or ls (per_link * k + row_child) 0) t) 1 0
      more =
          let z : k + 1 - rows.first ≡ k - rows.first + 1 = omega (arith, c.low) in
          ap (sum (leads ls rows t)) z
          ∙ sum_more (leads ls rows t) (k - rows.first)
          ∙ ap (λ (n : ℕ). sum (leads ls rows t) (k - rows.first) + cond (eqb (get_or ls (per_link * n + row_child) 0) t) 1 0) here

      pub counted_listing : get_or ls (per_link * k + row_child) 0 ≡ t → Counted ls rows t (listings + 1) (k + 1)
      counted_listing e =
          let one : ◌≡◌ {A = ℕ} (cond (eqb (get_or ls (per_link * k + row_child) 0) t) 1 0) 1 = rw (eq-eqb (get_or ls (per_link * k + row_child) 0) t e) in
          record {
            low = omega (arith, c.low);
            high = omega arith;
            room = c.room;
            few = omega (arith, c.few, c.low);
            is = omega (arith, c.is, more);
          }

      pub counted_other : (get_or ls (per_link * k + row_child) 0 ≡ t → ⊥) → Counted ls rows t listings (k + 1)
      counted_other ne =
          let none : ◌≡◌ {A = ℕ} (cond (eqb (get_or ls (per_link * k + row_child) 0) t) 1 0) 0 = rw (ne_eqb (get_or ls (per_link * k + row_child) 0) t ne) in
          record {
            low = omega (arith, c.low);
            high = omega arith;
            room = c.room;
            few = omega (arith, c.few, c.low);
            is = omega (arith, c.is, more);
          }
