-- A test of all offsets of a parent, by the parent's own rows. Assumes nothing.
use Prim.Native.Nat.{ℕ, ◌+◌, ◌-◌, ◌≤◌, ◌<◌}
use mathlib.Core.Path.{◌≡◌, sym, ap, ◌∙◌}
use mathlib.Core.Bool.{Bool, true, false, cond}
use mathlib.Core.Logic.{◌⊎◌, ⊎_elim}
use native.Mathlib.Omega.{arith}
use lib.Dec.{leb, ltb}
use borrow.Author.Tests.{le-leb, lt-leb, lt-ltb, le-ltb}
use Rattle.folds.specs.Folds.{all}
use Rattle.folds.proofs.Tests.{and_second}
use Rattle.folds.proofs.Folds.{all_intro, all_fails}
use Rattle.folds.proofs.Failing.{all_among, all_same}
use Rattle.store_rules.specs.Store.{Store, link_at, offset_of, position_of, all_at}
use Rattle.store_rules.proofs.Sound.{Fits}
use Rattle.store_reader.specs.declared.LinkRows.{LinkRows}
use Rattle.store_reader.specs.Rows.{ParentRows}
use Rattle.store_reader.proofs.Rows.{parent_rows}

module _ (s : Store) (p : ℕ) (slot : ℕ → Bool) {r : LinkRows} (rows : ParentRows s.links s.link_count p r) (f : Fits s) where
  abbrev test : ℕ → Bool
  test k = cond (offset_of p (link_at s k)) (slot (position_of s k)) true

  own : (k : ℕ) → k < s.link_count → r.first ≤ k → k < r.after → offset_of p (link_at s k) ≡ true
  own k m a h = sym (parent_rows s f p rows k m) ∙ rw (le-leb r.first k a, lt-ltb k r.after h)

  other : (k : ℕ) → k < s.link_count → (k < r.first) ⊎ (r.after ≤ k) → offset_of p (link_at s k) ≡ false
  other k m out =
      sym (parent_rows s f p rows k m)
      ∙ ⊎_elim (λ a. rw (lt-leb r.first k a)) (λ a. and_second (leb r.first k) (ltb k r.after) (le-ltb k r.after a)) out

  pub own_rows_at : all (λ i. slot (position_of s (r.first + i))) (r.after - r.first) ≡ all_at s p slot
  unfolding all_at
  own_rows_at =
      all_same (λ i. slot (position_of s (r.first + i))) (λ i. test (r.first + i)) (r.after - r.first)
      (λ i m. sym (ap (λ (x : Bool). cond x (slot (position_of s (r.first + i))) true) (own (r.first + i) (omega (arith, rows.after.within)) (omega arith) (omega arith))))
      ∙ all_among test r.first r.after s.link_count rows.rise rows.after.within
      (λ k m out. ap (λ (x : Bool). cond x (slot (position_of s k)) true) (other k m out))

  -- row by row
  pub offsets_pass : ((k : ℕ) → r.first ≤ k → k < r.after → slot (position_of s k) ≡ true) → true ≡ all_at s p slot
  offsets_pass h =
      sym (all_intro (λ i. slot (position_of s (r.first + i))) (r.after - r.first) (λ i m. h (r.first + i) (omega arith) (omega arith)))
      ∙ own_rows_at

  pub offset_fails : (k : ℕ) → r.first ≤ k → k < r.after → slot (position_of s k) ≡ false → false ≡ all_at s p slot
  offset_fails k a h e =
      let there : r.first + (k - r.first) ≡ k = omega arith in
      sym (all_fails (λ i. slot (position_of s (r.first + i))) (k - r.first) (r.after - r.first) (omega arith) (rw there e))
      ∙ own_rows_at
