-- A sound store by document 02's sentence: each row comes before all behind it, and no two rows are offsets of one parent at one position. Assumes nothing.
use Prim.Native.Nat.{ℕ, zero, suc, ◌+◌, ◌<◌}
use mathlib.Core.Path.{◌≡◌, refl}
use mathlib.Core.Bool.{true, not}
use mathlib.Core.Logic.{inr, ⊎_elim}
use native.Mathlib.Omega.{arith}
use native.Mathlib.Nat.{not-suc-le-zero, eq-or-lt_of_le, le_of_suc-le-suc}
use Rattle.folds.proofs.Tests.{either, and_both}
use Rattle.store_rules.specs.Store.{Store, link_at, is_offset, parent_of, position_of, row_before, one_position}
use Rattle.store_rules.proofs.Sound.{Fits}
use Rattle.store_rules.proofs.LinksAscend.{Behind, place, place_offset, from_trans}
use Rattle.store_rules.proofs.LinksFit.{row_formed, row_behind}
use Rattle.store_rules.proofs.RowOrder.{from_rows}

module _ (s : Store) (f : Fits s) where
  -- a later row has a later place
  pub later : (j k : ℕ) → j < k → k < s.link_count → Behind (link_at s j) (link_at s k)
  later j zero h l = absurd (not-suc-le-zero h)
  later j (suc k) h l =
      let next = row_behind s f k l in
      ⊎_elim (λ e. rw e next)
      (λ lt.
      from_trans (parent_of s j) (place (link_at s j) + 1) (parent_of s k) (place (link_at s k)) (parent_of s (suc k)) (place (link_at s (suc k))) (later j k lt (omega arith))
      (from_trans (parent_of s k) (place (link_at s k)) (parent_of s k) (place (link_at s k) + 1) (parent_of s (suc k)) (place (link_at s (suc k))) (inr (refl, omega arith)) next))
      (eq-or-lt_of_le (le_of_suc-le-suc h))

  -- "Rows strictly ascend by (parent, kind, position, child)"
  pub rows_ascend : (j k : ℕ) → j < k → k < s.link_count → row_before (link_at s j) (link_at s k) ≡ true
  rows_ascend j k h l =
      (and_both (row_before (link_at s j) (link_at s k)) (not (one_position (link_at s j) (link_at s k)))
      (from_rows (link_at s j) (link_at s k) (row_formed s f j (omega arith)) (row_formed s f k l) (later j k h l))).0

  -- "no parent has two kind 0 links at one position"
  pub one_each : (j k : ℕ) → j < s.link_count → k < s.link_count → is_offset (link_at s j) ≡ true → is_offset (link_at s k) ≡ true
      → parent_of s j ≡ parent_of s k → position_of s j ≡ position_of s k → j ≡ k
  one_each j k a b o w p q =
      let x = place_offset (link_at s j) o in
      let y = place_offset (link_at s k) w in
      ⊎_elim
      (λ lt. absurd (⊎_elim (λ c. omega arith) (λ (c, d). omega arith) (later j k lt b)))
      (λ ge. ⊎_elim (λ lt. absurd (⊎_elim (λ c. omega arith) (λ (c, d). omega arith) (later k j lt a))) (λ le. omega arith) (either k j))
      (either j k)
