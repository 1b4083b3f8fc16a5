-- What an object reaches: its children, and theirs. Assumes nothing.
use Rattle.std.specs.Prelude.{Some}
use Prim.Native.Nat.{ℕ, ◌<◌}
use mathlib.Core.Path.{◌≡◌, sym, ◌∙◌}
use mathlib.Core.Bool.{false}
use Rattle.folds.proofs.Tests.{by_test, true_false}
use Rattle.store_rules.specs.Store.{Store, link_at, child_at, child_of, offset_of}
use Rattle.store_rules.specs.Reach.{Reach, marked, reached, on_cycle}
use Rattle.store_rules.proofs.Sound.{Fits}
use Rattle.store_rules.proofs.Reached.{reached_only, reached_all}
use Rattle.store_rules.proofs.Lookups.{child_row}

-- object u reaches object i
abbrev pub Way : Store → ℕ → ℕ → Type 0
Way s u i = Reach s (λ k. offset_of u (link_at s k)) i

module _ (s : Store) where
  pub way_child : (u q c : ℕ) → child_at s u q ≡ Some c → Way s u c
  way_child u q c e = let (k, l, a, b, x) = child_row s u q c e in Reach.seed k l a x

  pub way_on : (u c q d : ℕ) → Way s u c → child_at s c q ≡ Some d → Way s u d
  way_on u c q d w e = let (k, l, a, b, x) = child_row s c q d e in Reach.step w k l a x

  -- an object on no cycle does not reach itself
  pub no_way_back : Fits s → (t : ℕ) → on_cycle s t ≡ false → Way s t t → ⊥
  unfolding on_cycle
  no_way_back f t acyclic w = true_false (sym (reached_all s (λ k. offset_of t (link_at s k)) f w) ∙ acyclic)

  -- an object to which no link leads is on none
  module _ (u : ℕ) (unled : (k : ℕ) → k < s.link_count → child_of s k ≡ u → ⊥) where
    no_way : Way s u u → ⊥
    no_way (Reach.seed k l a e) = unled k l e
    no_way (Reach.step w k l p e) = unled k l e

    pub unled_acyclic : Fits s → u < s.object_count → on_cycle s u ≡ false
    unfolding on_cycle
    unled_acyclic f used =
        by_test (marked (reached s (λ k. offset_of u (link_at s k))) u) (λ e. absurd (no_way (reached_only s (λ k. offset_of u (link_at s k)) f u used e))) (λ e. e)
