-- 11 behind 1 to 5: what the checks of a pair reading say, and what is known of a table that they open. Assumes nothing.
use Rattle.std.specs.Prelude.{Option, Some, None, Err, Ok, Result}
use Prim.Native.Nat.{ℕ}
use mathlib.Core.Path.{◌≡◌, refl, sym, ap, ◌∙◌}
use mathlib.Core.Bool.{Bool, true, false, cond, not}
use mathlib.Core.List.{[], ◌∷◌}
use mathlib.Core.Logic.{◌⊎◌, inl, inr}
use native.Mathlib.Omega.{arith}
use borrow.Author.Tests.{not-true, not-false}
use Rattle.folds.specs.Folds.{or_else}
use Rattle.call_rules.specs.declared.Answer.{Answer}
use Rattle.call_rules.specs.declared.Answer.TheVariants.{UnsortedSets}
use Rattle.call_rules.specs.Answers.{number, first_case, numbered}
use Rattle.call_rules.proofs.Cases.{first_either}
use Rattle.store_rules.specs.Store.{Store}
use Rattle.pair_rules.specs.Table.{sets_sorted}
use Rattle.pair_rules.specs.Calls.{read_cases, unsorted_case, pair_cases}
use Rattle.pair_checks.specs.declared.PairTable.{PairTable}
use Rattle.pair_checks.specs.Checked.{checked_of, settled_as}
use Rattle.pair_checks.proofs.Refusals.{refusals}
use Rattle.pair_reading.specs.Reading.{sorted_by, pair_checked}

module _ (s : Store) (t : ℕ) where
  -- ---- they decide in the one order

  last : (x : ℕ ⊎ PairTable) → or_else (settled_as x) (first_case (unsorted_case s t ∷ [])) ≡ settled_as (sorted_by s t x)
  unfolding first_case
  last (inl n) = refl
  last (inr p) = go (sets_sorted s t)
    where
      go : (b : Bool) → cond (not b) (Some (number UnsortedSets)) None ≡ settled_as (cond b (inr p) (inl (number UnsortedSets)))
      go true = refl
      go false = refl

  pub pair_refusals : first_case (pair_cases s t) ≡ settled_as (pair_checked s t)
  unfolding pair_cases pair_checked
  pair_refusals =
      first_either (read_cases s t) _
      ∙ ap (λ (o : Option ℕ). or_else o (first_case (unsorted_case s t ∷ []))) (refusals s t)
      ∙ last (checked_of s t)

  -- ---- what the code finds

  pub still_settled : {x : Result PairTable Answer} {a : Answer} → numbered x ≡ checked_of s t → x ≡ Err a → numbered (Err a) ≡ pair_checked s t
  unfolding pair_checked
  still_settled e y = ap (sorted_by s t) (sym (ap numbered y) ∙ e)

  module _ {p : PairTable} (e : checked_of s t ≡ numbered (Ok p)) {x : Bool} (f : x ≡ sets_sorted s t) where
    pub not_sorted : not x ≡ true → numbered (Err UnsortedSets) ≡ pair_checked s t
    unfolding pair_checked
    not_sorted h = rw (e, sym f ∙ not-true x h)

    pub all_sorted : not x ≡ false → numbered (Ok p) ≡ pair_checked s t
    unfolding pair_checked
    all_sorted h = rw (e, sym f ∙ not-false x h)

  -- ---- a table that is open

  pub is_open : {p : PairTable} → pair_checked s t ≡ numbered (Ok p) → (checked_of s t ≡ numbered (Ok p)) × (sets_sorted s t ≡ true)
  unfolding pair_checked
  is_open {p} h = go (checked_of s t) h
    where
      tested : (b : Bool) (q : PairTable) → cond b (inr q) (inl (number UnsortedSets)) ≡ inr p → (◌≡◌ {A = ℕ ⊎ PairTable} (inr q) (inr p)) × (b ≡ true)
      tested true q e = (e, refl)
      tested false q e = let z : ◌≡◌ {A = ℕ} 0 1 = cc in absurd (omega arith)

      go : (x : ℕ ⊎ PairTable) → sorted_by s t x ≡ inr p → (x ≡ inr p) × (sets_sorted s t ≡ true)
      go (inl n) e = let z : ◌≡◌ {A = ℕ} 0 1 = cc in absurd (omega arith)
      go (inr q) e = tested (sets_sorted s t) q e
