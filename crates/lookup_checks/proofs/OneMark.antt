-- A mark that is asked for, and put where there is none. Assumes nothing.
use Prim.Native.Nat.{ℕ, ◌≤◌}
use mathlib.Core.Path.{◌≡◌, refl, sym, ap}
use mathlib.Core.Bool.{true, false, not}
use mathlib.Core.List.{List}
use lib.ListN.{length, get_or, set, get_or-eq_default}
use lib.Seq.{set_out}
use borrow.Author.Tests.{eq-eqb, ne_eqb}
use Rattle.folds.proofs.Tests.{true_false}
use Rattle.lookup_checks.specs.Marks.{MarkedOnce}

module _ (marks : List ℕ) (c : ℕ) where
  pub gets_mark : get_or marks c 0 ≡ 0 → MarkedOnce marks c (set marks c 1) false
  gets_mark e = record { told = ap not (sym (eq-eqb (get_or marks c 0) 0 e)); kept = λ f. true_false (sym f); put = λ f. refl }

  pub has_mark_lem : (get_or marks c 0 ≡ 0 → ⊥) → MarkedOnce marks c marks true
  has_mark_lem ne = record { told = ap not (sym (ne_eqb (get_or marks c 0) 0 ne)); kept = λ f. refl; put = λ f. true_false f }

  pub has_no_place : length marks ≤ c → MarkedOnce marks c marks false
  has_no_place h =
      record {
        told = ap not (sym (eq-eqb (get_or marks c 0) 0 (get_or-eq_default marks 0 h)));
        kept = λ f. true_false (sym f);
        put = λ f. sym (set_out marks c 1 h);
      }
