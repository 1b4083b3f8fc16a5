-- Settings that are known pass, and others are refused; and they are those of one edition or the other. Assumes nothing.
use Rattle.std.specs.Prelude.{Some, None}
use Prim.Native.Nat.{ℕ}
use mathlib.Core.Path.{◌≡◌, sym, subst, ◌∙◌}
use mathlib.Core.Bool.{Bool, true, false, not}
use mathlib.Core.Logic.{⊎_elim}
use lib.Dec.{eqb}
use borrow.Author.Tests.{eqb-true, not-false}
use Rattle.folds.proofs.Joined.{or_either}
use Rattle.call_rules.specs.declared.Settings.{Settings}
use Rattle.call_rules.specs.Answers.{first_case}
use Rattle.call_rules.specs.Settings.{settings_of, first_edition, second_edition, known, settings_cases}

module _ (how : Settings) where
  pub known_pass : known how ≡ true → first_case (settings_cases how) ≡ None
  unfolding settings_cases first_case
  known_pass h = rw h

  pub unknown_refused : known how ≡ false → first_case (settings_cases how) ≡ Some 12
  unfolding settings_cases first_case
  unknown_refused h = rw h

  -- by a test that has passed
  pub tested_known : {b : Bool} → b ≡ known how → not b ≡ false → known how ≡ true
  tested_known {b} e h = sym e ∙ not-false b h

  -- what holds under both editions holds under these
  pub in_either : (P : Settings → Type 0) → P first_edition → P second_edition → known how ≡ true → P how
  unfolding known
  in_either P first second h =
      ⊎_elim
      (λ e. subst (λ (n : ℕ). P (settings_of n)) (sym (eqb-true how.edition 1 e)) first)
      (λ e. subst (λ (n : ℕ). P (settings_of n)) (sym (eqb-true how.edition 2 e)) second)
      (or_either (eqb how.edition 1) (eqb how.edition 2) h)
