-- 12, 1, 2 of the table and of the list, and 9: one after another. Assumes nothing.
use Rattle.std.specs.Prelude.{Err, ⊤, Ok}
use Prim.Native.Nat.{ℕ, ◌≤◌, ◌<◌}
use mathlib.Core.Path.{◌≡◌, sym, ◌∙◌}
use mathlib.Core.Bool.{Bool, true, false, not}
use borrow.Author.Tests.{le-leb, lt-leb, not-true, not-false}
use Rattle.store_rules.specs.Store.{Store, sound}
use Rattle.call_rules.specs.declared.Answer.TheVariants.{BadEdition, Unsound, NoTable, BadList}
use Rattle.call_rules.specs.declared.Settings.{Settings}
use Rattle.call_rules.specs.Answers.{first_case, refusal}
use Rattle.call_rules.specs.Settings.{known, settings_cases}
use Rattle.call_rules.proofs.KnownSettings.{tested_known}
use Rattle.lookup_rules.specs.Listed.{bad_list}
use Rattle.lookup_rules.specs.Calls.{list_cases}
use Rattle.lookup_checks.specs.Objects.{ObjectInUse}

module _ (how : Settings) (s : Store) (l t : ℕ) {a : Bool} (d : a ≡ known how) where
  pub unknown : not a ≡ true → refusal {A = ⊤} (Err BadEdition) ≡ first_case (list_cases how s l t)
  unfolding list_cases settings_cases first_case
  unknown h = rw (← d, h)

  module _ (k : not a ≡ false) {b : Bool} (e : b ≡ sound s) where
    is_known : known how ≡ true
    is_known = tested_known how d k

    pub unsound : not b ≡ true → refusal {A = ⊤} (Err Unsound) ≡ first_case (list_cases how s l t)
    unfolding list_cases settings_cases first_case
    unsound h = rw (is_known, ← e, h)

    module _ (h : not b ≡ false) where
      sounds : sound s ≡ true
      sounds = sym e ∙ not-false b h

      pub no_table_lem : s.object_count ≤ t → refusal {A = ⊤} (Err NoTable) ≡ first_case (list_cases how s l t)
      unfolding list_cases settings_cases first_case
      no_table_lem out = rw (is_known, sounds, le-leb s.object_count t out)

      module _ (table-in : t < s.object_count) where
        pub no_list_lem : s.object_count ≤ l → refusal {A = ⊤} (Err NoTable) ≡ first_case (list_cases how s l t)
        unfolding list_cases settings_cases first_case
        no_list_lem out = rw (is_known, sounds, lt-leb s.object_count t table-in, le-leb s.object_count l out)

        module _ (list-in : l < s.object_count) where
          pub list_used : ObjectInUse s l
          list_used = record { sounds = sounds; used = list-in }

          module _ {good : Bool} (f : good ≡ not (bad_list s l t)) where
            pub bad_list_lem : not good ≡ true → refusal {A = ⊤} (Err BadList) ≡ first_case (list_cases how s l t)
            unfolding list_cases settings_cases first_case
            bad_list_lem g =
                let bad : bad_list s l t ≡ true = not-false (bad_list s l t) (sym f ∙ not-true good g) in
                rw (is_known, sounds, lt-leb s.object_count t table-in, lt-leb s.object_count l list-in, bad)

            pub good_list_lem : not good ≡ false → refusal (Ok (tt {0})) ≡ first_case (list_cases how s l t)
            unfolding list_cases settings_cases first_case
            good_list_lem g =
                let fine : bad_list s l t ≡ false = not-true (bad_list s l t) (sym f ∙ not-false good g) in
                rw (is_known, sounds, lt-leb s.object_count t table-in, lt-leb s.object_count l list-in, fine)
