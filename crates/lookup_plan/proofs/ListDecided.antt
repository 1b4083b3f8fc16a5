-- What is decided of a list and a table: by the checks of the list, and then as for a split. Assumes nothing.
use Rattle.std.specs.Prelude.{None, Err, Result, ⊤, Ok}
use Prim.Native.Nat.{ℕ}
use mathlib.Core.Path.{◌≡◌, sym, ap, ◌∙◌}
use mathlib.Core.Bool.{true}
use mathlib.Core.List.{List}
use native.Mathlib.Omega.{arith}
use lib.ListN.{length}
use borrow.Author.Tests.{not-false}
use Rattle.store_rules.specs.Store.{Store, sound}
use Rattle.call_rules.specs.declared.Answer.{Answer}
use Rattle.call_rules.specs.declared.Settings.{Settings}
use Rattle.call_rules.specs.Answers.{number, first_case, refusal}
use Rattle.call_rules.specs.Settings.{known, settings_cases}
use Rattle.call_rules.specs.Scratch.{Scratch, scratch_of, lengths_of, lengths_short}
use Rattle.call_rules.proofs.Cases.{first_append, first_head, first_skip, first_stands}
use Rattle.call_lists.specs.declared.Plan.{Plan}
use Rattle.pair_rules.specs.Table.{shape, glyphs_of}
use Rattle.pair_rules.specs.Calls.{scratch_short, cut_cases}
use Rattle.pair_checks.specs.declared.PairTable.{PairTable}
use Rattle.pair_plan.specs.Decided.{Decided}
use Rattle.lookup_rules.specs.Calls.{list_cases}
use Rattle.lookup_plan.specs.Deciding.{ListDecided}

module _ (how : Settings) (s : Store) (l t : ℕ) {x : Result ⊤ Answer} (e : refusal x ≡ first_case (list_cases how s l t)) where
  pub list_settled : {a : Answer} → x ≡ Err a → (w : Scratch) {gs ks cuts : List ℕ} → ListDecided how s l t w (Err a) gs ks cuts
  list_settled {a} y w =
      record {
        answers = first_stands (list_cases how s l t) (cut_cases how s t w) (number a) (sym e ∙ ap refusal y);
        decided = λ p z. let f : ◌≡◌ {A = ℕ} 0 1 = cc in absurd (omega arith);
      }

  module _ (y : x ≡ Ok (tt {0})) where
    none_listed : first_case (list_cases how s l t) ≡ None
    none_listed = sym e ∙ ap refusal y

    -- 12 and 1 do not apply
    pub known_sound : (known how ≡ true) × (sound s ≡ true)
    unfolding list_cases settings_cases
    known_sound =
        let (settings, rest) = first_append (settings_cases how) _ none_listed in
        (not-false (known how) (first_head _ _ settings).0, not-false (sound s) (first_head _ _ rest).0)

    -- the walk has been used since: what is decided goes by its length alone
    module _ (walk walk' set gs ks cuts : List ℕ) (same : length walk' ≡ length walk) where
      abbrev w : Scratch
      w = scratch_of walk set gs ks cuts

      abbrev w' : Scratch
      w' = scratch_of walk' set gs ks cuts

      same_cases : cut_cases how s t w ≡ cut_cases how s t w'
      unfolding cut_cases scratch_short
      same_cases =
          let short : lengths_short (lengths_of w) s.object_count (length (glyphs_of s t)) (shape s t).count
          ≡ lengths_short (lengths_of w') s.object_count (length (glyphs_of s t)) (shape s t).count
          = ap (λ (n : ℕ). lengths_short (record { walk = n; glyph_set = length set; glyphs = length gs; classes = length ks; cuts = length cuts })
          s.object_count (length (glyphs_of s t)) (shape s t).count) (sym same) in
          rw short

      pub list_good : {d : Result (Plan PairTable) Answer} {gs' ks' cuts' : List ℕ} → Decided how s t w' d gs' ks' cuts' → ListDecided how s l t w d gs' ks' cuts'
      list_good k =
          let answers = ap first_case same_cases ∙ k.answers in
          record {
            answers = first_skip (list_cases how s l t) (cut_cases how s t w) none_listed ∙ answers;
            decided = λ p z. record {
              answers = answers;
              plans = λ q f. let h = k.plans q f in record { opens = h.opens; cut = h.cut };
            };
          }
