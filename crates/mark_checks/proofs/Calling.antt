-- What a call is answered before it needs its scratch. Assumes nothing.
use Rattle.std.specs.Prelude.{Some, None, Err, Ok, Result}
use Prim.Native.Nat.{ℕ}
use mathlib.Core.Path.{◌≡◌, sym, ◌∙◌}
use mathlib.Core.Bool.{Bool, true, false, not}
use mathlib.Core.List.{◌++◌}
use native.Mathlib.Omega.{arith}
use borrow.Author.Tests.{not-true, not-false}
use Rattle.store_rules.specs.Store.{Store}
use Rattle.call_rules.specs.declared.Answer.{Answer}
use Rattle.call_rules.specs.declared.Answer.TheVariants.{ShortScratch, BadLinks}
use Rattle.call_rules.specs.declared.Lengths.{Lengths}
use Rattle.call_rules.specs.declared.Settings.{Settings}
use Rattle.call_rules.specs.Answers.{number, first_case}
use Rattle.call_rules.specs.Settings.{known, settings_cases}
use Rattle.call_rules.specs.Scratch.{Scratch, lengths_of, lengths_short}
use Rattle.call_rules.proofs.Cases.{first_skip, first_stands}
use Rattle.call_rules.proofs.KnownSettings.{known_pass}
use Rattle.mark_rules.specs.Table.{all_at_slots}
use Rattle.mark_rules.specs.Calls.{read_cases, scratch_short, cut_cases}
use Rattle.mark_rules.proofs.Checks.{reads_no_case}
use Rattle.mark_checks.specs.declared.MarkTable.{MarkTable}
use Rattle.mark_checks.specs.Opens.{Opens}
use Rattle.mark_checks.specs.Checked.{Checks}
use Rattle.mark_checks.specs.Called.{Passed, Calls}

-- the call has its answer
settles : {s : Store} {t : ℕ} {n : Lengths} (a : Answer)
    → ((how : Settings) → known how ≡ true → (w : Scratch) → lengths_of w ≡ n → first_case (cut_cases how s t w) ≡ Some (number a)) → Calls s t n (Err a)
settles a f =
    record {
      refuses = λ b x. let same : a ≡ b = cc in rw (← same) f;
      passes = λ p x. let z : ◌≡◌ {A = ℕ} 0 1 = cc in absurd (omega arith);
    }

-- known settings leave the answer to the table
settings_pass : (s : Store) (t : ℕ) (how : Settings) → known how ≡ true → first_case (settings_cases how ++ read_cases s t) ≡ first_case (read_cases s t)
settings_pass s t how k = first_skip (settings_cases how) (read_cases s t) (known_pass how k)

pub call_settled : {s : Store} {t : ℕ} {n : Lengths} {r : Result MarkTable Answer} {a : Answer} → Checks s t r → r ≡ Err a → Calls s t n (Err a)
unfolding cut_cases
call_settled {s} {t} {a = a} v y =
    let z = rw y at v.answers in
    settles a (λ how k w e. first_stands (settings_cases how ++ read_cases s t) _ (number a) (settings_pass s t how k ∙ sym z))

-- nothing refuses a table that is open before its scratch is asked
pub reads_pass : {s : Store} {t : ℕ} {p : MarkTable} → Opens s t p
    → (how : Settings) → known how ≡ true → first_case (settings_cases how ++ read_cases s t) ≡ None
reads_pass {s} {t} o how k = settings_pass s t how k ∙ reads_no_case s t o.reads

module _ {s : Store} {t : ℕ} {p : MarkTable} (o : Opens s t p) (n : Lengths) where
  scratch_is : (w : Scratch) → lengths_of w ≡ n → scratch_short s t w ≡ lengths_short n s.object_count p.glyphs p.classes
  unfolding scratch_short
  scratch_is w e = rw (e, o.glyphs, o.classes)

  module _ {x : Bool} (f : x ≡ lengths_short n s.object_count p.glyphs p.classes) where
    pub call_short : x ≡ true → Calls s t n (Err ShortScratch)
    unfolding cut_cases first_case
    call_short h = settles ShortScratch (λ how k w e. first_skip (settings_cases how ++ read_cases s t) _ (reads_pass o how k) ∙ rw (scratch_is w e, ← f, h))

    module _ (h : x ≡ false) {y : Bool} (g : y ≡ all_at_slots s t) where
      pub call_slots : not y ≡ true → Calls s t n (Err BadLinks)
      unfolding cut_cases first_case
      call_slots l =
          settles BadLinks
          (λ how k w e. first_skip (settings_cases how ++ read_cases s t) _ (reads_pass o how k) ∙ rw (scratch_is w e, ← f, h, ← g, not-true y l))

      pub call_passed : not y ≡ false → Calls s t n (Ok p)
      call_passed l =
          let own : Passed s t n p = record { opens = o; long = sym f ∙ h; slots = sym g ∙ not-false y l } in
          record {
            refuses = λ a x. let z : ◌≡◌ {A = ℕ} 0 1 = cc in absurd (omega arith);
            passes = λ q x. let same : p ≡ q = cc in rw (← same) own;
          }
