-- What the decision rests on: whether the settings are known, the checks that need no scratch, whether there is a cycle, and the cut places. Assumes nothing.
use Rattle.std.specs.Prelude.{Some, None, Err, Ok, Result}
use Prim.Native.Nat.{ℕ, ◌*◌, ◌≤◌, ◌<◌}
use mathlib.Core.Path.{◌≡◌, refl, sym, subst, ◌∙◌}
use mathlib.Core.Bool.{Bool, true, false, cond, not}
use mathlib.Core.List.{List, ◌++◌}
use native.Mathlib.Omega.{arith}
use lib.ListN.{length, get_or}
use lib.Dec.{ltb}
use borrow.Author.Tests.{lt-ltb, le-ltb, not-true}
use Rattle.store_rules.specs.Store.{Store}
use Rattle.store_rules.specs.Reach.{on_cycle}
use Rattle.store_rules.proofs.Sound.{size_bytes}
use Rattle.store_walk.specs.Marks.{Begun}
use Rattle.store_walk.proofs.Cycles.{begun_whole}
use Rattle.call_rules.specs.declared.Answer.{Answer}
use Rattle.call_rules.specs.declared.Answer.TheVariants.{BadEdition, BadLinks}
use Rattle.call_rules.specs.declared.Settings.{Settings}
use Rattle.call_rules.specs.Settings.{known, settings_cases}
use Rattle.call_rules.specs.Scratch.{Scratch, lengths_of}
use Rattle.call_rules.specs.Answers.{number, first_case}
use Rattle.call_rules.proofs.Cases.{first_skip, first_stands}
use Rattle.call_rules.proofs.KnownSettings.{unknown_refused}
use Rattle.call_rules.proofs.Scratch.{LongEnough, long_enough}
use Rattle.cut_filling.specs.Filling.{Placed}
use Rattle.call_lists.specs.declared.Plan.{Plan}
use Rattle.mark_rules.specs.Table.{cut_places}
use Rattle.mark_rules.specs.Calls.{read_cases, scratch_short, cut_cases}
use Rattle.mark_checks.specs.declared.MarkTable.{MarkTable}
use Rattle.mark_checks.specs.Called.{Passed, Calls}
use Rattle.mark_checks.proofs.Opened.{opened_fits}
use Rattle.mark_checks.proofs.Calling.{reads_pass}
use Rattle.mark_plan.specs.Cutting.{Looked}
use Rattle.mark_plan.specs.Decided.{Planned, Decided}

-- ---- the call has its answer

settles : {how : Settings} {s : Store} {t : ℕ} {w : Scratch} {a : Answer} {cuts : List ℕ} → first_case (cut_cases how s t w) ≡ Some (number a)
    → Decided how s t w (Err a) cuts
settles e = record { answers = e; plans = λ p x. let z : ◌≡◌ {A = ℕ} 0 1 = cc in absurd (omega arith) }

pub decided_settled : {how : Settings} → known how ≡ true → {s : Store} {t : ℕ} (w : Scratch) {x : Result MarkTable Answer} {a : Answer} {cuts : List ℕ}
    → Calls s t (lengths_of w) x → x ≡ Err a → Decided how s t w (Err a) cuts
decided_settled {how} l w {a = a} c y = settles (c.refuses a y how l w refl)

-- ---- 12

module _ (how : Settings) {b : Bool} (e : b ≡ known how) where
  pub decided_unknown : not b ≡ true → {s : Store} {t : ℕ} {w : Scratch} {cuts : List ℕ} → Decided how s t w (Err BadEdition) cuts
  unfolding cut_cases
  decided_unknown h {s} {t} =
      let refused = unknown_refused how (sym e ∙ not-true b h) in
      settles (first_stands (settings_cases how ++ read_cases s t) _ 12 (first_stands (settings_cases how) (read_cases s t) 12 refused))

-- ---- the rest of 7, and the cuts

module _ {s : Store} {t : ℕ} (w : Scratch) {p : MarkTable} (k : Passed s t (lengths_of w) p) where
  long : LongEnough (lengths_of w) s.object_count p.glyphs p.classes
  long = long_enough (lengths_of w) s.object_count p.glyphs p.classes k.long

  -- the table is in use, and the walk's scratch long enough
  pub can_begin : (t < s.object_count) × (2 * s.object_count ≤ length w.walk)
  can_begin = (k.opens.reads.used, long.walk)

  -- the table has a mark there
  pub table_marked : t < length w.walk
  table_marked = omega (arith, can_begin.0, can_begin.1)

  not_short : scratch_short s t w ≡ false
  unfolding scratch_short
  not_short = rw (← k.opens.glyphs, ← k.opens.classes) k.long

  -- all but the cycle has been asked
  last : (how : Settings) → known how ≡ true → first_case (cut_cases how s t w) ≡ cond (on_cycle s t) (Some (number BadLinks)) None
  unfolding cut_cases first_case
  last how l = first_skip (settings_cases how ++ read_cases s t) _ (reads_pass k.opens how l) ∙ rw (not_short, k.slots)

  module _ {z : List ℕ} (d : Begun s t 12 z) where
    tells : ltb 0 (get_or z t 0) ≡ on_cycle s t
    tells =
        let fits = opened_fits k.opens in
        begun_whole fits can_begin.0 (omega (arith, size_bytes s fits t can_begin.0, k.opens.reads.exactly)) d

    pub can_cut : Looked s t p z w.set w.glyphs w.classes w.cuts
    can_cut =
        record {
          opens = k.opens;
          slots = k.slots;
          marks = d.marks;
          room = long.cuts;
          long = long.set;
          glyphs = long.glyphs;
          classes = long.classes;
        }

    module _ {how : Settings} (l : known how ≡ true) {cuts : List ℕ} where
      pub decided_cycle : (get_or z t 0 ≡ 0 → ⊥) → Decided how s t w (Err BadLinks) cuts
      decided_cycle ne = settles (last how l ∙ rw (← tells, lt-ltb 0 (get_or z t 0) (omega arith)))

      pub decided_cut : {n : ℕ} → get_or z t 0 ≡ 0 → Placed (cut_places how s t) w.cuts cuts n → Decided how s t w (Ok (record { table = p; cuts = n })) cuts
      decided_cut {n} h x =
          record {
            answers = last how l ∙ rw (← tells, le-ltb 0 (get_or z t 0) (omega arith));
            plans = λ q y.
                let same : record { table = p; cuts = n } ≡ q = cc in
                subst (λ (r : Plan MarkTable). Planned how s t w r cuts) same (record { passed = k; placed = x });
          }
