-- A plan's cuts at the front of the scratch: what deciding leaves there, and what is lent on. Assumes nothing.
use Rattle.std.specs.Prelude.{None, Ok, Result}
use Prim.Native.Nat.{ℕ, ◌≤◌}
use mathlib.Core.Path.{◌≡◌, sym, ap, subst, ◌∙◌}
use mathlib.Core.List.{List}
use native.Mathlib.Omega.{arith}
use lib.ListN.{length}
use Rattle.folds.specs.Lists.{part, Bytes}
use Rattle.folds.proofs.Fronts.{front_long}
use Rattle.store_rules.specs.Store.{Store}
use Rattle.call_rules.specs.declared.Settings.{Settings}
use Rattle.call_rules.specs.Scratch.{Scratch, lengths_of}
use Rattle.call_rules.specs.Answers.{first_case, refusal}
use Rattle.call_rules.proofs.Scratch.{long_enough}
use Rattle.cut_rules.specs.Places.{Places}
use Rattle.cut_filling.proofs.Turns.{placed_front}
use Rattle.call_rules.specs.declared.Answer.{Answer}
use Rattle.call_lists.specs.declared.Plan.{Plan}
use Rattle.mark_rules.specs.Table.{classes_of, cut_places}
use Rattle.mark_rules.specs.Calls.{cut_cases}
use Rattle.mark_rules.proofs.NewCounts.{table_cuts}
use Rattle.mark_checks.proofs.Opened.{marks_are}
use Rattle.mark_checks.specs.declared.MarkTable.{MarkTable}
use Rattle.mark_plan.specs.Decided.{Decided}
use Rattle.mark_plan.proofs.Planning.{can_hand_out}
use Rattle.mark_split.specs.Splitting.{Cuttable, PlanReady}

-- ---- as decided

module _ {how : Settings} {s : Store} {t : ℕ} {w : Scratch} {d : Result (Plan MarkTable) Answer} {cuts : List ℕ}
    (x : Decided how s t w d cuts) {p : Plan MarkTable} (y : d ≡ Ok p) where
  pub none_applies : first_case (cut_cases how s t w) ≡ None
  none_applies = x.answers ∙ ap refusal y

  pub at_places : part cuts 0 p.cuts ≡ cut_places how s t
  at_places = placed_front (x.plans p y).placed

  pub ready : Bytes s.bytes → {set gs ks : List ℕ} → length set ≡ length w.set → length gs ≡ length w.glyphs → length ks ≡ length w.classes
      → PlanReady s t p gs ks set cuts
  ready octets a b c =
      let k = x.plans p y in
      let long = long_enough (lengths_of w) s.object_count p.table.glyphs p.table.classes k.passed.long in
      let (room, few) = can_hand_out octets x p y in
      record {
        opens = k.passed.opens;
        slots = k.passed.slots;
        few = few;
        cut_room = room;
        places = subst (Places (classes_of s t)) (sym at_places) (table_cuts how s t);
        glyph_room = omega (arith, long.glyphs);
        class_room = omega (arith, long.classes);
        scratch = omega (arith, long.set);
      }

-- ---- lent on

module _ {s : Store} {t : ℕ} {p : Plan MarkTable} {gs ks set cuts : List ℕ} (k : PlanReady s t p gs ks set cuts) where
  pub classes_room : p.table.marks.count ≤ length ks
  classes_room = omega (arith, marks_are k.opens, k.opens.reads.enough, k.opens.glyphs, k.class_room)

  pub fronts_lent : (p.cuts ≡ 0 → ⊥) → Cuttable s t p.table (part gs 0 p.table.glyphs) (part ks 0 p.table.marks.count) set (part cuts 0 p.cuts)
  fronts_lent some =
      record {
        arranging =
            record {
              opens = k.opens;
              places = k.places;
              some = let n = front_long cuts p.cuts k.cut_room in omega arith;
              numbers = front_long gs p.table.glyphs k.glyph_room;
              classes = front_long ks p.table.marks.count classes_room;
              scratch = k.scratch;
            };
        slots = k.slots;
      }
