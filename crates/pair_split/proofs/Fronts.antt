-- A plan's cuts, and in format 2 the covered glyphs by class, at the front of the scratch: what deciding leaves there, and what is lent on. Assumes nothing.
use Rattle.std.specs.Prelude.{None, Ok, Result}
use Prim.Native.Nat.{ℕ, ◌-◌}
use mathlib.Core.Path.{◌≡◌, sym, ap, ap₂, subst, ◌∙◌}
use mathlib.Core.List.{List, map, ◌++◌}
use native.Mathlib.Omega.{arith}
use lib.ListN.{length, take, drop, length-map}
use Rattle.folds.specs.Lists.{put, part, Bytes}
use Rattle.folds.proofs.Folds.{length-upto}
use Rattle.folds.proofs.Put.{put_front}
use Rattle.folds.proofs.Fronts.{front_long}
use Rattle.folds.proofs.Ascending.{length-ascending}
use Rattle.ot_layouts.specs.Coverage.{Entry}
use Rattle.store_rules.specs.Store.{Store}
use Rattle.cut_filling.proofs.Turns.{placed_front}
use Rattle.call_rules.specs.declared.Answer.{Answer}
use Rattle.call_lists.specs.declared.Plan.{Plan}
use Rattle.pair_rules.specs.Table.{shape, entries_of, glyphs_of, cut_places}
use Rattle.call_rules.specs.declared.Settings.{Settings}
use Rattle.call_rules.specs.Scratch.{Scratch, lengths_of}
use Rattle.call_rules.specs.Answers.{first_case, refusal}
use Rattle.call_rules.specs.Settings.{settings_cases}
use Rattle.pair_rules.specs.Calls.{read_cases, scratch_short, cut_cases}
use Rattle.call_rules.proofs.Scratch.{LongEnough, long_enough}
use Rattle.call_rules.proofs.Cases.{first_append, first_head}
use Rattle.cut_rules.specs.Places.{Places}
use Rattle.pair_rules.proofs.Entries.{entries_glyphs}
use Rattle.pair_rules.proofs.TableCuts.{table_cuts}
use Rattle.glyph_sort.specs.Pairs.{keyed_at, pairs, keys_of, beside_of}
use Rattle.glyph_sort.specs.ByClass.{class_pairs, ByClass}
use Rattle.pair_checks.specs.declared.PairTable.{PairTable}
use Rattle.pair_plan.specs.Decided.{Planned, Decided}
use Rattle.pair_plan.proofs.Counting.{planned_few}
use Rattle.pair_carrying.specs.Arranging.{Arranging}
use Rattle.pair_split.specs.Splitting.{PlanReady}

-- what was put at the front
front_is : (d xs : List ℕ) (n : ℕ) {l : List ℕ} → l ≡ put d 0 xs → n ≡ length xs → part l 0 n ≡ xs
front_is d xs n e h = let m : n - 0 ≡ length xs = omega arith in ap₂ (λ (k : ℕ) (x : List ℕ). take k (drop 0 x)) m e ∙ put_front d xs

-- ---- as decided

class_pairs_long : (es : List Entry) → length (class_pairs es) ≡ length es
unfolding class_pairs pairs
class_pairs_long es =
    let ks : List ℕ = map (λ e. e.class) es in
    let gs : List ℕ = map (λ e. e.glyph) es in
    length-ascending (pairs ks gs) ∙ length-upto (keyed_at ks gs) (length ks) ∙ length-map es (λ e. e.class)

-- an entry for each covered glyph
entries_long : (s : Store) (t : ℕ) → length (entries_of s t) ≡ length (glyphs_of s t)
entries_long s t = sym (length-map (entries_of s t) (λ e. e.glyph)) ∙ ap length (entries_glyphs s t)

-- 6 does not apply
pub scratch_long : (how : Settings) (s : Store) (t : ℕ) (w : Scratch) → first_case (cut_cases how s t w) ≡ None
    → LongEnough (lengths_of w) s.object_count (length (glyphs_of s t)) (shape s t).count
unfolding cut_cases scratch_short
scratch_long how s t w h =
    let (read, rest) = first_append (settings_cases how ++ read_cases s t) _ h in
    long_enough (lengths_of w) s.object_count (length (glyphs_of s t)) (shape s t).count (first_head _ _ rest).0

module _ {how : Settings} {s : Store} {t : ℕ} {w : Scratch} {d : Result (Plan PairTable) Answer} {gs ks cuts : List ℕ}
    (x : Decided how s t w d gs ks cuts) {p : Plan PairTable} (y : d ≡ Ok p) where
  abbrev k : Planned how s t w p gs ks cuts
  k = x.plans p y

  pub none_applies : first_case (cut_cases how s t w) ≡ None
  none_applies = x.answers ∙ ap refusal y

  pub at_places : part cuts 0 p.cuts ≡ cut_places how s t
  at_places = placed_front k.cut.placed

  many : p.table.glyphs ≡ length (glyphs_of s t)
  many = k.opens.glyphs

  pairs_many : p.table.glyphs ≡ length (class_pairs (entries_of s t))
  pairs_many = many ∙ sym (class_pairs_long (entries_of s t) ∙ entries_long s t)

  by_class_lem : (p.table.layout.format ≡ 1 → ⊥) → ByClass (entries_of s t) (part gs 0 p.table.glyphs) (part ks 0 p.table.glyphs)
  unfolding beside_of keys_of
  by_class_lem two =
      let f = k.cut.fronted two in
      let zs = class_pairs (entries_of s t) in
      record {
        glyphs = front_is w.glyphs (beside_of zs) p.table.glyphs f.glyphs (pairs_many ∙ sym (length-map zs _));
        classes = front_is w.classes (keys_of zs) p.table.glyphs f.classes (pairs_many ∙ sym (length-map zs _));
      }

  pub ready : Bytes s.bytes → length gs ≡ length w.glyphs → length ks ≡ length w.classes → PlanReady s t p gs ks cuts
  ready octets a b =
      let long = scratch_long how s t w none_applies in
      let (room, few) = planned_few octets k in
      record {
        opens = k.opens;
        places = subst (Places (shape s t).count) (sym at_places) (table_cuts how s t);
        few = few;
        cut_room = room;
        glyph_room = omega (arith, many, long.glyphs);
        class_room = omega (arith, many, long.classes);
        by_class = by_class_lem;
      }

-- ---- lent on

pub fronts_lent : {s : Store} {t : ℕ} {p : Plan PairTable} {gs ks cuts : List ℕ} → PlanReady s t p gs ks cuts → (p.cuts ≡ 0 → ⊥)
    → Arranging s t p.table (part gs 0 p.table.glyphs) (part ks 0 p.table.glyphs) (part cuts 0 p.cuts)
fronts_lent {p = p} {gs = gs} {ks = ks} {cuts = cuts} k some =
    record {
      opens = k.opens;
      places = k.places;
      some = let n = front_long cuts p.cuts k.cut_room in omega arith;
      glyphs = front_long gs p.table.glyphs k.glyph_room;
      classes = front_long ks p.table.glyphs k.class_room;
      by_class = k.by_class;
    }
