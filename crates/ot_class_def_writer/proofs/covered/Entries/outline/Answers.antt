-- `ot_class_def_writer::covered::Entries::outline` meets its contract: the named entries span from the first of them to the last. Assumes nothing.
use Rattle.std.proofs.Common.{rules}
use Prim.Native.Nat.{ℕ, ◌+◌, ◌-◌, ◌≤◌, ◌<◌}
use mathlib.Core.Path.{◌≡◌}
use native.Mathlib.Omega.{arith}
use lib.ListN.{length, get_or}
use Rattle.ot_layouts.specs.Coverage.{runs}
use Rattle.ot_layouts.specs.ClassDef.{first_glyph, span, named}
use Rattle.ot_ranges.proofs.Ascending.{ascends}
use Rattle.ot_layouts.proofs.Runs.{runs_none}
use Rattle.ot_class_def_writer.specs.declared.covered.Entries.{Entries}
use Rattle.ot_class_def_writer.specs.Entries.{entries_of, FirstNamed, LastNamed, OutlineOf}
use Rattle.ot_class_def_writer.proofs.Ends.{few_glyphs, none_named, start_is, some_named, ordered, span_is}
use Rattle.ot_class_def_writer.proofs.covered.Entries.outline.Goals as goal

module _ (en : Entries) {count lo : ℕ} (n : (count ≡ length (runs (named (entries_of en)))) × (count ≤ length en.glyphs.now))
    (f : FirstNamed en.classes.now en.first lo) where
  with-some : {end : ℕ} → ((i : ℕ) → get_or en.glyphs.now i 0 < 65536) → lo < length en.glyphs.now → LastNamed en.classes.now en.first end
      → OutlineOf en
      (record { runs = count; from = lo; start = get_or en.glyphs.now lo 0; span = get_or en.glyphs.now (end - 1) 0 + 1 - get_or en.glyphs.now lo 0 })
  with-some {end} bits l t =
      record {
        runs_are = n.0;
        few = omega (arith, n.1, few_glyphs en.glyphs.now (ascends en.glyphs.now en.ascending) bits);
        from_is = f;
        start_is = start_is en.glyphs.now en.classes.now en.first en.same_length lo f l;
        low = bits lo;
        span_is = span_is en.glyphs.now en.classes.now en.first en.same_length lo f l end t;
        spans = omega (arith, bits (end - 1));
      }

  with_none : length en.glyphs.now ≤ lo → OutlineOf en (record { runs = count; from = lo; start = 0; span = 0 })
  unfolding first_glyph span
  with_none l =
      record {
        runs_are = n.0;
        few =
            let e : length (runs (named (entries_of en))) ≡ 0
            = rw (none_named en.glyphs.now en.classes.now en.first en.same_length lo f l, runs_none) in
            omega (arith, n.0);
        from_is = f;
        start_is = rw (none_named en.glyphs.now en.classes.now en.first en.same_length lo f l);
        low = omega arith;
        span_is = rw (none_named en.glyphs.now en.classes.now en.first en.same_length lo f l);
        spans = omega arith;
      }

module _ (en : Entries) {lo end : ℕ} (f : FirstNamed en.classes.now en.first lo) (l : lo < length en.glyphs.now)
    (t : LastNamed en.classes.now en.first end) where
  below_end : lo < end
  below_end = some_named en.glyphs.now en.classes.now en.first en.same_length lo f l end t

  in_order : get_or en.glyphs.now lo 0 ≤ get_or en.glyphs.now (end - 1) 0
  in_order = ordered en.glyphs.now en.classes.now en.first en.same_length lo f l end t (ascends en.glyphs.now en.ascending)

pub overflow_sub-last : goal.overflow_sub-last
overflow_sub-last c =
    let h = below_end c.args.self.now c.first_named-from.ensures c.if-from-glyphs.true c.last_named-last.ensures in omega arith

pub overflow_sub-result : goal.overflow_sub-result
overflow_sub-result c = let h = in_order c.args.self.now c.first_named-from.ensures c.if-from-glyphs.true c.last_named-last.ensures in omega arith

pub returns-then-from-glyphs : goal.returns-then-from-glyphs
returns-then-from-glyphs c =
    with-some c.args.self.now (c.count_runs-runs.ensures.value, c.count_runs-runs.ensures.upper_bound) c.first_named-from.ensures
    (λ i. search rules) c.if-from-glyphs.true c.last_named-last.ensures

pub returns-else-from-glyphs : goal.returns-else-from-glyphs
returns-else-from-glyphs c =
    with_none c.args.self.now (c.count_runs-runs.ensures.value, c.count_runs-runs.ensures.upper_bound)
    c.first_named-from.ensures c.if-from-glyphs.false
