-- What is written is readable, and gives each glyph its class, reduced. Assumes nothing.
use Prim.Native.Nat.{ℕ, ◌-◌, ◌<◌}
use mathlib.Core.Path.{◌≡◌, sym, ap, ◌∙◌}
use mathlib.Core.Bool.{true}
use mathlib.Core.List.{List}
use native.Mathlib.Omega.{arith}
use lib.ListN.{length, get_or}
use Rattle.folds.proofs.Each.{each_at}
use Rattle.ot_layouts.specs.Coverage.{Entry}
use Rattle.ot_layouts.specs.ClassDef.{class_readable, class_of, class_in, class_def_bytes}
use Rattle.ot_layouts.proofs.ClassDefRoundTrip.{class_back, class_readable_lem}
use Rattle.ot_layouts.proofs.Entries.{agrees_self}
use Rattle.ot_ranges.specs.Ascending.{Ascending}
use Rattle.ot_ranges.proofs.Ascending.{ascends, under}
use Rattle.ot_class_def_writer.specs.Entries.{reduced_entries}
use Rattle.ot_class_def_writer.proofs.Entries.{entry_at, no_entry, length_entries, entries_at, ascends_entries, under_entries}

module _ (gs cs : List ℕ) (first : ℕ) (a : Ascending gs) where
  pub reads_back : (g : ℕ) → class_of (class_def_bytes (reduced_entries gs cs first)) g ≡ class_in (reduced_entries gs cs first) g
  reads_back g = class_back (reduced_entries gs cs first) 0 g (ascends_entries gs cs first 0 (ascends gs a))

  pub each_class : length cs ≡ length gs → (k : ℕ) → k < length gs → class_of (class_def_bytes (reduced_entries gs cs first)) (get_or gs k 0) ≡ get_or cs k 0 - first
  each_class e k l =
      let q : get_or (reduced_entries gs cs first) k no_entry ≡ entry_at gs cs first k = entries_at gs cs first k e l in
      reads_back (get_or gs k 0)
      ∙ ap (λ (x : Entry). class_in (reduced_entries gs cs first) x.glyph) (sym q)
      ∙ each_at (λ (x : Entry). class_in (reduced_entries gs cs first) x.glyph ≡ x.class) (reduced_entries gs cs first)
      (agrees_self (reduced_entries gs cs first) 0 (ascends_entries gs cs first 0 (ascends gs a)))
      k (omega (arith, length_entries gs cs first e)) no_entry
      ∙ ap (λ (x : Entry). x.class) q

  pub readable : ((k : ℕ) → get_or gs k 0 < 65536) → class_readable (class_def_bytes (reduced_entries gs cs first)) ≡ true
  readable b =
      class_readable_lem (reduced_entries gs cs first) (ascends_entries gs cs first 0 (ascends gs a)) (under_entries gs cs first 65536 (under gs 65536 b))
