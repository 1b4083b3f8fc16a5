-- What the checks decide, step by step. Assumes nothing.
use Rattle.std.specs.Prelude.{Err, Ok}
use Prim.Native.Nat.{ℕ, ◌≤◌, ◌<◌}
use mathlib.Core.Path.{◌≡◌, sym, ap, ◌∙◌}
use mathlib.Core.Bool.{Bool, true, false, not}
use mathlib.Core.List.{List}
use mathlib.Core.Logic.{◌⊎◌}
use native.Mathlib.Omega.{arith}
use lib.ListN.{length}
use borrow.Author.Tests.{lt-ltb, le-ltb, le-leb, lt-leb, not-false}
use Rattle.ot_layouts.specs.Coverage.{cover_glyphs}
use Rattle.ot_pairpos.specs.declared.Layout.{Layout}
use Rattle.ot_pairpos.specs.declared.Opened.{Opened}
use Rattle.ot_pairpos.specs.Layout.{opened_as, opened_of}
use Rattle.store_reader.specs.Rows.{Inside}
use Rattle.store_reader.proofs.Bytes.{inside}
use Rattle.call_rules.specs.declared.Answer.TheVariants.{Unsound, NoTable, FewGlyphs}
use Rattle.store_rules.specs.Store.{Store, sound, bytes_of}
use Rattle.store_rules.proofs.Sound.{sound_fits}
use Rattle.glyph_parts.specs.declared.Part.{Part}
use Rattle.call_rules.specs.Answers.{numbered}
use Rattle.pair_checks.specs.Checked.{sets_by, open_by, checked_of}
use Rattle.pair_checks.specs.declared.PairTable.{PairTable}

-- ---- format 1

module _ (s : Store) (l : Layout) (c : Part) {glyphs : ℕ} (e : glyphs ≡ length (cover_glyphs (bytes_of s c.object))) where
  pub too_few : glyphs < l.count → numbered (Err FewGlyphs) ≡ sets_by s l c
  unfolding sets_by
  too_few h = rw (lt-ltb (length (cover_glyphs (bytes_of s c.object))) l.count (omega arith))

  pub enough : l.count ≤ glyphs → numbered (Ok (record { layout = l; coverage = c; glyphs = glyphs; class1 = c; class2 = c })) ≡ sets_by s l c
  unfolding sets_by
  enough h =
      rw (le-ltb (length (cover_glyphs (bytes_of s c.object))) l.count (omega arith))
      (ap numbered (λ k. Ok (record { layout = l; coverage = c; glyphs = e k; class1 = c; class2 = c })))

-- ---- a table

module _ (s : Store) (t : ℕ) {b : Bool} (e : b ≡ sound s) where
  pub not_sound : not b ≡ true → numbered (Err Unsound) ≡ checked_of s t
  unfolding checked_of
  not_sound h = rw (← e, h)

  pub tested : not b ≡ false → sound s ≡ true
  tested h = sym e ∙ not-false b h

module _ (s : Store) (t : ℕ) (h : sound s ≡ true) where
  pub no_table_lem : s.object_count ≤ t → numbered (Err NoTable) ≡ checked_of s t
  unfolding checked_of
  no_table_lem l = rw (h, le-leb s.object_count t l)

  pub table_inside : t < s.object_count → Inside (length s.bytes) s.objects t
  table_inside l = inside s (sound_fits s h) t l

  module _ (l : t < s.object_count) {v : List ℕ} {o : Opened} (g : v ≡ bytes_of s t) (i : opened_as o ≡ opened_of v) where
    pub by_opened : {k : Opened} {r : ℕ ⊎ PairTable} → o ≡ k → r ≡ open_by s t (opened_as k) → r ≡ checked_of s t
    unfolding checked_of
    by_opened {k} {r} p q = q ∙ ap (open_by s t) (sym (ap opened_as p) ∙ i ∙ ap opened_of g) ∙ sym (rw (h, lt-leb s.object_count t l))
