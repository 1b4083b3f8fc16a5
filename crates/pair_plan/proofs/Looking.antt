-- What the cut rules ask of a table, from what the checks hold of it. Assumes nothing.
use Rattle.std.specs.Prelude.{Option}
use Rattle.ot_layouts.specs.declared.Header.{Header}
use Prim.Native.Nat.{ℕ, ◌*◌, ◌≤◌, ◌<◌}
use mathlib.Core.Path.{◌≡◌, sym, ap, subst}
use mathlib.Core.Bool.{true}
use mathlib.Core.List.{List}
use mathlib.Core.Logic.{⊎_elim}
use native.Mathlib.Omega.{arith}
use lib.ListN.{length, replicate, length-replicate, get_or-replicate, get_or-eq_default}
use lib.Dec.{eqb}
use Rattle.folds.proofs.Tests.{either}
use Rattle.folds.specs.Lists.{Bytes}
use Rattle.ot_layouts.proofs.Shapes as Shapes
use Rattle.ot_layouts.proofs.Shapes.{items_rise}
use Rattle.ot_pairpos.specs.declared.Layout.{Layout}
use Rattle.ot_pairpos.specs.Layout.{layout_of}
use Rattle.store_rules.specs.Store.{Store, bytes_of, size_of, linked_at}
use Rattle.call_rules.specs.declared.Settings.{Settings}
use Rattle.pair_rules.specs.Table.{shape, cut_places}
use Rattle.store_rules.proofs.Sound.{Fits, sound_fits, size_bytes}
use Rattle.pair_rules.proofs.Checks.{count_bits}
use Rattle.glyph_parts.specs.declared.Part.{Part}
use Rattle.glyph_parts.specs.Parts.{LinkedPart}
use Rattle.glyph_parts.proofs.Parts.{part-inside}
use Rattle.pair_checks.specs.declared.PairTable.{PairTable}
use Rattle.pair_checks.proofs.Refusals.{format_one, format_two}
use Rattle.pair_checks.specs.Opens.{Opens}
use Rattle.glyph_set.specs.GlyphSet.{Empty}
use Rattle.pair_items.specs.declared.table_info.TableInfo.{TableInfo}
use Rattle.pair_items.specs.Filled.{Described, Unseen, TellsCycle}
use Rattle.cut_filling.specs.Filling.{Placed}
use Rattle.pair_set_points.specs.Format1.{Ready1}
use Rattle.pair_row_points.specs.Format2.{Ready2}
use Rattle.pair_items.proofs.Callers.{described}
use Rattle.pair_plan.specs.Cutting.{HasLength, info_of, TableWalked, Looked1, Looked2}

-- ---- an open table

module _ {s : Store} {t : ℕ} {p : PairTable} (o : Opens s t p) where
  fits : Fits s
  fits = sound_fits s o.reads.sounds

  part_beside : {read : List ℕ → Option Header} {q : ℕ} {d : Part} → LinkedPart read s t q d → HasLength s.objects d.object
  part_beside l = let i = part-inside o.reads.sounds l in (i.row, i.ordered)

  same_size : {read : List ℕ → Option Header} {q : ℕ} {d : Part} → LinkedPart read s t q d
      → (info_of s.objects t p d.object).beside ≡ size_of s (linked_at s t q)
  same_size l = ap (size_of s) l.linked

  same_count : p.layout.count ≡ (shape s t).count
  unfolding layout_of
  same_count = ap (λ (x : Layout). x.count) o.layout

  -- the marks from 2 on are enough
  info_described : (c : ℕ) → (shape s t).count < 16777216 → Described s (info_of s.objects t p c)
  unfolding layout_of
  info_described c few =
      described o.reads (ap (λ (x : Layout). x.header) o.layout) (ap (λ (x : Layout). x.item) o.layout) same_count (omega (arith, same_count))

  pub header_small : p.layout.header ≤ 16777216
  unfolding layout_of
  header_small =
      omega (
        arith,
        ap (λ (x : Layout). x.header) o.layout,
        items_rise (shape s t) 0 (shape s t).count (omega arith),
        o.reads.exactly,
        size_bytes s fits t o.reads.used,
        (fits.object t o.reads.used).inside,
        fits.bytes_most,
      )

  -- a table of format 1 is no longer than the data
  sets_few : eqb (shape s t).format 1 ≡ true → (shape s t).count < 16777216
  sets_few e =
      let f = Shapes.format_one (bytes_of s t) e in
      let i : (shape s t).item * (shape s t).count ≡ 2 * (shape s t).count = ap (λ (n : ℕ). n * (shape s t).count) f.item_is in
      omega (arith, o.reads.exactly, size_bytes s fits t o.reads.used, (fits.object t o.reads.used).inside, fits.bytes_most)

  rows_few : Bytes s.bytes → (shape s t).count < 16777216
  rows_few octets = omega (arith, count_bits s t octets)

-- after the walk of the header's links
walked_unseen : {s : Store} {t : ℕ} {p : PairTable} {w cuts : List ℕ} (c : ℕ) → TableWalked s t p w cuts → Unseen s (info_of s.objects t p c) w cuts
walked_unseen c k = record { marks = k.begun.marks; begun = omega arith; back = k.begun.back; room = k.room }

-- ---- format 1

module _ {s : Store} {t : ℕ} {p : PairTable} {w cuts : List ℕ} (k : Looked1 s t p w cuts) where
  pub coverage_beside : HasLength s.objects p.coverage.object
  coverage_beside = let o = k.walked.opens in part_beside o o.coverage

  ready1 : Ready1 s (info_of s.objects t p p.coverage.object) w cuts
  ready1 =
      let o = k.walked.opens in
      let e = format_one o k.one in
      record {
        table = record { described = info_described o p.coverage.object (sets_few o e); format = e; slots = k.walked.slots; coverage = same_size o o.coverage };
        unseen = walked_unseen p.coverage.object k.walked;
      }

  module _ {x : TableInfo} (e : x ≡ info_of s.objects t p p.coverage.object) where
    pub sets_ready : Ready1 s x w cuts
    sets_ready = subst (λ (y : TableInfo). Ready1 s y w cuts) (sym e) ready1

    pub sets_placed : (how : Settings) {cuts' : List ℕ} {r : ℕ} → (Ready1 s x w cuts → Placed (cut_places how s x.table) cuts cuts' r)
        → Placed (cut_places how s t) cuts cuts' r
    sets_placed how {cuts'} {r} f = subst (λ (y : TableInfo). Placed (cut_places how s y.table) cuts cuts' r) e (f sets_ready)

    pub sets_tell_lem : {w' : List ℕ} → (Ready1 s x w cuts → TellsCycle s x.table w') → TellsCycle s t w'
    sets_tell_lem {w'} f = subst (λ (y : TableInfo). TellsCycle s y.table w') e (f sets_ready)

-- ---- format 2

-- zeros are the empty set
zeros_empty : (n : ℕ) → Empty (replicate n 0)
zeros_empty n i =
    ⊎_elim (λ lt. get_or-replicate {A = ℕ} n i 0 0 lt)
    (λ ge. get_or-eq_default {A = ℕ} (replicate n 0) 0 {n = i} (omega (arith, length-replicate {A = ℕ} n 0)))
    (either i n)

module _ {s : Store} {t : ℕ} {p : PairTable} {gs ks w set cuts : List ℕ} (k : Looked2 s t p gs ks w set cuts) where
  pub class2_beside : HasLength s.objects p.class2.object
  class2_beside = let o = k.walked.opens in part_beside o (o.class2 (format_two o k.two))

  ready2 : Ready2 s (info_of s.objects t p p.class2.object) gs ks w (replicate (length set) 0) cuts
  ready2 =
      let o = k.walked.opens in
      let e = format_two o k.two in
      record {
        table = record {
          described = info_described o p.class2.object (rows_few o k.octets);
          format = e;
          class2 = same_size o (o.class2 e);
          ordered = k.ordered;
        };
        unseen = walked_unseen p.class2.object k.walked;
        long = omega (arith, length-replicate {A = ℕ} (length set) 0, k.long);
        empty = zeros_empty (length set);
      }

  module _ {x : TableInfo} (e : x ≡ info_of s.objects t p p.class2.object) {set' : List ℕ} (z : set' ≡ replicate (length set) 0) where
    pub rows_ready : Ready2 s x gs ks w set' cuts
    rows_ready =
        subst (λ (y : TableInfo). Ready2 s y gs ks w set' cuts) (sym e)
        (subst (λ (y : List ℕ). Ready2 s (info_of s.objects t p p.class2.object) gs ks w y cuts) (sym z) ready2)

    pub rows_placed : (how : Settings) {cuts' : List ℕ} {r : ℕ} → (Ready2 s x gs ks w set' cuts → Placed (cut_places how s x.table) cuts cuts' r)
        → Placed (cut_places how s t) cuts cuts' r
    rows_placed how {cuts'} {r} f = subst (λ (y : TableInfo). Placed (cut_places how s y.table) cuts cuts' r) e (f rows_ready)

    pub rows_tell : {w' : List ℕ} → (Ready2 s x gs ks w set' cuts → TellsCycle s x.table w') → TellsCycle s t w'
    rows_tell {w'} f = subst (λ (y : TableInfo). TellsCycle s y.table w') e (f rows_ready)
