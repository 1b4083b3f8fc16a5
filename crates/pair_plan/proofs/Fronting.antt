-- The front of the lent lists, lent on for the covered glyphs and their classes. Assumes nothing.
use Prim.Native.Nat.{ℕ}
use mathlib.Core.Path.{◌≡◌, ap, ◌∙◌}
use mathlib.Core.List.{List}
use native.Mathlib.Omega.{arith}
use lib.ListN.{length}
use Rattle.folds.specs.Lists.{put, part, Bytes}
use Rattle.folds.proofs.Fronts.{front_long, back, front_back, front_again}
use Rattle.store_rules.specs.Store.{Store}
use Rattle.call_rules.specs.declared.Settings.{Settings}
use Rattle.pair_rules.specs.Table.{entries_of, cut_places}
use Rattle.pair_checks.specs.declared.PairTable.{PairTable}
use Rattle.cut_filling.specs.Filling.{Placed}
use Rattle.glyph_class_parts.specs.ClassParts.{OrderedByClass}
use Rattle.pair_plan.specs.Cutting.{Gathering, Looked2, Looked, CutsByClass}

module _ {s : Store} {t : ℕ} {p : PairTable} {w set gs ks cuts : List ℕ} (k : Looked s t p w set gs ks cuts) (two : p.layout.format ≡ 1 → ⊥) where
  pub fronts_lent : Gathering s t p (part gs 0 p.glyphs) (part ks 0 p.glyphs)
  fronts_lent = record { opens = k.walked.opens; two = two; glyphs = front_long gs p.glyphs k.glyphs; classes = front_long ks p.glyphs k.classes }

  module _ {gs' ks' : List ℕ} (a : length gs' ≡ length (part gs 0 p.glyphs)) (b : length ks' ≡ length (part ks 0 p.glyphs))
      (gathers : Gathering s t p (part gs 0 p.glyphs) (part ks 0 p.glyphs) → OrderedByClass (entries_of s t) gs' ks') (octets : Bytes s.bytes) where
    abbrev gs'' : List ℕ
    gs'' = back gs p.glyphs gs'

    abbrev ks'' : List ℕ
    ks'' = back ks p.glyphs ks'

    -- the set may have been used on the way
    pub fronts_looked : {set' : List ℕ} → length set' ≡ length set → Looked2 s t p (part gs'' 0 p.glyphs) (part ks'' 0 p.glyphs) w set' cuts
    fronts_looked e =
        record {
          walked = k.walked;
          two = two;
          octets = octets;
          ordered = rw (front_again gs p.glyphs k.glyphs gs' a, front_again ks p.glyphs k.classes ks' b) (gathers fronts_lent);
          long = omega (arith, k.long);
        }

    pub fronts_cut : {how : Settings} {set' : List ℕ} → length set' ≡ length set → {cuts' : List ℕ} {r : ℕ}
        → (Looked2 s t p (part gs'' 0 p.glyphs) (part ks'' 0 p.glyphs) w set' cuts → Placed (cut_places how s t) cuts cuts' r)
        → CutsByClass how s t gs ks cuts gs'' ks'' cuts' r
    fronts_cut e places =
        let d = (gathers fronts_lent).by_class in
        record {
          placed = places (fronts_looked e);
          fronted = record {
            glyphs = front_back gs p.glyphs k.glyphs gs' a ∙ ap (put gs 0) d.glyphs;
            classes = front_back ks p.glyphs k.classes ks' b ∙ ap (put ks 0) d.classes;
          };
        }
