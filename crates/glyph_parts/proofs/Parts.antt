-- What the code holds of a linked part, whichever of the two kinds it is. Assumes nothing.
use Rattle.ot_layouts.specs.declared.Header.{Header}
use Rattle.std.specs.Prelude.{Option, Some, None, unwrap_or}
use Prim.Native.Nat.{ℕ}
use mathlib.Core.Path.{◌≡◌, refl, sym, ap, ◌∙◌}
use mathlib.Core.Bool.{true}
use mathlib.Core.List.{List}
use native.Mathlib.Omega.{arith}
use lib.ListN.{length}
use Rattle.store_reader.specs.Rows.{Inside}
use Rattle.store_reader.proofs.Bytes.{inside}
use Rattle.store_rules.specs.Store.{Store, sound, bytes_of, child_at}
use Rattle.store_rules.proofs.Sound.{sound_fits}
use Rattle.store_rules.proofs.Lookups.{child_used_lem}
use Rattle.glyph_parts.specs.declared.Part.{Part}
use Rattle.glyph_parts.specs.Parts.{linked_by, linked_of, LinkedPart, ReadPart}

read_some : (read : List ℕ → Option Header) (s : Store) (o : Option ℕ) (p : Part) → Some p ≡ linked_by read s o
    → (o ≡ Some p.object) × (read (bytes_of s p.object) ≡ Some p.header)
read_some read s None p e = let z : ◌≡◌ {A = ℕ} 0 1 = cc in absurd (omega arith)
read_some read s (Some c) p e = go (read (bytes_of s c)) refl e
  where
    go : (x : Option Header) → read (bytes_of s c) ≡ x → Some p ≡ linked_by read s (Some c) → (Some c ≡ Some p.object) × (read (bytes_of s p.object) ≡ Some p.header)
    go None r h = let z : ◌≡◌ {A = Option Part} (Some p) None = h ∙ rw r in let y : ◌≡◌ {A = ℕ} 0 1 = cc in absurd (omega arith)
    go (Some g) r h =
        let z : Some p ≡ Some (record { object = c; header = g }) = h ∙ rw r in
        let q : p ≡ record { object = c; header = g } = cc in
        let d : c ≡ p.object = sym (ap (λ (x : Part). x.object) q) in
        (ap Some d, ap (λ (n : ℕ). read (bytes_of s n)) (sym d) ∙ r ∙ ap Some (sym (ap (λ (x : Part). x.header) q)))

-- a part that was found
pub linked_part_lem : {read : List ℕ → Option Header} {s : Store} {t q : ℕ} {r : Option Part} {p : Part} → r ≡ linked_of read s t q → r ≡ Some p → LinkedPart read s t q p
unfolding linked_of
linked_part_lem {read} {s} {t} {q} {p = p} e y =
    let (c, h) = read_some read s (child_at s t q) p (sym y ∙ e) in
    record { child = c; linked = sym (ap (λ (o : Option ℕ). unwrap_or o 0) c); header = h }

module _ {read : List ℕ → Option Header} {s : Store} {t q : ℕ} {p : Part} (h : sound s ≡ true) (l : LinkedPart read s t q p) where
  pub part-inside : Inside (length s.bytes) s.objects p.object
  part-inside = let f = sound_fits s h in inside s f p.object (child_used_lem s t f q p.object l.child)

  pub part_read : ReadPart read s.bytes s.objects p
  unfolding bytes_of
  part_read = record { inside = part-inside; header = λ m c. l.header }
