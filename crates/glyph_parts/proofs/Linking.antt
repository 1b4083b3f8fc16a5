-- The answer to a look for a linked part, by the link and by what reading the object answers. Assumes nothing.
use Rattle.std.specs.Prelude.{Some, None, Option}
use Prim.Native.Nat.{ℕ}
use mathlib.Core.Path.{◌≡◌, sym, ap, ◌∙◌}
use mathlib.Core.Bool.{true}
use mathlib.Core.List.{List}
use lib.ListN.{length}
use Rattle.ot_layouts.specs.declared.Header.{Header}
use Rattle.store_reader.specs.Rows.{Inside}
use Rattle.store_reader.proofs.Bytes.{inside}
use Rattle.store_rules.specs.Store.{Store, sound, bytes_of, child_at}
use Rattle.store_rules.proofs.Sound.{sound_fits}
use Rattle.store_rules.proofs.Lookups.{child_used_lem}
use Rattle.glyph_parts.specs.Parts.{linked_by, linked_of}

module _ (read : List ℕ → Option Header) (s : Store) (t q : ℕ) {r : Option ℕ} (e : r ≡ child_at s t q) where
  pub no_child_lem : r ≡ None → None ≡ linked_of read s t q
  unfolding linked_of
  no_child_lem n = sym (ap (linked_by read s) (sym e ∙ n))

  module _ {c : ℕ} (y : r ≡ Some c) where
    is_child : child_at s t q ≡ Some c
    is_child = sym e ∙ y

    pub child_inside : sound s ≡ true → Inside (length s.bytes) s.objects c
    child_inside h = inside s (sound_fits s h) c (child_used_lem s t (sound_fits s h) q c is_child)

    module _ {b : List ℕ} {x : Option Header} (f : b ≡ bytes_of s c) (g : x ≡ read b) where
      reads : read (bytes_of s c) ≡ x
      reads = sym (g ∙ ap read f)

      pub child_read : {h : Header} → x ≡ Some h → Some (record { object = c; header = h }) ≡ linked_of read s t q
      unfolding linked_of
      child_read {h} i = sym (ap (linked_by read s) is_child ∙ rw (reads, i))

      pub child_unread : x ≡ None → None ≡ linked_of read s t q
      unfolding linked_of
      child_unread i = sym (ap (linked_by read s) is_child ∙ rw (reads, i))
