-- The glyphs that a linked coverage has, written into a list with just the room for them. Assumes nothing.
use Rattle.std.specs.Prelude.{Some}
use Prim.Native.Nat.{ℕ, ◌≤◌}
use mathlib.Core.Path.{◌≡◌, sym, ap, ◌∙◌}
use mathlib.Core.List.{List}
use native.Mathlib.Omega.{arith}
use lib.ListN.{length}
use Rattle.folds.specs.Lists.{put}
use Rattle.folds.proofs.Writing.{put_whole}
use Rattle.ot_layouts.specs.Coverage.{coverage_of, cover_glyphs}
use Rattle.store_rules.specs.Store.{Store, bytes_of, linked_bytes}
use Rattle.glyph_parts.specs.declared.Part.{Part}
use Rattle.glyph_parts.specs.Parts.{LinkedPart}

module _ {s : Store} {t q : ℕ} {p : Part} (l : LinkedPart coverage_of s t q p) {b : List ℕ} (e : b ≡ bytes_of s p.object)
    (gs : List ℕ) (many : length gs ≡ length (cover_glyphs (linked_bytes s t q))) where
  same_glyphs : cover_glyphs b ≡ cover_glyphs (linked_bytes s t q)
  same_glyphs = ap cover_glyphs e ∙ ap (λ (c : ℕ). cover_glyphs (bytes_of s c)) l.linked

  pub glyphs_ready : (coverage_of b ≡ Some p.header) × (length (cover_glyphs b) ≤ length gs)
  glyphs_ready = (ap coverage_of e ∙ l.header, omega (arith, ap length same_glyphs, many))

  pub glyphs_written : {gs' : List ℕ} → gs' ≡ put gs 0 (cover_glyphs b) → gs' ≡ cover_glyphs (linked_bytes s t q)
  glyphs_written f = f ∙ put_whole gs (cover_glyphs b) (ap length same_glyphs ∙ sym many) ∙ same_glyphs
