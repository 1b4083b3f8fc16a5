-- The bytes of a new lookup, written one part behind another. Assumes nothing.
use Prim.Native.Nat.{ℕ, ◌+◌, ◌-◌, ◌*◌, ◌≤◌}
use mathlib.Core.Path.{◌≡◌, sym, ap, ap₂, ◌∙◌}
use mathlib.Core.List.{List, ◌++◌}
use native.Mathlib.Omega.{arith}
use lib.ListN.{length, drop, replicate, length-append, length-drop, length-replicate}
use lib.Seq.{take_all}
use Rattle.folds.specs.Lists.{put, part}
use Rattle.folds.proofs.Parts.{length_part}
use Rattle.folds.proofs.Behind.{Behind, behind_one, behind_more, behind_part, part-part}
use Rattle.ot_layouts.specs.Numbers.{be16}
use Rattle.ot_layouts.specs.Lookup.{subtable_count, lookup_header}
use Rattle.ot_layouts.proofs.Numbers.{length-be16}
use Rattle.store_object_rows.specs.Objects.{Laid}
use Rattle.lookup_rules.specs.Written.{new_lookup}
use Rattle.lookup_rules.proofs.NewLookup.{new_length_lem}
use Rattle.lookup_new_objects.specs.Written.{LookupCopyReady}

-- what a list has from k on, as a part
drop-part : (b : List ℕ) (k : ℕ) → drop k b ≡ part b k (length b)
drop-part b k = sym (take_all (length b - k) (drop k b) (omega (arith, length-drop k b)))

module _ {d : List ℕ} {head tail n at : ℕ} (ready : LookupCopyReady d head tail n at) where
  -- the old lookup
  abbrev old : List ℕ
  old = part d head tail

  -- how many slots it has
  abbrev slots : ℕ
  slots = subtable_count (part d head tail)

  below : tail ≤ length d
  below = omega (arith, ready.apart, ready.room)

  old_long : length old ≡ tail - head
  old_long = length_part d head tail (omega (arith, ready.long)) below

  pub header_there : lookup_header ≤ length old
  header_there = omega (arith, old_long, ready.long)

  new_long : length (new_lookup old n) + 2 * slots ≡ length old + 2 * n
  new_long = new_length_lem old n (omega (arith, old_long, ready.long))

  module _ (c : ℕ) (q : c ≡ subtable_count (part d head tail)) where
    -- where they end
    abbrev behind : ℕ
    behind = head + 6 + 2 * c

    pub copy_room : at + 6 + 2 * n + (tail - behind) ≤ length d
    copy_room = omega (arith, ready.room, new_long, old_long, ready.long)

    pub copied : {d₁ d₂ d₃ d₄ : List ℕ} → d₁ ≡ put d at (part d head (head + 4)) → d₂ ≡ put d₁ (at + 4) (be16 n) → d₃ ≡ put d₂ (at + 6) (replicate (2 * n) 0)
        → d₄ ≡ put d₃ (at + 6 + 2 * n) (part d₃ behind (behind + (tail - behind))) → Laid d at (new_lookup old n) d₄ (at + 6 + 2 * n + (tail - behind))
    unfolding new_lookup
    copied {d₁} {d₂} {d₃} {d₄} e₁ e₂ e₃ e₄ =
        let zeros : List ℕ = replicate (2 * n) 0 in
        let front : List ℕ = part d head (head + 4) in
        let rest : List ℕ = part d behind tail in
        let nf : length front ≡ 4 = length_part d head (head + 4) (omega arith) (omega (arith, ready.long, below)) ∙ omega arith in
        let nz : length zeros ≡ 2 * n = length-replicate (2 * n) 0 in
        let nb = length-be16 n in
        let end : behind + (tail - behind) ≡ tail = omega (arith, ready.long) in
        let two = length-append front (be16 n) in
        let three = length-append (front ++ be16 n) zeros in
        let w₁ : Behind d at front d₁ = behind_one d at front e₁ (omega (arith, copy_room)) in
        let w₂ : Behind d at (front ++ be16 n) d₂ = behind_more w₁ (at + 4) (be16 n) e₂ (omega arith) (omega (arith, copy_room)) in
        let w₃ : Behind d at (front ++ be16 n ++ zeros) d₃ = behind_more w₂ (at + 6) zeros e₃ (omega arith) (omega (arith, copy_room)) in
        let same : part d₃ behind (behind + (tail - behind)) ≡ rest = ap (part d₃ behind) end ∙ behind_part w₃ behind tail (omega (arith, ready.long)) ready.apart in
        let nr : length rest ≡ tail - behind = length_part d behind tail (omega (arith, ready.long)) below in
        let w₄ : Behind d at (front ++ be16 n ++ zeros ++ rest) d₄
        = behind_more w₃ (at + 6 + 2 * n) rest (e₄ ∙ ap (put d₃ (at + 6 + 2 * n)) same) (omega arith) (omega (arith, copy_room)) in
        let front_is : front ≡ part old 0 4
        = sym (part-part d head tail 0 4 (omega arith) (omega (arith, ready.long)) below ∙ ap (λ (k : ℕ). part d k (head + 4)) (omega arith)) in
        let lo-is : head + (lookup_header + 2 * slots) ≡ behind = omega arith in
        let hi-is : head + length old ≡ tail = omega (arith, old_long, ready.long) in
        let rest-is : rest ≡ drop (lookup_header + 2 * slots) old
        = sym (drop-part old (lookup_header + 2 * slots)
        ∙ part-part d head tail (lookup_header + 2 * slots) (length old) (omega (arith, old_long, ready.long)) (omega (arith, old_long, ready.long)) below
        ∙ ap₂ (λ (lo hi : ℕ). part d lo hi) lo-is hi-is) in
        let all : front ++ be16 n ++ zeros ++ rest ≡ new_lookup old n = ap₂ (λ (x y : List ℕ). x ++ be16 n ++ zeros ++ y) front_is rest-is in
        record {
          bytes = w₄.written ∙ ap (put d at) all;
          ends = omega (arith, new_long, old_long, ready.long);
        }
