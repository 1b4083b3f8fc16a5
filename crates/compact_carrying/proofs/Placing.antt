-- An object moved down: its bytes and its row, whether it had to move or not. Assumes nothing.
use Prim.Native.Nat.{ℕ, ◌+◌, ◌*◌}
use mathlib.Core.Path.{◌≡◌, refl, sym, ap, ◌∙◌}
use mathlib.Core.Bool.{Bool, cond}
use mathlib.Core.List.{List, [], ◌∷◌}
use native.Mathlib.Omega.{arith}
use lib.ListN.{get_or}
use borrow.Author.Tests.{eq-eqb, ne_eqb}
use Rattle.folds.specs.Lists.{put, part}
use Rattle.folds.proofs.WrittenPart.{put-own}
use Rattle.compact_carrying.specs.Packing.{Placing, PlacedAt, size_in}

module _ (d o : List ℕ) (i j a : ℕ) (p : Placing d o i j a) {o' : List ℕ} (row : o' ≡ put o (2 * j) (a ∷ (a + size_in o i) ∷ [])) where
  pub placed_still : get_or o (2 * i) 0 ≡ a → PlacedAt d o i j a d o' (record { end = get_or o (2 * i + 1) 0; moved = 0 })
  placed_still e =
      record {
        bytes =
            sym (put-own d a (get_or o (2 * i + 1) 0) (omega (arith, p.ordered)) p.inside)
            ∙ ap (λ (h : ℕ). put d a (part d h (get_or o (2 * i + 1) 0))) (sym e);
        row = row;
        end = omega (arith, p.ordered);
        moved = ap (λ (b : Bool). cond b 0 (size_in o i)) (sym (eq-eqb a (get_or o (2 * i) 0) (sym e)));
      }

  pub placed_moved : {d' : List ℕ} → (get_or o (2 * i) 0 ≡ a → ⊥) → d' ≡ put d a (part d (get_or o (2 * i) 0) (get_or o (2 * i) 0 + size_in o i))
      → PlacedAt d o i j a d' o' (record { end = a + size_in o i; moved = size_in o i })
  placed_moved ne e =
      let z : get_or o (2 * i) 0 + size_in o i ≡ get_or o (2 * i + 1) 0 = omega (arith, p.ordered) in
      record {
        bytes = e ∙ ap (λ (t : ℕ). put d a (part d (get_or o (2 * i) 0) t)) z;
        row = row;
        end = refl;
        moved = ap (λ (b : Bool). cond b 0 (size_in o i)) (sym (ne_eqb a (get_or o (2 * i) 0) (λ q. ne (sym q))));
      }
