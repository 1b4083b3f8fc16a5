-- The links of an object at slots that stand in a row: where each leads, what holds of each, how many they are, and that they ascend. Assumes nothing.
use Rattle.std.specs.Prelude.{Option, Some, None}
use Prim.Native.Nat.{ℕ, zero, suc, ◌+◌, ◌*◌, ◌<◌, ◌≤◌}
use mathlib.Core.Path.{◌≡◌, refl, sym, ap, subst, ◌∙◌}
use mathlib.Core.Bool.{Bool, true, false, cond, ◌&&◌}
use mathlib.Core.List.{List, ◌++◌}
use mathlib.Core.Logic.{⊎_elim, inl, inr}
use native.Mathlib.Omega.{arith}
use native.Mathlib.Nat.{mul-le-mul_left, mul-add}
use lib.ListN.{length}
use lib.Dec.{eqb}
use borrow.Author.Tests.{eq-eqb, ne_eqb}
use Rattle.folds.specs.Folds.{flat, sum}
use Rattle.folds.specs.Lists.{is_some}
use Rattle.folds.proofs.Tests.{either, and_second, and_first}
use Rattle.folds.proofs.Folds.{length-flat}
use Rattle.folds.proofs.FromTheFront.{flat-cons, sum_same}
use Rattle.folds.proofs.Each.{Each, each_flat}
use Rattle.store_rules.specs.Store.{Store, Link, link_at, offset_of, lookup, child_at, position_of}
use Rattle.store_rules.specs.Appended.{link}
use Rattle.store_rules.specs.SlotLinks.{links_from, slot_link, slot_links}
use Rattle.store_rules.proofs.Sound.{Fits}
use Rattle.store_rules.proofs.Lookups.{lookup_piece, lookup_none_flat}
use Rattle.store_rules.proofs.LinksAscend.{Climb, place}
use Rattle.store_rules.proofs.SlotsCounted.{slots_counted}

-- 1 where there is a child
abbrev pub there : Option ℕ → ℕ
there o = cond (is_some o) 1 0

-- ---- one slot

link_here : (p q : ℕ) (o : Option ℕ) → lookup (slot_link p q o) p q ≡ o
unfolding slot_link lookup
link_here p q (Some c) = rw (eq-eqb p p refl, eq-eqb q q refl)
link_here p q None = refl

link_other : (p q u r : ℕ) (o : Option ℕ) → (eqb p u && eqb q r) ≡ false → lookup (slot_link p q o) u r ≡ None
unfolding slot_link lookup
link_other p q u r (Some c) e = ap (λ (b : Bool). cond b (Some c) None) e
link_other p q u r None e = refl

one_there : (p q : ℕ) (o : Option ℕ) → length (slot_link p q o) ≡ there o
unfolding slot_link
one_there p q (Some c) = refl
one_there p q None = refl

-- ---- all slots

-- two slots stand at two places
slots_apart : (a d i k : ℕ) → 0 < d → (i ≡ k → ⊥) → a + d * i ≡ a + d * k → ⊥
slots_apart a d i k h ne e =
    ⊎_elim
    (λ lt. let m = mul-le-mul_left {m = i + 1} {n = k} d (omega arith) in let x = mul-add d i 1 in omega arith)
    (λ ge. let m = mul-le-mul_left {m = k + 1} {n = i} d (omega arith) in let x = mul-add d k 1 in omega arith)
    (either i k)

module _ (p a d : ℕ) (child : ℕ → Option ℕ) where
  -- slot k, as a list of no link or one
  abbrev slot : ℕ → List Link
  slot k = slot_link p (a + d * k) (child k)

  pub slot_at : 0 < d → (n k : ℕ) → k < n → lookup (slot_links p a d child n) p (a + d * k) ≡ child k
  unfolding slot_links
  slot_at h n k l = lookup_piece slot n k p (a + d * k) l elsewhere ∙ link_here p (a + d * k) (child k)
    where
      elsewhere : (i : ℕ) → (i ≡ k → ⊥) → lookup (slot i) p (a + d * k) ≡ None
      elsewhere i ne =
          link_other p (a + d * i) p (a + d * k) (child i)
          (and_second (eqb p p) (eqb (a + d * i) (a + d * k)) (ne_eqb (a + d * i) (a + d * k) (slots_apart a d i k h ne)))

  pub slot_none : (n u q : ℕ) → (p ≡ u → ⊥) → lookup (slot_links p a d child n) u q ≡ None
  unfolding slot_links
  slot_none n u q ne =
      lookup_none_flat slot n u q
      (λ j l. link_other p (a + d * j) u q (child j) (and_first (eqb p u) (eqb (a + d * j) q) (ne_eqb p u ne)))

  pub slots_each : (P : Link → Type 0) (n : ℕ) → ((k c : ℕ) → k < n → child k ≡ Some c → P (link p (a + d * k) c)) → Each P (slot_links p a d child n)
  unfolding slot_links slot_link
  slots_each P n h = each_flat P slot n (λ j l. one j l (child j) refl)
    where
      one : (j : ℕ) → j < n → (o : Option ℕ) → child j ≡ o → Each P (slot_link p (a + d * j) o)
      one j l (Some c) e = (h j c l e, tt)
      one j l None e = tt

  pub slots_many : (n : ℕ) → length (slot_links p a d child n) ≡ sum (λ k. there (child k)) n
  unfolding slot_links
  slots_many n = length-flat slot n ∙ sum_same (λ k. length (slot k)) (λ k. there (child k)) n (λ k l. one_there p (a + d * k) (child k))

-- ---- they ascend

places_climb : (p : ℕ) (place : ℕ → ℕ) (child : ℕ → Option ℕ) (n q : ℕ) → ((k : ℕ) → place k < place (suc k)) → q ≤ place 0
    → Climb p q (suc p) (flat (λ k. slot_link p (place k) (child k)) n)
unfolding flat slot_link place
places_climb p place child zero q up h = inl (omega arith)
places_climb p place child (suc n) q up h =
    subst (Climb p q (suc p)) (sym (flat-cons (λ k. slot_link p (place k) (child k)) n))
    (one (child 0) (λ r l. places_climb p (λ k. place (suc k)) (λ k. child (suc k)) n r (λ k. up (suc k)) l))
  where
    one : (o : Option ℕ) → ((r : ℕ) → r ≤ place 1 → Climb p r (suc p) (flat (λ k. slot_link p (place (suc k)) (child (suc k))) n))
        → Climb p q (suc p) (slot_link p (place 0) o ++ flat (λ k. slot_link p (place (suc k)) (child (suc k))) n)
    one (Some c) rest = (inr (refl, h), rest (place 0 + 1) (omega (arith, up 0)))
    one None rest = rest q (omega (arith, up 0))

pub slots_climb : (p a d : ℕ) (child : ℕ → Option ℕ) (n : ℕ) → 0 < d → Climb p 0 (suc p) (slot_links p a d child n)
unfolding slot_links
slots_climb p a d child n h =
    places_climb p (λ k. a + d * k) child n 0 (λ k. let z : suc k ≡ k + 1 = omega arith in rw z (omega (arith, mul-add d k 1))) (omega arith)

-- ---- an object whose links all stand at n such slots has as many as are found there

pub slots_all : (s : Store) → Fits s → (p a d n : ℕ) → 0 < d
    → ((k : ℕ) → k < s.link_count → offset_of p (link_at s k) ≡ true → (i : ℕ) × (i < n) × (position_of s k ≡ a + d * i))
    → sum (λ k. there (child_at s p (a + d * k))) n ≡ links_from s p
unfolding links_from
slots_all s f p a d n h at = slots_counted p (λ k. a + d * k) n own s f at
  where
    own : (i k : ℕ) → a + d * i ≡ a + d * k → i ≡ k
    own i k e =
        ⊎_elim
        (λ lt. absurd (slots_apart a d i k h (λ z. omega arith) e))
        (λ ge. ⊎_elim (λ lt. absurd (slots_apart a d i k h (λ z. omega arith) e)) (λ le. omega arith) (either k i))
        (either i k)
